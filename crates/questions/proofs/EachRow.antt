-- Never refused, and what follows does not matter: of all questions about all rows of a checked pair. Assumes nothing.
use Prim.Native.Nat.{ℕ, zero, suc, ◌+◌, ◌*◌, ◌<◌}
use native.Mathlib.Omega.{arith}
use mathlib.Core.Path.{◌≡◌, refl, sym, subst, ◌∙◌}
use mathlib.Core.Bool.{true, false}
use mathlib.Core.Option.{some}
use mathlib.Core.List.{List, [], ◌∷◌, ◌++◌}
use lib.ListN.{length, take, get_or, get_elem?}
use Rattle.meaning.specs.declared.RowFields.{RowFields}
use Rattle.meaning.specs.Number.{Bytes}
use Rattle.meaning.specs.Code.{axes}
use Rattle.meaning.specs.Grammar.{Header, Ordinates, Forest, Node, nodes, siblings, holds_coordinates, shown, ordinate_bytes}
use Rattle.meaning.specs.Answer.{answered}
use Rattle.meaning.specs.Reading.{reading}
use Rattle.meaning.specs.Table.{rows_in, fetch}
use Rattle.meaning.specs.Questions.{check, position, ordinate, coordinate, coords_slice, coords_form, child, srid}
use Rattle.meaning.proofs.Listed.{Lists}
use Rattle.questions.specs.Tree.{nth, nth_row, srid_of}
use Rattle.questions.proofs.Checked.{listed, listed_as}
use Rattle.questions.proofs.Begun.{Begun, begun, begun_too, listed_row}
use Rattle.questions.proofs.NeverRefused.{coordinate_of, ordinate_answered, coordinate_answered, part_answered, form_answered, ordinate_listed, coordinate_listed, part_listed, form_listed}
use Rattle.questions.proofs.Children.{length_nodes, child_answered, child_listed, child_there}
use Rattle.questions.proofs.Outermost.{srid_answered}

-- ---- Never refused

-- "Ordinates, coordinates and parts fit kinds 0 to 2": the answers are this very node's. An index is below the count, and the dimension has the axis.
pub record CoordinatesAnswered (b t : List ℕ) (r : ℕ) (h : Header) (cs : List Ordinates) : Type 0 where
  pub ordinates : (i a j : ℕ) → i < length (shown h cs) → position a (axes h.dimension) ≡ some j → ordinate b t r i a ≡ answered (get_or (get_or (shown h cs) i []) j 0)
  pub coordinates : (i : ℕ) → i < length (shown h cs) → coordinate b t r i ≡ answered (coordinate_of h.dimension (get_or (shown h cs) i []))
  pub part : coords_slice b t r ≡ ordinate_bytes h.order (shown h cs)
  pub form : coords_form b t r ≡ answered (h.order, length (shown h cs))

-- "Child fits 3 to 7": the row answered is the one behind the rows of all elder children, and it lists this very child.
pub record ChildAnswered (t : List ℕ) (f : Forest) (r : ℕ) (kids : Forest) (i : ℕ) : Type 0 where
  pub node : Node
  pub this : nth kids i ≡ some node
  pub there : get_elem? (nodes f) (r + 1 + nth_row kids i) ≡ some node
  pub answer : child t r i ≡ answered (r + 1 + nth_row kids i)

-- A row that lists a node: the node is the r-th in reading order, counted from 0; the table's row r is the row of that node; and what
-- questions about row r answer is that node's.
pub record RowAnswered (b t : List ℕ) (f : Forest) (r : ℕ) : Type 0 where
  pub header : Header
  pub coordinates : List Ordinates
  pub kids : Forest
  pub there : get_elem? (nodes f) r ≡ some (header, coordinates, kids)
  pub lists : Lists b (header, coordinates, kids) (fetch t r)
  pub of_coordinates : holds_coordinates header.kind ≡ true → CoordinatesAnswered b t r header coordinates
  pub of_children : holds_coordinates header.kind ≡ false → (i : ℕ) → i < siblings kids → ChildAnswered t f r kids i

-- "Rows below n are the listed rows."
pub record Answered (b t : List ℕ) (f : Forest) : Type 0 where
  pub rows : (r : ℕ) → r < rows_in f → RowAnswered b t f r
  pub outermost : srid b t ≡ answered (srid_of f)

get_there : {A : Type 0} (xs : List A) (r : ℕ) → r < length xs → (x : A) × (get_elem? xs r ≡ some x)
get_there [] r lt = absurd (omega arith)
get_there (x ∷ xs) zero lt = (x, refl)
get_there (x ∷ xs) (suc r) lt = get_there xs r (omega arith)

node_there : (f : Forest) (r : ℕ) → r < rows_in f → (x : Node) × (get_elem? (nodes f) r ≡ some x)
node_there f r lt = get_there (nodes f) r (omega (arith, length_nodes f))

module _ (b t : List ℕ) (f : Forest) (g : Begun b t f) where
  row_answered : (r : ℕ) → r < rows_in f → RowAnswered b t f r
  row_answered r lt =
      let (x, e) = node_there f r lt in
      let (y, fe, here, s) = listed_row b t f g r x e in
      record {
        header = x.0;
        coordinates = x.1;
        kids = x.2;
        there = e;
        lists = subst (λ (w : RowFields). Lists b x w) (sym fe) s;
        of_coordinates = λ k. record {
          ordinates = ordinate_answered b t f g r x.0 x.1 x.2 e k;
          coordinates = coordinate_answered b t f g r x.0 x.1 x.2 e k;
          part = part_answered b t f g r x.0 x.1 x.2 e k;
          form = form_answered b t f g r x.0 x.1 x.2 e k;
        };
        of_children = λ k i lt.
            let (y, (this, there)) = child_listed b t f g r x.0 x.1 x.2 e i lt in
            record { node = y; this = this; there = there; answer = child_answered b t f g r x.0 x.1 x.2 e k i lt };
      }

-- Never refused: if the check passes, then on every listed row each fitting question is answered, and the answer is the tree's own.
pub never_refused : (b : List ℕ) → Bytes b → (t : List ℕ) → check b t ≡ true → (f : Forest) × ((n : ℕ) × ((reading b ≡ answered (f, n)) × Answered b t f))
never_refused b all t h =
    let (f, n, l) = listed b t h in
    let g = begun b all t f n l in
    (f, (n, (l.read, record { rows = row_answered b t f g; outermost = srid_answered b t f g })))

-- ---- What follows does not matter

-- the same answers to all questions about listed rows, refusals too
pub record SameAnswers (b t b' t' : List ℕ) (f : Forest) : Type 0 where
  pub ordinates : (r i a : ℕ) → r < rows_in f → ordinate b' t' r i a ≡ ordinate b t r i a
  pub coordinates : (r i : ℕ) → r < rows_in f → coordinate b' t' r i ≡ coordinate b t r i
  pub parts : (r : ℕ) → r < rows_in f → coords_slice b' t' r ≡ coords_slice b t r
  pub forms : (r : ℕ) → r < rows_in f → coords_form b' t' r ≡ coords_form b t r
  pub children : (r i : ℕ) → r < rows_in f → child t' r i ≡ child t r i
  pub outermost : srid b' t' ≡ srid b t

-- one geometry, one answer
same_answers : (b t b' t' : List ℕ) (f : Forest) → Begun b t f → Begun b' t' f → SameAnswers b t b' t' f
same_answers b t b' t' f g g' = record {
  ordinates = λ r i a lt.
      let (x, e) = node_there f r lt in
      ordinate_listed b' t' f g' r x.0 x.1 x.2 e i a ∙ sym (ordinate_listed b t f g r x.0 x.1 x.2 e i a);
  coordinates = λ r i lt.
      let (x, e) = node_there f r lt in
      coordinate_listed b' t' f g' r x.0 x.1 x.2 e i ∙ sym (coordinate_listed b t f g r x.0 x.1 x.2 e i);
  parts = λ r lt.
      let (x, e) = node_there f r lt in
      part_listed b' t' f g' r x.0 x.1 x.2 e ∙ sym (part_listed b t f g r x.0 x.1 x.2 e);
  forms = λ r lt.
      let (x, e) = node_there f r lt in
      form_listed b' t' f g' r x.0 x.1 x.2 e ∙ sym (form_listed b t f g r x.0 x.1 x.2 e);
  children = λ r i lt.
      let (x, e) = node_there f r lt in
      child_there b' t' f g' r x.0 x.1 x.2 e i ∙ sym (child_there b t f g r x.0 x.1 x.2 e i);
  outermost = srid_answered b' t' f g' ∙ sym (srid_answered b t f g);
}

-- What follows does not matter: bytes past the prefix, however many, and words past the rows never alter an answer about a listed row of a
-- checked table, nor the SRID.
pub what_follows_questions : (b : List ℕ) → Bytes b → (t : List ℕ) → check b t ≡ true → (f : Forest) (n : ℕ) → reading b ≡ answered (f, n)
    → (s t' : List ℕ) → take (2 * rows_in f) t' ≡ take (2 * rows_in f) t → SameAnswers b t (take n b ++ s) t' f
what_follows_questions b all t h f n e s t' same =
    let l = listed_as b t h f n e in
    same_answers b t (take n b ++ s) t' f (begun b all t f n l) (begun_too b all t f n l s t' same)
