-- Begun: the buffer begins with a geometry's bytes and the table with its rows, whatever follows in either. Assumes nothing.
use Prim.Native.Nat.{ℕ, zero, suc, ◌*◌, ◌≤◌, ◌<◌}
use native.Mathlib.Omega.{arith}
use mathlib.Core.Path.{◌≡◌, sym, ap, ◌∙◌}
use mathlib.Core.Option.{some}
use mathlib.Core.List.{List, [], ◌∷◌, ◌++◌}
use lib.ListN.{length, take, drop, get_or, get_elem?}
use Rattle.meaning.specs.declared.RowFields.{RowFields}
use Rattle.meaning.specs.Number.{Bytes}
use Rattle.meaning.specs.Grammar.{Forest, Node, nodes, bytes, outermost, Geometry}
use Rattle.meaning.specs.Table.{rows_in, rows, rows_of, fetch}
use Rattle.meaning.proofs.Accepted.{accepted_exactly, accepted_short, begins_split}
use Rattle.meaning.proofs.Siblings.{length_rows}
use Rattle.meaning.proofs.Listed.{Lists, pairs_nth, nodes_listed}
use Rattle.questions.proofs.Checked.{Listed, later_words}
use Rattle.questions.proofs.Fetched.{fetch_listed}

pub record Begun (b t : List ℕ) (f : Forest) : Type 0 where
  pub geometry : Geometry f
  pub behind : List ℕ
  pub stands : b ≡ bytes f ++ behind
  pub room : rows_in f ≤ rows_of t
  pub fetched : (r : ℕ) → r < rows_in f → (d : RowFields) → fetch t r ≡ get_or (rows 0 0 f) r d

module _ (b : List ℕ) (all : Bytes b) (t : List ℕ) (f : Forest) (n : ℕ) (l : Listed b t f n) where
  -- what passed the check is such a pair,
  pub begun : Begun b t f
  begun =
      let (g, p) = (accepted_exactly b all (accepted_short b (f, n) l.read) f n).0 l.read in
      record { geometry = g; behind = drop n b; stands = begins_split b f n p; room = l.room; fetched = fetch_listed b all t f n l }

  -- and so is any other that begins as it does
  pub begun_too : (s t' : List ℕ) → take (2 * rows_in f) t' ≡ take (2 * rows_in f) t → Begun (take n b ++ s) t' f
  begun_too s t' e =
      let (g, p) = (accepted_exactly b all (accepted_short b (f, n) l.read) f n).0 l.read in
      let l' = later_words b t t' f n l e in
      record { geometry = g; behind = s; stands = ap (λ (bs : List ℕ). bs ++ s) (sym p.same); room = l'.room; fetched = fetch_listed b all t' f n l' }

nth_get : {A : Type 0} (xs : List A) (r : ℕ) (x : A) → get_elem? xs r ≡ some x → (r < length xs) × (get_or xs r x ≡ x)
nth_get [] r x e = let z : ◌≡◌ {A = ℕ} 0 1 = cc in absurd (omega arith)
nth_get (y ∷ ys) zero x e = let i : y ≡ x = cc in (omega arith, i)
nth_get (y ∷ ys) (suc r) x e = let (lt, i) = nth_get ys r x e in (omega arith, i)

module _ (b t : List ℕ) (f : Forest) (g : Begun b t f) where
  -- the row that lists a node
  pub listed_row : (r : ℕ) (x : Node) → get_elem? (nodes f) r ≡ some x → (y : RowFields) × (fetch t r ≡ y) × (r < rows_of t) × Lists b x y
  listed_row r x e =
      let (y, i, s) = pairs_nth (Lists b) (nodes f) (rows 0 0 f) r x (nodes_listed b f outermost 0 0 g.behind g.geometry.well_formed g.stands) e in
      let (lt, j) = nth_get (rows 0 0 f) r y i in
      let ln = length_rows f 0 0 in
      (y, g.fetched r (omega arith) y ∙ j, omega (arith, g.room), s)
