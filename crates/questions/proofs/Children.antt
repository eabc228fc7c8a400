-- Children: the row that Child answers lists that very child. Assumes nothing.
use Prim.Native.Nat.{ℕ, zero, suc, ◌+◌, ◌≤◌, ◌<◌, min}
use native.Mathlib.Nat.{zero-add, suc-add}
use native.Mathlib.Omega.{arith}
use mathlib.Core.Path.{◌≡◌, refl, sym, ap, ap₂, subst, ◌∙◌}
use mathlib.Core.Bool.{Bool, true, false, ◌&&◌, not}
use mathlib.Core.Option.{Option, some}
use mathlib.Core.Logic.{◌⊎◌, inl, inr}
use mathlib.Core.List.{List, [], ◌∷◌, ◌++◌, append_assoc}
use lib.ListN.{length, get_elem?, length-append}
use lib.Dec.{leb, ltb, eqb}
use borrow.Author.Tests.{le-leb, lt-leb, lt-ltb, ltb-true, leb-true, leb-false, ne_eqb}
use Rattle.meaning.specs.declared.RowFields.{RowFields}
use Rattle.meaning.specs.Code.{kind_number}
use Rattle.meaning.specs.Grammar.{Header, Ordinates, Forest, empty, first, Node, nodes, siblings, holds_coordinates, count}
use Rattle.meaning.specs.Answer.{answered}
use Rattle.meaning.specs.Table.{rows_in, rows_of, fetch}
use Rattle.meaning.specs.Questions.{guard, ◌>>◌, steps, child}
use Rattle.questions.specs.Tree.{nth, nth_row, child_in}
use Rattle.questions.proofs.Begun.{Begun, listed_row}

-- ---- an element of two lists

get_left : {A : Type 0} (xs ys : List A) (k : ℕ) → k < length xs → get_elem? (xs ++ ys) k ≡ get_elem? xs k
get_left [] ys k lt = absurd (omega arith)
get_left (x ∷ xs) ys zero lt = refl
get_left (x ∷ xs) ys (suc k) lt = get_left xs ys k (omega arith)

get_right : {A : Type 0} (xs ys : List A) (k : ℕ) → get_elem? (xs ++ ys) (length xs + k) ≡ get_elem? ys k
get_right [] ys k = ap (get_elem? ys) (zero-add k)
get_right (x ∷ xs) ys k = ap (get_elem? (x ∷ (xs ++ ys))) (suc-add (length xs) k) ∙ get_right xs ys k

get_either : {A : Type 0} (xs ys : List A) (r : ℕ) (x : A) → get_elem? (xs ++ ys) r ≡ some x → (get_elem? xs r ≡ some x) ⊎ ((k : ℕ) × ((r ≡ length xs + k) × (get_elem? ys k ≡ some x)))
get_either [] ys r x e = inr (r, (sym (zero-add r), e))
get_either (y ∷ xs) ys zero x e = inl e
get_either (y ∷ xs) ys (suc r) x e = go (get_either xs ys r x e)
  where
    go : (get_elem? xs r ≡ some x) ⊎ ((k : ℕ) × ((r ≡ length xs + k) × (get_elem? ys k ≡ some x)))
        → (get_elem? xs r ≡ some x) ⊎ ((k : ℕ) × ((suc r ≡ suc (length xs) + k) × (get_elem? ys k ≡ some x)))
    go (inl i) = inl i
    go (inr k) = inr (k.0, (ap suc k.1.0 ∙ sym (suc-add (length xs) k.0), k.1.1))

-- ---- where siblings stand among nodes

-- the nodes of these siblings stand from here on
pub record Stand (ns : List Node) (q : ℕ) (u : Forest) : Type 0 where
  pub before : List Node
  pub behind : List Node
  pub at : length before ≡ q
  pub whole : ns ≡ before ++ (nodes u ++ behind)

pub length_nodes : (f : Forest) → length (nodes f) ≡ rows_in f
unfolding nodes rows_in
length_nodes empty = refl
length_nodes (first h cs kids rest) = ap suc (length-append (nodes kids) (nodes rest) ∙ ap₂ ◌+◌ (length_nodes kids) (length_nodes rest))

-- a node's children stand behind it
pub children_stand : (f : Forest) (r : ℕ) (h : Header) (cs : List Ordinates) (kids : Forest) → get_elem? (nodes f) r ≡ some (h, cs, kids) → Stand (nodes f) (suc r) kids
unfolding nodes
children_stand empty r h cs kids e = let z : ◌≡◌ {A = ℕ} 0 1 = cc in absurd (omega arith)
children_stand (first h₀ cs₀ kids₀ rest) zero h cs kids e =
    let i : ◌≡◌ {A = Node} (h₀, cs₀, kids₀) (h, cs, kids) = cc in
    let j : kids₀ ≡ kids = ap (λ (n : Node). n.2) i in
    record {
      before = (h₀, cs₀, kids₀) ∷ [];
      behind = nodes rest;
      at = refl;
      whole = ap (λ (u : Forest). (h₀, cs₀, kids₀) ∷ (nodes u ++ nodes rest)) j;
    }
children_stand (first h₀ cs₀ kids₀ rest) (suc r) h cs kids e =
    go (get_either (nodes kids₀) (nodes rest) r (h, cs, kids) e) (children_stand kids₀ r h cs kids) (λ k. children_stand rest k h cs kids)
  where
    x : Node
    x = (h₀, cs₀, kids₀)

    go : (get_elem? (nodes kids₀) r ≡ some (h, cs, kids)) ⊎ ((k : ℕ) × ((r ≡ length (nodes kids₀) + k) × (get_elem? (nodes rest) k ≡ some (h, cs, kids))))
        → (get_elem? (nodes kids₀) r ≡ some (h, cs, kids) → Stand (nodes kids₀) (suc r) kids)
        → ((k : ℕ) → get_elem? (nodes rest) k ≡ some (h, cs, kids) → Stand (nodes rest) (suc k) kids)
        → Stand (x ∷ (nodes kids₀ ++ nodes rest)) (suc (suc r)) kids
    go (inl i) below beside =
        let s = below i in
        record {
          before = x ∷ s.before;
          behind = s.behind ++ nodes rest;
          at = ap suc s.at;
          whole = ap (λ (ns : List Node). x ∷ (ns ++ nodes rest)) s.whole ∙ simp append_assoc;
        }
    go (inr k) below beside =
        let s = beside k.0 k.1.1 in
        let l = length-append (nodes kids₀) s.before in
        let m = s.at in
        let o = k.1.0 in
        record {
          before = x ∷ (nodes kids₀ ++ s.before);
          behind = s.behind;
          at = omega arith;
          whole = ap (λ (ns : List Node). x ∷ (nodes kids₀ ++ ns)) s.whole ∙ simp append_assoc;
        }

-- the first of them stands here,
first_stands : (ns : List Node) (q : ℕ) (h : Header) (cs : List Ordinates) (kids rest : Forest) → Stand ns q (first h cs kids rest) → get_elem? ns q ≡ some (h, cs, kids)
unfolding nodes
first_stands ns q h cs kids rest s =
    let x : Node = (h, cs, kids) in
    let z : q ≡ length s.before + 0 = omega (arith, s.at) in
    ap₂ {C = Option Node} get_elem? s.whole z ∙ get_right s.before (x ∷ ((nodes kids ++ nodes rest) ++ s.behind)) 0

-- and the others behind all its rows
rest_stand : (ns : List Node) (q : ℕ) (h : Header) (cs : List Ordinates) (kids rest : Forest) → Stand ns q (first h cs kids rest) → Stand ns (q + suc (rows_in kids)) rest
unfolding nodes
rest_stand ns q h cs kids rest s =
    let x : Node = (h, cs, kids) in
    let l = length-append s.before (x ∷ nodes kids) in
    let m = length_nodes kids in
    record {
      before = s.before ++ (x ∷ nodes kids);
      behind = s.behind;
      at = omega (arith, s.at);
      whole = s.whole ∙ simp append_assoc;
    }

-- so each of them stands behind its elders' rows,
pub nth_stands : (ns : List Node) (u : Forest) (q i : ℕ) → Stand ns q u → i < siblings u → (y : Node) × ((nth u i ≡ some y) × (get_elem? ns (q + nth_row u i) ≡ some y))
unfolding nth nth_row siblings
nth_stands ns empty q i s lt = absurd (omega arith)
nth_stands ns (first h cs kids rest) q zero s lt =
    let z : q + 0 ≡ q = omega arith in
    ((h, cs, kids), (refl, ap (get_elem? ns) z ∙ first_stands ns q h cs kids rest s))
nth_stands ns (first h cs kids rest) q (suc i) s lt =
    let (y, (a, b)) = nth_stands ns rest (q + suc (rows_in kids)) i (rest_stand ns q h cs kids rest s) (omega arith) in
    let z : q + (suc (rows_in kids) + nth_row rest i) ≡ q + suc (rows_in kids) + nth_row rest i = omega arith in
    (y, (a, ap (get_elem? ns) z ∙ b))

-- and all of them end within the nodes
stand_within : (f : Forest) (q : ℕ) (u : Forest) → Stand (nodes f) q u → q + rows_in u ≤ rows_in f
stand_within f q u s =
    let a = length_nodes f in
    let b = length_nodes u in
    let c = ap length s.whole in
    let d = length-append s.before (nodes u ++ s.behind) in
    let e = length-append (nodes u) s.behind in
    omega (arith, s.at)

-- ---- steps

-- the row last reached
last_step : (t : List ℕ) (r q : ℕ) → q < rows_of t → q < r + (fetch t r).subtree → steps t r zero q ≡ answered q
unfolding steps
last_step t r q h k = ap (λ (z : Bool). ◌>>◌ (guard z 9 r) (answered q)) (lt-ltb q (min (rows_of t) (r + (fetch t r).subtree)) (omega arith))

-- one step
one_step : (t : List ℕ) (r n q m : ℕ) → q < rows_of t → q < r + (fetch t r).subtree → (fetch t q).subtree ≡ suc m → steps t r (suc n) q ≡ steps t r n (q + suc m)
unfolding steps
one_step t r n q m h k e =
    ap₂ (λ (z : Bool) (s : ℕ). ◌>>◌ (guard z 9 r) (◌>>◌ (guard (not (eqb s 0)) 9 r) (steps t r n (q + s))))
    (lt-ltb q (min (rows_of t) (r + (fetch t r).subtree)) (omega arith)) e
    ∙ ap (λ (z : Bool). ◌>>◌ (guard (not z) 9 r) (steps t r n (q + suc m))) (ne_eqb (suc m) 0 (λ e. omega arith))

module _ (b t : List ℕ) (f : Forest) (g : Begun b t f) where
  -- a listed row's own rows
  subtree_there : (r : ℕ) (h : Header) (cs : List Ordinates) (kids : Forest) → get_elem? (nodes f) r ≡ some (h, cs, kids) → (fetch t r).subtree ≡ suc (rows_in kids)
  subtree_there r h cs kids e =
      let (y, fe, here, s) = listed_row b t f g r (h, cs, kids) e in
      ap (λ (w : RowFields). w.subtree) (fe ∙ s.row)

  stepped : (r : ℕ) (u : Forest) (q i : ℕ) → Stand (nodes f) q u → i < siblings u → q + rows_in u ≤ r + (fetch t r).subtree → steps t r i q ≡ answered (q + nth_row u i)
  unfolding nth_row siblings rows_in
  stepped r empty q i s lt le = absurd (omega arith)
  stepped r (first h cs kids rest) q zero s lt le =
      let w = stand_within f q (first h cs kids rest) s in
      let z : q ≡ q + 0 = omega arith in
      last_step t r q (omega (arith, g.room)) (omega arith) ∙ ap answered z
  stepped r (first h cs kids rest) q (suc i) s lt le =
      let w = stand_within f q (first h cs kids rest) s in
      let z : q + suc (rows_in kids) + nth_row rest i ≡ q + (suc (rows_in kids) + nth_row rest i) = omega arith in
      one_step t r i q (rows_in kids) (omega (arith, g.room)) (omega arith) (subtree_there q h cs kids (first_stands (nodes f) q h cs kids rest s))
      ∙ stepped r rest (q + suc (rows_in kids)) i (rest_stand (nodes f) q h cs kids rest s) (omega arith) (omega arith)
      ∙ ap answered z

  module _ (r : ℕ) (h : Header) (cs : List Ordinates) (kids : Forest) (e : get_elem? (nodes f) r ≡ some (h, cs, kids)) where
    -- the row behind a listed row is its first child's
    children_behind : Stand (nodes f) (r + 1) kids
    children_behind =
        let z : suc r ≡ r + 1 = omega arith in
        subst (λ (q : ℕ). Stand (nodes f) q kids) z (children_stand f r h cs kids e)

    -- the row that Child answers lists that very child
    pub child_listed : (i : ℕ) → i < siblings kids → (y : Node) × ((nth kids i ≡ some y) × (get_elem? (nodes f) (r + 1 + nth_row kids i) ≡ some y))
    child_listed i lt = nth_stands (nodes f) kids (r + 1) i children_behind lt

    -- Child on a listed row, for any index
    pub child_there : (i : ℕ) → child t r i ≡ child_in r h kids i
    child_there i =
        let (y, fe, here, s) = listed_row b t f g r (h, cs, kids) e in
        ap₂ (λ (z : Bool) (w : RowFields). ◌>>◌ (guard (z && leb 3 (kind_number w.kind)) 9 r) (◌>>◌ (guard (ltb i w.count) 10 i) (steps t r i (r + 1))))
        (lt-ltb r (rows_of t) here) (fe ∙ s.row)
        ∙ go (leb 3 (kind_number h.kind)) refl
      where
        within : (z : Bool) → ltb i (siblings kids) ≡ z → ◌>>◌ (guard z 10 i) (steps t r i (r + 1)) ≡ ◌>>◌ (guard z 10 i) (answered (r + 1 + nth_row kids i))
        within false c = refl
        within true c = stepped r kids (r + 1) i children_behind (ltb-true i (siblings kids) c) (omega (arith, subtree_there r h cs kids e))

        go : (z : Bool) → leb 3 (kind_number h.kind) ≡ z
            → ◌>>◌ (guard z 9 r) (◌>>◌ (guard (ltb i (count h cs kids)) 10 i) (steps t r i (r + 1)))
            ≡ ◌>>◌ (guard z 9 r) (◌>>◌ (guard (ltb i (siblings kids)) 10 i) (answered (r + 1 + nth_row kids i)))
        go false c = refl
        go true c =
            let k : count h cs kids ≡ siblings kids = rw (lt-leb (kind_number h.kind) 2 (omega (arith, leb-true 3 (kind_number h.kind) c))) in
            ap (λ (n : ℕ). ◌>>◌ (guard (ltb i n) 10 i) (steps t r i (r + 1))) k ∙ within (ltb i (siblings kids)) refl

    pub child_answered : holds_coordinates h.kind ≡ false → (i : ℕ) → i < siblings kids → child t r i ≡ answered (r + 1 + nth_row kids i)
    child_answered k i lt =
        child_there i
        ∙ ap₂ (λ (z w : Bool). ◌>>◌ (guard z 9 r) (◌>>◌ (guard w 10 i) (answered (r + 1 + nth_row kids i))))
        (le-leb 3 (kind_number h.kind) (leb-false (kind_number h.kind) 2 k))
        (lt-ltb i (siblings kids) lt)
