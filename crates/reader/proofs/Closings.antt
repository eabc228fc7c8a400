-- A parent's row on top of those of its children. Assumes nothing.
use Prim.Native.Nat.{ℕ, suc, ◌+◌, ◌*◌, ◌-◌, ◌≤◌, ◌<◌}
use native.Mathlib.Nat.{mul-zero, add-zero}
use native.Mathlib.Numerals.{add-one}
use native.Mathlib.Omega.{arith}
use mathlib.Core.Path.{◌≡◌, refl, sym, ap, subst, ◌∙◌}
use mathlib.Core.Bool.{false}
use mathlib.Core.List.{List, [], ◌∷◌, append-nil, flat_map}
use lib.ListN.{length, drop, length-append, length-drop}
use Rattle.meaning.specs.declared.Kind.TheVariants.{Point}
use Rattle.meaning.specs.declared.RowFields.{RowFields}
use Rattle.meaning.specs.Number.{Bytes}
use Rattle.meaning.specs.Code.{size}
use Rattle.meaning.specs.Grammar.{Header, Forest, empty, first, Place, inside, holds_coordinates, front, count, bytes}
use Rattle.meaning.specs.Answer.{Answer, refused, answered}
use Rattle.meaning.specs.Reading.{pieces, after, give, num, run, forest}
use Rattle.meaning.specs.Table.{offset, row_of, rows, rows_in, RowFits}
use Rattle.meaning.proofs.Codes.{ne_same_kind}
use Rattle.meaning.proofs.Headers.{headed}
use Rattle.meaning.proofs.Exact.{forest_from}
use Rattle.meaning.proofs.Siblings.{body_of}
use Rattle.meaning.proofs.Steps.{run_good}
use Rattle.meaning.proofs.Sizes.{rows_bytes, siblings_rows}
use Rattle.reader.specs.declared.geometry.Head.{Head}
use Rattle.reader.specs.Asks.{head_of, Heads}
use Rattle.reader.specs.Rows.{Lists, list_rows}
use Rattle.reader.specs.Walk.{State, row_from, whole}
use Rattle.reader.proofs.Walks.{state}
use Rattle.reader.proofs.Leaves.{row_is, front_headed, row_fits}

-- no coordinates are no bytes
run_none : (b : List ℕ) (h : Header) (at : ℕ) → run b h 0 at ≡ answered ([], at)
unfolding pieces
run_none b h at =
    let z = mul-zero (8 * size h.dimension) in
    run_good b at h 0 (omega arith) ∙ ap (λ (n : ℕ). answered ([], at + n)) z ∙ ap (λ (n : ℕ). answered ([], n)) (add-zero at)

module _ (b : List ℕ) (all : Bytes b) {S : Type 0} (list : Lists S) (s : S) (h : Header) (row l at next : ℕ) (k : holds_coordinates h.kind ≡ false) (start : next ≡ at + length (headed h)) where
  abbrev here : Answer (State S)
  here = whole list row l at s (body_of b 19 h l next)

  no_point : h.kind ≡ Point → ⊥
  no_point e = let z = ap holds_coordinates e in absurd (cc)

  -- a parent that has no count
  parent_away : (x y : ℕ) → refused x y ≡ num b h.order 4 next → refused x y ≡ here
  parent_away x y e = rw (ne_same_kind h.kind Point no_point, ← e)

  module _ (n : ℕ) (e : answered (n, next + 4) ≡ num b h.order 4 next) where
    abbrev kids_at : Answer (Forest × ℕ)
    kids_at = forest b 19 n (inside h) (suc l) (next + 4)

    abbrev below : Answer (State S)
    below = whole list (row + 1) (suc l) (next + 4) s kids_at

    -- a parent's body is its children
    body_kids : body_of b 19 h l next ≡ after kids_at (λ kids. give (first h [] kids empty))
    body_kids = rw (ne_same_kind h.kind Point no_point, ← e, k, run_none b h (next + 4))

    parent_front : (kids : Forest) → at + length (front h (count h [] kids)) ≡ next + 4
    parent_front kids =
        let z : length (front h (count h [] kids)) ≡ length (headed h) + 4 = front_headed h (count h [] kids) ∙ rw (ne_same_kind h.kind Point no_point) in
        omega arith

    -- the row of a parent whose children were read
    parent_row : (kids : Forest) (end r : ℕ) → kids_at ≡ answered (kids, end) → r ≡ row + 1 + rows_in kids
        → row_of at l h [] kids ≡ row_from (head_of h next) (offset at) l (offset (next + 4)) (offset end) n (r - row)
    unfolding flat_map
    parent_row kids end r i j =
        let (w, sib, (f, d)) = forest_from b all 19 n (inside h) (suc l) (next + 4) (kids, end) i in
        let c : count h [] kids ≡ n = rw k sib in
        row_is h [] kids at l next (next + 4) end n (r - row) (parent_front kids) (omega arith) c (omega arith)

    -- its rows: its own, and those of its children behind it
    parent_rows : (kids : Forest) → at + length (front h (count h [] kids)) ≡ next + 4 → rows at l (first h [] kids empty) ≡ row_of at l h [] kids ∷ rows (next + 4) (suc l) kids
    unfolding rows
    parent_rows kids i =
        ap (λ (rs : List RowFields). row_of at l h [] kids ∷ rs) (append-nil (rows (row_of at l h [] kids).body.0 (suc l) kids) ∙ ap (λ (m : ℕ). rows m (suc l) kids) i)

    list_above : (ks : List RowFields) (f : RowFields) → list (list_rows list s (suc row) ks) row f ≡ list_rows list s row (f ∷ ks)
    unfolding list_rows
    list_above ks f = refl

    rows_above : (kids : Forest) (r : ℕ) → r ≡ row + 1 + rows_in kids → r ≡ row + rows_in (first h [] kids empty)
    unfolding rows_in
    rows_above kids r i = omega arith

    closed_there : (st : State S) → answered st ≡ below
        → answered (st.0, st.1, list st.2 row (row_from (head_of h next) (offset at) l (offset (next + 4)) (offset st.0) n (st.1 - row))) ≡ here
    closed_there st i = go kids_at refl i ∙ sym (ap (whole list row l at s) body_kids)
      where
        go : (A : Answer (Forest × ℕ)) → kids_at ≡ A → answered st ≡ whole list (row + 1) (suc l) (next + 4) s A
            → answered (st.0, st.1, list st.2 row (row_from (head_of h next) (offset at) l (offset (next + 4)) (offset st.0) n (st.1 - row)))
            ≡ whole list row l at s (after A (λ kids. give (first h [] kids empty)))
        go (refused x y) p j = let z : ◌≡◌ {A = ℕ} 0 1 = cc in absurd (omega arith)
        go (answered x) p j =
            let kids = x.0 in
            let ks = rows (next + 4) (suc l) kids in
            let i₀ : st ≡ (x.1, row + 1 + rows_in kids, list_rows list s (row + 1) ks) = cc in
            let e₀ : st.0 ≡ x.1 = ap (λ (t : State S). t.0) i₀ in
            let e₁ : st.1 ≡ row + 1 + rows_in kids = ap (λ (t : State S). t.1) i₀ in
            let f = row_from (head_of h next) (offset at) l (offset (next + 4)) (offset st.0) n (st.1 - row) in
            let g : row_of at l h [] kids ≡ f = parent_row kids st.0 st.1 (p ∙ ap (λ (m : ℕ). answered (kids, m)) (sym e₀)) e₁ in
            let rs : rows at l (first h [] kids empty) ≡ f ∷ ks = parent_rows kids (parent_front kids) ∙ ap (λ (y : RowFields). y ∷ ks) g in
            state _ _ _ _ _ _ e₀
            (rows_above kids st.1 e₁)
            (ap (λ (y : S). list y row f) (ap (λ (t : State S). t.2) i₀ ∙ ap (λ (m : ℕ). list_rows list s m ks) (add-one row)) ∙ list_above ks f ∙ sym (ap (list_rows list s row) rs))

    closed_away : (x y : ℕ) → refused x y ≡ below → refused x y ≡ here
    closed_away x y i = go kids_at i ∙ sym (ap (whole list row l at s) body_kids)
      where
        go : (A : Answer (Forest × ℕ)) → refused x y ≡ whole list (row + 1) (suc l) (next + 4) s A → refused x y ≡ whole list row l at s (after A (λ kids. give (first h [] kids empty)))
        go (refused x' y') j = j
        go (answered z) j = let z : ◌≡◌ {A = ℕ} 0 1 = cc in absurd (omega arith)

    -- the sizes of what was read below
    below_fits : (st : State S) → answered st ≡ below → next + 4 ≤ length b → length b ≤ 1048575 → (row + 1 ≤ st.1) × (st.0 ≤ 1048575) × (n ≤ 1048575) × (st.1 - row ≤ 1048575)
    below_fits st i there short = go kids_at refl i
      where
        go : (A : Answer (Forest × ℕ)) → kids_at ≡ A → answered st ≡ whole list (row + 1) (suc l) (next + 4) s A
            → (row + 1 ≤ st.1) × (st.0 ≤ 1048575) × (n ≤ 1048575) × (st.1 - row ≤ 1048575)
        go (refused x y) p j = let z : ◌≡◌ {A = ℕ} 0 1 = cc in absurd (omega arith)
        go (answered x) p j =
            let i₀ : st ≡ (x.1, row + 1 + rows_in x.0, list_rows list s (row + 1) (rows (next + 4) (suc l) x.0)) = cc in
            let e₀ : st.0 ≡ x.1 = ap (λ (t : State S). t.0) i₀ in
            let e₁ : st.1 ≡ row + 1 + rows_in x.0 = ap (λ (t : State S). t.1) i₀ in
            let (w, sib, (en, dr)) = forest_from b all 19 n (inside h) (suc l) (next + 4) x p in
            let r = rows_bytes x.0 in
            let q = siblings_rows x.0 in
            let d = ap length dr ∙ length-append (bytes x.0) (drop x.1 b) in
            let d₁ = length-drop (next + 4) b in
            let d₂ = length-drop x.1 b in
            (omega arith, omega arith, omega arith, omega arith)

-- ---- in the code's terms

module _ (b : List ℕ) (all : Bytes b) {S : Type 0} (list : Lists S) (s : S) (row l at : ℕ) (head : Head) (h : Header) (g : Heads h at head) (k : holds_coordinates head.kind ≡ false) where
  -- what holds of the header holds of what the code has of it
  of_head : (P : Head → Type 0) → P (head_of h head.next.0) → P head
  of_head P p = subst P g.same p

  k' : holds_coordinates h.kind ≡ false
  k' = ap (λ (x : Head). holds_coordinates x.kind) g.same ∙ k

  abbrev all_of_it : Head → Answer (State S)
  all_of_it hd = whole list row l at s (body_of b 19 h l hd.next.0)

  pub count_refused : (x y : ℕ) → refused x y ≡ num b head.order 4 head.next.0 → refused x y ≡ all_of_it head
  count_refused x y =
      of_head (λ hd. refused x y ≡ num b hd.order 4 hd.next.0 → refused x y ≡ all_of_it hd) (parent_away b all list s h row l at head.next.0 k' g.behind x y)

  module _ (n : ℕ) (e : answered (n, head.next.0 + 4) ≡ num b head.order 4 head.next.0) (place : Place) (p : inside h ≡ place) where
    abbrev kids : Answer (State S)
    kids = whole list (row + 1) (l + 1) (head.next.0 + 4) s (forest b 19 n place (l + 1) (head.next.0 + 4))

    e' : answered (n, head.next.0 + 4) ≡ num b h.order 4 head.next.0
    e' = e ∙ ap (λ (hd : Head). num b hd.order 4 head.next.0) (sym g.same)

    same_kids : kids ≡ below b all list s h row l at head.next.0 k' g.behind n e'
    same_kids = rw (add-one l, p)

    pub children_refused : (x y : ℕ) → refused x y ≡ kids → refused x y ≡ all_of_it head
    children_refused x y i = closed_away b all list s h row l at head.next.0 k' g.behind n e' x y (i ∙ same_kids)

    module _ (st : State S) (i : answered st ≡ kids) where
      pub closed_whole : answered (st.0, st.1, list st.2 row (row_from head (offset at) l (offset (head.next.0 + 4)) (offset st.0) n (st.1 - row))) ≡ all_of_it head
      closed_whole =
          ap (λ (hd : Head). answered (st.0, st.1, list st.2 row (row_from hd (offset at) l (offset (head.next.0 + 4)) (offset st.0) n (st.1 - row)))) (sym g.same)
          ∙ closed_there b all list s h row l at head.next.0 k' g.behind n e' st (i ∙ same_kids)

      pub closable : head.next.0 + 4 ≤ length b → length b ≤ 1048575 → l < 64
          → (row ≤ st.1) × RowFits (row_from head (offset at) l (offset (head.next.0 + 4)) (offset st.0) n (st.1 - row))
      closable there short lv =
          let f = below_fits b all list s h row l at head.next.0 k' g.behind n e' st (i ∙ same_kids) there short in
          let before = g.behind in
          (omega (arith, f.0), row_fits head at l (head.next.0 + 4) st.0 n (st.1 - row) lv (omega arith) (omega arith) f.1 f.2 f.3)
