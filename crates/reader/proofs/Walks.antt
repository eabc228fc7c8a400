-- The walk over siblings, one geometry at a time. Assumes nothing.
use Prim.Native.Nat.{ℕ, suc, ◌+◌, ◌-◌, ◌≤◌, ◌<◌}
use native.Mathlib.Omega.{arith}
use mathlib.Core.Path.{◌≡◌, refl, sym, ap, subst, ◌∙◌}
use mathlib.Core.List.{List, ◌++◌}
use lib.ListN.{length, drop, length-append, length-drop}
use Rattle.meaning.specs.Number.{Bytes}
use Rattle.meaning.specs.Grammar.{Forest, bytes, Place}
use Rattle.meaning.specs.Answer.{Answer, refused, answered}
use Rattle.meaning.specs.Reading.{after, give, forest}
use Rattle.meaning.specs.Table.{rows_in, rows}
use Rattle.meaning.proofs.Exact.{forest_from}
use Rattle.meaning.proofs.Sizes.{rows_bytes}
use Rattle.meaning.proofs.Siblings.{graft, rows_in_graft, rows_graft, length_rows, more_read}
use Rattle.reader.specs.Rows.{Lists, AnyOrder, list_rows}
use Rattle.reader.specs.Walk.{State, whole}
use Rattle.reader.proofs.Listing.{list_append}

pub state : {S : Type 0} (e r : ℕ) (s : S) (e' r' : ℕ) (s' : S) → e ≡ e' → r ≡ r' → s ≡ s' → ◌≡◌ {A = Answer (State S)} (answered (e, r, s)) (answered (e', r', s'))
state e r s e' r' s' p q u = λ i. answered (p i, q i, u i)

module _ {S : Type 0} (list : Lists S) (any_order : AnyOrder list) (l : ℕ) where
  -- those behind a geometry go on from where it ended
  whole_graft : (q p : ℕ) (s : S) (t : Forest) (e : ℕ) (A : Answer (Forest × ℕ)) → e ≡ p + length (bytes t)
      → whole list q l p s (after A (λ u. give (graft t u))) ≡ whole list (q + rows_in t) l e (list_rows list s q (rows p l t)) A
  whole_graft q p s t e (refused n k) h = refl
  whole_graft q p s t e (answered x) h =
      let u = x.0 in
      let rs = rows p l t in
      let g : rows p l (graft t u) ≡ rs ++ rows e l u = rows_graft t u p l ∙ ap (λ (n : ℕ). rs ++ rows n l u) (sym h) in
      let n : q + length rs ≡ q + rows_in t = ap (λ (m : ℕ). q + m) (length_rows t p l) in
      state _ _ _ _ _ _ refl
      (let i = rows_in_graft t u in omega arith)
      (ap (list_rows list s q) g ∙ list_append list any_order s q rs (rows e l u) ∙ ap (λ (m : ℕ). list_rows list (list_rows list s q rs) m (rows e l u)) n)

  module _ (b : List ℕ) (all : Bytes b) (place : Place) where
    abbrev siblings_at : ℕ → ℕ → Answer (Forest × ℕ)
    siblings_at n p = forest b 19 n place l p

    module _ (q p m : ℕ) (s : S) where
      abbrev others : Forest → ℕ → Answer (Forest × ℕ)
      others t at₁ = after (siblings_at m at₁) (λ u. give (graft t u))

      -- a geometry was read: the rest goes on from it
      more : (st : State S) → answered st ≡ whole list q l p s (siblings_at 1 p) → whole list q l p s (siblings_at (suc m) p) ≡ whole list st.1 l st.0 st.2 (siblings_at m st.0)
      more st h = ap (whole list q l p s) (more_read b 18 m place l p) ∙ go (siblings_at 1 p) refl h
        where
          go : (A : Answer (Forest × ℕ)) → siblings_at 1 p ≡ A → answered st ≡ whole list q l p s A
              → whole list q l p s (after A others) ≡ whole list st.1 l st.0 st.2 (siblings_at m st.0)
          go (refused n k) e f = let z : ◌≡◌ {A = ℕ} 0 1 = cc in absurd (omega arith)
          go (answered x) e f =
              let i : st ≡ (x.1, q + rows_in x.0, list_rows list s q (rows p l x.0)) = cc in
              subst (λ (u : State S). whole list q l p s (after (answered x) others) ≡ whole list u.1 l u.0 u.2 (siblings_at m u.0)) (sym i)
              (whole_graft q p s x.0 x.1 (siblings_at m x.1) (forest_from b all 19 1 place l p x e).2.0)

      -- a geometry was refused: so are they all
      stop : (n k : ℕ) → refused n k ≡ whole list q l p s (siblings_at 1 p) → refused n k ≡ whole list q l p s (siblings_at (suc m) p)
      stop n k h = go (siblings_at 1 p) h ∙ sym (ap (whole list q l p s) (more_read b 18 m place l p))
        where
          go : (A : Answer (Forest × ℕ)) → refused n k ≡ whole list q l p s A → refused n k ≡ whole list q l p s (after A others)
          go (refused n' k') f = f
          go (answered x) f = let z : ◌≡◌ {A = ℕ} 0 1 = cc in absurd (omega arith)

    -- what is left after i of n, in the code's terms
    module _ (n i q p : ℕ) (s : S) where
      pub turn : i < n → (st : State S) → answered st ≡ whole list q l p s (siblings_at 1 p)
          → whole list q l p s (siblings_at (n - i) p) ≡ whole list st.1 l st.0 st.2 (siblings_at (n - (i + 1)) st.0)
      turn lt st h =
          let m : n - i ≡ suc (n - (i + 1)) = omega arith in
          ap (λ (j : ℕ). whole list q l p s (siblings_at j p)) m ∙ more q p (n - (i + 1)) s st h

      pub turned_away : i < n → (x k : ℕ) → refused x k ≡ whole list q l p s (siblings_at 1 p) → refused x k ≡ whole list q l p s (siblings_at (n - i) p)
      turned_away lt x k h =
          let m : n - i ≡ suc (n - (i + 1)) = omega arith in
          stop q p (n - (i + 1)) s x k h ∙ sym (ap (λ (j : ℕ). whole list q l p s (siblings_at j p)) m)

      pub none_left : n ≤ i → answered (p, q, s) ≡ whole list q l p s (siblings_at (n - i) p)
      unfolding forest rows rows_in list_rows
      none_left le =
          let m : n - i ≡ 0 = omega arith in
          sym (ap (λ (j : ℕ). whole list q l p s (siblings_at j p)) m ∙ state _ _ _ _ _ _ refl (omega arith) refl)

    -- a walk goes onward within the buffer, and, begun at no more rows than bytes, has no more
    pub onward : (n q p : ℕ) (s : S) (st : State S) → answered st ≡ whole list q l p s (siblings_at n p) → (p ≤ st.0) × (q ≤ p → st.1 ≤ st.0) × (p ≤ length b → st.0 ≤ length b)
    onward n q p s st h = go (siblings_at n p) refl h
      where
        go : (A : Answer (Forest × ℕ)) → siblings_at n p ≡ A → answered st ≡ whole list q l p s A → (p ≤ st.0) × (q ≤ p → st.1 ≤ st.0) × (p ≤ length b → st.0 ≤ length b)
        go (refused k m) e f = let z : ◌≡◌ {A = ℕ} 0 1 = cc in absurd (omega arith)
        go (answered x) e f =
            let i : st ≡ (x.1, q + rows_in x.0, list_rows list s q (rows p l x.0)) = cc in
            let i₀ : st.0 ≡ x.1 = ap (λ (u : State S). u.0) i in
            let i₁ : st.1 ≡ q + rows_in x.0 = ap (λ (u : State S). u.1) i in
            let (w, sib, (en, dr)) = forest_from b all 19 n place l p x e in
            let r = rows_bytes x.0 in
            let d = ap length dr ∙ length-append (bytes x.0) (drop x.1 b) in
            let d₁ = length-drop p b in
            let d₂ = length-drop x.1 b in
            (omega arith, λ le. omega arith, λ k. omega arith)
