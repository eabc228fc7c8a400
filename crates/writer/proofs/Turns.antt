-- What a turn of the loop over rows adds. Assumes nothing.
use Prim.Native.Nat.{ℕ, zero, suc, ◌+◌, ◌-◌, ◌≤◌, ◌<◌}
use native.Mathlib.Omega.{arith}
use mathlib.Core.Path.{◌≡◌, refl, sym, ap, ap₂, ◌∙◌}
use mathlib.Core.List.{List, ◌++◌}
use lib.ListN.{length, take, drop, length-append}
use borrow.Rule.Slice.PartMut.{put_mid}
use Rattle.meaning.specs.declared.Endianness.{Endianness}
use Rattle.meaning.specs.declared.RowFields.{RowFields}
use Rattle.writer.specs.Rows.{row_bytes, rows_bytes}
use Rattle.writer.proofs.Behind.{rest_room, rest_put}

module _ (b : List ℕ) (row : ℕ → RowFields) (o : Endianness) where
  pub none_written : (s : List ℕ) → (s ≡ rows_bytes b row o 0 ++ s) × (0 ≡ length (rows_bytes b row o 0))
  unfolding rows_bytes
  none_written s = (refl, refl)

  one_more : (n : ℕ) → rows_bytes b row o (n + 1) ≡ rows_bytes b row o n ++ row_bytes b o (row n)
  unfolding rows_bytes
  one_more n =
      let e : n + 1 ≡ suc n = omega arith in
      ap (rows_bytes b row o) e

  length_more : (n : ℕ) → length (rows_bytes b row o (n + 1)) ≡ length (rows_bytes b row o n) + length (row_bytes b o (row n))
  length_more n = ap length (one_more n) ∙ length-append (rows_bytes b row o n) (row_bytes b o (row n))

  longer : (n d : ℕ) → length (rows_bytes b row o n) ≤ length (rows_bytes b row o (n + d))
  longer n zero =
      let e : n + 0 ≡ n = omega arith in
      let l = ap (λ (k : ℕ). length (rows_bytes b row o k)) e in
      omega arith
  longer n (suc d) =
      let e : n + suc d ≡ n + d + 1 = omega arith in
      let l = ap (λ (k : ℕ). length (rows_bytes b row o k)) e in
      omega (arith, length_more (n + d), longer n d)

  module _ (n m : ℕ) (less : n < m) (s s₀ : List ℕ) (at : ℕ) (e : s ≡ rows_bytes b row o n ++ drop at s₀) (l : at ≡ length (rows_bytes b row o n)) (x : RowFields) (is : x ≡ row n) where
    pub row_room : length (rows_bytes b row o m) ≤ length s₀ → length (row_bytes b o x) ≤ length (take (length s - at) (drop at s))
    row_room room =
        let k : n + 1 + (m - (n + 1)) ≡ m = omega arith in
        let j = ap (λ (i : ℕ). length (rows_bytes b row o i)) k in
        let y = ap (λ (z : RowFields). length (row_bytes b o z)) is in
        rest_room (rows_bytes b row o n) s s₀ at (sym l) e (row_bytes b o x) (omega (arith, longer (n + 1) (m - (n + 1)), length_more n))

    pub row_behind : (ys : List ℕ) (w : ℕ) → w ≡ length (row_bytes b o x) → ys ≡ row_bytes b o x ++ drop (length (row_bytes b o x)) (take (length s - at) (drop at s))
        → (put_mid at (length s - at) s ys ≡ rows_bytes b row o (n + 1) ++ drop (at + w) s₀) × (at + w ≡ length (rows_bytes b row o (n + 1)))
    row_behind ys w i f =
        let y = ap (λ (z : RowFields). length (row_bytes b o z)) is in (
          rest_put (rows_bytes b row o n) s s₀ at (sym l) e (row_bytes b o x) ys f
              ∙ ap₂ {C = List ℕ} (λ (z : List ℕ) (k : ℕ). z ++ drop (at + k) s₀) (ap (λ (z : RowFields). rows_bytes b row o n ++ row_bytes b o z) is ∙ sym (one_more n)) (sym i),
          omega (arith, length_more n),
        )
