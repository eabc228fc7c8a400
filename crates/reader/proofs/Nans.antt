-- A Point's ordinates, one at a time. Assumes nothing.
use Prim.Native.Nat.{ℕ, zero, suc, ◌+◌, ◌*◌, ◌-◌, ◌≤◌, ◌<◌}
use native.Mathlib.Omega.{arith}
use mathlib.Core.Path.{◌≡◌, refl, ap, ap₂, ◌∙◌}
use mathlib.Core.Bool.{Bool, true, false, ◌&&◌}
use mathlib.Core.List.{List, map}
use lib.ListN.{length, take, drop, length-drop}
use lib.Seq.{take-take, take-add, drop_at, drop-drop, length-take-le}
use Rattle.meaning.specs.declared.Endianness.{Endianness}
use Rattle.meaning.specs.Number.{number, number_at}
use Rattle.meaning.specs.Grammar.{is_nan, every}
use Rattle.meaning.specs.Reading.{pieces}
use Rattle.reader.specs.Body.{all_nan}

drop_take : (n m : ℕ) (xs : List ℕ) → n ≤ length xs → drop n (take (n + m) xs) ≡ take m (drop n xs)
drop_take n m xs h = ap (drop n) (take-add n m xs) ∙ drop_at (take n xs) (take m (drop n xs)) n (length-take-le n xs h)

module _ (b : List ℕ) (o : Endianness) where
  pub nans_are : (s at : ℕ) (y : List ℕ) → 8 * s ≤ length b - at → y ≡ take (8 * s) (drop at b) → every is_nan (map (number o) (pieces 8 s y)) ≡ all_nan b o s at
  unfolding every pieces all_nan
  nans_are zero at y h e = refl
  nans_are (suc s) at y h e =
      let d = length-drop at b in
      let w : 8 * suc s ≡ 8 + 8 * s = omega arith in
      let t : take 8 y ≡ take 8 (drop at b) = ap (take 8) e ∙ take-take 8 (8 * suc s) (drop at b) (omega arith) in
      let r : drop 8 y ≡ take (8 * s) (drop (at + 8) b) =
      ap (drop 8) (e ∙ ap (λ (n : ℕ). take n (drop at b)) w) ∙ drop_take 8 (8 * s) (drop at b) (omega arith) ∙ ap (take (8 * s)) (drop-drop 8 at b) in
      ap₂ (λ (x y : Bool). x && y) (ap (λ (z : List ℕ). is_nan (number o z)) t) (nans_are s (at + 8) (drop 8 y) (omega arith) r)

  pub none_yet : (n at : ℕ) → all_nan b o (n - 0) (at + 8 * 0) ≡ all_nan b o n at
  none_yet n at = let m : n - 0 ≡ n = omega arith in let p : at + 8 * 0 ≡ at = omega arith in ap₂ (all_nan b o) m p

  -- what is left after i of n ordinates, in the code's terms
  module _ (n i at : ℕ) where
    step : i < n → all_nan b o (n - i) (at + 8 * i) ≡ is_nan (number_at o 8 b (at + 8 * i)) && all_nan b o (n - (i + 1)) (at + 8 * (i + 1))
    unfolding all_nan
    step lt =
        let m : n - i ≡ suc (n - (i + 1)) = omega arith in
        let p : at + 8 * i + 8 ≡ at + 8 * (i + 1) = omega arith in
        ap (λ (k : ℕ). all_nan b o k (at + 8 * i)) m ∙ ap (λ (k : ℕ). is_nan (number_at o 8 b (at + 8 * i)) && all_nan b o (n - (i + 1)) k) p

    pub number_there : i < n → is_nan (number_at o 8 b (at + 8 * i)) ≡ false → all_nan b o (n - i) (at + 8 * i) ≡ false
    number_there lt e = step lt ∙ rw e

    pub nan_there : i < n → is_nan (number_at o 8 b (at + 8 * i)) ≡ true → all_nan b o (n - i) (at + 8 * i) ≡ all_nan b o (n - (i + 1)) (at + 8 * (i + 1))
    nan_there lt e = step lt ∙ rw e

    pub all_there : n ≤ i → all_nan b o (n - i) (at + 8 * i) ≡ true
    unfolding all_nan
    all_there le = let m : n - i ≡ 0 = omega arith in ap (λ (k : ℕ). all_nan b o k (at + 8 * i)) m
