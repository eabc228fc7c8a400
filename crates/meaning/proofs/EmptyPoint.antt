-- A Point is empty exactly if all its ordinates are NaN: one number among them makes it a point. Assumes nothing.
use Prim.Native.Nat.{ℕ, zero, suc, ◌<◌}
use native.Mathlib.Omega.{arith}
use mathlib.Core.Path.{◌≡◌, refl}
use mathlib.Core.Bool.{true, false, and-false}
use mathlib.Core.List.{[], ◌∷◌}
use lib.ListN.{length, get_or}
use Rattle.meaning.specs.declared.Kind.TheVariants.{Point}
use Rattle.meaning.specs.Number.{Each}
use Rattle.meaning.specs.Code.{same_kind}
use Rattle.meaning.specs.Grammar.{Header, Ordinates, is_nan, every, empty_point}

every_not : (xs : Ordinates) (i : ℕ) → i < length xs → is_nan (get_or xs i 0) ≡ false → every is_nan xs ≡ false
unfolding every
every_not [] i lt e = absurd (omega arith)
every_not (x ∷ xs) zero lt e = rw e
every_not (x ∷ xs) (suc i) lt e = rw (every_not xs i (omega arith) e) (and-false (is_nan x))

every_all : (xs : Ordinates) → Each (λ x. is_nan x ≡ true) xs → every is_nan xs ≡ true
unfolding every
every_all [] p = refl
every_all (x ∷ xs) p = rw p.0 (every_all xs p.1)

pub one_number : (h : Header) (xs : Ordinates) (i : ℕ) → i < length xs → is_nan (get_or xs i 0) ≡ false → empty_point h (xs ∷ []) ≡ false
unfolding every
one_number h xs i lt e = rw (every_not xs i lt e) (and-false (same_kind h.kind Point))

pub all_are_nan : (h : Header) (xs : Ordinates) → h.kind ≡ Point → Each (λ x. is_nan x ≡ true) xs → empty_point h (xs ∷ []) ≡ true
unfolding every
all_are_nan h xs k p = rw (k, every_all xs p)
