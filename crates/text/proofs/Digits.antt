-- Decimal digits, one by one from the left. Assumes nothing.
use Prim.Native.Nat.{ℕ, zero, suc, ◌+◌, ◌*◌, ◌<◌, ◌≤◌}
use native.Mathlib.Numerals.{add-one}
use native.Mathlib.Omega.{arith}
use mathlib.Core.Path.{◌≡◌, refl}
use mathlib.Core.List.{List, [], ◌∷◌, ◌++◌}
use lib.ListN.{length, get_or, take}
use lib.Seq.{take-suc}
use Rattle.std.specs.Char.{digit_value}
use Rattle.std.specs.Str.Parse.{AllDigits, digits_value, digits_value_after}
use Rattle.std.proofs.lemmas.Str.Parse.{digits_value-take-le}

value_onto : (n : ℕ) (xs : List ℕ) (c : ℕ) → digits_value_after 10 n (xs ++ (c ∷ [])) ≡ digits_value_after 10 n xs * 10 + digit_value c
value_onto n [] c = refl
value_onto n (x ∷ xs) c = value_onto (n * 10 + digit_value x) xs c

all_onto : (xs : List ℕ) (c : ℕ) → AllDigits 10 xs → digit_value c < 10 → AllDigits 10 (xs ++ (c ∷ []))
all_onto [] c a h = (h, tt)
all_onto (x ∷ xs) c a h = (a.0, all_onto xs c a.1 h)

-- each of the digits is one
pub each_digit : (s : List ℕ) (i : ℕ) → AllDigits 10 s → i < length s → digit_value (get_or s i 0) < 10
each_digit [] i a h = absurd (omega arith)
each_digit (x ∷ xs) zero a h = a.0
each_digit (x ∷ xs) (suc i) a h = each_digit xs i a.1 (omega arith)

-- one more of them
pub value_next : (s : List ℕ) (i : ℕ) → i < length s → digits_value 10 (take (i + 1) s) ≡ digits_value 10 (take i s) * 10 + digit_value (get_or s i 0)
value_next s i h = rw (add-one, take-suc s i 0 h) (value_onto 0 (take i s) (get_or s i 0))

pub all_next : (s : List ℕ) (i : ℕ) → i < length s → AllDigits 10 (take i s) → digit_value (get_or s i 0) < 10 → AllDigits 10 (take (i + 1) s)
all_next s i h a d = rw (add-one, take-suc s i 0 h) (all_onto (take i s) (get_or s i 0) a d)

-- what the first i + 1 say is at most what all say
pub value_so_far : (s : List ℕ) (i : ℕ) → i < length s → digits_value 10 (take i s) * 10 + digit_value (get_or s i 0) ≤ digits_value 10 s
value_so_far s i h = rw (← value_next s i h) (digits_value-take-le 10 s (i + 1) (omega arith))
