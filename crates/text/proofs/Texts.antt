-- Laws of the lengths of texts. Assumes nothing.
use Prim.Native.Nat.{ℕ, ◌-◌, ◌^◌, ◌<◌, ◌≤◌}
use native.Mathlib.Nat.{pow-le-pow_right}
use native.Mathlib.Omega.{arith}
use lib.Dec.{lit<}

-- the fewest decimal digits of a 64-bit number are at most 20
pub at_most_20 : (n k : ℕ) → (1 < k → 10 ^ (k - 1) ≤ n) → n < 2 ^ 64 → Dec (k ≤ 20) → k ≤ 20
at_most_20 n k h fits (yes p) = p
at_most_20 n k h fits (no q) =
    let p : 20 < k = omega arith in
    absurd (omega (arith, h (omega arith), pow-le-pow_right {n = 10} (lit< tt) {i = 20} {j = k - 1} (omega arith)))
