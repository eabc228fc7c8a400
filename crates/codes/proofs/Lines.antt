-- Laws of the code that a line spells. Assumes nothing.
use Rattle.std.proofs.Common.{◌≡◌, ℕ, ◌+◌, ◌*◌, ◌^◌, ◌<◌, ◌≤◌, List, length, get_or, drop, drop-cons, add-one, arith, lit<}
use Rattle.std.proofs.Math.ListN.{drop_of_length-le}
use Rattle.std.proofs.Math.Nat.{pow-suc, pow-le-pow_right}
use borrow.Author.Tests.{le-ltb, ne_eqb}
use Rattle.std.specs.Prelude.{Some, None, Ok, Err}
use Rattle.text.specs.Spelt.{digit_of}
use Rattle.codes.specs.Line.{code_from, code_of}
use Rattle.codes.specs.declared.line.SpellingError.TheVariants.{NotHex}

-- the code, from one of the line's characters on
module _ (s : List ℕ) (v i : ℕ) where
  pub code_more : i < length s → (d : ℕ) → Some d ≡ digit_of (get_or s i 0) → code_from v i (drop i s) ≡ code_from (16 * v + d) (i + 1) (drop (i + 1) s)
  unfolding code_from
  code_more h d e = rw (drop-cons s i 0 h, ← e, add-one)

  pub code_stops : i < length s → None ≡ digit_of (get_or s i 0) → code_from v i (drop i s) ≡ Err (NotHex (i + 1))
  unfolding code_from
  code_stops h e = rw (drop-cons s i 0 h, ← e)

  pub code_ends : length s ≤ i → code_from v i (drop i s) ≡ Ok v
  unfolding code_from
  code_ends h = rw drop_of_length-le

-- a line of 1 to 8 characters
pub in_reach : (s : List ℕ) → (length s ≡ 0 → ⊥) → length s ≤ 8 → code_from 0 0 s ≡ code_of s
in_reach s h h' = simp (ne_eqb _ _ h, le-ltb _ _ h')

-- one more digit, and the room that eight digits need
pub digit_more : (v d i : ℕ) → v < 16 ^ i → d < 16 → 16 * v + d < 16 ^ (i + 1)
digit_more v d i h h' = rw (add-one, pow-suc) (omega arith)

pub room : (i : ℕ) → i < 8 → 16 ^ (i + 1) ≤ 2 ^ 32
room i h = pow-le-pow_right {n = 16} (lit< tt) {i = i + 1} {j = 8} (omega arith)
