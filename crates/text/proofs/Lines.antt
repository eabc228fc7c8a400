-- Laws of the characters of a line. Assumes nothing.
use mathlib.Core.Path.{◌≡◌}
use mathlib.Core.Bool.{true, false, and-false}
use Prim.Native.Nat.{ℕ, ◌<◌, ◌≤◌}
use borrow.Author.Tests.{le-leb, lt-leb}
use Rattle.text.specs.Spelt.{within}

-- a character inside a range, below it, above it
module _ (low high b : ℕ) where
  pub inside : low ≤ b → b ≤ high → within low high b ≡ true
  inside p q = simp (le-leb _ _ p, le-leb _ _ q)

  pub below : b < low → within low high b ≡ false
  below p = simp (lt-leb _ _ p)

  pub above : high < b → within low high b ≡ false
  above p = simp (lt-leb _ _ p, and-false)
