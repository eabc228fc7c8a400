-- Stepping from child to child. k of i steps are done, and q is the row reached. Assumes nothing.
use Prim.Native.Nat.{ℕ, zero, suc, ◌+◌, ◌-◌, ◌≤◌, ◌<◌, min}
use native.Mathlib.Omega.{arith}
use mathlib.Core.Path.{◌≡◌}
use mathlib.Core.List.{List}
use borrow.Author.Tests.{lt-ltb, le-ltb, le-leb, eq-eqb, ne_eqb}
use Rattle.meaning.specs.Code.{kind_number}
use Rattle.meaning.specs.Answer.{refused, answered}
use Rattle.meaning.specs.Table.{rows_of, fetch}
use Rattle.meaning.specs.Questions.{steps, child}
use Rattle.questions.proofs.Narrow.{subtree_below}

-- each row reached is below this
abbrev bound : List ℕ → ℕ → ℕ
bound t r = min (rows_of t) (r + (fetch t r).subtree)

-- behind the tests of the row asked
pub asked : (t : List ℕ) (r i : ℕ) → r < rows_of t → 3 ≤ kind_number (fetch t r).kind → i < (fetch t r).count → child t r i ≡ steps t r (i - 0) (r + 1)
asked t r i h k lt =
    let z : i - 0 ≡ i = omega arith in
    rw (z, lt-ltb r (rows_of t) h, le-leb 3 (kind_number (fetch t r).kind) k, lt-ltb i (fetch t r).count lt)

pub out : (t : List ℕ) (r n q : ℕ) → bound t r ≤ q → steps t r n q ≡ refused 9 r
unfolding steps
out t r zero q h = rw (le-ltb q (bound t r) h)
out t r (suc n) q h = rw (le-ltb q (bound t r) h)

one_more : (i k : ℕ) → k < i → i - k ≡ suc (i - (k + 1))
one_more i k lt = omega arith

pub stuck : (t : List ℕ) (r i k q : ℕ) → k < i → q < bound t r → (fetch t q).subtree ≡ 0 → steps t r (i - k) q ≡ refused 9 r
unfolding steps
stuck t r i k q lt h z = rw (one_more i k lt, lt-ltb q (bound t r) h, eq-eqb (fetch t q).subtree 0 z)

pub onward : (t : List ℕ) (r i k q : ℕ) → k < i → q < bound t r → ((fetch t q).subtree ≡ 0 → ⊥) → steps t r (i - k) q ≡ steps t r (i - (k + 1)) (q + (fetch t q).subtree)
unfolding steps
onward t r i k q lt h z = rw (one_more i k lt, lt-ltb q (bound t r) h, ne_eqb (fetch t q).subtree 0 z)

pub arrived : (t : List ℕ) (r i k q : ℕ) → i ≤ k → q < bound t r → steps t r (i - k) q ≡ answered q
unfolding steps
arrived t r i k q le h = let z : i - k ≡ 0 = omega arith in rw (z, lt-ltb q (bound t r) h)

-- what each turn of the loop, and each way out of it, goes by
pub ruleset stepping = (asked, out, stuck, onward, arrived, subtree_below)
