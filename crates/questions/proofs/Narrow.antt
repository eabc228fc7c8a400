-- The numbers of a table's rows have 20 bits, so that sums of them fit. Assumes nothing.
use Prim.Native.Nat.{ℕ, ◌+◌, ◌*◌, ◌<◌}
use native.Mathlib.Omega.{arith}
use mathlib.Core.List.{List}
use lib.ListN.{get_or}
use mir.Val.{Fits}
use mir.Syntax.{w64}
use Rattle.meaning.specs.declared.Dimension.{Dimension}
use Rattle.meaning.specs.declared.Dimension.TheVariants.{Xy, Xyz, Xym, Xyzm}
use Rattle.meaning.specs.Code.{size}
use Rattle.meaning.specs.Table.{sum, unpack, fetch}

pub start_below : (t : List ℕ) → (fetch t 0).start.0 < 0x10_0000
unfolding unpack sum
start_below t = omega arith

pub subtree_below : (t : List ℕ) (r : ℕ) → (fetch t r).subtree < 0x10_0000
unfolding unpack sum
subtree_below t r = omega arith

body_below : (t : List ℕ) (r : ℕ) → (fetch t r).body.0 < 0x10_0000
unfolding unpack sum
body_below t r = omega arith

-- the count is the highest field of its word, which has 64 bits
count_below : (t : List ℕ) (r : ℕ) → ((i : ℕ) → Fits w64 (get_or t i 0)) → (fetch t r).count < 0x10_0000
unfolding unpack sum
count_below t r known = omega (arith, known (2 * r + 1))

-- where a run of coordinates ends
run_below : (d : Dimension) (body count : ℕ) → body < 0x10_0000 → count < 0x10_0000 → body + 8 * size d * count < 0x1000_0000
run_below Xy body count b c = omega arith
run_below Xyz body count b c = omega arith
run_below Xym body count b c = omega arith
run_below Xyzm body count b c = omega arith

pub run_fits : (t : List ℕ) (r : ℕ) → ((i : ℕ) → Fits w64 (get_or t i 0)) → (fetch t r).body.0 + 8 * size (fetch t r).dimension * (fetch t r).count < 0x1000_0000
run_fits t r known = run_below (fetch t r).dimension (fetch t r).body.0 (fetch t r).count (body_below t r) (count_below t r known)
