-- Whether what is left is all NaN is whether all of it is. Assumes nothing.
use Rattle.std.proofs.Common.{◌≡◌, ◌+◌, ◌*◌, ◌-◌}
use Rattle.reader.specs.Body.{all_nan}
use Rattle.reader.proofs.point.point_count.Given as goal

abbrev pub invariant-loop-i : goal.invariant-loop-i
invariant-loop-i l = all_nan l.buf l.order (l.n - l.i) (l.at.0 + 8 * l.i) ≡ all_nan l.buf l.order l.n l.at.0
