use Rattle.std.proofs.Common.{◌≡◌, ◌++◌, ◌*◌, drop}
use Rattle.writer.proofs.Running.{repeated}
use Rattle.writer.proofs.empty_point.write_empty_point.Given as goal

abbrev pub invariant-loop-n : goal.invariant-loop-n
invariant-loop-n l = l.out ≡ repeated l.fn.order l.n 0x7FF8_0000_0000_0000 ++ drop (8 * l.n) l.initial.out
