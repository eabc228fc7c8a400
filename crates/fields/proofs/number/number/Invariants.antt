use Rattle.std.proofs.Common.{not, nat_eq}
use Rattle.fields.specs.Place.{order_if}
use Rattle.fields.proofs.Digits.{Read}
use Rattle.fields.proofs.number.number.Given as goal

abbrev pub invariant-loop-n : goal.invariant-loop-n
invariant-loop-n g l = Read (order_if (not (nat_eq g.row.BIG 0))) l.s l.at.0 g.row.W l.v l.p l.n
