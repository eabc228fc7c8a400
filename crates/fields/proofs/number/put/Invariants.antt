use Rattle.std.proofs.Common.{not, nat_eq}
use Rattle.fields.specs.Place.{order_if}
use Rattle.fields.proofs.Digits.{Put}
use Rattle.fields.proofs.number.put.Given as goal

abbrev pub invariant-loop-n : goal.invariant-loop-n
invariant-loop-n g l = Put (order_if (not (nat_eq g.row.BIG 0))) l.at.0 g.row.W l.x l.initial.s l.y l.n l.s
