use Rattle.std.proofs.Common.{arith}
use Rattle.fields.proofs.Digits.{read_none, digit_room, read_next, read_all}
use Rattle.fields.proofs.number.number.Goals as goal

pub loop-n-init : goal.loop-n-init
loop-n-init g c = read_none

pub overflow_mul-v : goal.overflow_mul-v
overflow_mul-v g c = omega (arith, digit_room c.loop-n.invariant {x = c.from.result} (omega arith) (omega arith) (omega arith))

pub overflow_add-v : goal.overflow_add-v
overflow_add-v g c = omega (arith, digit_room c.loop-n.invariant {x = c.from.result} (omega arith) (omega arith) (omega arith))

pub loop-n-preserved : goal.loop-n-preserved
loop-n-preserved g c = read_next c.loop-n.invariant (omega arith) (omega arith) (omega arith) (omega arith) c.place.ensures.0 c.from.ensures (omega arith)

pub returns : goal.returns
returns g c = read_all c.loop-n.invariant (omega arith)
