use Rattle.std.proofs.Common.{arith}
use Rattle.fields.proofs.Digits.{put_next, put_all}
use Rattle.fields.proofs.number.put.Goals as goal

pub loop-n-preserved : goal.loop-n-preserved
loop-n-preserved g c = put_next c.loop-n.invariant (omega arith) (omega arith) (omega arith) c.place.ensures.0

pub returns : goal.returns
returns g c = put_all c.loop-n.invariant (omega arith)
