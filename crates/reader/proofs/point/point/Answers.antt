use Rattle.std.proofs.Common.{ap, sym, ◌∙◌}
use Rattle.std.proofs.lemmas.Result.{err_from_is_err_and}
use Rattle.meaning.specs.Answer.{refusal}
use Rattle.reader.proofs.There.{there_good, there_past}
use Rattle.reader.proofs.Leaves.{point_few, point_all}
use Rattle.reader.proofs.point.point.Goals as goal

pub returns-in_err-there : goal.returns-in_err-there
returns-in_err-there c =
    let a = c.args in
    let p = err_from_is_err_and c.from_residual.result c.from_residual.ensures.1 in
    let (lt, e) = there_past a.buf.now a.head.next _ c.in_err-there.ensures in
    rw (p.1, p.2) (ap refusal (sym e) ∙ point_few a.buf.now a.head c.size-ordinates.result c.size-ordinates.ensures lt)

pub returns : goal.returns
returns c =
    let a = c.args in
    let le = there_good a.buf.now a.head.next _ c.in_ok-there.ensures in
    point_all a.buf.now a.head c.size-ordinates.result _ c.size-ordinates.ensures c.point_count.ensures le
