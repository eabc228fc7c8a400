use Rattle.std.proofs.Common.{ap, ◌∙◌, ◌+◌}
use Rattle.std.proofs.lemmas.Result.{err_from_is_err_and}
use Rattle.meaning.specs.Answer.{answered}
use Rattle.reader.proofs.There.{num_there, num_away}
use Rattle.reader.proofs.util.read_u32.Goals as goal

pub returns-in_err-there : goal.returns-in_err-there
returns-in_err-there c =
    let p = err_from_is_err_and c.from_residual.result c.from_residual.ensures.1 in
    rw (p.1, p.2) (num_away c.args.buf.now c.args.at c.args.order c.in_err-there.ensures)

pub returns : goal.returns
returns c =
    let a = c.args in
    ap (λ n. answered (n, a.at.0 + 4)) c.read.ensures.0 ∙ num_there a.buf.now a.at a.order c.in_ok-there.ensures
