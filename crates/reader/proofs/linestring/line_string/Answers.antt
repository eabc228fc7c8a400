use Rattle.std.proofs.Common.{ap, sym, ◌∙◌, ◌+◌, arith}
use Rattle.std.proofs.lemmas.Result.{err_from_is_err_and}
use Rattle.meaning.specs.Answer.{refusal}
use Rattle.reader.proofs.There.{there_good, there_past, num_within}
use Rattle.reader.proofs.Leaves.{line_few, line_all}
use Rattle.reader.proofs.linestring.line_string.Goals as goal

pub overflow_add-start : goal.overflow_add-start
overflow_add-start c = let four = num_within c.args.buf.now c.args.head.next c.args.head.order c.in_ok-count.ensures in omega arith

pub returns-in_err-there : goal.returns-in_err-there
returns-in_err-there c =
    let a = c.args in
    let p = err_from_is_err_and c.from_residual-in_err-there.result c.from_residual-in_err-there.ensures.1 in
    let (lt, e) = there_past a.buf.now (record { 0 = a.head.next.0 + 4 }) _ c.in_err-there.ensures in
    rw (p.1, p.2) (ap refusal (sym e) ∙ line_few a.buf.now a.head c.size.result c.in_ok-count.field-0 c.size.ensures c.in_ok-count.ensures lt)

pub overflow_add-result : goal.overflow_add-result
overflow_add-result c =
    let four = num_within c.args.buf.now c.args.head.next c.args.head.order c.in_ok-count.ensures in
    let le = there_good c.args.buf.now (record { 0 = c.args.head.next.0 + 4 }) _ c.in_ok-there.ensures in
    omega arith

pub returns : goal.returns
returns c =
    let a = c.args in
    let le = there_good a.buf.now (record { 0 = a.head.next.0 + 4 }) _ c.in_ok-there.ensures in
    line_all a.buf.now a.head c.size.result c.in_ok-count.field-0 c.size.ensures c.in_ok-count.ensures le
