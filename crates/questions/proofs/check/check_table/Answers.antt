-- The walk that compares decides, where the table has as many rows. Assumes nothing.
use Rattle.std.proofs.Common.{refl, arith}
use Rattle.questions.proofs.Checks.{all_rows}
use Rattle.questions.proofs.check.check_table.Goals as goal

pub returns-then-end-table : goal.returns-then-end-table
returns-then-end-table c =
    let end = c.in-Ok.end in
    all_rows c.args.buf.now _ refl (end.at.0, end.row.0, c.walk_outermost.new.rows) c.in-Ok.ensures (omega (arith, c.if-end-table.true))
