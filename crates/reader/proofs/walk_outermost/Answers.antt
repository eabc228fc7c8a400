use Rattle.std.proofs.Common.{sym, ap, ◌∙◌}
use Rattle.meaning.proofs.Accepted.{reading_short}
use Rattle.reader.specs.Walk.{whole}
use Rattle.reader.proofs.Tables.{reading_long}
use Rattle.reader.proofs.walk_outermost.Goals as goal

pub returns-then-buf-gt-LONGEST : goal.returns-then-buf-gt-LONGEST
returns-then-buf-gt-LONGEST g c = sym (ap (whole g.R.Rows.listed 0 0 0 c.args.rows.now) (reading_long c.args.buf.now c.if-buf-gt-LONGEST.true))

pub returns : goal.returns
returns g c = c.geometry.ensures ∙ sym (ap (whole g.R.Rows.listed 0 0 0 c.args.rows.now) (reading_short c.args.buf.now c.if-buf-gt-LONGEST.false))
