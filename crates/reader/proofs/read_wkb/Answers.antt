use Rattle.std.proofs.Common.{List, ℕ, refl, ap, ◌∙◌, arith, rules}
use Rattle.meaning.specs.Answer.{answered}
use Rattle.reader.proofs.Tables.{read_filled}
use Rattle.reader.proofs.read_wkb.Goals as goal

pub returns : goal.returns
returns c =
    let a = c.args in
    let end = c.in_ok-end.end in
    let k =
    read_filled a.buf.now a.table.now _ _ (end.at.0, end.row.0, c.walk_outermost.new.rows) c.in_ok-end.ensures (omega (arith, c.if-table-rows.false)) _
    c.walk_outermost-2.result c.walk_outermost-2.new.rows refl c.walk_outermost-2.ensures in
    let filled = k.2 in
    ap (λ (t : List ℕ). (answered (end.at.0, end.row.0), t)) (search rules) ∙ k.1
