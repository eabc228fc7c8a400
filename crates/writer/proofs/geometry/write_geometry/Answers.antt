-- The first row of a checked table says how many bytes are needed, and the rows are written. Assumes nothing.
use Rattle.std.proofs.Common.{◌<◌, sym, ◌∙◌, arith}
use Rattle.meaning.proofs.Lists.{each_at}
use Rattle.writer.proofs.Ready.{ready, ends, too_short, writable, all_written}
use Rattle.writer.proofs.geometry.write_geometry.Goals as goal

pub fetch-outermost-requires : goal.fetch-outermost-requires
fetch-outermost-requires c =
    let a = c.args in
    let y = ready a.buf.now (each_at (λ x. x < 256) a.buf.now 0 (λ i. omega (arith, c.type_inv.buf i))) a.table.now (sym c.check_table.ensures ∙ c.if-not-check_table.false) a.order in
    y.some

pub overflow_sub-needed : goal.overflow_sub-needed
overflow_sub-needed c =
    let a = c.args in
    let y = ready a.buf.now (each_at (λ x. x < 256) a.buf.now 0 (λ i. omega (arith, c.type_inv.buf i))) a.table.now (sym c.check_table.ensures ∙ c.if-not-check_table.false) a.order in
    let e = ends a.buf.now a.table.now a.order y c.fetch-outermost.result c.fetch-outermost.ensures c.from.result c.from.ensures in
    omega arith

pub returns-then-out-needed : goal.returns-then-out-needed
returns-then-out-needed c =
    let a = c.args in
    let y = ready a.buf.now (each_at (λ x. x < 256) a.buf.now 0 (λ i. omega (arith, c.type_inv.buf i))) a.table.now (sym c.check_table.ensures ∙ c.if-not-check_table.false) a.order in
    too_short a.buf.now a.table.now a.order y c.fetch-outermost.result c.fetch-outermost.ensures c.from.result c.from.ensures a.out.now c.if-out-needed.true

pub write_rows-requires : goal.write_rows-requires
write_rows-requires c =
    let a = c.args in
    let y = ready a.buf.now (each_at (λ x. x < 256) a.buf.now 0 (λ i. omega (arith, c.type_inv.buf i))) a.table.now (sym c.check_table.ensures ∙ c.if-not-check_table.false) a.order in
    writable a.buf.now a.table.now a.order y c.fetch-outermost.result c.fetch-outermost.ensures c.from.result c.from.ensures a.out.now c.if-out-needed.false

pub returns : goal.returns
returns c =
    let a = c.args in
    let y = ready a.buf.now (each_at (λ x. x < 256) a.buf.now 0 (λ i. omega (arith, c.type_inv.buf i))) a.table.now (sym c.check_table.ensures ∙ c.if-not-check_table.false) a.order in
    all_written a.buf.now a.table.now a.order y c.fetch-outermost.result c.fetch-outermost.ensures c.from.result c.from.ensures a.out.now c.write_rows.new.out c.if-out-needed.false
    c.write_rows.ensures.0
