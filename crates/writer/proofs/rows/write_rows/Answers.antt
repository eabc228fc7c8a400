-- Each row is written behind its elders. Assumes nothing.
use Rattle.std.proofs.Common.{sym, subst}
use Rattle.meaning.specs.declared.RowFields.{RowFields}
use Rattle.meaning.specs.Table.{fetch}
use Rattle.writer.specs.Rows.{Within}
use Rattle.writer.proofs.Turns.{none_written, row_room, row_behind}
use Rattle.writer.proofs.rows.write_rows.Goals as goal

pub loop-n-init : goal.loop-n-init
loop-n-init c =
    let (e, l) = none_written c.args.buf.now (fetch c.args.table.now) c.args.order c.args.out.now in
    record { written = e; length = l }

pub write_row-at-requires : goal.write_row-at-requires
write_row-at-requires c =
    let a = c.args in
    let l = c.loop-n in (
      subst (λ (x : RowFields). Within a.buf.now x) (sym c.fetch.ensures) (c.requires.within l.n c.loop-n-test.true),
      row_room a.buf.now (fetch a.table.now) a.order l.n a.rows c.loop-n-test.true l.out a.out.now l.at l.invariant.written l.invariant.length c.fetch.result c.fetch.ensures c.requires.roomy,
    )

pub loop-n-preserved : goal.loop-n-preserved
loop-n-preserved c =
    let a = c.args in
    let l = c.loop-n in
    let w = c.write_row-at in
    let (e, k) =
    row_behind a.buf.now (fetch a.table.now) a.order l.n a.rows c.loop-n-test.true l.out a.out.now l.at l.invariant.written l.invariant.length c.fetch.result c.fetch.ensures
    w.new.out w.result w.ensures.1 w.ensures.0 in
    record { written = e; length = k }
