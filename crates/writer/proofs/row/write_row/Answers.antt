-- A row is written in three parts, each behind the other. Assumes nothing.
use Rattle.std.proofs.Common.{refl, arith}
use Rattle.meaning.specs.Writer.{iso_header}
use Rattle.meaning.proofs.Sizes.{header_size}
use Rattle.writer.specs.Rows.{plain_header}
use Rattle.writer.proofs.Chained.{length_row, count_starts, count_room, body_starts, body_room, row_put}
use Rattle.writer.proofs.row.write_row.Goals as goal

pub write_header-counted-requires : goal.write_header-counted-requires
write_header-counted-requires c =
    let a = c.args in
    omega (arith, c.requires.1, length_row a.buf.now a.order a.row, header_size (iso_header a.order (plain_header a.row.kind a.row.dimension a.order)))

pub slice_bounds-write_count-count : goal.slice_bounds-write_count-count
slice_bounds-write_count-count c =
    let a = c.args in
    let h = plain_header a.row.kind a.row.dimension a.order in
    let w = c.write_header-counted in
    count_starts a.buf.now a.order a.row a.out.now w.new.out w.result (w.ensures.length h refl refl) (w.ensures.written h refl refl) c.requires.1

pub slice_bounds-write_count-start : goal.slice_bounds-write_count-start
slice_bounds-write_count-start c =
    let a = c.args in
    let h = plain_header a.row.kind a.row.dimension a.order in
    let w = c.write_header-counted in
    count_starts a.buf.now a.order a.row a.out.now w.new.out w.result (w.ensures.length h refl refl) (w.ensures.written h refl refl) c.requires.1

pub write_count-requires : goal.write_count-requires
write_count-requires c =
    let a = c.args in
    let h = plain_header a.row.kind a.row.dimension a.order in
    let w = c.write_header-counted in
    count_room a.buf.now a.order a.row a.out.now w.new.out w.result (w.ensures.length h refl refl) (w.ensures.written h refl refl) c.requires.1

pub slice_bounds-write_ordinates-count : goal.slice_bounds-write_ordinates-count
slice_bounds-write_ordinates-count c =
    let a = c.args in
    let h = plain_header a.row.kind a.row.dimension a.order in
    let w = c.write_header-counted in
    let n = c.write_count in
    body_starts a.buf.now a.order a.row a.out.now w.new.out w.result (w.ensures.length h refl refl) (w.ensures.written h refl refl) c.requires.1
    n.new.out n.result n.ensures.1 n.ensures.0

pub slice_bounds-write_ordinates-start : goal.slice_bounds-write_ordinates-start
slice_bounds-write_ordinates-start c =
    let a = c.args in
    let h = plain_header a.row.kind a.row.dimension a.order in
    let w = c.write_header-counted in
    let n = c.write_count in
    body_starts a.buf.now a.order a.row a.out.now w.new.out w.result (w.ensures.length h refl refl) (w.ensures.written h refl refl) c.requires.1
    n.new.out n.result n.ensures.1 n.ensures.0

pub write_ordinates-requires : goal.write_ordinates-requires
write_ordinates-requires c =
    let a = c.args in
    let h = plain_header a.row.kind a.row.dimension a.order in
    let w = c.write_header-counted in
    let n = c.write_count in (
      c.requires.0,
      body_room a.buf.now a.order a.row a.out.now w.new.out w.result (w.ensures.length h refl refl) (w.ensures.written h refl refl) c.requires.1
          n.new.out n.result n.ensures.1 n.ensures.0,
    )

pub returns : goal.returns
returns c =
    let a = c.args in
    let h = plain_header a.row.kind a.row.dimension a.order in
    let w = c.write_header-counted in
    let n = c.write_count in
    let m = c.write_ordinates in
    row_put a.buf.now a.order a.row a.out.now w.new.out w.result (w.ensures.length h refl refl) (w.ensures.written h refl refl) c.requires.1
    n.new.out n.result n.ensures.1 n.ensures.0 m.new.out m.result m.ensures.1 m.ensures.0
