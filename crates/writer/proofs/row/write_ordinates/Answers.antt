-- An empty Point's numbers, or the coordinates that stand in the buffer. Assumes nothing.
use Rattle.std.proofs.Common.{◌≡◌, ◌≤◌, arith}
use Rattle.meaning.specs.declared.Kind.TheVariants.{Point}
use Rattle.meaning.specs.Code.{kind_number}
use Rattle.writer.proofs.Parts.{length_emptied, empty_put, length_filled, length_part, full_put}
use Rattle.writer.proofs.row.write_ordinates.Goals.{then-row-eq0+in_default, else-row-eq0}
use Rattle.writer.proofs.row.write_ordinates.Goals as goal

pub write_empty_point-requires : goal.write_empty_point-requires
write_empty_point-requires c = omega (arith, c.requires.1, length_emptied c.args.buf.now c.args.order c.args.row c.in-Point.is c.if-row-eq0.true)

pub returns-in-Point : goal.returns-in-Point
returns-in-Point c =
    empty_put c.args.buf.now c.args.order c.args.row c.in-Point.is c.if-row-eq0.true c.write_empty_point.new.out c.args.out.now c.size.result c.size.ensures c.write_empty_point.ensures

pub write_coordinates-requires : goal.write_coordinates-requires
write_coordinates-requires c =
    let a = c.args in
    let few : kind_number a.row.kind ≤ 2 = omega (arith, c.if-from-gt2.false, c.from.ensures) in
    let some : a.row.kind ≡ Point → a.row.count ≡ 0 → ⊥ = elim c.if-row-eq0.branch [ then-row-eq0+in_default w ↦ λ k n. w.in_default.not-Point k | else-row-eq0 w ↦ λ k n. w.if-row-eq0.false n ] in
    let l = length_part a.buf.now a.order a.row few some c.requires.0 c.size-2.result c.size-2.ensures in
    let m = length_filled a.buf.now a.order a.row few some c.requires.0 c.size-2.result c.size-2.ensures in
    (omega (arith, l), omega (arith, l, m, c.requires.1))

pub returns : goal.returns
returns c =
    let a = c.args in
    let few : kind_number a.row.kind ≤ 2 = omega (arith, c.if-from-gt2.false, c.from.ensures) in
    let some : a.row.kind ≡ Point → a.row.count ≡ 0 → ⊥ = elim c.if-row-eq0.branch [ then-row-eq0+in_default w ↦ λ k n. w.in_default.not-Point k | else-row-eq0 w ↦ λ k n. w.if-row-eq0.false n ] in
    full_put a.buf.now a.order a.row few some c.requires.0 c.size-2.result c.size-2.ensures c.write_coordinates.new.out a.out.now c.write_coordinates.ensures
