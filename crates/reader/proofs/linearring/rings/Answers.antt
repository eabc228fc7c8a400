-- Ring by ring. Assumes nothing.
use Rattle.std.proofs.Common.{sym, ap, ◌∙◌, arith}
use Rattle.std.proofs.lemmas.Result.{err_from_is_err_and}
use Rattle.meaning.specs.Grammar.{ring_header, rings, holds_coordinates}
use Rattle.reader.specs.declared.geometry.Head.{Head}
use Rattle.reader.specs.Walk.{State}
use Rattle.reader.proofs.Known.{bytes_known}
use Rattle.reader.proofs.Walks.{turn, turned_away, none_left}
use Rattle.reader.proofs.Leaves.{ring_heads, ring_whole}
use Rattle.reader.proofs.linearring.rings.Goals as goal

pub leaf-requires : goal.leaf-requires
leaf-requires g c =
    let next = ap (λ (x : Head). x.next.0) c.ring-head.ensures in
    (c.requires.0, omega arith, c.requires.1, ap (λ (x : Head). holds_coordinates x.kind) c.ring-head.ensures)

pub returns-in_err-spot : goal.returns-in_err-spot
returns-in_err-spot g c =
    let l = c.loop in
    let a = c.args in
    let b = bytes_known a.buf.now c.type_inv.buf in
    let p = err_from_is_err_and c.from_residual.result c.from_residual.ensures.1 in
    rw (p.1, p.2)
    (turned_away g.R.Rows.listed g.R.Rows.any_order a.level a.buf.now b (rings a.order a.dimension) a.count l.counter l.spot.row.0 l.spot.at.0 l.rows c.loop-test.true _ _
    (c.in_err-spot.ensures (ring_header a.order a.dimension) (ring_heads c.ring-head.ensures)
    ∙ ring_whole a.buf.now b g.R.Rows.listed l.rows l.spot.row.0 a.level c.ring-head.ensures)
    ∙ l.invariant)

pub loop-preserved : goal.loop-preserved
loop-preserved g c =
    let l = c.loop in
    let a = c.args in
    let b = bytes_known a.buf.now c.type_inv.buf in
    let e = c.in_ok-spot.spot in
    let st : State g.row.R.Denot = (e.at.0, e.row.0, c.leaf.new.rows) in
    sym (turn g.R.Rows.listed g.R.Rows.any_order a.level a.buf.now b (rings a.order a.dimension) a.count l.counter l.spot.row.0 l.spot.at.0 l.rows c.loop-test.true st
    (c.in_ok-spot.ensures (ring_header a.order a.dimension) (ring_heads c.ring-head.ensures)
    ∙ ring_whole a.buf.now b g.R.Rows.listed l.rows l.spot.row.0 a.level c.ring-head.ensures))
    ∙ l.invariant

pub returns : goal.returns
returns g c =
    let l = c.loop in
    let a = c.args in
    none_left g.R.Rows.listed g.R.Rows.any_order a.level a.buf.now (bytes_known a.buf.now c.type_inv.buf) (rings a.order a.dimension) a.count l.counter l.spot.row.0 l.spot.at.0 l.rows c.loop-test.false
    ∙ l.invariant
