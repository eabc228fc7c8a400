-- The dispatch over kinds and the walk over siblings meet their contracts. Assumes nothing.
use Rattle.std.proofs.Common.{◌+◌, sym, ap, subst, ◌∙◌, arith}
use Rattle.std.proofs.lemmas.Result.{err_from_is_err_and}
use Rattle.meaning.specs.Grammar.{Place, holds_coordinates}
use Rattle.reader.specs.declared.geometry.Head.{Head}
use Rattle.reader.specs.declared.place.Siblings.{Siblings}
use Rattle.reader.specs.Asks.{place_meant}
use Rattle.reader.specs.Walk.{State, Room}
use Rattle.reader.proofs.Known.{bytes_known}
use Rattle.reader.proofs.There.{num_within}
use Rattle.reader.proofs.Walks.{turn, turned_away, none_left, onward}
use Rattle.reader.proofs.Closings.{count_refused, children_refused, closed_whole, closable}
use Rattle.reader.proofs.Geometries.{refused_head, by_body, room_level, room_inside, opens, leaves, parents}
use Rattle.reader.proofs.+geometry_collection.Goals as goal

-- a header that is refused
pub geometry::geometry-returns-in_err-head : goal.geometry::geometry-returns-in_err-head
geometry::geometry-returns-in_err-head g t c =
    let a = c.args in
    let p = err_from_is_err_and c.from_residual.result c.from_residual.ensures.1 in
    rw (p.1, p.2) (refused_head a.buf.now c.type_inv.buf (place_meant a.place.siblings) a.place.level a.spot.at.0 c.requires.1 g.R.Rows.listed a.rows.now a.spot.row.0 _ _ c.in_err-head.ensures)

-- a Point, a LineString or a ring
pub geometry::geometry-leaf-requires : goal.geometry::geometry-leaf-requires
geometry::geometry-leaf-requires g t c =
    let a = c.args in
    let hd = c.in_ok-head.head in
    let o = opens a.buf.now c.type_inv.buf (place_meant a.place.siblings) a.place.level a.spot.at.0 c.in_ok-head.ensures in
    (c.requires.0, o.onward, room_level (place_meant a.place.siblings) a.place.level c.requires.1, leaves hd.kind c.in-Ring.is)

pub geometry::geometry-returns-in-Ring : goal.geometry::geometry-returns-in-Ring
geometry::geometry-returns-in-Ring g t c =
    let a = c.args in
    by_body a.buf.now c.type_inv.buf (place_meant a.place.siblings) a.place.level a.spot.at.0 c.requires.1 g.R.Rows.listed a.rows.now a.spot.row.0 c.in_ok-head.ensures c.leaf.ensures

-- a parent with no count
pub geometry::geometry-returns-in_err-count-in_default :
    goal.geometry::geometry-returns-in_err-count-in_default
geometry::geometry-returns-in_err-count-in_default g t c =
    let a = c.args in
    let hd = c.in_ok-head.head in
    let k = parents hd.kind c.in_default.not-Ring c.in_default.not-Point c.in_default.not-LineString in
    let p = err_from_is_err_and c.from_residual-in_err-count-in_default.result c.from_residual-in_err-count-in_default.ensures.1 in
    rw (p.1, p.2)
    (by_body a.buf.now c.type_inv.buf (place_meant a.place.siblings) a.place.level a.spot.at.0 c.requires.1 g.R.Rows.listed a.rows.now a.spot.row.0 c.in_ok-head.ensures
    (λ h heads. count_refused a.buf.now (bytes_known a.buf.now c.type_inv.buf) g.R.Rows.listed a.rows.now a.spot.row.0 a.place.level a.spot.at.0 hd h heads k _ _ c.in_err-count-in_default.ensures))

pub geometry::geometry-overflow_add-start : goal.geometry::geometry-overflow_add-start
geometry::geometry-overflow_add-start g t c =
    let hd = c.in_ok-head.head in
    let four = num_within c.args.buf.now hd.next hd.order c.in_ok-count-in_default.ensures in
    omega arith

pub geometry::geometry-overflow_add-first : goal.geometry::geometry-overflow_add-first
geometry::geometry-overflow_add-first g t c =
    let a = c.args in
    let hd = c.in_ok-head.head in
    let o = opens a.buf.now c.type_inv.buf (place_meant a.place.siblings) a.place.level a.spot.at.0 c.in_ok-head.ensures in
    let four = num_within a.buf.now hd.next hd.order c.in_ok-count-in_default.ensures in
    omega (arith, o.onward, a.spot.rows)

pub geometry::geometry-invariant_of-first : goal.geometry::geometry-invariant_of-first
geometry::geometry-invariant_of-first g t c =
    let a = c.args in
    let o = opens a.buf.now c.type_inv.buf (place_meant a.place.siblings) a.place.level a.spot.at.0 c.in_ok-head.ensures in
    record { rows = omega (arith, o.onward, a.spot.rows) }

-- its children
pub geometry::geometry-collection-requires : goal.geometry::geometry-collection-requires
geometry::geometry-collection-requires g t c κs within =
    let a = c.args in
    let hd = c.in_ok-head.head in
    let o = opens a.buf.now c.type_inv.buf (place_meant a.place.siblings) a.place.level a.spot.at.0 c.in_ok-head.ensures in
    let k = parents hd.kind c.in_default.not-Ring c.in_default.not-Point c.in_default.not-LineString in
    let four = num_within a.buf.now hd.next hd.order c.in_ok-count-in_default.ensures in
    let room = room_inside (place_meant a.place.siblings) a.place.level o.h c.requires.1 o.holds (ap (λ (x : Head). holds_coordinates x.kind) o.heads.same ∙ k) in
    (omega (arith, o.onward, c.decreases), (within, (c.requires.0, subst (λ (x : Place). Room x (a.place.level + 1)) (c.inside.ensures o.h o.heads.same) room)))

pub geometry::geometry-returns-in_err-behind-in_default :
    goal.geometry::geometry-returns-in_err-behind-in_default
geometry::geometry-returns-in_err-behind-in_default g t c =
    let a = c.args in
    let hd = c.in_ok-head.head in
    let k = parents hd.kind c.in_default.not-Ring c.in_default.not-Point c.in_default.not-LineString in
    let p = err_from_is_err_and c.from_residual-in_err-behind-in_default.result c.from_residual-in_err-behind-in_default.ensures.1 in
    rw (p.1, p.2)
    (by_body a.buf.now c.type_inv.buf (place_meant a.place.siblings) a.place.level a.spot.at.0 c.requires.1 g.R.Rows.listed a.rows.now a.spot.row.0 c.in_ok-head.ensures
    (λ h heads.
    children_refused a.buf.now (bytes_known a.buf.now c.type_inv.buf) g.R.Rows.listed a.rows.now a.spot.row.0 a.place.level a.spot.at.0 hd h heads k _ c.in_ok-count-in_default.ensures
    _ (c.inside.ensures h heads.same) _ _ c.in_err-behind-in_default.ensures))

-- its own row
pub geometry::geometry-close-requires :
    goal.geometry::geometry-close-requires
geometry::geometry-close-requires g t c =
    let a = c.args in
    let hd = c.in_ok-head.head in
    let o = opens a.buf.now c.type_inv.buf (place_meant a.place.siblings) a.place.level a.spot.at.0 c.in_ok-head.ensures in
    let k = parents hd.kind c.in_default.not-Ring c.in_default.not-Point c.in_default.not-LineString in
    let four = num_within a.buf.now hd.next hd.order c.in_ok-count-in_default.ensures in
    let lv = room_level (place_meant a.place.siblings) a.place.level c.requires.1 in
    let e = c.in_ok-behind-in_default.behind in
    let fits =
    closable a.buf.now (bytes_known a.buf.now c.type_inv.buf) g.R.Rows.listed a.rows.now a.spot.row.0 a.place.level a.spot.at.0 hd o.h o.heads k _ c.in_ok-count-in_default.ensures
    _ (c.inside.ensures o.h o.heads.same) (e.at.0, e.row.0, c.collection.new.rows) c.in_ok-behind-in_default.ensures (omega arith) c.requires.0 (omega arith) in
    (fits.0, e.rows, fits.1)

pub geometry::geometry-returns-in_ok-behind-in_default :
    goal.geometry::geometry-returns-in_ok-behind-in_default
geometry::geometry-returns-in_ok-behind-in_default g t c =
    let a = c.args in
    let hd = c.in_ok-head.head in
    let k = parents hd.kind c.in_default.not-Ring c.in_default.not-Point c.in_default.not-LineString in
    let e = c.in_ok-behind-in_default.behind in
    rw (c.close.ensures.0, c.close.ensures.1, c.close.ensures.2)
    (by_body a.buf.now c.type_inv.buf (place_meant a.place.siblings) a.place.level a.spot.at.0 c.requires.1 g.R.Rows.listed a.rows.now a.spot.row.0 c.in_ok-head.ensures
    (λ h heads.
    closed_whole a.buf.now (bytes_known a.buf.now c.type_inv.buf) g.R.Rows.listed a.rows.now a.spot.row.0 a.place.level a.spot.at.0 hd h heads k _ c.in_ok-count-in_default.ensures
    _ (c.inside.ensures h heads.same) (e.at.0, e.row.0, c.collection.new.rows) c.in_ok-behind-in_default.ensures))

-- rings
pub geometry_collection::collection-rings-requires :
    goal.geometry_collection::collection-rings-requires
geometry_collection::collection-rings-requires g t c =
    let a = c.args in
    (c.requires.0, subst (λ (x : Siblings). Room (place_meant x) a.place.level) c.in-Rings.is c.requires.1)

pub geometry_collection::collection-returns-in-Rings :
    goal.geometry_collection::collection-returns-in-Rings
geometry_collection::collection-returns-in-Rings g t c = rw c.in-Rings.is c.rings.ensures

-- full geometries
pub geometry_collection::collection-returns-in_err-spot :
    goal.geometry_collection::collection-returns-in_err-spot
geometry_collection::collection-returns-in_err-spot g t c =
    let l = c.loop in
    let a = c.args in
    let p = err_from_is_err_and c.from_residual.result c.from_residual.ensures.1 in
    rw (p.1, p.2)
    (turned_away g.R.Rows.listed g.R.Rows.any_order a.place.level a.buf.now (bytes_known a.buf.now c.type_inv.buf) (place_meant a.place.siblings) a.count l.counter l.spot.row.0 l.spot.at.0 l.rows c.loop-test.true
    _ _ c.in_err-spot.ensures
    ∙ l.invariant.rest)

pub geometry_collection::collection-loop-preserved :
    goal.geometry_collection::collection-loop-preserved
geometry_collection::collection-loop-preserved g t c =
    let l = c.loop in
    let a = c.args in
    let b = bytes_known a.buf.now c.type_inv.buf in
    let e = c.in_ok-spot.spot in
    let st : State g.row.R.Denot = (e.at.0, e.row.0, c.geometry.new.rows) in
    let further = onward g.R.Rows.listed g.R.Rows.any_order a.place.level a.buf.now b (place_meant a.place.siblings) 1 l.spot.row.0 l.spot.at.0 l.rows st c.in_ok-spot.ensures in
    record {
      onward = omega (arith, further.0, l.invariant.onward);
      rest =
          sym (turn g.R.Rows.listed g.R.Rows.any_order a.place.level a.buf.now b (place_meant a.place.siblings) a.count l.counter l.spot.row.0 l.spot.at.0 l.rows c.loop-test.true st c.in_ok-spot.ensures)
          ∙ l.invariant.rest;
    }

pub geometry_collection::collection-returns : goal.geometry_collection::collection-returns
geometry_collection::collection-returns g t c =
    let l = c.loop in
    let a = c.args in
    none_left g.R.Rows.listed g.R.Rows.any_order a.place.level a.buf.now (bytes_known a.buf.now c.type_inv.buf) (place_meant a.place.siblings) a.count l.counter l.spot.row.0 l.spot.at.0 l.rows c.loop-test.false
    ∙ l.invariant.rest
