-- The measure is twice the bytes that are left, and one more for siblings. Their loop's invariant: what is left, from here, comes to what
-- all comes to from the start. Assumes nothing.
use Rattle.std.proofs.Common.{◌≡◌, ◌+◌, ◌*◌, ◌-◌, ◌≤◌, length}
use Rattle.meaning.specs.Reading.{forest}
use Rattle.reader.specs.Asks.{place_meant}
use Rattle.reader.specs.Walk.{whole}
use Rattle.reader.proofs.+geometry_collection.Given as goal

abbrev pub decreases-geometry::geometry : goal.decreases-geometry::geometry
decreases-geometry::geometry g l = 2 * (length l.buf.now - l.spot.at.0)

abbrev pub decreases-geometry_collection::collection :
    goal.decreases-geometry_collection::collection
decreases-geometry_collection::collection g l = 2 * (length l.buf.now - l.first.at.0) + 1

abbrev pub invariant-geometry_collection::collection-loop :
    goal.invariant-geometry_collection::collection-loop
invariant-geometry_collection::collection-loop g l =
    let list = g.R.Rows.listed in
    record {
      onward : l.initial.spot.at.0 ≤ l.spot.at.0;
      rest :
          whole list l.spot.row.0 l.place.level l.spot.at.0 l.rows (forest l.buf 19 (l.count - l.counter) (place_meant l.place.siblings) l.place.level l.spot.at.0)
          ≡ whole list l.initial.spot.row.0 l.place.level l.initial.spot.at.0 l.initial.rows (forest l.buf 19 l.count (place_meant l.place.siblings) l.place.level l.initial.spot.at.0);
    }
