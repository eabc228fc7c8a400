-- What is left, from here, comes to what all comes to from the start. Assumes nothing.
use Rattle.std.proofs.Common.{◌≡◌, ◌-◌}
use Rattle.meaning.specs.Grammar.{rings}
use Rattle.meaning.specs.Reading.{forest}
use Rattle.reader.specs.Walk.{whole}
use Rattle.reader.proofs.linearring.rings.Given as goal

abbrev pub invariant-loop : goal.invariant-loop
invariant-loop g l =
    whole g.R.Rows.listed l.spot.row.0 l.level l.spot.at.0 l.rows (forest l.buf 19 (l.count - l.counter) (rings l.order l.dimension) l.level l.spot.at.0)
    ≡ whole g.R.Rows.listed l.initial.spot.row.0 l.level l.initial.spot.at.0 l.initial.rows (forest l.buf 19 l.count (rings l.order l.dimension) l.level l.initial.spot.at.0)
