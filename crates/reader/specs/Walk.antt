-- What the walk makes of geometries that were read: where it ends, and what lists their rows.
use Rattle.std.specs.Prelude.{ℕ, ◌+◌, ◌-◌, ◌≤◌, Result, Ok, Err}
use Rattle.meaning.specs.declared.Offset.{Offset}
use Rattle.meaning.specs.declared.Refusal.{Refusal}
use Rattle.meaning.specs.declared.Row.{Row}
use Rattle.meaning.specs.declared.RowFields.{RowFields}
use Rattle.meaning.specs.Grammar.{Forest, Place, rings, geometries}
use Rattle.meaning.specs.Answer.{Answer, refused, answered, refusal}
use Rattle.meaning.specs.Table.{rows_in, rows, RowFits}
use Rattle.meaning.proofs.Levels.{Enough}
use Rattle.reader.specs.declared.body.Body.{Body}
use Rattle.reader.specs.declared.geometry.Head.{Head}
use Rattle.reader.specs.declared.opened.Opened.{Opened}
use Rattle.reader.specs.declared.spot.Spot.{Spot}
use Rattle.reader.specs.Rows.{Lists, list_rows}

-- the fields of a row that a header opens
abbrev pub row_from : Head → Offset → ℕ → Offset → Offset → ℕ → ℕ → RowFields
row_from h start l body end n s = record {
  kind = h.kind;
  dimension = h.dimension;
  order = h.order;
  srid = h.srid;
  level = l;
  start = start;
  end = end;
  count = n;
  subtree = s;
  body = body;
}

-- the row of what was opened, by its body and the next row
abbrev pub closed : Opened → Body → Row → RowFields
closed o b next = row_from o.head o.spot.at o.level b.start b.end b.count (next.0 - o.spot.row.0)

-- the next row is behind it, with bytes for each, and each field fits its bits
abbrev pub Closable : Opened → Body → Row → Type 0
Closable o b next = (o.spot.row.0 ≤ next.0) × (next.0 ≤ b.end.0) × RowFits (closed o b next)

-- the offset behind, the next row, and what listed the rows
abbrev pub State : Type 0 → Type 0
State S = ℕ × ℕ × S

-- what becomes of siblings that begin at an offset, at a level, with their first row
abbrev pub whole : {S : Type 0} → Lists S → ℕ → ℕ → ℕ → S → Answer (Forest × ℕ) → Answer (State S)
whole list r l at s (refused n p) = refused n p
whole list r l at s (answered x) = answered (x.1, r + rows_in x.0, list_rows list s r (rows at l x.0))

-- what a walk's answer and what listed the rows say; of a refused walk the latter does not count
abbrev pub walked : {S : Type 0} → Result Spot Refusal → S → Answer (State S)
walked (Ok e) s = answered (e.at.0, e.row.0, s)
walked (Err x) s = refusal x

-- nineteen levels are enough at this place and level, and the level is a small number
abbrev pub Room : Place → ℕ → Type 0
Room (rings o d) l = l ≤ 18
Room (geometries a) l = Enough (geometries a) l 19 × (l ≤ 17)
