-- What a question about a listed row answers, by the node that the row lists: with no table in it, and no offset.
use Rattle.std.specs.Prelude.{ℕ, zero, suc, ◌+◌, List, [], cond, length, leb, ltb, get_or}
use Rattle.std.proofs.Math.Option.{Option, none, some}
use Rattle.std.specs.Float.Ieee.{of_bits}
use Rattle.std.specs.Float.{binary64}
use Rattle.meaning.specs.declared.Endianness.{Endianness}
use Rattle.meaning.specs.declared.Coordinate.{Coordinate}
use Rattle.meaning.specs.Code.{axes, kind_number}
use Rattle.meaning.specs.Grammar.{Header, Ordinates, Forest, empty, first, Node, siblings, holds_coordinates, shown, ordinate_bytes}
use Rattle.meaning.specs.Answer.{Answer, answered}
use Rattle.meaning.specs.Table.{rows_in}
use Rattle.meaning.specs.Questions.{◌>>=◌, ◌>>◌, guard, position, on_axis, float_of}

-- one of the siblings, counted from 0
unfoldable pub nth : Forest → ℕ → Option Node
nth empty i = none
nth (first h cs kids rest) zero = some (h, cs, kids)
nth (first h cs kids rest) (suc i) = nth rest i

-- How many rows a sibling's own stands behind the first one's: those of all its elder siblings. "rows are geometries plus rings";
-- "Geometries and rings stand in reading order, parent before child."
unfoldable pub nth_row : Forest → ℕ → ℕ
nth_row empty i = 0
nth_row (first h cs kids rest) zero = 0
nth_row (first h cs kids rest) (suc i) = suc (rows_in kids) + nth_row rest i

-- the outermost geometry's SRID, if it has one
abbrev pub srid_of : Forest → Option ℕ
srid_of empty = none
srid_of (first h cs kids rest) = h.srid

-- Ordinate of row r: 9 if "its kind isn't 0, 1 or 2"; "then 10 if index ≥ count, or the dimension lacks the axis. Else the bits."
abbrev pub ordinate_in : ℕ → Header → List Ordinates → ℕ → ℕ → Answer ℕ
ordinate_in r h cs i a = do
  guard (holds_coordinates h.kind) 9 r
  guard (ltb i (length (shown h cs))) 10 i
  j ← on_axis (position a (axes h.dimension)) a
  answered (get_or (get_or (shown h cs) i []) j 0)

-- "refused as ordinate X; else its floats together, absent ones positive zero, with the dimension"
abbrev pub coordinate_in : ℕ → Header → List Ordinates → ℕ → Answer Coordinate
coordinate_in r h cs i = do
  x ← ordinate_in r h cs i 0
  answered (record {
    dimension = h.dimension;
    x = of_bits binary64 x;
    y = float_of (ordinate_in r h cs i 1);
    z = float_of (ordinate_in r h cs i 2);
    m = float_of (ordinate_in r h cs i 3);
  })

-- the bytes of the coordinates that count; "the empty part" in kinds 3 to 7
abbrev pub part_in : Header → List Ordinates → List ℕ
part_in h cs = cond (holds_coordinates h.kind) (ordinate_bytes h.order (shown h cs)) []

-- "order and count, or that 9"
abbrev pub form_in : ℕ → Header → List Ordinates → Answer (Endianness × ℕ)
form_in r h cs = do
  guard (holds_coordinates h.kind) 9 r
  answered (h.order, length (shown h cs))

-- Child of row r: 9 if "its kind isn't 3 to 7; 10 if index ≥ count". Else the row that lists that child; the first one's is r + 1.
abbrev pub child_in : ℕ → Header → Forest → ℕ → Answer ℕ
child_in r h kids i = do
  guard (leb 3 (kind_number h.kind)) 9 r
  guard (ltb i (siblings kids)) 10 i
  answered (r + 1 + nth_row kids i)
