-- Fits the words: every field of every row of an accepted buffer is below its width, so packing loses nothing. Assumes nothing.
use Prim.Native.Nat.{ℕ, suc, ◌+◌, ◌*◌, ◌≤◌, ◌<◌}
use native.Mathlib.Omega.{arith}
use mathlib.Core.Path.{◌≡◌}
use mathlib.Core.Bool.{Bool, true, false, cond}
use mathlib.Core.List.{List, ◌++◌}
use lib.ListN.{length, length-append}
use Rattle.meaning.specs.declared.Endianness.{Endianness}
use Rattle.meaning.specs.declared.Endianness.TheVariants.{BigEndian, LittleEndian}
use Rattle.meaning.specs.declared.Dimension.{Dimension}
use Rattle.meaning.specs.declared.Dimension.TheVariants.{Xy, Xyz, Xym, Xyzm}
use Rattle.meaning.specs.Number.{Each, Bytes, order_byte}
use Rattle.meaning.specs.Code.{size, dimension_number}
use Rattle.meaning.specs.Grammar.{Header, Ordinates, Forest, empty, first, siblings, bytes, front, holds_coordinates, count, ordinate_bytes, is_some, Place, outermost, inside, HeaderAt, Body, WellFormed}
use Rattle.meaning.specs.Answer.{answered}
use Rattle.meaning.specs.Reading.{reading}
use Rattle.meaning.specs.Table.{bit, row_of, rows, RowFits}
use Rattle.meaning.proofs.Lists.{each_append}
use Rattle.meaning.proofs.Codes.{kind_below}
use Rattle.meaning.proofs.Coordinates.{length_ordinate_bytes}
use Rattle.meaning.proofs.Bodies.{count_least}
use Rattle.meaning.proofs.Exact.{depth}
use Rattle.meaning.proofs.Levels.{nineteen_levels}
use Rattle.meaning.proofs.Accepted.{accepted_exactly, accepted_short, begins_length}
use Rattle.meaning.proofs.Sizes.{rows_bytes, siblings_rows, front_some}

pub dimension_below : (d : Dimension) → dimension_number d < 4
dimension_below Xy = omega arith
dimension_below Xyz = omega arith
dimension_below Xym = omega arith
dimension_below Xyzm = omega arith

pub order_below : (o : Endianness) → order_byte o < 2
order_below BigEndian = omega arith
order_below LittleEndian = omega arith

pub bit_below : (s : Bool) → bit s < 2
bit_below true = omega arith
bit_below false = omega arith

-- a coordinate takes bytes
coordinates_below : (h : Header) (cs : List Ordinates) (kids : Forest) → Body h cs kids → length cs ≤ length (ordinate_bytes h.order cs)
coordinates_below h cs kids g = go h.dimension (length_ordinate_bytes h.order (size h.dimension) cs g.ordinates)
  where
    go : (d : Dimension) → length (ordinate_bytes h.order cs) ≡ 8 * size d * length cs → length cs ≤ length (ordinate_bytes h.order cs)
    go Xy e = omega arith
    go Xyz e = omega arith
    go Xym e = omega arith
    go Xyzm e = omega arith

-- coordinates or children, each takes bytes
count_below : (h : Header) (cs : List Ordinates) (kids : Forest) → Body h cs kids → count h cs kids ≤ length (ordinate_bytes h.order cs) + length (bytes kids)
count_below h cs kids g = let le = count_least h cs kids in let w = go (holds_coordinates h.kind) in omega arith
  where
    go : (t : Bool) → cond t (length cs) (siblings kids) ≤ length (ordinate_bytes h.order cs) + length (bytes kids)
    go true = omega (arith, coordinates_below h cs kids g)
    go false = omega (arith, siblings_rows kids, rows_bytes kids)

row_fits : (h : Header) (cs : List Ordinates) (kids : Forest) (p : Place) (l at : ℕ) → HeaderAt p l h → Body h cs kids → l < 64
    → at + length (front h (count h cs kids)) + length (ordinate_bytes h.order cs) + length (bytes kids) ≤ 1048575 → RowFits (row_of at l h cs kids)
row_fits h cs kids p l at g b lv le =
    let k = kind_below h.kind in
    let d = dimension_below h.dimension in
    let o = order_below h.order in
    let s = bit_below (is_some h.srid) in
    let c = count_below h cs kids b in
    let r = rows_bytes kids in
    let f = front_some h (count h cs kids) in
    omega arith

rows_fit : (t : Forest) (p : Place) (l at : ℕ) → WellFormed p l t → l + depth t ≤ 64 → at + length (bytes t) ≤ 1048575 → Each RowFits (rows at l t)
unfolding rows bytes depth
rows_fit empty p l at g lv le = tt
rows_fit (first h cs kids rest) p l at g lv le =
    let r = row_of at l h cs kids in
    let e₁ = length-append (front h (count h cs kids)) (ordinate_bytes h.order cs ++ (bytes kids ++ bytes rest)) in
    let e₂ = length-append (ordinate_bytes h.order cs) (bytes kids ++ bytes rest) in
    let e₃ = length-append (bytes kids) (bytes rest) in (
      row_fits h cs kids p l at g.0 g.1 (omega arith) (omega arith),
      each_append RowFits (rows r.body.0 (suc l) kids) (rows r.end.0 l rest)
          (rows_fit kids (inside h) (suc l) r.body.0 g.2 (omega arith) (omega arith))
          (rows_fit rest p l r.end.0 g.3 (omega arith) (omega arith)),
    )

pub fits_the_words : (b : List ℕ) → Bytes b → (t : Forest) (n : ℕ) → reading b ≡ answered (t, n) → Each RowFits (rows 0 0 t)
fits_the_words b all t n e =
    let short = accepted_short b (t, n) e in
    let (g, p) = (accepted_exactly b all short t n).0 e in
    let l = begins_length b t n p in
    let d = nineteen_levels t g in
    rows_fit t outermost 0 0 g.well_formed (omega arith) (omega (arith, p.within))
