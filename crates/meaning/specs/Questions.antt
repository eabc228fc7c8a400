-- The check, and the questions on a buffer b and any table t.
use Rattle.std.specs.Prelude.{ℕ, zero, suc, ◌+◌, ◌*◌, min, List, [], ◌∷◌, Bool, true, false, ◌&&◌, not, cond, length, take, drop, leb, ltb, eqb, Float}
use Rattle.std.proofs.Math.Option.{Option, none, some, map}
use Rattle.std.specs.Float.Ieee.{of_bits}
use Rattle.std.specs.Float.{binary64}
use Rattle.meaning.specs.declared.Endianness.{Endianness}
use Rattle.meaning.specs.declared.RowFields.{RowFields}
use Rattle.meaning.specs.declared.Coordinate.{Coordinate}
use Rattle.meaning.specs.Number.{number_at}
use Rattle.meaning.specs.Code.{axes, size, kind_number}
use Rattle.meaning.specs.Grammar.{Forest, holds_coordinates}
use Rattle.meaning.specs.Answer.{Answer, refused, answered}
use Rattle.meaning.specs.Reading.{reading}
use Rattle.meaning.specs.Table.{rows_in, words_of, rows_of, fetch}

abbrev pub ◌>>=◌ : {A B : Type 0} → Answer A → (A → Answer B) → Answer B
◌>>=◌ (refused n p) f = refused n p
◌>>=◌ (answered a) f = f a

abbrev pub ◌>>◌ : {A B : Type 0} → Answer A → Answer B → Answer B
◌>>◌ (refused n p) b = refused n p
◌>>◌ (answered a) b = b

-- refused by this number at this place, unless the test passes
abbrev pub guard : Bool → ℕ → ℕ → Answer Unit
guard true n p = answered tt
guard false n p = refused n p

-- ---- Check

unfoldable pub same_words : List ℕ → List ℕ → Bool
same_words [] [] = true
same_words [] (y ∷ ys) = false
same_words (x ∷ xs) [] = false
same_words (x ∷ xs) (y ∷ ys) = eqb x y && same_words xs ys

-- "the table has at least n rows, and its first 2n words are those rows. Later words don't count. Rows below n are the listed rows."
abbrev pub holds : Answer (Forest × ℕ) → List ℕ → Bool
holds (refused n p) t = false
holds (answered x) t = leb (rows_in x.0) (rows_of t) && same_words (take (2 * rows_in x.0) t) (words_of x.0)

-- "yes exactly if the reader, with room, accepts the buffer with n rows"
abbrev pub check : List ℕ → List ℕ → Bool
check b t = holds (reading b) t

-- ---- Ordinate, Coordinate, Coordinate part and its sibling

-- "9 if the row isn't in the table, its kind isn't 0, 1 or 2, or not body start + 8 × dimension size × count ≤ end ≤ buffer length"
abbrev pub sound : List ℕ → List ℕ → ℕ → Bool
sound b t r =
    let f = fetch t r in
    ltb r (rows_of t) && holds_coordinates f.kind && leb (f.body.0 + 8 * size f.dimension * f.count) f.end.0 && leb f.end.0 (length b)

-- where an axis stands in a coordinate
unfoldable pub position : ℕ → List ℕ → Option ℕ
position a [] = none
position a (x ∷ xs) = cond (eqb a x) (some 0) (map suc (position a xs))

-- 10: "the dimension lacks the axis"
abbrev pub on_axis : Option ℕ → ℕ → Answer ℕ
on_axis none a = refused 10 a
on_axis (some j) a = answered j

-- "then 10 if index ≥ count, or the dimension lacks the axis": "index if bad, else axis". "Else the bits."
unfoldable pub ordinate : List ℕ → List ℕ → ℕ → ℕ → ℕ → Answer ℕ
ordinate b t r i a = do
  guard (sound b t r) 9 r
  let f = fetch t r
  guard (ltb i f.count) 10 i
  j ← on_axis (position a (axes f.dimension)) a
  answered (number_at f.order 8 b (f.body.0 + 8 * (size f.dimension * i + j)))

-- "absent ones positive zero"
abbrev pub float_of : Answer ℕ → Float
float_of (refused n p) = of_bits binary64 0
float_of (answered x) = of_bits binary64 x

-- "refused as ordinate X; else its floats together, .. with the dimension"
abbrev pub coordinate : List ℕ → List ℕ → ℕ → ℕ → Answer Coordinate
coordinate b t r i = do
  x ← ordinate b t r i 0
  answered (record {
    dimension = (fetch t r).dimension;
    x = of_bits binary64 x;
    y = float_of (ordinate b t r i 1);
    z = float_of (ordinate b t r i 2);
    m = float_of (ordinate b t r i 3);
  })

-- "8 × dimension size × count bytes from body start; the empty part where the first test above gives 9"
abbrev pub coords_slice : List ℕ → List ℕ → ℕ → List ℕ
coords_slice b t r =
    let f = fetch t r in
    cond (sound b t r) (take (8 * size f.dimension * f.count) (drop f.body.0 b)) []

-- "A sibling answer gives order and count, or that 9."
abbrev pub coords_form : List ℕ → List ℕ → ℕ → Answer (Endianness × ℕ)
coords_form b t r = do
  guard (sound b t r) 9 r
  answered ((fetch t r).order, (fetch t r).count)

-- ---- Child

-- "step index times by the subtree number; 9 if a row reached, the last included, is not below both the table's rows and the asked row plus
-- the asked row's own subtree number, or a row stepped from has subtree 0. Else the row last reached."
unfoldable pub steps : List ℕ → ℕ → ℕ → ℕ → Answer ℕ
steps t r zero q = do
  guard (ltb q (min (rows_of t) (r + (fetch t r).subtree))) 9 r
  answered q
steps t r (suc n) q = do
  guard (ltb q (min (rows_of t) (r + (fetch t r).subtree))) 9 r
  guard (not (eqb (fetch t q).subtree 0)) 9 r
  steps t r n (q + (fetch t q).subtree)

-- "9 if the row isn't in the table or its kind isn't 3 to 7; 10 if index ≥ count. Then from row + 1"
abbrev pub child : List ℕ → ℕ → ℕ → Answer ℕ
child t r i = do
  guard (ltb r (rows_of t) && leb 3 (kind_number (fetch t r).kind)) 9 r
  guard (ltb i (fetch t r).count) 10 i
  steps t r i (r + 1)

-- ---- SRID

abbrev pub srid_if : Bool → List ℕ → RowFields → Answer (Option ℕ)
srid_if false b f = answered none
srid_if true b f = do
  guard (leb (f.start.0 + 9) (length b)) 9 0
  answered (some (number_at f.order 4 b (f.start.0 + 5)))

-- "9 if there is no row 0, or its flag is set and start + 9 passes the buffer; else "none" or the four bytes at start + 5 in row 0's order."
abbrev pub srid : List ℕ → List ℕ → Answer (Option ℕ)
srid b t = do
  guard (ltb 0 (rows_of t)) 9 0
  srid_if (fetch t 0).srid b (fetch t 0)
