-- The table: rows of a geometry, their two words, and what the reader leaves in a table.
use Rattle.std.specs.Prelude.{ℕ, suc, ◌+◌, ◌*◌, ◌/◌, ◌%◌, ◌^◌, ◌<◌, List, [], ◌∷◌, ◌++◌, map, Bool, true, false, cond, length, drop, get_or, leb, eqb}
use Rattle.meaning.specs.declared.Kind.TheVariants.{Ring, Point}
use Rattle.meaning.specs.declared.RowFields.{RowFields}
use Rattle.meaning.specs.declared.Offset.{Offset}
use Rattle.meaning.specs.Number.{Each, order_byte}
use Rattle.meaning.specs.Code.{size, kind_number, kind_of, same_kind, dimension_number, dimension_of}
use Rattle.meaning.specs.Grammar.{Header, Ordinates, Forest, empty, first, front, bytes, ordinate_bytes, holds_coordinates, count, is_some}
use Rattle.meaning.specs.Answer.{Answer, refused, answered}
use Rattle.meaning.specs.Reading.{order_of, reading}

-- "rows are geometries plus rings"
unfoldable pub rows_in : Forest → ℕ
rows_in empty = 0
rows_in (first h cs kids rest) = suc (rows_in kids + rows_in rest)

abbrev pub offset : ℕ → Offset
offset n = record { 0 = n }

-- "Start is the first byte, for a ring its count's. End is one past the last. Body start is where the first coordinate or child stands,
-- or would stand if the count is 0." "rows in this subtree including itself"
abbrev pub row_of : ℕ → ℕ → Header → List Ordinates → Forest → RowFields
row_of at l h cs kids =
    let body = at + length (front h (count h cs kids)) in
    record {
      kind = h.kind;
      dimension = h.dimension;
      order = h.order;
      srid = is_some h.srid;
      level = l;
      start = offset at;
      end = offset (body + length (ordinate_bytes h.order cs) + length (bytes kids));
      count = count h cs kids;
      subtree = suc (rows_in kids);
      body = offset body;
    }

-- "Geometries and rings stand in reading order, parent before child."
unfoldable pub rows : ℕ → ℕ → Forest → List RowFields
rows at l empty = []
rows at l (first h cs kids rest) =
    row_of at l h cs kids
    ∷ (rows (row_of at l h cs kids).body.0 (suc l) kids ++ rows (row_of at l h cs kids).end.0 l rest)

-- ---- "Header, SRID, count and ordinate bytes of all rows"

-- where it begins, and how many bytes it has
abbrev pub Span : Type 0
Span = ℕ × ℕ

-- A Point's ordinates stand there also if it is empty, though its count is then 0.
abbrev pub ordinate_size : RowFields → ℕ
ordinate_size r = 8 * size r.dimension * cond (holds_coordinates r.kind) (cond (same_kind r.kind Point) 1 r.count) 0

-- those of one row; "no byte belongs to two"
abbrev pub spans : RowFields → List Span
spans r =
    let header : ℕ = cond (same_kind r.kind Ring) 0 5 in
    let srid : ℕ = cond r.srid 4 0 in
    (r.start.0, header) ∷ (r.start.0 + header, srid) ∷ (r.start.0 + header + srid, cond (same_kind r.kind Point) 0 4) ∷ (r.body.0, ordinate_size r) ∷ []

-- ---- "A row is two 64-bit words, most significant field first."

-- a field: its width in bits, and its value
abbrev pub Field : Type 0
Field = ℕ × ℕ

unfoldable pub sum : List ℕ → ℕ
sum [] = 0
sum (w ∷ ws) = w + sum ws

abbrev pub widths : List Field → List ℕ
widths fs = map (λ (f : Field). f.0) fs

abbrev pub values : List Field → List ℕ
values fs = map (λ (f : Field). f.1) fs

unfoldable pub pack : List Field → ℕ
pack [] = 0
pack (f ∷ fs) = f.1 * 2 ^ sum (widths fs) + pack fs

-- each value is below 2 to its width
abbrev pub Fit : List Field → Type 0
Fit fs = Each (λ (f : Field). f.1 < 2 ^ f.0) fs

unfoldable pub unpack : List ℕ → ℕ → List ℕ
unpack [] x = []
unpack (w ∷ ws) x = x / 2 ^ sum ws ∷ unpack ws (x % 2 ^ sum ws)

abbrev pub bit : Bool → ℕ
bit true = 1
bit false = 0

-- "Word A: kind 3 bits (0 ring), dimension 2 (0 to 3 as k above), order 1 (1 little), SRID flag 1, level 6, zero 11, start 20, end 20."
abbrev pub fields_a : RowFields → List Field
fields_a r =
    (3, kind_number r.kind) ∷ (2, dimension_number r.dimension) ∷ (1, order_byte r.order) ∷ (1, bit r.srid) ∷ (6, r.level) ∷ (11, 0) ∷ (20, r.start.0)
    ∷ (20, r.end.0) ∷ []

-- "Word B: count 20, rows in this subtree including itself 20, body start 20, zero 4."
abbrev pub fields_b : RowFields → List Field
fields_b r = (20, r.count) ∷ (20, r.subtree) ∷ (20, r.body.0) ∷ (4, 0) ∷ []

abbrev pub word_a : RowFields → ℕ
word_a r = pack (fields_a r)

abbrev pub word_b : RowFields → ℕ
word_b r = pack (fields_b r)

-- a row that its two words can hold
abbrev pub RowFits : RowFields → Type 0
RowFits r = Fit (fields_a r) × Fit (fields_b r)

-- the fields that two words hold; the zero fields are not looked at
abbrev pub fields_of : ℕ → ℕ → RowFields
fields_of a b =
    let x = unpack (3 ∷ 2 ∷ 1 ∷ 1 ∷ 6 ∷ 11 ∷ 20 ∷ 20 ∷ []) a in
    let y = unpack (20 ∷ 20 ∷ 20 ∷ 4 ∷ []) b in
    record {
      kind = kind_of (get_or x 0 0);
      dimension = dimension_of (get_or x 1 0);
      order = order_of (get_or x 2 0);
      srid = eqb (get_or x 3 0) 1;
      level = get_or x 4 0;
      start = offset (get_or x 6 0);
      end = offset (get_or x 7 0);
      count = get_or y 0 0;
      subtree = get_or y 1 0;
      body = offset (get_or y 2 0);
    }

unfoldable pub words : List RowFields → List ℕ
words [] = []
words (r ∷ rs) = word_a r ∷ word_b r ∷ words rs

-- the words of a geometry that begins the buffer
abbrev pub words_of : Forest → List ℕ
words_of t = words (rows 0 0 t)

-- "A table has as many rows as half its length, rounded down."
abbrev pub rows_of : List ℕ → ℕ
rows_of t = length t / 2

-- a row of the table
abbrev pub fetch : List ℕ → ℕ → RowFields
fetch t r = fields_of (get_or t (2 * r) 0) (get_or t (2 * r + 1) 0)

-- ---- What the reader answers, and the table after the call

-- "Refusal 8 comes only after the whole prefix proved good." "Success returns prefix length and rows used, and leaves later table words unchanged."
abbrev pub filled : Forest → ℕ → List ℕ → Answer (ℕ × ℕ) × List ℕ
filled f n t =
    cond (leb (rows_in f) (rows_of t))
    (answered (n, rows_in f), words_of f ++ drop (2 * rows_in f) t)
    (refused 8 (rows_in f), t)

abbrev pub tabled : Answer (Forest × ℕ) → List ℕ → Answer (ℕ × ℕ) × List ℕ
tabled (refused n p) t = (refused n p, t)
tabled (answered x) t = filled x.0 x.1 t

abbrev pub read_wkb : List ℕ → List ℕ → Answer (ℕ × ℕ) × List ℕ
read_wkb b t = tabled (reading b) t
