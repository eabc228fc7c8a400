-- What is written of a row, by the row's fields and the buffer; and of a table's first rows, one behind the other.
use Rattle.std.specs.Prelude.{ℕ, zero, suc, ◌+◌, ◌*◌, ◌≤◌, ◌<◌, ◌≡◌, List, [], ◌∷◌, ◌++◌, true, ◌&&◌, cond, length, take, drop, replicate, eqb}
use Rattle.std.proofs.Math.Option.{none}
use Rattle.meaning.specs.declared.Endianness.{Endianness}
use Rattle.meaning.specs.declared.Dimension.{Dimension}
use Rattle.meaning.specs.declared.Kind.{Kind}
use Rattle.meaning.specs.declared.Kind.TheVariants.{Point}
use Rattle.meaning.specs.declared.RowFields.{RowFields}
use Rattle.meaning.specs.Number.{bytes_of}
use Rattle.meaning.specs.Code.{size, same_kind}
use Rattle.meaning.specs.Grammar.{Header, header_bytes, ordinate_bytes, holds_coordinates}
use Rattle.meaning.specs.Reading.{coordinates_in}
use Rattle.meaning.specs.Table.{rows_of, fetch}
use Rattle.meaning.specs.Writer.{iso_header}

-- a header of a kind and dimension; the ISO form takes no more of it
abbrev pub plain_header : Kind → Dimension → Endianness → Header
plain_header k d o = record { kind = k; dimension = d; order = o; code = 0; srid = none }

abbrev pub row_header : Endianness → RowFields → List ℕ
row_header o r = header_bytes (iso_header o (plain_header r.kind r.dimension o))

-- the count, but none for a Point
abbrev pub row_count : Endianness → Kind → ℕ → List ℕ
row_count o k n = cond (same_kind k Point) [] (bytes_of o 4 n)

-- an empty Point's numbers
abbrev pub empty_bytes : Endianness → Dimension → List ℕ
empty_bytes o d = ordinate_bytes o (replicate (size d) 0x7FF8_0000_0000_0000 ∷ [])

-- the coordinates that stand in the buffer
abbrev pub full_bytes : List ℕ → Endianness → RowFields → List ℕ
full_bytes b o r = ordinate_bytes o (coordinates_in r.order (size r.dimension) r.count (take (8 * size r.dimension * r.count) (drop r.body.0 b)))

abbrev pub row_ordinates : List ℕ → Endianness → RowFields → List ℕ
row_ordinates b o r =
    cond (holds_coordinates r.kind)
    (cond (same_kind r.kind Point && eqb r.count 0) (empty_bytes o r.dimension) (full_bytes b o r))
    []

abbrev pub row_bytes : List ℕ → Endianness → RowFields → List ℕ
row_bytes b o r = row_header o r ++ (row_count o r.kind r.count ++ row_ordinates b o r)

-- a row's coordinates stand in the buffer
abbrev pub Within : List ℕ → RowFields → Type 0
Within b r = holds_coordinates r.kind ≡ true → r.body.0 + 8 * size r.dimension * r.count ≤ length b

-- of a table's first rows
unfoldable pub rows_bytes : List ℕ → (ℕ → RowFields) → Endianness → ℕ → List ℕ
rows_bytes b row o zero = []
rows_bytes b row o (suc n) = rows_bytes b row o n ++ row_bytes b o (row n)

-- the first n rows are there, and an output of so many bytes has room for what is written of them
pub record Writable (b t : List ℕ) (o : Endianness) (n room : ℕ) : Type 0 where
  pub there : n ≤ rows_of t
  pub within : (r : ℕ) → r < n → Within b (fetch t r)
  pub roomy : length (rows_bytes b (fetch t) o n) ≤ room
