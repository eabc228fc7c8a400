-- Geometries, their bytes, and when they are well formed: the grammar, with no offsets and no refusals in it.
use Rattle.std.specs.Prelude.{ℕ, suc, ◌-◌, ◌^◌, ◌%◌, ◌<◌, ◌≡◌, Bool, true, false, ◌&&◌, ◌||◌, not, cond, length, leb, ltb, eqb}
use mathlib.Core.List.{List, [], ◌∷◌, ◌++◌, flat_map}
use Rattle.std.proofs.Math.Option.{Option, none, some}
use Rattle.meaning.specs.declared.Endianness.{Endianness}
use Rattle.meaning.specs.declared.Dimension.{Dimension}
use Rattle.meaning.specs.declared.Kind.{Kind}
use Rattle.meaning.specs.declared.Kind.TheVariants.{Ring, Point, Polygon, GeometryCollection}
use Rattle.meaning.specs.declared.WkbType.{WkbType}
use Rattle.meaning.specs.Number.{Each, order_byte, bytes_of}
use Rattle.meaning.specs.Code.{size, kind_number, kind_of, same_kind, dimension_number, type_of}

-- what opens a geometry: kind, dimension, byte order, type code (0 for a ring), SRID; "a geometry" has the last four, and "A ring has its
-- polygon's order and dimension"
pub record Header : Type 0 where
  pub kind : Kind
  pub dimension : Dimension
  pub order : Endianness
  pub code : ℕ
  pub srid : Option ℕ

-- a coordinate: its ordinates, "64-bit IEEE 754 patterns, kept bit for bit", in the order of the dimension's axes
abbrev pub Ordinates : Type 0
Ordinates = List ℕ

-- Siblings in reading order: the first one's header, its coordinates, its children; then the siblings after it. "A count may be 0."
pub data Forest : Type 0 where
  empty : Forest
  first : Header → List Ordinates → Forest → Forest → Forest

unfoldable pub siblings : Forest → ℕ
siblings empty = 0
siblings (first h cs kids rest) = suc (siblings rest)

-- geometries and rings in reading order, parent before child: header, coordinates, children
abbrev pub Node : Type 0
Node = Header × List Ordinates × Forest

unfoldable pub nodes : Forest → List Node
nodes empty = []
nodes (first h cs kids rest) = (h, cs, kids) ∷ (nodes kids ++ nodes rest)

-- ---- Empty point

-- NaN: the exponent's bits all ones, the fraction's not all zero, either sign
abbrev pub is_nan : ℕ → Bool
is_nan x = ltb 0x7FF0_0000_0000_0000 (x % 0x8000_0000_0000_0000)

unfoldable pub every : {A : Type 0} → (A → Bool) → List A → Bool
every p [] = true
every p (x ∷ xs) = p x && every p xs

-- "A Point whose ordinates are all NaN is empty. One number among them makes it a point."
abbrev pub empty_point : Header → List Ordinates → Bool
empty_point h cs = same_kind h.kind Point && every (every is_nan) cs

-- the coordinates that count: an empty Point has none
abbrev pub shown : Header → List Ordinates → List Ordinates
shown h cs = cond (empty_point h cs) [] cs

-- kinds 0 to 2 hold coordinates, kinds 3 to 7 children
abbrev pub holds_coordinates : Kind → Bool
holds_coordinates k = leb (kind_number k) 2

-- how many coordinates, rings or children. "A Point's count is 1, or 0 if empty."
abbrev pub count : Header → List Ordinates → Forest → ℕ
count h cs kids = cond (holds_coordinates h.kind) (length (shown h cs)) (siblings kids)

-- ---- Bytes

-- "1. one order byte, 0 big or 1 little, governing this geometry's own numbers; 2. a 4-byte type code"; a ring has neither
abbrev pub header_bytes : Header → List ℕ
header_bytes h = cond (same_kind h.kind Ring) [] (order_byte h.order ∷ bytes_of h.order 4 h.code)

-- "3. four bytes of SRID, if the code has that flag"
abbrev pub srid_bytes : Endianness → Option ℕ → List ℕ
srid_bytes o none = []
srid_bytes o (some s) = bytes_of o 4 s

-- "4. a body": "a 4-byte count", but none for a Point
abbrev pub count_bytes : Header → ℕ → List ℕ
count_bytes h n = cond (same_kind h.kind Point) [] (bytes_of h.order 4 n)

-- "LineString (2), a 4-byte count and that many coordinates"; a ring is "a count and its coordinates"
abbrev pub ordinate_bytes : Endianness → List Ordinates → List ℕ
ordinate_bytes o cs = flat_map (λ xs. flat_map (bytes_of o 8) xs) cs

-- what stands before the body's first coordinate or child
abbrev pub front : Header → ℕ → List ℕ
front h n = header_bytes h ++ (srid_bytes h.order h.srid ++ count_bytes h n)

-- "a count and that many full geometries", "a count and that many geometries of any kind": one after the other, each whole
unfoldable pub bytes : Forest → List ℕ
bytes empty = []
bytes (first h cs kids rest) = front h (count h cs kids) ++ (ordinate_bytes h.order cs ++ (bytes kids ++ bytes rest))

-- ---- Well formed

-- what a place asks of a geometry: a kind, a dimension, and whether it may carry an SRID
pub record Asks : Type 0 where
  pub kind : Option Kind
  pub dimension : Option Dimension
  pub srid : Bool

-- where siblings stand: rings, which share their polygon's order and dimension; or full geometries
pub data Place : Type 0 where
  rings : Endianness → Dimension → Place
  geometries : Asks → Place

-- "Only the outermost geometry may carry an SRID."
abbrev pub outermost : Place
outermost = geometries (record { kind = none; dimension = none; srid = true })

-- "Polygon (3), a count and that many rings, each a count and its coordinates." "Inside kinds 4 to 6 a child has the named kind" 1, 2, 3
-- "and its parent's dimension. Inside kind 7 a child may have any dimension." "Only the outermost geometry may carry an SRID."
unfoldable pub inside : Header → Place
inside h =
    cond (same_kind h.kind Polygon)
    (rings h.order h.dimension)
    (cond (leb 4 (kind_number h.kind) && leb (kind_number h.kind) 6)
    (geometries (record { kind = some (kind_of (kind_number h.kind - 3)); dimension = some h.dimension; srid = false }))
    (geometries (record { kind = none; dimension = none; srid = false })))

-- "the named kind", where one is named
abbrev pub asked : Option Kind → Kind → Bool
asked none j = true
asked (some k) j = same_kind j k

-- "its parent's dimension", where one is asked
abbrev pub asked_dimension : Option Dimension → Dimension → Bool
asked_dimension none d = true
asked_dimension (some e) d = eqb (dimension_number d) (dimension_number e)

-- 5: "child's kind or dimension wrong for a parent of kind 4 to 6", unless this holds
abbrev pub fits : Asks → WkbType → Bool
fits a t = asked a.kind t.kind && asked_dimension a.dimension t.dimension

-- 6: "child has the SRID flag", unless this holds
abbrev pub srid_fits : Asks → WkbType → Bool
srid_fits a t = a.srid || not t.srid

-- "A collection at level 16 or more is refused, empty or not."
abbrev pub too_deep : ℕ → WkbType → Bool
too_deep l t = same_kind t.kind GeometryCollection && leb 16 l

abbrev pub is_some : {A : Type 0} → Option A → Bool
is_some none = false
is_some (some a) = true

-- "four bytes of SRID"
abbrev pub Fits32 : Option ℕ → Type 0
Fits32 none = Unit
Fits32 (some s) = s < 2 ^ 32

-- what a header's code has to say
abbrev pub said : Header → WkbType
said h = record { kind = h.kind; dimension = h.dimension; srid = is_some h.srid }

-- a full geometry's header, at what its place asks and at a level
pub record GeometryHeader (a : Asks) (l : ℕ) (h : Header) : Type 0 where
  pub four : h.code < 2 ^ 32
  pub says : type_of h.code ≡ some (said h)
  pub fitting : fits a (said h) ≡ true
  pub plain : srid_fits a (said h) ≡ true
  pub shallow : too_deep l (said h) ≡ false
  pub srid : Fits32 h.srid

-- "A ring has its polygon's order and dimension"
abbrev pub ring_header : Endianness → Dimension → Header
ring_header o d = record { kind = Ring; dimension = d; order = o; code = 0; srid = none }

-- what opens a sibling at a place and a level
abbrev pub HeaderAt : Place → ℕ → Header → Type 0
HeaderAt (rings o d) l h = h ≡ ring_header o d
HeaderAt (geometries a) l h = GeometryHeader a l h

-- a coordinate has the dimension's ordinates, of 64 bits each
abbrev pub OrdinatesOf : Dimension → Ordinates → Type 0
OrdinatesOf d xs = (length xs ≡ size d) × Each (λ x. x < 2 ^ 64) xs

-- "Point (1), one coordinate"; kinds 0 to 2 have no children, kinds 3 to 7 no coordinates; the count has four bytes
pub record Body (h : Header) (cs : List Ordinates) (kids : Forest) : Type 0 where
  pub one : h.kind ≡ Point → length cs ≡ 1
  pub childless : holds_coordinates h.kind ≡ true → siblings kids ≡ 0
  pub bare : holds_coordinates h.kind ≡ false → length cs ≡ 0
  pub ordinates : Each (OrdinatesOf h.dimension) cs
  pub four : count h cs kids < 2 ^ 32

-- siblings at a place and a level: "a child or ring one more than its parent"
abbrev pub WellFormed : Place → ℕ → Forest → Type 0
WellFormed p l empty = Unit
WellFormed p l (first h cs kids rest) =
    HeaderAt p l h × Body h cs kids × WellFormed (inside h) (suc l) kids × WellFormed p l rest

-- one outermost geometry: "The outermost geometry has level 0"
pub record Geometry (t : Forest) : Type 0 where
  pub one : siblings t ≡ 1
  pub well_formed : WellFormed outermost 0 t
