-- Dimensions, which ordinate is X, Y, Z or M, and type codes.
use Rattle.std.specs.Prelude.{ℕ, zero, suc, ◌+◌, ◌*◌, ◌/◌, ◌%◌, List, [], ◌∷◌, Bool, false, ◌&&◌, cond, length, leb, ltb, eqb}
use Rattle.std.proofs.Math.Option.{Option, none, some}
use Rattle.meaning.specs.declared.Dimension.{Dimension}
use Rattle.meaning.specs.declared.Dimension.TheVariants.{Xy, Xyz, Xym, Xyzm}
use Rattle.meaning.specs.declared.Kind.{Kind}
use Rattle.meaning.specs.declared.Kind.TheVariants.{Ring, Point, LineString, Polygon, MultiPoint, MultiLineString, MultiPolygon, GeometryCollection}
use Rattle.meaning.specs.declared.WkbType.{WkbType}

-- "A coordinate is X, Y, then Z if carried, then M if carried; so in Xym the third number is M." Axes: "X 0, Y 1, Z 2, M 3"
abbrev pub axes : Dimension → List ℕ
axes Xy = 0 ∷ 1 ∷ []
axes Xyz = 0 ∷ 1 ∷ 2 ∷ []
axes Xym = 0 ∷ 1 ∷ 3 ∷ []
axes Xyzm = 0 ∷ 1 ∷ 2 ∷ 3 ∷ []

-- "dimension size"
abbrev pub size : Dimension → ℕ
size d = length (axes d)

-- "t 1 to 7", and 0 for a ring, as its row says it: "kind 3 bits (0 ring)"
abbrev pub kind_number : Kind → ℕ
kind_number Ring = 0
kind_number Point = 1
kind_number LineString = 2
kind_number Polygon = 3
kind_number MultiPoint = 4
kind_number MultiLineString = 5
kind_number MultiPolygon = 6
kind_number GeometryCollection = 7

abbrev pub kind_of : ℕ → Kind
kind_of zero = Ring
kind_of (suc zero) = Point
kind_of (suc (suc zero)) = LineString
kind_of (suc (suc (suc zero))) = Polygon
kind_of (suc (suc (suc (suc zero)))) = MultiPoint
kind_of (suc (suc (suc (suc (suc zero))))) = MultiLineString
kind_of (suc (suc (suc (suc (suc (suc zero)))))) = MultiPolygon
kind_of (suc (suc (suc (suc (suc (suc (suc n))))))) = GeometryCollection

-- whether two kinds are one
abbrev pub same_kind : Kind → Kind → Bool
same_kind j k = eqb (kind_number j) (kind_number k)

-- "k 0 to 3 (Xy, Xyz, Xym, Xyzm)"
abbrev pub dimension_number : Dimension → ℕ
dimension_number Xy = 0
dimension_number Xyz = 1
dimension_number Xym = 2
dimension_number Xyzm = 3

abbrev pub dimension_of : ℕ → Dimension
dimension_of zero = Xy
dimension_of (suc zero) = Xyz
dimension_of (suc (suc zero)) = Xym
dimension_of (suc (suc (suc n))) = Xyzm

-- "Flags: Z 0x80000000, M 0x40000000, SRID 0x20000000": the three highest of the code's 32 bits
abbrev pub flag : ℕ → ℕ → ℕ
flag c f = c / f % 2

abbrev pub only_if : {A : Type 0} → Bool → A → Option A
only_if c a = cond c (some a) none

-- "With any flag set, the other 29 bits must be 1 to 7 and Z and M give the dimension."
abbrev pub flagged_type : ℕ → Option WkbType
flagged_type c =
    let t = c % 0x2000_0000 in
    only_if (leb 1 t && leb t 7)
    (record { kind = kind_of t; dimension = dimension_of (flag c 0x8000_0000 + 2 * flag c 0x4000_0000); srid = eqb (flag c 0x2000_0000) 1 })

-- "With none set, the code must be 1000k + t, k 0 to 3 (Xy, Xyz, Xym, Xyzm), t 1 to 7."
abbrev pub iso_type : ℕ → Option WkbType
iso_type c =
    let k = c / 1000 in
    let t = c % 1000 in
    only_if (leb k 3 && leb 1 t && leb t 7) (record { kind = kind_of t; dimension = dimension_of k; srid = false })

-- "All else is refused."
unfoldable pub type_of : ℕ → Option WkbType
type_of c = cond (ltb c 0x2000_0000) (iso_type c) (flagged_type c)

-- the ISO code of a kind and dimension
abbrev pub iso_code : Kind → Dimension → ℕ
iso_code k d = 1000 * dimension_number d + kind_number k
