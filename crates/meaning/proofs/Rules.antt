-- Rules of document 01 that the samples do not touch, each as a law that a wrong definition breaks. Assumes nothing.
use Prim.Native.Nat.{ℕ, ◌+◌, ◌*◌, ◌-◌, ◌≤◌, ◌<◌}
use native.Mathlib.Omega.{arith}
use mathlib.Core.Path.{◌≡◌, refl, sym, ◌∙◌}
use mathlib.Core.Bool.{Bool, true, false, cond}
use mathlib.Core.List.{List, [], ◌∷◌, ◌++◌}
use mathlib.Core.Option.{none, some}
use lib.Ieee.{is_nan as is_float_nan, of_bits, binary64}
use lib.Ieee.Bits.{nan_bits_is, nan_bits_above}
use borrow.Author.Tests.{ne_eqb, le-leb, lt-leb}
use Rattle.meaning.specs.declared.Dimension.TheVariants.{Xy, Xyz, Xym, Xyzm}
use Rattle.meaning.specs.declared.Kind.TheVariants.{Point, GeometryCollection}
use Rattle.meaning.specs.Code.{axes, kind_number, kind_of, dimension_of, type_of}
use Rattle.meaning.specs.Grammar.{Header, Ordinates, Forest, is_nan, geometries, inside}
use Rattle.meaning.specs.Answer.{refused}
use Rattle.meaning.specs.Table.{rows_in, row_of, rows_of, filled}
use Rattle.meaning.specs.Questions.{position}

-- "Z and M give the dimension", and "A coordinate is X, Y, then Z if carried, then M if carried"
pub carried : (z m : Bool) → axes (dimension_of (cond z 1 0 + 2 * cond m 1 0)) ≡ 0 ∷ 1 ∷ (cond z (2 ∷ []) [] ++ cond m (3 ∷ []) [])
carried true true = refl
carried true false = refl
carried false true = refl
carried false false = refl

-- "Flags: Z 0x80000000, M 0x40000000, SRID 0x20000000. With any flag set, .. Z and M give the dimension." With none, 1 is an Xy Point too.
pub flags_said : (z m s : Bool) → type_of (cond z 0x8000_0000 0 + cond m 0x4000_0000 0 + cond s 0x2000_0000 0 + 1) ≡ some (record { kind = Point; dimension = cond z (cond m Xyzm Xyz) (cond m Xym Xy); srid = s })
unfolding type_of
flags_said true true true = refl
flags_said true true false = refl
flags_said true false true = refl
flags_said true false false = refl
flags_said false true true = refl
flags_said false true false = refl
flags_said false false true = refl
flags_said false false false = refl

-- "so in Xym the third number is M", and there is no Z
pub third_is_m : (position 3 (axes Xym) ≡ some 2) × (position 2 (axes Xym) ≡ none)
unfolding position
third_is_m = (refl, refl)

-- "Inside kinds 4 to 6 a child has the named kind and its parent's dimension. .. Only the outermost geometry may carry an SRID."
pub inside_multi : (h : Header) → 4 ≤ kind_number h.kind → kind_number h.kind ≤ 6 → inside h ≡ geometries (record { kind = some (kind_of (kind_number h.kind - 3)); dimension = some h.dimension; srid = false })
unfolding inside
inside_multi h le le' = rw (ne_eqb (kind_number h.kind) 3 (λ e. omega arith), le-leb 4 (kind_number h.kind) le, le-leb (kind_number h.kind) 6 le')

-- "Inside kind 7 a child may have any dimension."
pub inside_collection : (h : Header) → h.kind ≡ GeometryCollection → inside h ≡ geometries (record { kind = none; dimension = none; srid = false })
unfolding inside
inside_collection h e = rw e

-- a NaN by its bits is a NaN of IEEE 754: an infinity is none, and the sign does not count
pub nan_by_bits : (x : ℕ) → is_nan x ≡ is_float_nan (of_bits binary64 x)
nan_by_bits x = sym (nan_bits_above binary64 x) ∙ nan_bits_is binary64 x

-- "The outermost geometry has level 0, a child or ring one more than its parent": the row says the level at which its geometry stands
pub row_level : (at l : ℕ) (h : Header) (cs : List Ordinates) (kids : Forest) → (row_of at l h cs kids).level ≡ l
row_level at l h cs kids = refl

-- 8: "well-formed, table has too few rows", at "rows needed"; the table stays
pub rows_needed : (f : Forest) (n : ℕ) (t : List ℕ) → rows_of t < rows_in f → filled f n t ≡ (refused 8 (rows_in f), t)
rows_needed f n t lt = rw (lt-leb (rows_in f) (rows_of t) lt)
