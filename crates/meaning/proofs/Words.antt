-- Packing loses nothing: one law over lists of fields. Assumes nothing.
use Prim.Native.Nat.{ℕ, ◌+◌, ◌*◌, ◌^◌, ◌<◌}
use native.Mathlib.Nat.{mul-le-mul_right}
use native.Mathlib.Omega.{arith}
use mathlib.Core.Path.{◌≡◌, refl, ap, ap₂, ◌∙◌}
use mathlib.Core.Bool.{Bool, true, false}
use mathlib.Core.List.{List, [], ◌∷◌}
use lib.Pow.{pow-add, high, low}
use lib.Dec.{eqb}
use Rattle.meaning.specs.declared.Endianness.{Endianness}
use Rattle.meaning.specs.declared.Endianness.TheVariants.{BigEndian, LittleEndian}
use Rattle.meaning.specs.declared.Dimension.{Dimension}
use Rattle.meaning.specs.declared.Dimension.TheVariants.{Xy, Xyz, Xym, Xyzm}
use Rattle.meaning.specs.declared.RowFields.{RowFields}
use Rattle.meaning.specs.Number.{order_byte}
use Rattle.meaning.specs.Code.{dimension_number, dimension_of}
use Rattle.meaning.specs.Reading.{order_of}
use Rattle.meaning.specs.Table.{Field, sum, widths, values, pack, unpack, Fit, bit, fields_a, fields_b, word_a, word_b, fields_of, RowFits}
use Rattle.meaning.proofs.Codes.{kind_back}

room : (v w p s : ℕ) → v < 2 ^ w → p < 2 ^ s → v * 2 ^ s + p < 2 ^ (w + s)
room v w p s h k =
    let le = mul-le-mul_right (2 ^ s) h in
    let e = pow-add 2 w s in
    omega arith

pub pack_below : (fs : List Field) → Fit fs → pack fs < 2 ^ sum (widths fs)
unfolding pack sum
pack_below [] h = omega arith
pack_below (f ∷ fs) h = room f.1 f.0 (pack fs) (sum (widths fs)) h.0 (pack_below fs h.1)

-- taking a packed word apart gives its values back
pub unpack_pack : (fs : List Field) → Fit fs → unpack (widths fs) (pack fs) ≡ values fs
unfolding pack unpack
unpack_pack [] h = refl
unpack_pack (f ∷ fs) h =
    let p = pack_below fs h.1 in
    let s = sum (widths fs) in
    ap₂ {C = List ℕ} (λ x xs. x ∷ xs) (high f.1 s p) (ap (unpack (widths fs)) (low f.1 s p) ∙ unpack_pack fs h.1)

-- ---- a row

pub dimension_back : (d : Dimension) → dimension_of (dimension_number d) ≡ d
dimension_back Xy = refl
dimension_back Xyz = refl
dimension_back Xym = refl
dimension_back Xyzm = refl

pub order_back : (o : Endianness) → order_of (order_byte o) ≡ o
order_back BigEndian = refl
order_back LittleEndian = refl

pub bit_back : (s : Bool) → eqb (bit s) 1 ≡ s
bit_back true = refl
bit_back false = refl

-- taking a packed row apart gives its fields back
pub row_back : (r : RowFields) → RowFits r → fields_of (word_a r) (word_b r) ≡ r
row_back r h = rw (unpack_pack (fields_a r) h.0, unpack_pack (fields_b r) h.1) (λ i. record {
  kind = kind_back r.kind i;
  dimension = dimension_back r.dimension i;
  order = order_back r.order i;
  srid = bit_back r.srid i;
  level = r.level;
  start = r.start;
  end = r.end;
  count = r.count;
  subtree = r.subtree;
  body = r.body;
})
