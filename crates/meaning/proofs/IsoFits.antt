-- The ISO form of a well-formed geometry is well formed. Assumes nothing.
use Prim.Native.Nat.{ℕ, suc, ◌/◌, ◌%◌, ◌≤◌, ◌<◌, ◌^◌}
use native.Mathlib.Omega.{arith}
use mathlib.Core.Path.{◌≡◌, refl, sym, ap, subst, ◌∙◌}
use mathlib.Core.Bool.{Bool, true, false, ◌&&◌, cond, or-true}
use mathlib.Core.Option.{some}
use mathlib.Core.List.{List}
use lib.Dec.{leb}
use borrow.Author.Tests.{le-leb, lt-ltb, ne_eqb}
use Rattle.meaning.specs.declared.Endianness.{Endianness}
use Rattle.meaning.specs.declared.Dimension.{Dimension}
use Rattle.meaning.specs.declared.Kind.{Kind}
use Rattle.meaning.specs.declared.Kind.TheVariants.{Polygon}
use Rattle.meaning.specs.Code.{kind_number, same_kind, dimension_number, iso_code, type_of}
use Rattle.meaning.specs.Grammar.{Header, Ordinates, Forest, empty, first, Asks, Place, rings, geometries, outermost, inside, said, HeaderAt, Body, WellFormed, Geometry}
use Rattle.meaning.specs.Writer.{iso_header, iso_coordinates, iso_form}
use Rattle.meaning.proofs.Codes.{kind_below, kind_back, kind_range}
use Rattle.meaning.proofs.Words.{dimension_back}
use Rattle.meaning.proofs.Fits.{dimension_below}
use Rattle.meaning.proofs.IsoForm.{length_iso_coordinates, iso_ordinates, siblings_iso_form, count_iso_form}

-- an ISO code says its kind and dimension, and no SRID
pub iso_code_says : (k : Kind) (d : Dimension) → 1 ≤ kind_number k → type_of (iso_code k d) ≡ some (record { kind = k; dimension = d; srid = false })
unfolding type_of
iso_code_says k d one =
    let lt = kind_below k in
    let le = dimension_below d in
    let q : iso_code k d / 1000 ≡ dimension_number d = omega arith in
    let r : iso_code k d % 1000 ≡ kind_number k = omega arith in
    rw (
      lt-ltb (iso_code k d) 0x2000_0000 (omega arith),
      q,
      r,
      le-leb (dimension_number d) 3 (omega arith),
      le-leb 1 (kind_number k) one,
      le-leb (kind_number k) 7 (omega arith),
      kind_back k,
      dimension_back d,
    )
    refl

-- the same place in the other order
abbrev pub iso_place : Endianness → Place → Place
iso_place o (rings e d) = rings o d
iso_place o (geometries a) = geometries a

inside_iso : (o : Endianness) (h : Header) → inside (iso_header o h) ≡ iso_place o (inside h)
unfolding inside
inside_iso o h = go (same_kind h.kind Polygon) (leb 4 (kind_number h.kind) && leb (kind_number h.kind) 6) _ _
  where
    go : (t u : Bool) (a b : Asks) → cond t (rings o h.dimension) (cond u (geometries a) (geometries b)) ≡ iso_place o (cond t (rings h.order h.dimension) (cond u (geometries a) (geometries b)))
    go true u a b = refl
    go false true a b = refl
    go false false a b = refl

header_iso : (o : Endianness) (p : Place) (l : ℕ) (h : Header) → HeaderAt p l h → HeaderAt (iso_place o p) l (iso_header o h)
header_iso o (rings e d) l h g = ap (iso_header o) g
header_iso o (geometries a) l h g =
    let k = kind_range h.code (said h) g.says in
    let z = ne_eqb (kind_number h.kind) 0 (λ e. omega arith) in
    let c : (iso_header o h).code ≡ iso_code h.kind h.dimension = rw z refl in
    let b = kind_below h.kind in
    let d = dimension_below h.dimension in
    record {
      four = subst (λ (n : ℕ). n < 2 ^ 32) (sym c) (omega arith);
      says = ap type_of c ∙ iso_code_says h.kind h.dimension k.0;
      fitting = g.fitting;
      plain = or-true a.srid;
      shallow = g.shallow;
      srid = tt;
    }

body_iso : (o : Endianness) (h : Header) (cs : List Ordinates) (kids : Forest) → Body h cs kids → Body (iso_header o h) (iso_coordinates h cs) (iso_form o kids)
body_iso o h cs kids g =
    let l = length_iso_coordinates o h cs g.one in
    record {
      one = λ k. l ∙ g.one k;
      childless = λ k. siblings_iso_form o kids ∙ g.childless k;
      bare = λ k. l ∙ g.bare k;
      ordinates = iso_ordinates o h cs g.ordinates;
      four = subst (λ (n : ℕ). n < 2 ^ 32) (sym (count_iso_form o h cs kids)) g.four;
    }

-- Siblings that are well formed at a place have an ISO form that is, at the same level.
pub iso_form_fits : (o : Endianness) (t : Forest) (p : Place) (l : ℕ) → WellFormed p l t → WellFormed (iso_place o p) l (iso_form o t)
unfolding iso_form
iso_form_fits o empty p l g = tt
iso_form_fits o (first h cs kids rest) p l g = (
  header_iso o p l h g.0,
  body_iso o h cs kids g.1,
  subst (λ (q : Place). WellFormed q (suc l) (iso_form o kids)) (sym (inside_iso o h)) (iso_form_fits o kids (inside h) (suc l) g.2),
  iso_form_fits o rest p l g.3,
)

-- The ISO form of one well-formed outermost geometry is one.
pub iso_form_well_formed : (o : Endianness) (t : Forest) → Geometry t → Geometry (iso_form o t)
iso_form_well_formed o t g = record { one = siblings_iso_form o t ∙ g.one; well_formed = iso_form_fits o t outermost 0 g.well_formed }
