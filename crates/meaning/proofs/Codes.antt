-- Kinds and their numbers, and what an allowed type code says. Assumes nothing.
use Prim.Native.Nat.{ℕ, zero, suc, ◌/◌, ◌%◌, ◌≤◌, ◌<◌}
use native.Mathlib.Omega.{arith}
use mathlib.Core.Path.{◌≡◌, refl, sym, ap, ◌∙◌}
use mathlib.Core.Bool.{Bool, true, false, ◌&&◌, cond}
use mathlib.Core.Option.{some}
use lib.Dec.{leb, ltb}
use borrow.Author.Tests.{leb-true, eqb-true, eqb-false, ne_eqb}
use Rattle.meaning.specs.declared.Kind.{Kind}
use Rattle.meaning.specs.declared.Kind.TheVariants.{Ring, Point, LineString, Polygon, MultiPoint, MultiLineString, MultiPolygon, GeometryCollection}
use Rattle.meaning.specs.declared.WkbType.{WkbType}
use Rattle.meaning.specs.Code.{kind_number, kind_of, same_kind, only_if, iso_type, flagged_type, type_of}

-- ---- kinds

pub kind_below : (k : Kind) → kind_number k < 8
kind_below Ring = omega arith
kind_below Point = omega arith
kind_below LineString = omega arith
kind_below Polygon = omega arith
kind_below MultiPoint = omega arith
kind_below MultiLineString = omega arith
kind_below MultiPolygon = omega arith
kind_below GeometryCollection = omega arith

pub kind_back : (k : Kind) → kind_of (kind_number k) ≡ k
kind_back Ring = refl
kind_back Point = refl
kind_back LineString = refl
kind_back Polygon = refl
kind_back MultiPoint = refl
kind_back MultiLineString = refl
kind_back MultiPolygon = refl
kind_back GeometryCollection = refl

pub kind_number-kind_of : (n : ℕ) → n < 8 → kind_number (kind_of n) ≡ n
kind_number-kind_of zero h = refl
kind_number-kind_of (suc zero) h = refl
kind_number-kind_of (suc (suc zero)) h = refl
kind_number-kind_of (suc (suc (suc zero))) h = refl
kind_number-kind_of (suc (suc (suc (suc zero)))) h = refl
kind_number-kind_of (suc (suc (suc (suc (suc zero))))) h = refl
kind_number-kind_of (suc (suc (suc (suc (suc (suc zero)))))) h = refl
kind_number-kind_of (suc (suc (suc (suc (suc (suc (suc n))))))) h = omega arith

-- the number tells the kind
pub one_kind : (j k : Kind) → kind_number j ≡ kind_number k → j ≡ k
one_kind j k e = sym (kind_back j) ∙ ap kind_of e ∙ kind_back k

pub same_kind-true : (j k : Kind) → same_kind j k ≡ true → j ≡ k
same_kind-true j k e = one_kind j k (eqb-true (kind_number j) (kind_number k) e)

pub same_kind-false : (j k : Kind) → same_kind j k ≡ false → j ≡ k → ⊥
same_kind-false j k e i = eqb-false (kind_number j) (kind_number k) e (ap kind_number i)

pub ne_same_kind : (j k : Kind) → (j ≡ k → ⊥) → same_kind j k ≡ false
ne_same_kind j k differ = ne_eqb (kind_number j) (kind_number k) (λ e. differ (one_kind j k e))

-- ---- codes

pub both : (a b : Bool) → a && b ≡ true → (a ≡ true) × (b ≡ true)
both true b e = (refl, e)
both false b e = let z : ◌≡◌ {A = ℕ} 0 1 = cc in absurd (omega arith)

pub only_from : {A : Type 0} (c : Bool) (a : A) {t : A} → only_if c a ≡ some t → (c ≡ true) × (a ≡ t)
only_from true a e = (refl, (cc))
only_from false a e = let z : ◌≡◌ {A = ℕ} 0 1 = cc in absurd (omega arith)

-- a number from 1 to 7 names no ring
named : (n : ℕ) {k : Kind} → leb 1 n ≡ true → leb n 7 ≡ true → kind_of n ≡ k → 1 ≤ kind_number k
named n below above e =
    let i = kind_number-kind_of n (omega (arith, leb-true n 7 above)) in
    omega (arith, leb-true 1 n below, ap kind_number e)

kind_cases : (u : Bool) (c : ℕ) (t : WkbType) → cond u (iso_type c) (flagged_type c) ≡ some t → 1 ≤ kind_number t.kind
kind_cases true c t e =
    let (h, q) = only_from (leb (c / 1000) 3 && leb 1 (c % 1000) && leb (c % 1000) 7) _ e in
    let (i, above) = both (leb (c / 1000) 3 && leb 1 (c % 1000)) (leb (c % 1000) 7) h in
    let (k, below) = both (leb (c / 1000) 3) (leb 1 (c % 1000)) i in
    named (c % 1000) below above (ap (λ (x : WkbType). x.kind) q)
kind_cases false c t e =
    let (h, q) = only_from (leb 1 (c % 0x2000_0000) && leb (c % 0x2000_0000) 7) _ e in
    let (below, above) = both (leb 1 (c % 0x2000_0000)) (leb (c % 0x2000_0000) 7) h in
    named (c % 0x2000_0000) below above (ap (λ (x : WkbType). x.kind) q)

-- a geometry's kind is 1 to 7
pub kind_range : (c : ℕ) (t : WkbType) → type_of c ≡ some t → (1 ≤ kind_number t.kind) × (kind_number t.kind ≤ 7)
unfolding type_of
kind_range c t e = (kind_cases (ltb c 0x2000_0000) c t e, omega (arith, kind_below t.kind))
