-- What each field's reader accepts, exactly: the bytes that its value is written in. Assumes nothing.
use Prim.Native.Nat.{ℕ, zero, suc, ◌+◌, ◌-◌, ◌^◌, ◌<◌}
use native.Mathlib.Omega.{arith}
use mathlib.Core.Path.{◌≡◌, refl, sym, ap, ap₂, subst, ◌∙◌}
use mathlib.Core.Bool.{Bool, true, false}
use mathlib.Core.Option.{Option, none, some}
use mathlib.Core.List.{List, [], ◌∷◌, ◌++◌, append_assoc}
use lib.ListN.{length, take, drop, take-append-drop, length-append, length-drop}
use lib.Seq.{take_at, drop-drop, length-take-le, drop-append_seam}
use lib.Dec.{leb}
use borrow.Author.Tests.{le-leb, leb-true}
use Rattle.meaning.specs.declared.Endianness.{Endianness}
use Rattle.meaning.specs.declared.Endianness.TheVariants.{BigEndian, LittleEndian}
use Rattle.meaning.specs.declared.WkbType.{WkbType}
use Rattle.meaning.specs.Number.{Bytes, order_byte, number, bytes_of, value, digits}
use Rattle.meaning.specs.Grammar.{srid_bytes, is_some, Fits32}
use Rattle.meaning.specs.Answer.{Answer, refused, answered}
use Rattle.meaning.specs.Reading.{Reader, after, give, ◌>>◌, guard, known, order_of, span, num, order, srid}
use Rattle.meaning.proofs.Lists.{each_take, each_drop}
use Rattle.meaning.proofs.Numbers.{length_bytes_of, number_bytes_of, bytes_of_number, number_below}

-- to go back from an answer to what came before it
pub back : {A B C : Type 0} (x : Answer (A × ℕ)) (f : A → Reader B) {y : B × ℕ} → after x f ≡ answered y → ((z : A × ℕ) → x ≡ answered z → f z.0 z.1 ≡ answered y → C) → C
back (refused n p) f e k = let z : ◌≡◌ {A = ℕ} 0 1 = cc in absurd (omega arith)
back (answered z) f e k = k z refl e

pub guard_from : (t : Bool) (n p at : ℕ) (y : Unit {0} × ℕ) → guard t n p at ≡ answered y → (t ≡ true) × (at ≡ y.1)
guard_from true n p at y e = (refl, (cc))
guard_from false n p at y e = let z : ◌≡◌ {A = ℕ} 0 1 = cc in absurd (omega arith)

pub known_from : (k : Option WkbType) (p at : ℕ) (y : WkbType × ℕ) → known k p at ≡ answered y → (k ≡ some y.0) × (at ≡ y.1)
known_from none p at y e = let z : ◌≡◌ {A = ℕ} 0 1 = cc in absurd (omega arith)
known_from (some t) p at y e = ((cc), (cc))

module _ (b : List ℕ) where
  -- these bytes stand from one offset to another
  abbrev pub From : ℕ → List ℕ → ℕ → Type 0
  From at bs e = (e ≡ at + length bs) × (drop at b ≡ bs ++ drop e b)

  pub from_append : (at m e : ℕ) (xs ys : List ℕ) → From at xs m → From m ys e → From at (xs ++ ys) e
  from_append at m e xs ys p q = (
    let l = length-append xs ys in omega (arith, p.0, q.0),
    p.1 ∙ ap (λ (zs : List ℕ). xs ++ zs) q.1 ∙ sym (append_assoc xs ys (drop e b)),
  )

  -- what stands behind them
  pub behind : (at : ℕ) (bs s : List ℕ) → drop at b ≡ bs ++ s → drop (at + length bs) b ≡ s
  behind at bs s e = sym (drop-drop (length bs) at b) ∙ ap (drop (length bs)) e ∙ drop-append_seam bs s

  -- ---- a span

  pub span_there : (at : ℕ) (bs s : List ℕ) (w : ℕ) → length bs ≡ w → drop at b ≡ bs ++ s → span b w at ≡ answered (bs, at + w)
  unfolding span
  span_there at bs s w l e =
      let n = length-append bs s in
      let m = ap length e in
      let k = length-drop at b in
      simp (le-leb w (length b - at) (omega arith)) (ap (λ (z : List ℕ). answered (z, at + w)) (ap (take w) e ∙ take_at bs s w l))

  span_cases : (t : Bool) (w at : ℕ) (y : List ℕ × ℕ) → leb w (length b - at) ≡ t → span b w at ≡ answered y → From at y.0 y.1 × (length y.0 ≡ w) × (y.0 ≡ take w (drop at b))
  unfolding span
  span_cases true w at y c e =
      let f : answered (take w (drop at b), at + w) ≡ answered y = rw c at e in
      let bs : take w (drop at b) ≡ y.0 = cc in
      let en : at + w ≡ y.1 = cc in
      let k = length-drop at b in
      let le = leb-true w (length b - at) c in
      let l : length y.0 ≡ w = ap length (sym bs) ∙ length-take-le w (drop at b) (omega arith) in (
        (
          (sym en ∙ ap (λ (n : ℕ). at + n) (sym l)),
          (sym (take-append-drop w (drop at b)) ∙ ap₂ {C = List ℕ} (λ xs ys. xs ++ ys) bs (drop-drop w at b ∙ ap (λ (n : ℕ). drop n b) en)),
        ),
        l,
        sym bs,
      )
  span_cases false w at y c e =
      let f : refused 2 at ≡ answered y = rw c at e in
      let z : ◌≡◌ {A = ℕ} 0 1 = cc in
      absurd (omega arith)

  pub span_from : (w at : ℕ) (y : List ℕ × ℕ) → span b w at ≡ answered y → From at y.0 y.1 × (length y.0 ≡ w) × (y.0 ≡ take w (drop at b))
  span_from w at y e = span_cases (leb w (length b - at)) w at y refl e

  -- ---- a number

  pub num_there : (o : Endianness) (w x at : ℕ) (s : List ℕ) → x < 256 ^ w → drop at b ≡ bytes_of o w x ++ s → num b o w at ≡ answered (x, at + w)
  num_there o w x at s h e =
      rw (span_there at (bytes_of o w x) s w (length_bytes_of o w x) e)
      (ap (λ (z : ℕ). answered (z, at + w)) (number_bytes_of o w x h))

  pub order_there : (o : Endianness) (at : ℕ) (s : List ℕ) → drop at b ≡ order_byte o ∷ s → order b at ≡ answered (o, at + 1)
  unfolding value
  order_there BigEndian at s e = rw (span_there at (0 ∷ []) s 1 refl e)
  order_there LittleEndian at s e = rw (span_there at (1 ∷ []) s 1 refl e)

  pub srid_there : (o : Endianness) (v : Option ℕ) (at : ℕ) (s : List ℕ) → Fits32 v → drop at b ≡ srid_bytes o v ++ s
      → srid b (is_some v) o at ≡ answered (v, at + length (srid_bytes o v))
  srid_there o none at s h e = ap (λ (n : ℕ). answered (none, n)) (omega arith)
  srid_there o (some v) at s h e = rw (num_there o 4 v at s h e) (ap (λ (n : ℕ). answered (some v, at + n)) (sym (length_bytes_of o 4 v)))

  module _ (bytes : Bytes b) where
    span_bytes : (w at : ℕ) → Bytes (take w (drop at b))
    span_bytes w at = each_take (λ x. x < 256) w (drop at b) (each_drop (λ x. x < 256) at b bytes)

    pub num_from : (o : Endianness) (w at : ℕ) (y : ℕ × ℕ) → num b o w at ≡ answered y → From at (bytes_of o w y.0) y.1 × (y.0 < 256 ^ w)
    num_from o w at y e = back (span b w at) (λ bs. give (number o bs)) e (λ z s g.
        let (f, l, t) = span_from w at z s in
        let x : number o z.0 ≡ y.0 = cc in
        let m : z.1 ≡ y.1 = cc in
        let q : Bytes z.0 = subst Bytes (sym t) (span_bytes w at) in
        let n : bytes_of o w y.0 ≡ z.0 = ap₂ (bytes_of o) (sym l) (sym x) ∙ bytes_of_number o z.0 q in (
          subst (λ (bs : List ℕ). From at bs y.1) (sym n) (subst (From at z.0) m f),
          subst (λ (k : ℕ). y.0 < 256 ^ k) l (subst (λ (k : ℕ). k < 256 ^ length z.0) x (number_below o z.0 q)),
        ))

    order_of_back : (x : ℕ) → leb x 1 ≡ true → bytes_of LittleEndian 1 x ≡ order_byte (order_of x) ∷ []
    unfolding digits
    order_of_back zero h = refl
    order_of_back (suc zero) h = refl
    order_of_back (suc (suc n)) h = let le = leb-true (suc (suc n)) 1 h in absurd (omega arith)

    pub order_from : (at : ℕ) (y : Endianness × ℕ) → order b at ≡ answered y → From at (order_byte y.0 ∷ []) y.1
    order_from at y e =
        back (num b LittleEndian 1 at) (λ x. ◌>>◌ (guard (leb x 1) 3 at) (give (order_of x))) e (λ z s g.
        back (guard (leb z.0 1) 3 at z.1) (λ _. give (order_of z.0)) g (λ u t k.
        let (c, m) = guard_from (leb z.0 1) 3 at z.1 u t in
        let o : order_of z.0 ≡ y.0 = cc in
        let n : z.1 ≡ y.1 = cc in
        subst (λ (p : Endianness). From at (order_byte p ∷ []) y.1) o
        (subst (From at (order_byte (order_of z.0) ∷ [])) n
        (subst (λ (bs : List ℕ). From at bs z.1) (order_of_back z.0 c) (num_from LittleEndian 1 at z s).0))))

    pub srid_from : (t : Bool) (o : Endianness) (at : ℕ) (y : Option ℕ × ℕ) → srid b t o at ≡ answered y → From at (srid_bytes o y.0) y.1 × (is_some y.0 ≡ t) × Fits32 y.0
    srid_from false o at y e =
        let n : none ≡ y.0 = cc in
        let m : at ≡ y.1 = cc in
        subst (λ (v : Option ℕ). From at (srid_bytes o v) y.1 × (is_some v ≡ false) × Fits32 v) n
        (subst (λ (k : ℕ). From at [] k) m (omega arith, refl), refl, tt)
    srid_from true o at y e = back (num b o 4 at) (λ x. give (some x)) e (λ z s g.
        let n : some z.0 ≡ y.0 = cc in
        let m : z.1 ≡ y.1 = cc in
        subst (λ (v : Option ℕ). From at (srid_bytes o v) y.1 × (is_some v ≡ true) × Fits32 v) n
        (subst (From at (bytes_of o 4 z.0)) m (num_from o 4 at z s).0, refl, (num_from o 4 at z s).1))
