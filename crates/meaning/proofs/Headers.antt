-- What the header's reader accepts, exactly. Assumes nothing.
use Prim.Native.Nat.{ℕ, suc, ◌+◌, ◌^◌, ◌≤◌, ◌<◌}
use native.Mathlib.Omega.{arith}
use mathlib.Core.Path.{◌≡◌, refl, sym, ap, subst, ◌∙◌}
use mathlib.Core.Bool.{Bool, true, false, not, cond}
use mathlib.Core.Option.{Option, some}
use mathlib.Core.List.{List, [], ◌∷◌, ◌++◌, append_assoc}
use lib.ListN.{length, drop, length-append}
use borrow.Author.Tests.{not-true, ne_eqb}
use Rattle.meaning.specs.declared.Endianness.{Endianness}
use Rattle.meaning.specs.declared.WkbType.{WkbType}
use Rattle.meaning.specs.Number.{Bytes, order_byte, bytes_of}
use Rattle.meaning.specs.Code.{kind_number, type_of}
use Rattle.meaning.specs.Grammar.{Header, Asks, Place, rings, geometries, ring_header, header_bytes, srid_bytes, GeometryHeader, HeaderAt, said, is_some, fits, srid_fits, too_deep, Fits32}
use Rattle.meaning.specs.Answer.{Answer, answered}
use Rattle.meaning.specs.Reading.{header, known, guard, num, order, srid}
use Rattle.meaning.proofs.Numbers.{length_bytes_of}
use Rattle.meaning.proofs.Codes.{kind_range}
use Rattle.meaning.proofs.Fields.{back, guard_from, known_from, From, from_append, behind, num_there, num_from, order_there, order_from, srid_there, srid_from}

-- order byte and code
abbrev pub opening : Endianness → ℕ → List ℕ
opening o c = order_byte o ∷ bytes_of o 4 c

-- what the header's reader takes
abbrev pub headed : Header → List ℕ
headed h = header_bytes h ++ srid_bytes h.order h.srid

opens : (h : Header) → 1 ≤ kind_number h.kind → header_bytes h ≡ opening h.order h.code
opens h k = ap (λ (t : Bool). cond t [] (opening h.order h.code)) (ne_eqb (kind_number h.kind) 0 (λ e. omega arith))

module _ (b : List ℕ) where
  header_there' : (a : Asks) (l : ℕ) (h : Header) (at : ℕ) (s : List ℕ) → GeometryHeader a l h → drop at b ≡ opening h.order h.code ++ (srid_bytes h.order h.srid ++ s)
      → header b (geometries a) l at ≡ answered (h, at + 1 + 4 + length (srid_bytes h.order h.srid))
  unfolding header
  header_there' a l h at s g e =
      let s₁ = srid_bytes h.order h.srid ++ s in
      let e₁ : drop (at + 1) b ≡ bytes_of h.order 4 h.code ++ s₁ = behind b at (order_byte h.order ∷ []) (bytes_of h.order 4 h.code ++ s₁) e in
      let e₂ : drop (at + 1 + 4) b ≡ s₁ = ap (λ (n : ℕ). drop (at + 1 + n) b) (sym (length_bytes_of h.order 4 h.code)) ∙ behind b (at + 1) (bytes_of h.order 4 h.code) s₁ e₁ in
      rw (
        order_there b h.order at (bytes_of h.order 4 h.code ++ s₁) e,
        num_there b h.order 4 h.code (at + 1) s₁ g.four e₁,
        g.says,
        g.fitting,
        g.plain,
        g.shallow,
        srid_there b h.order h.srid (at + 1 + 4) s g.srid e₂,
      )

  pub header_there : (p : Place) (l : ℕ) (h : Header) (at : ℕ) (s : List ℕ) → HeaderAt p l h → drop at b ≡ headed h ++ s → header b p l at ≡ answered (h, at + length (headed h))
  unfolding header
  header_there (rings o d) l h at s g e =
      subst (λ (k : Header). ◌≡◌ {A = Answer (Header × ℕ)} (answered (ring_header o d, at)) (answered (k, at + length (headed k)))) (sym g) (ap (λ (n : ℕ). answered (ring_header o d, n)) (omega arith))
  header_there (geometries a) l h at s g e =
      let f = opens h (kind_range h.code (said h) g.says).0 in
      let v = srid_bytes h.order h.srid in
      let q : headed h ≡ opening h.order h.code ++ v = ap (λ (xs : List ℕ). xs ++ v) f in
      let n : length (headed h) ≡ 5 + length v = ap length q ∙ length-append (opening h.order h.code) v ∙ ap (λ (m : ℕ). suc m + length v) (length_bytes_of h.order 4 h.code) in
      header_there' a l h at s g (e ∙ ap (λ (xs : List ℕ). xs ++ s) q ∙ append_assoc (opening h.order h.code) v s)
      ∙ ap (λ (m : ℕ). answered (h, m)) (omega arith)

  module _ (bytes : Bytes b) where
    -- the header that its parts make
    abbrev made : WkbType → Endianness → ℕ → Option ℕ → Header
    made t o c v = record { kind = t.kind; dimension = t.dimension; order = o; code = c; srid = v }

    module _ (a : Asks) (l at m₁ m₂ e : ℕ) (t : WkbType) (o : Endianness) (c : ℕ) (v : Option ℕ) (same : is_some v ≡ t.srid) where
      says_so : said (made t o c v) ≡ t
      says_so = ap (λ (s : Bool). record { kind = t.kind; dimension = t.dimension; srid = s }) same

      geometry : c < 2 ^ 32 → type_of c ≡ some t → fits a t ≡ true → srid_fits a t ≡ true → too_deep l t ≡ false → Fits32 v → GeometryHeader a l (made t o c v)
      geometry h₁ h₂ h₃ h₄ h₅ h₆ = record {
        four = h₁;
        says = h₂ ∙ ap some (sym says_so);
        fitting = ap (fits a) says_so ∙ h₃;
        plain = ap (srid_fits a) says_so ∙ h₄;
        shallow = ap (too_deep l) says_so ∙ h₅;
        srid = h₆;
      }

      headed_bytes : type_of c ≡ some t → From b at (order_byte o ∷ []) m₁ → From b m₁ (bytes_of o 4 c) m₂ → From b m₂ (srid_bytes o v) e → From b at (headed (made t o c v)) e
      headed_bytes h p q r =
          subst (λ (xs : List ℕ). From b at (xs ++ srid_bytes o v) e) (sym (opens (made t o c v) (kind_range c t h).0))
          (from_append b at m₂ e (opening o c) (srid_bytes o v) (from_append b at m₁ m₂ (order_byte o ∷ []) (bytes_of o 4 c) p q) r)

    header_from' : (a : Asks) (l at : ℕ) (y : Header × ℕ) → header b (geometries a) l at ≡ answered y → GeometryHeader a l y.0 × From b at (headed y.0) y.1
    unfolding header
    header_from' a l at y e =
        back (order b at) _ e (λ o o₁ e₁.
        back (num b o.0 4 o.1) _ e₁ (λ c c₁ e₂.
        back (known (type_of c.0) o.1 c.1) _ e₂ (λ t t₁ e₃.
        back (guard (fits a t.0) 5 o.1 t.1) _ e₃ (λ u u₁ e₄.
        back (guard (srid_fits a t.0) 6 o.1 u.1) _ e₄ (λ v v₁ e₅.
        back (guard (not (too_deep l t.0)) 7 at v.1) _ e₅ (λ w w₁ e₆.
        back (srid b t.0.srid o.0 w.1) _ e₆ (λ x x₁ e₇.
        let (k, k₁) = known_from (type_of c.0) o.1 c.1 t t₁ in
        let (g₅, k₂) = guard_from (fits a t.0) 5 o.1 t.1 u u₁ in
        let (g₆, k₃) = guard_from (srid_fits a t.0) 6 o.1 u.1 v v₁ in
        let (g₇, k₄) = guard_from (not (too_deep l t.0)) 7 at v.1 w w₁ in
        let (f₁, c₂) = num_from b bytes o.0 4 o.1 c c₁ in
        let (f₂, x₂, x₃) = srid_from b bytes t.0.srid o.0 w.1 x x₁ in
        let i : (made t.0 o.0 c.0 x.0, x.1) ≡ y = cc in
        let j : c.1 ≡ w.1 = k₁ ∙ k₂ ∙ k₃ ∙ k₄ in
        subst (λ (z : Header × ℕ). GeometryHeader a l z.0 × From b at (headed z.0) z.1) i (
          geometry a l at o.1 w.1 x.1 t.0 o.0 c.0 x.0 x₂ c₂ k g₅ g₆ (not-true (too_deep l t.0) g₇) x₃,
          headed_bytes a l at o.1 w.1 x.1 t.0 o.0 c.0 x.0 x₂ k (order_from b bytes at o o₁) (subst (From b o.1 (bytes_of o.0 4 c.0)) j f₁) f₂,
        ))))))))

    pub header_from : (p : Place) (l at : ℕ) (y : Header × ℕ) → header b p l at ≡ answered y → HeaderAt p l y.0 × From b at (headed y.0) y.1
    unfolding header
    header_from (rings o d) l at y e =
        let i : (ring_header o d, at) ≡ y = cc in
        subst (λ (z : Header × ℕ). (z.0 ≡ ring_header o d) × From b at (headed z.0) z.1) i (refl, (omega arith, refl))
    header_from (geometries a) l at y e = header_from' a l at y e
