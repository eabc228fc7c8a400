-- Accepted exactly: what `reading` accepts are the well-formed geometries whose bytes begin the buffer. Assumes nothing.
use Prim.Native.Nat.{ℕ, zero, suc, ◌+◌, max, ◌≤◌}
use native.Mathlib.Omega.{arith}
use mathlib.Core.Path.{◌≡◌, refl, sym, ap, subst, ◌∙◌}
use mathlib.Core.Bool.{cond}
use mathlib.Core.List.{List, ◌++◌, append_assoc}
use lib.ListN.{length, drop, length-append}
use Rattle.meaning.specs.Number.{Bytes}
use Rattle.meaning.specs.Grammar.{Header, Ordinates, Forest, empty, first, siblings, bytes, holds_coordinates, count_bytes, ordinate_bytes, Place, inside, WellFormed}
use Rattle.meaning.specs.Answer.{answered}
use Rattle.meaning.specs.Reading.{header, count_of, run, forest}
use Rattle.meaning.proofs.Fields.{back, From, from_append, behind}
use Rattle.meaning.proofs.Headers.{headed, header_there, header_from}
use Rattle.meaning.proofs.Bodies.{count_there, count_from, run_there, run_from, wire, bytes_wire, body_from, body_there, wire_point, wire_below}

unfoldable pub depth : Forest → ℕ
depth empty = 0
depth (first h cs kids rest) = max (suc (depth kids)) (depth rest)

-- a geometry's bytes by the fields as they are read
by_fields : (h : Header) (cs : List Ordinates) (kids rest : Forest)
    → bytes (first h cs kids rest) ≡ headed h ++ (count_bytes h (wire h cs kids) ++ (ordinate_bytes h.order cs ++ (bytes kids ++ bytes rest)))
unfolding bytes
by_fields h cs kids rest = rw (bytes_wire h cs kids) (simp append_assoc)

regroup : (h : Header) (cs : List Ordinates) (kids rest : Forest) (s : List ℕ)
    → bytes (first h cs kids rest) ++ s ≡ headed h ++ (count_bytes h (wire h cs kids) ++ (ordinate_bytes h.order cs ++ (bytes kids ++ (bytes rest ++ s))))
regroup h cs kids rest s = rw (by_fields h cs kids rest) (simp append_assoc)

length_first : (h : Header) (cs : List Ordinates) (kids rest : Forest) (at : ℕ)
    → at + length (headed h) + length (count_bytes h (wire h cs kids)) + length (ordinate_bytes h.order cs) + length (bytes kids) + length (bytes rest) ≡ at + length (bytes (first h cs kids rest))
unfolding bytes
length_first h cs kids rest at = rw (bytes_wire h cs kids) (simp length-append (omega arith))

module _ (b : List ℕ) where
  pub forest_there : (t : Forest) (d : ℕ) (p : Place) (l at : ℕ) (s : List ℕ) → WellFormed p l t → depth t ≤ d → drop at b ≡ bytes t ++ s
      → forest b d (siblings t) p l at ≡ answered (t, at + length (bytes t))
  unfolding forest siblings bytes depth
  forest_there empty zero p l at s g le e = ap (λ (n : ℕ). answered (empty, n)) (omega arith)
  forest_there empty (suc d) p l at s g le e = ap (λ (n : ℕ). answered (empty, n)) (omega arith)
  forest_there (first h cs kids rest) zero p l at s g le e = absurd (omega arith)
  forest_there (first h cs kids rest) (suc d) p l at s g le e =
      let w = wire h cs kids in
      let s₅ = bytes rest ++ s in
      let s₄ = bytes kids ++ s₅ in
      let s₃ = ordinate_bytes h.order cs ++ s₄ in
      let s₂ = count_bytes h w ++ s₃ in
      let e₁ = e ∙ regroup h cs kids rest s in
      let a₂ = at + length (headed h) in
      let e₂ = behind b at (headed h) s₂ e₁ in
      let a₃ = a₂ + length (count_bytes h w) in
      let e₃ = behind b a₂ (count_bytes h w) s₃ e₂ in
      let a₄ = a₃ + length (ordinate_bytes h.order cs) in
      let e₄ = behind b a₃ (ordinate_bytes h.order cs) s₄ e₃ in
      let a₅ = a₄ + length (bytes kids) in
      let e₅ = behind b a₄ (bytes kids) s₅ e₄ in
      rw (
        header_there b p l h at s₂ g.0 e₁,
        count_there b h w a₂ s₃ (wire_below h cs kids g.1) (wire_point h cs kids g.1) e₂,
        (body_there h cs kids g.1).0,
        (body_there h cs kids g.1).1,
        run_there b h cs a₃ s₄ g.1.ordinates e₃,
        forest_there kids d (inside h) (suc l) a₄ s₅ g.2 (omega arith) e₄,
        forest_there rest (suc d) p l a₅ s g.3 (omega arith) e₅,
      )
      (ap (λ (n : ℕ). answered (first h cs kids rest, n)) (length_first h cs kids rest at))

  joined : (h : Header) (cs : List Ordinates) (kids rest : Forest) (n at a₂ a₃ a₄ a₅ e : ℕ) → wire h cs kids ≡ n → From b at (headed h) a₂ → From b a₂ (count_bytes h n) a₃
      → From b a₃ (ordinate_bytes h.order cs) a₄ → From b a₄ (bytes kids) a₅ → From b a₅ (bytes rest) e → From b at (bytes (first h cs kids rest)) e
  joined h cs kids rest n at a₂ a₃ a₄ a₅ e w f₁ f₂ f₃ f₄ f₅ =
      let c = ordinate_bytes h.order cs in
      subst (λ (bs : List ℕ). From b at bs e) (sym (by_fields h cs kids rest))
      (from_append b at a₂ e (headed h) _ f₁
      (from_append b a₂ a₃ e (count_bytes h (wire h cs kids)) _ (subst (λ (m : ℕ). From b a₂ (count_bytes h m) a₃) (sym w) f₂)
      (from_append b a₃ a₄ e c _ f₃ (from_append b a₄ a₅ e (bytes kids) (bytes rest) f₄ f₅))))

  module _ (all : Bytes b) where
    pub forest_from : (d n : ℕ) (p : Place) (l at : ℕ) (y : Forest × ℕ) → forest b d n p l at ≡ answered y → WellFormed p l y.0 × (siblings y.0 ≡ n) × From b at (bytes y.0) y.1
    unfolding forest siblings bytes
    forest_from zero zero p l at y e =
        let i : (empty, at) ≡ y = cc in
        subst (λ (z : Forest × ℕ). WellFormed p l z.0 × (siblings z.0 ≡ 0) × From b at (bytes z.0) z.1) i (tt, refl, (omega arith, refl))
    forest_from zero (suc n) p l at y e = let z : ◌≡◌ {A = ℕ} 0 1 = cc in absurd (omega arith)
    forest_from (suc d) zero p l at y e =
        let i : (empty, at) ≡ y = cc in
        subst (λ (z : Forest × ℕ). WellFormed p l z.0 × (siblings z.0 ≡ 0) × From b at (bytes z.0) z.1) i (tt, refl, (omega arith, refl))
    forest_from (suc d) (suc n) p l at y e =
        back (header b p l at) _ e (λ h h₁ e₁.
        back (count_of b h.0 h.1) _ e₁ (λ c c₁ e₂.
        back (run b h.0 (cond (holds_coordinates h.0.kind) c.0 0) c.1) _ e₂ (λ cs cs₁ e₃.
        back (forest b d (cond (holds_coordinates h.0.kind) 0 c.0) (inside h.0) (suc l) cs.1) _ e₃ (λ kids kids₁ e₄.
        back (forest b (suc d) n p l kids.1) _ e₄ (λ rest rest₁ e₅.
        let (h₂, f₁) = header_from b all p l at h h₁ in
        let (f₂, lt, one) = count_from b all h.0 h.1 c c₁ in
        let (f₃, cs₂, cs₃) = run_from b all h.0 (cond (holds_coordinates h.0.kind) c.0 0) c.1 cs cs₁ in
        let (kids₂, kids₃, f₄) = forest_from d (cond (holds_coordinates h.0.kind) 0 c.0) (inside h.0) (suc l) cs.1 kids kids₁ in
        let (rest₂, rest₃, f₅) = forest_from (suc d) n p l kids.1 rest rest₁ in
        let (w, body) = body_from h.0 cs.0 kids.0 c.0 cs₂ kids₃ lt one cs₃ in
        let i : (first h.0 cs.0 kids.0 rest.0, rest.1) ≡ y = cc in
        subst (λ (z : Forest × ℕ). WellFormed p l z.0 × (siblings z.0 ≡ suc n) × From b at (bytes z.0) z.1) i (
          (h₂, body, kids₂, rest₂),
          ap suc rest₃,
          joined h.0 cs.0 kids.0 rest.0 c.0 at h.1 c.1 cs.1 kids.1 rest.1 w f₁ f₂ f₃ f₄ f₅,
        ))))))
