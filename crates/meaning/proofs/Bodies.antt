-- What the readers of counts and coordinate runs accept, exactly; and how a body's count tells its coordinates and children. Assumes nothing.
use Prim.Native.Nat.{ℕ, ◌+◌, ◌*◌, ◌^◌, ◌≤◌, ◌<◌}
use native.Mathlib.Omega.{arith}
use mathlib.Core.Path.{◌≡◌, refl, sym, ap, ap₂, subst, ◌∙◌}
use mathlib.Core.Bool.{Bool, true, false, cond}
use mathlib.Core.List.{List, [], ◌++◌}
use lib.ListN.{length, drop}
use Rattle.meaning.specs.declared.Kind.TheVariants.{Point}
use Rattle.meaning.specs.Number.{Each, Bytes, bytes_of}
use Rattle.meaning.specs.Code.{size, same_kind}
use Rattle.meaning.specs.Grammar.{Header, Ordinates, Forest, siblings, empty_point, holds_coordinates, count, count_bytes, ordinate_bytes, OrdinatesOf, Body}
use Rattle.meaning.specs.Answer.{answered}
use Rattle.meaning.specs.Reading.{give, num, span, count_of, run, coordinates_in}
use Rattle.meaning.proofs.Lists.{each_take, each_drop}
use Rattle.meaning.proofs.Codes.{same_kind-true, same_kind-false, ne_same_kind}
use Rattle.meaning.proofs.Numbers.{length_bytes_of}
use Rattle.meaning.proofs.Coordinates.{bytes_read, count_read, sized_read, read_bytes, length_ordinate_bytes}
use Rattle.meaning.proofs.Fields.{back, From, span_there, span_from, num_there, num_from}

module _ (b : List ℕ) where
  count_there' : (t : Bool) (h : Header) (n at : ℕ) (s : List ℕ) → same_kind h.kind Point ≡ t → n < 2 ^ 32 → (h.kind ≡ Point → n ≡ 1) → drop at b ≡ cond t [] (bytes_of h.order 4 n) ++ s
      → cond t (give 1) (num b h.order 4) at ≡ answered (n, at + length (cond t [] (bytes_of h.order 4 n)))
  count_there' true h n at s c lt one e = ap₂ (λ (i j : ℕ). answered (i, j)) (sym (one (same_kind-true h.kind Point c))) (omega arith)
  count_there' false h n at s c lt one e = num_there b h.order 4 n at s lt e ∙ ap (λ (m : ℕ). answered (n, at + m)) (sym (length_bytes_of h.order 4 n))

  pub count_there : (h : Header) (n at : ℕ) (s : List ℕ) → n < 2 ^ 32 → (h.kind ≡ Point → n ≡ 1) → drop at b ≡ count_bytes h n ++ s → count_of b h at ≡ answered (n, at + length (count_bytes h n))
  count_there h n at s lt one e = count_there' (same_kind h.kind Point) h n at s refl lt one e

  pub run_there : (h : Header) (cs : List Ordinates) (at : ℕ) (s : List ℕ) → Each (OrdinatesOf h.dimension) cs → drop at b ≡ ordinate_bytes h.order cs ++ s
      → run b h (length cs) at ≡ answered (cs, at + length (ordinate_bytes h.order cs))
  run_there h cs at s g e =
      let l = length_ordinate_bytes h.order (size h.dimension) cs g in
      rw (span_there b at (ordinate_bytes h.order cs) s (8 * size h.dimension * length cs) l e)
      (ap₂ (λ (xs : List Ordinates) (m : ℕ). answered (xs, at + m)) (read_bytes h.order (size h.dimension) cs g) (sym l))

  module _ (bytes : Bytes b) where
    count_from' : (t : Bool) (h : Header) (at : ℕ) (y : ℕ × ℕ) → same_kind h.kind Point ≡ t → cond t (give 1) (num b h.order 4) at ≡ answered y
        → From b at (cond t [] (bytes_of h.order 4 y.0)) y.1 × (y.0 < 2 ^ 32) × (h.kind ≡ Point → y.0 ≡ 1)
    count_from' true h at y c e =
        let i : 1 ≡ y.0 = cc in
        let j : at ≡ y.1 = cc in
        ((omega arith, ap (λ (n : ℕ). drop n b) j), omega arith, λ _. sym i)
    count_from' false h at y c e =
        let (f, lt) = num_from b bytes h.order 4 at y e in
        (f, lt, λ k. absurd (same_kind-false h.kind Point c k))

    pub count_from : (h : Header) (at : ℕ) (y : ℕ × ℕ) → count_of b h at ≡ answered y → From b at (count_bytes h y.0) y.1 × (y.0 < 2 ^ 32) × (h.kind ≡ Point → y.0 ≡ 1)
    count_from h at y e = count_from' (same_kind h.kind Point) h at y refl e

    pub run_from : (h : Header) (n at : ℕ) (y : List Ordinates × ℕ) → run b h n at ≡ answered y
        → From b at (ordinate_bytes h.order y.0) y.1 × (length y.0 ≡ n) × Each (OrdinatesOf h.dimension) y.0
    run_from h n at y e = back (span b (8 * size h.dimension * n) at) _ e (λ z z₁ e₁.
        let s = size h.dimension in
        let (f, l, t) = span_from b (8 * s * n) at z z₁ in
        let q : Bytes z.0 = subst Bytes (sym t) (each_take (λ x. x < 256) (8 * s * n) (drop at b) (each_drop (λ x. x < 256) at b bytes)) in
        let i : (coordinates_in h.order s n z.0, z.1) ≡ y = cc in
        subst (λ (w : List Ordinates × ℕ). From b at (ordinate_bytes h.order w.0) w.1 × (length w.0 ≡ n) × Each (OrdinatesOf h.dimension) w.0) i (
          subst (λ (bs : List ℕ). From b at bs z.1) (sym (bytes_read h.order s n z.0 l q)) f,
          count_read h.order s n z.0,
          sized_read h.order s n z.0 l q,
        ))

-- ---- counts

-- the count that stands in the bytes, or would if a Point had one
abbrev pub wire : Header → List Ordinates → Forest → ℕ
wire h cs kids = cond (holds_coordinates h.kind) (length cs) (siblings kids)

module _ (h : Header) (cs : List Ordinates) (kids : Forest) where
  pub count_wire : (h.kind ≡ Point → ⊥) → count h cs kids ≡ wire h cs kids
  count_wire no-point = simp (ne_same_kind h.kind Point no-point)

  bytes_wire' : (t : Bool) → same_kind h.kind Point ≡ t → cond t [] (bytes_of h.order 4 (count h cs kids)) ≡ cond t [] (bytes_of h.order 4 (wire h cs kids))
  bytes_wire' true e = refl
  bytes_wire' false e = ap (bytes_of h.order 4) (count_wire (same_kind-false h.kind Point e))

  pub bytes_wire : count_bytes h (count h cs kids) ≡ count_bytes h (wire h cs kids)
  bytes_wire = bytes_wire' (same_kind h.kind Point) refl

  count_least' : (e t : Bool) → cond t (length (cond e [] cs)) (siblings kids) ≤ cond t (length cs) (siblings kids)
  count_least' true true = omega arith
  count_least' true false = omega arith
  count_least' false true = omega arith
  count_least' false false = omega arith

  pub count_least : count h cs kids ≤ wire h cs kids
  count_least = count_least' (empty_point h cs) (holds_coordinates h.kind)

  -- A body by its count: n coordinates and no children for kinds 0 to 2, n children and no coordinates for the others.
  body_from' : (t : Bool) (n : ℕ) → holds_coordinates h.kind ≡ t → length cs ≡ cond t n 0 → siblings kids ≡ cond t 0 n → n < 2 ^ 32 → (h.kind ≡ Point → n ≡ 1) → Each (OrdinatesOf h.dimension) cs
      → (cond t (length cs) (siblings kids) ≡ n) × Body h cs kids
  body_from' true n c e f lt one g =
      let w : wire h cs kids ≡ n = rw c e in
      let le = count_least in
      (e, record { one = λ i. e ∙ one i; childless = λ _. f; bare = λ i. absurd (cc); ordinates = g; four = omega arith })
  body_from' false n c e f lt one g =
      let w : wire h cs kids ≡ n = rw c f in
      let le = count_least in
      (f, record { one = λ i. let z = ap holds_coordinates i in absurd (cc); childless = λ i. absurd (cc); bare = λ _. e; ordinates = g; four = omega arith })

  pub body_from : (n : ℕ) → length cs ≡ cond (holds_coordinates h.kind) n 0 → siblings kids ≡ cond (holds_coordinates h.kind) 0 n → n < 2 ^ 32 → (h.kind ≡ Point → n ≡ 1) → Each (OrdinatesOf h.dimension) cs
      → (wire h cs kids ≡ n) × Body h cs kids
  body_from n = body_from' (holds_coordinates h.kind) n refl

  module _ (g : Body h cs kids) where
    body_there' : (t : Bool) → holds_coordinates h.kind ≡ t → (cond t (cond t (length cs) (siblings kids)) 0 ≡ length cs) × (cond t 0 (cond t (length cs) (siblings kids)) ≡ siblings kids)
    body_there' true c = (refl, sym (g.childless c))
    body_there' false c = (sym (g.bare c), refl)

    pub body_there : (cond (holds_coordinates h.kind) (wire h cs kids) 0 ≡ length cs) × (cond (holds_coordinates h.kind) 0 (wire h cs kids) ≡ siblings kids)
    body_there = body_there' (holds_coordinates h.kind) refl

    pub wire_point : h.kind ≡ Point → wire h cs kids ≡ 1
    wire_point e = rw e (g.one e)

    wire_below' : (t : Bool) → same_kind h.kind Point ≡ t → wire h cs kids < 2 ^ 32
    wire_below' true c = let w = wire_point (same_kind-true h.kind Point c) in omega arith
    wire_below' false c = subst (λ (n : ℕ). n < 2 ^ 32) (count_wire (same_kind-false h.kind Point c)) g.four

    pub wire_below : wire h cs kids < 2 ^ 32
    wire_below = wire_below' (same_kind h.kind Point) refl
