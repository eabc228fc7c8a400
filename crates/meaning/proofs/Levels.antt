-- Nineteen levels: no well-formed geometry has more, and a reading that may go deeper gives the same. Assumes nothing.
use Prim.Native.Nat.{ℕ, zero, suc, ◌+◌, ◌≤◌, ◌<◌}
use native.Mathlib.Omega.{arith}
use mathlib.Core.Path.{◌≡◌, refl, ap, ◌∙◌}
use mathlib.Core.Bool.{Bool, true, false, cond}
use mathlib.Core.Option.{Option, none, some}
use mathlib.Core.List.{List}
use borrow.Author.Tests.{eqb-true, leb-false}
use Rattle.meaning.specs.declared.Kind.{Kind}
use Rattle.meaning.specs.declared.Kind.TheVariants.{Ring, Point, LineString, Polygon, MultiPoint, MultiLineString, MultiPolygon, GeometryCollection}
use Rattle.meaning.specs.Number.{Bytes}
use Rattle.meaning.specs.Code.{kind_number}
use Rattle.meaning.specs.Grammar.{Header, Forest, empty, first, siblings, Place, rings, geometries, outermost, inside, holds_coordinates, asked, asked_dimension, too_deep, said, HeaderAt, WellFormed, Geometry}
use Rattle.meaning.specs.Answer.{Answer, refused, answered}
use Rattle.meaning.specs.Reading.{Reader, after, header, count_of, run, forest}
use Rattle.meaning.proofs.Codes.{both}
use Rattle.meaning.proofs.Headers.{header_from}
use Rattle.meaning.proofs.Exact.{depth}

-- n levels are enough for siblings of the kind asked for, at level l
abbrev pub EnoughFor : Option Kind → ℕ → ℕ → Type 0
EnoughFor none l n = (l ≤ 16) × (19 ≤ l + n)
EnoughFor (some k) l n = (kind_number k ≤ 3) × (1 ≤ n) × (kind_number k ≤ n + 1)

abbrev pub Enough : Place → ℕ → ℕ → Type 0
Enough (rings o d) l n = 1 ≤ n
Enough (geometries a) l n = EnoughFor a.kind l n

pub some_levels : (p : Place) (l n : ℕ) → Enough p l n → 1 ≤ n
some_levels (rings o d) l n h = h
some_levels (geometries a) l n h = go a.kind h
  where
    go : (k : Option Kind) → EnoughFor k l n → 1 ≤ n
    go none h = omega arith
    go (some k) h = omega arith

pub enough_more : (p : Place) (l n : ℕ) → Enough p l n → Enough p l (suc n)
enough_more (rings o d) l n h = omega arith
enough_more (geometries a) l n h = go a.kind h
  where
    go : (k : Option Kind) → EnoughFor k l n → EnoughFor k l (suc n)
    go none h = omega arith
    go (some k) h = omega arith

-- what is enough inside a geometry of a kind, at what was enough for it
inside_kind : (h : Header) (l n : ℕ) (k : Kind) → h.kind ≡ k → holds_coordinates k ≡ false → 1 ≤ n → (4 ≤ kind_number k → 2 ≤ n)
    → (k ≡ GeometryCollection → (suc l ≤ 16) × (19 ≤ suc l + n)) → Enough (inside h) (suc l) n
unfolding inside
inside_kind h l n Ring e a b c d = absurd (cc)
inside_kind h l n Point e a b c d = absurd (cc)
inside_kind h l n LineString e a b c d = absurd (cc)
inside_kind h l n Polygon e a b c d = rw e b
inside_kind h l n MultiPoint e a b c d = rw e (omega arith)
inside_kind h l n MultiLineString e a b c d = rw e (omega arith)
inside_kind h l n MultiPolygon e a b c d = rw e (omega arith)
inside_kind h l n GeometryCollection e a b c d = rw e (d refl)

-- a collection that is not too deep stands below level 16
pub not_deep : (l : ℕ) (h : Header) → too_deep l (said h) ≡ false → h.kind ≡ GeometryCollection → l < 16
not_deep l h e k = leb-false 16 l (rw k at e)

pub enough_inside : (p : Place) (l n : ℕ) (h : Header) → Enough p l (suc n) → HeaderAt p l h → holds_coordinates h.kind ≡ false → Enough (inside h) (suc l) n
enough_inside (rings o d) l n h enough at k = let z = ap (λ (x : Header). holds_coordinates x.kind) at in absurd (cc)
enough_inside (geometries a) l n h enough at k =
    go a.kind enough (both (asked a.kind h.kind) (asked_dimension a.dimension h.dimension) at.fitting).0
  where
    go : (q : Option Kind) → EnoughFor q l (suc n) → asked q h.kind ≡ true → Enough (inside h) (suc l) n
    go none e f = inside_kind h l n h.kind refl k (omega arith) (λ _. omega arith) (λ i. let lt = not_deep l h at.shallow i in omega arith)
    go (some j) e f =
        let i = eqb-true (kind_number h.kind) (kind_number j) f in
        let three = leb-false (kind_number h.kind) 2 k in
        inside_kind h l n h.kind refl k (omega arith) (λ m. omega arith) (λ m. let seven = ap kind_number m in omega arith)

no_children : (t : Forest) → siblings t ≡ 0 → depth t ≡ 0
unfolding siblings depth
no_children empty e = refl
no_children (first h cs kids rest) e = absurd (omega arith)

depth_enough : (t : Forest) (p : Place) (l n : ℕ) → WellFormed p l t → Enough p l n → depth t ≤ n
unfolding depth
depth_enough empty p l n g e = omega arith
depth_enough (first h cs kids rest) p l zero g e = let one = some_levels p l 0 e in absurd (omega arith)
depth_enough (first h cs kids rest) p l (suc n) g e =
    let r = depth_enough rest p l (suc n) g.3 e in
    let c : depth kids ≤ n = go (holds_coordinates h.kind) refl (λ k. depth_enough kids (inside h) (suc l) n g.2 (enough_inside p l n h e g.0 k)) in
    omega arith
  where
    go : (t : Bool) → holds_coordinates h.kind ≡ t → (holds_coordinates h.kind ≡ false → depth kids ≤ n) → depth kids ≤ n
    go true i k = let z = no_children kids (g.1.childless i) in omega arith
    go false i k = k i

pub nineteen_levels : (t : Forest) → Geometry t → depth t ≤ 19
nineteen_levels t g = depth_enough t outermost 0 19 g.well_formed (omega arith)

-- ---- The bound is never what refuses.

pub after_same : {A B : Type 0} (x : Answer (A × ℕ)) (f g : A → Reader B) → ((z : A × ℕ) → x ≡ answered z → f z.0 z.1 ≡ g z.0 z.1) → after x f ≡ after x g
after_same (refused n p) f g h = refl
after_same (answered z) f g h = h z refl

pub after_both : {A B : Type 0} (x y : Answer (A × ℕ)) (f g : A → Reader B) → x ≡ y → ((z : A × ℕ) → f z.0 z.1 ≡ g z.0 z.1) → after x f ≡ after y g
after_both x y f g e h = ap (λ w. after w f) e ∙ after_same y f g (λ z _. h z)

module _ (b : List ℕ) (all : Bytes b) where
  none_to_read : (d e : ℕ) (p : Place) (l at : ℕ) → forest b d 0 p l at ≡ forest b e 0 p l at
  unfolding forest
  none_to_read zero zero p l at = refl
  none_to_read zero (suc e) p l at = refl
  none_to_read (suc d) zero p l at = refl
  none_to_read (suc d) (suc e) p l at = refl

  pub forest_same : (d e n : ℕ) (p : Place) (l at : ℕ) → Enough p l d → Enough p l e → forest b d n p l at ≡ forest b e n p l at
  unfolding forest
  forest_same zero e n p l at g k = let one = some_levels p l 0 g in absurd (omega arith)
  forest_same (suc d) zero n p l at g k = let one = some_levels p l 0 k in absurd (omega arith)
  forest_same (suc d) (suc e) zero p l at g k = refl
  forest_same (suc d) (suc e) (suc n) p l at g k =
      after_same (header b p l at) _ _ (λ h h₁.
      after_same (count_of b h.0 h.1) _ _ (λ c c₁.
      after_same (run b h.0 (cond (holds_coordinates h.0.kind) c.0 0) c.1) _ _ (λ cs cs₁.
      after_both _ _ _ _
      (go (holds_coordinates h.0.kind) h.0 c.0 cs.1 refl (λ i m. forest_same d e m (inside h.0) (suc l) cs.1 (inner d g h h₁ i) (inner e k h h₁ i)))
      (λ kids. after_both _ _ _ _ (forest_same (suc d) (suc e) n p l kids.1 g k) (λ rest. refl)))))
    where
      inner : (m : ℕ) → Enough p l (suc m) → (h : Header × ℕ) → header b p l at ≡ answered h → holds_coordinates h.0.kind ≡ false → Enough (inside h.0) (suc l) m
      inner m f h h₁ i = enough_inside p l m h.0 f (header_from b all p l at h h₁).0 i

      go : (t : Bool) (h : Header) (c at' : ℕ) → holds_coordinates h.kind ≡ t
          → (holds_coordinates h.kind ≡ false → (m : ℕ) → forest b d m (inside h) (suc l) at' ≡ forest b e m (inside h) (suc l) at')
          → forest b d (cond (holds_coordinates h.kind) 0 c) (inside h) (suc l) at' ≡ forest b e (cond (holds_coordinates h.kind) 0 c) (inside h) (suc l) at'
      go true h c at' i f = rw i (none_to_read d e (inside h) (suc l) at')
      go false h c at' i f = f i (cond (holds_coordinates h.kind) 0 c)

  pub deeper_same : (d : ℕ) → 19 ≤ d → forest b d 1 outermost 0 0 ≡ forest b 19 1 outermost 0 0
  deeper_same d h = forest_same d 19 1 outermost 0 0 (omega arith) (omega arith)
