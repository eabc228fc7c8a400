-- From a header to the geometry or ring that it opens. Assumes nothing.
use Prim.Native.Nat.{ℕ, suc, ◌+◌, ◌≤◌}
use native.Mathlib.Numerals.{add-one}
use native.Mathlib.Omega.{arith}
use mathlib.Core.Path.{◌≡◌, refl, sym, ap, subst, ◌∙◌}
use mathlib.Core.Bool.{true, false}
use mathlib.Core.Option.{Option, none, some}
use mathlib.Core.List.{List}
use mathlib.Core.Logic.{◌⊎◌, inl, inr}
use lib.ListN.{length, drop, get_or, length-append, length-drop}
use mir.Val.{Fits}
use mir.Syntax.{w8}
use borrow.Author.Tests.{eqb-true, leb-false}
use Rattle.meaning.specs.declared.Endianness.{Endianness}
use Rattle.meaning.specs.declared.Dimension.{Dimension}
use Rattle.meaning.specs.declared.Kind.{Kind}
use Rattle.meaning.specs.declared.Kind.TheVariants.{Ring, Point, LineString, Polygon, MultiPoint, MultiLineString, MultiPolygon, GeometryCollection}
use Rattle.meaning.specs.Code.{kind_number, same_kind}
use Rattle.meaning.specs.Grammar.{Header, Asks, Place, rings, geometries, inside, holds_coordinates, asked, asked_dimension, header_bytes, srid_bytes, said, GeometryHeader, HeaderAt}
use Rattle.meaning.specs.Answer.{Answer, refused, answered}
use Rattle.meaning.specs.Reading.{after, header, forest}
use Rattle.meaning.proofs.Codes.{both, one_kind, ne_same_kind, kind_range}
use Rattle.meaning.proofs.Headers.{headed, header_from}
use Rattle.meaning.proofs.Levels.{Enough, EnoughFor, enough_inside, enough_more}
use Rattle.meaning.proofs.Sizes.{header_size}
use Rattle.meaning.proofs.Siblings.{body_of, one_read_deep}
use Rattle.reader.specs.declared.geometry.Head.{Head}
use Rattle.reader.specs.Asks.{head_of, Heads, viewed}
use Rattle.reader.specs.Rows.{Lists}
use Rattle.reader.specs.Walk.{State, Room, whole}
use Rattle.reader.proofs.Known.{bytes_known}

enough : (p : Place) (l : ℕ) → Room p l → Enough p l 19
enough (rings o d) l room = omega arith
enough (geometries a) l room = room.0

-- what is known where the code's header opened
pub record Opening (p : Place) (l at : ℕ) (head : Head) : Type 0 where
  pub h : Header
  pub heads : Heads h at head
  pub holds : HeaderAt p l h
  pub onward : at ≤ head.next.0

module _ (b : List ℕ) (known : (i : ℕ) → Fits w8 (get_or b i 0)) (p : Place) (l at : ℕ) where
  -- the header that opened, and that its body is what is left to read
  opened_head : (head : Head) → answered head ≡ viewed (header b p l at) → (o : Opening p l at head) × (header b p l at ≡ answered (o.h, head.next.0))
  opened_head head i = go (header b p l at) refl i
    where
      go : (A : Answer (Header × ℕ)) → header b p l at ≡ A → answered head ≡ viewed A → (o : Opening p l at head) × (header b p l at ≡ answered (o.h, head.next.0))
      go (refused x y) e j = let z : ◌≡◌ {A = ℕ} 0 1 = cc in absurd (omega arith)
      go (answered x) e j =
          let i₀ : head ≡ head_of x.0 x.1 = cc in
          let n : head.next.0 ≡ x.1 = ap (λ (y : Head). y.next.0) i₀ in
          let (g, (f, d)) = header_from b (bytes_known b known) p l at x e in
          (record { h = x.0; heads = record { same = ap (head_of x.0) n ∙ sym i₀; behind = n ∙ f }; holds = g; onward = omega arith }, e ∙ ap (λ (m : ℕ). answered (x.0, m)) (sym n))

  pub opens : {head : Head} → answered head ≡ viewed (header b p l at) → Opening p l at head
  opens {head} e = (opened_head head e).0

  module _ (room : Room p l) {S : Type 0} (list : Lists S) (s : S) (r : ℕ) where
    abbrev all_of_it : Answer (State S)
    all_of_it = whole list r l at s (forest b 19 1 p l at)

    by_header : all_of_it ≡ whole list r l at s (after (header b p l at) (λ h. body_of b 19 h l))
    by_header = ap (whole list r l at s) (one_read_deep b (bytes_known b known) p l at (enough p l room))

    -- a header that was refused refuses its geometry
    pub refused_head : (x y : ℕ) → refused x y ≡ viewed (header b p l at) → refused x y ≡ all_of_it
    refused_head x y i = go (header b p l at) i ∙ sym by_header
      where
        go : (A : Answer (Header × ℕ)) → refused x y ≡ viewed A → refused x y ≡ whole list r l at s (after A (λ h. body_of b 19 h l))
        go (refused x' y') j = cc
        go (answered z) j = let z : ◌≡◌ {A = ℕ} 0 1 = cc in absurd (omega arith)

    -- what its body comes to is what a geometry comes to
    pub by_body : {head : Head} {A : Answer (State S)} → answered head ≡ viewed (header b p l at)
        → ((h : Header) → Heads h at head → A ≡ whole list r l at s (body_of b 19 h l head.next.0)) → A ≡ all_of_it
    by_body {head} {A} e body =
        let (o, read) = opened_head head e in
        body o.h o.heads ∙ sym (by_header ∙ ap (λ (B : Answer (Header × ℕ)). whole list r l at s (after B (λ h. body_of b 19 h l))) read)

-- ---- the header of a geometry, which is no ring's

headed_some : (a : Asks) (l : ℕ) (h : Header) → GeometryHeader a l h → 5 ≤ length (headed h)
headed_some a l h g =
    let k = (kind_range h.code (said h) g.says).0 in
    let e : length (header_bytes h) ≡ 5 = header_size h ∙ rw (ne_same_kind h.kind Ring (λ i. let z = ap kind_number i in omega arith)) in
    let f = length-append (header_bytes h) (srid_bytes h.order h.srid) in
    omega arith

module _ (b : List ℕ) (known : (i : ℕ) → Fits w8 (get_or b i 0)) (a : Asks) (l at : ℕ) {head : Head} (opened : answered head ≡ viewed (header b (geometries a) l at)) where
  pub header_within : (at + 5 ≤ head.next.0) × (head.next.0 ≤ length b)
  header_within =
      let (o, read) = opened_head b known (geometries a) l at head opened in
      let (g, (f, d)) = header_from b (bytes_known b known) (geometries a) l at (o.h, head.next.0) read in
      let s = headed_some a l o.h g in
      let d₀ = ap length d ∙ length-append (headed o.h) (drop head.next.0 b) in
      let d₁ = length-drop at b in
      let d₂ = length-drop head.next.0 b in
      (omega arith, omega arith)

  pub kind_opened : (1 ≤ kind_number head.kind) × (kind_number head.kind ≤ 7)
  kind_opened =
      let o = opens b known (geometries a) l at opened in
      let k = kind_range o.h.code (said o.h) o.holds.says in
      let e : kind_number o.h.kind ≡ kind_number head.kind = ap (λ (x : Head). kind_number x.kind) o.heads.same in
      (omega arith, omega arith)

-- ---- room

-- only a geometry of any kind has full geometries for children
shallow : (q : Option Kind) (l : ℕ) (k : Kind) → EnoughFor q l 19 → asked q k ≡ true → 4 ≤ kind_number k → l ≤ 16
shallow none l k e i four = e.0
shallow (some j) l k e i four = let z = eqb-true (kind_number k) (kind_number j) i in absurd (omega arith)

-- a polygon's children are rings of its order and dimension
pub inside_rings : (h : Header) (o : Endianness) (d : Dimension) → h.kind ≡ Polygon → h.order ≡ o → h.dimension ≡ d → inside h ≡ rings o d
unfolding inside
inside_rings h o d k e f = rw (ap (λ (x : Kind). same_kind x Polygon) k, e, f)

no_ring : (h : Header) (y : Asks) → inside h ≡ geometries y → h.kind ≡ Polygon → ⊥
no_ring h y e i =
    let f : rings h.order h.dimension ≡ geometries y = sym (inside_rings h h.order h.dimension i refl refl) ∙ e in
    let z : ◌≡◌ {A = ℕ} 0 1 = cc in
    omega arith

pub room_level : (p : Place) (l : ℕ) → Room p l → l ≤ 18
room_level (rings o d) l room = room
room_level (geometries a) l room = omega (arith, room.1)

-- room for the children
pub room_inside : (p : Place) (l : ℕ) (h : Header) → Room p l → HeaderAt p l h → holds_coordinates h.kind ≡ false → Room (inside h) (l + 1)
room_inside (rings o d) l h room at k = let z = ap (λ (x : Header). holds_coordinates x.kind) at in absurd (cc)
room_inside (geometries a) l h room at k = subst (Room (inside h)) (sym (add-one l)) (go (inside h) refl)
  where
    deep : Enough (inside h) (suc l) 18
    deep = enough_inside (geometries a) l 18 h room.0 at k

    go : (q : Place) → inside h ≡ q → Room q (suc l)
    go (rings x d) e = let le = room.1 in omega arith
    go (geometries y) e =
        let f : Enough (geometries y) (suc l) 18 = subst (λ (q : Place). Enough q (suc l) 18) e deep in
        let three = leb-false (kind_number h.kind) 2 k in
        let no_three : kind_number h.kind ≡ 3 → ⊥ = λ i. no_ring h y e (one_kind h.kind Polygon i) in
        let le = shallow a.kind l h.kind room.0 (both (asked a.kind h.kind) (asked_dimension a.dimension h.dimension) at.fitting).0 (omega arith) in
        (enough_more (geometries y) (suc l) 18 f, omega arith)

-- what holds coordinates, and what holds children
pub leaves : (k : Kind) → (k ≡ Ring) ⊎ (k ≡ Point) ⊎ (k ≡ LineString) → holds_coordinates k ≡ true
leaves k (inl e) = ap holds_coordinates e
leaves k (inr (inl e)) = ap holds_coordinates e
leaves k (inr (inr e)) = ap holds_coordinates e

pub parents : (k : Kind) → (k ≡ Ring → ⊥) → (k ≡ Point → ⊥) → (k ≡ LineString → ⊥) → holds_coordinates k ≡ false
parents Ring a b c = absurd (a refl)
parents Point a b c = absurd (b refl)
parents LineString a b c = absurd (c refl)
parents Polygon a b c = refl
parents MultiPoint a b c = refl
parents MultiLineString a b c = refl
parents MultiPolygon a b c = refl
parents GeometryCollection a b c = refl
