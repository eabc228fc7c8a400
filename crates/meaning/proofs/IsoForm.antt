-- The ISO form of a geometry: the same geometry, as deep, in one order, with ISO codes and no SRID, and the same once more. Assumes nothing.
use Prim.Native.Nat.{ℕ, zero, suc, ◌<◌, ◌^◌, max}
use native.Mathlib.Omega.{arith}
use mathlib.Core.Path.{◌≡◌, refl, sym, ap, ap₂}
use mathlib.Core.Bool.{Bool, true, false, cond}
use mathlib.Core.Option.{none}
use mathlib.Core.List.{List, [], ◌∷◌}
use lib.ListN.{length, replicate}
use Rattle.std.proofs.lemmas.List.{length-replicate}
use Rattle.meaning.specs.declared.Endianness.{Endianness}
use Rattle.meaning.specs.declared.Dimension.{Dimension}
use Rattle.meaning.specs.declared.Kind.TheVariants.{Ring, Point}
use Rattle.meaning.specs.Number.{Each}
use Rattle.meaning.specs.Code.{size, same_kind, iso_code}
use Rattle.meaning.specs.Grammar.{Header, Ordinates, Forest, empty, first, siblings, Node, nodes, is_nan, empty_point, shown, holds_coordinates, count, OrdinatesOf}
use Rattle.meaning.specs.Writer.{iso_header, iso_coordinates, iso_form, Same}
use Rattle.meaning.proofs.Lists.{each_append}
use Rattle.meaning.proofs.Codes.{both, same_kind-true}
use Rattle.meaning.proofs.EmptyPoint.{all_are_nan}
use Rattle.meaning.proofs.Exact.{depth}

-- what the ISO form puts for an empty point
abbrev no_numbers : Dimension → Ordinates
no_numbers d = replicate (size d) 0x7FF8_0000_0000_0000

each_replicate : {A : Type 0} (P : A → Type 0) (a : A) → P a → (n : ℕ) → Each P (replicate n a)
each_replicate P a p zero = tt
each_replicate P a p (suc n) = (p, each_replicate P a p n)

module _ (o : Endianness) (h : Header) (cs : List Ordinates) where
  empty_point_iso' : (t : Bool) → empty_point h cs ≡ t → empty_point (iso_header o h) (cond t (no_numbers h.dimension ∷ []) cs) ≡ t
  empty_point_iso' true e =
      all_are_nan (iso_header o h) (no_numbers h.dimension) (same_kind-true h.kind Point (both (same_kind h.kind Point) _ e).0)
      (each_replicate (λ x. is_nan x ≡ true) 0x7FF8_0000_0000_0000 refl (size h.dimension))
  empty_point_iso' false e = e

  -- an empty point stays one, and no other becomes one
  pub empty_point_iso : empty_point (iso_header o h) (iso_coordinates h cs) ≡ empty_point h cs
  empty_point_iso = empty_point_iso' (empty_point h cs) refl

  shown_iso' : (t : Bool) → empty_point h cs ≡ t → cond t [] (cond t (no_numbers h.dimension ∷ []) cs) ≡ cond t [] cs
  shown_iso' true e = refl
  shown_iso' false e = refl

  -- the coordinates that count are the same
  pub shown_iso : shown (iso_header o h) (iso_coordinates h cs) ≡ shown h cs
  shown_iso = rw empty_point_iso (shown_iso' (empty_point h cs) refl)

  length_iso_coordinates' : (t : Bool) → empty_point h cs ≡ t → (h.kind ≡ Point → length cs ≡ 1) → length (cond t (no_numbers h.dimension ∷ []) cs) ≡ length cs
  length_iso_coordinates' true e one = sym (one (same_kind-true h.kind Point (both (same_kind h.kind Point) _ e).0))
  length_iso_coordinates' false e one = refl

  -- as many coordinates
  pub length_iso_coordinates : (h.kind ≡ Point → length cs ≡ 1) → length (iso_coordinates h cs) ≡ length cs
  length_iso_coordinates = length_iso_coordinates' (empty_point h cs) refl

  iso_ordinates' : (t : Bool) → Each (OrdinatesOf h.dimension) cs → Each (OrdinatesOf h.dimension) (cond t (no_numbers h.dimension ∷ []) cs)
  iso_ordinates' true g = ((length-replicate (size h.dimension) 0x7FF8_0000_0000_0000, each_replicate (λ x. x < 2 ^ 64) 0x7FF8_0000_0000_0000 (omega arith) (size h.dimension)), tt)
  iso_ordinates' false g = g

  -- of the dimension's size, of 64 bits each
  pub iso_ordinates : Each (OrdinatesOf h.dimension) cs → Each (OrdinatesOf h.dimension) (iso_coordinates h cs)
  iso_ordinates = iso_ordinates' (empty_point h cs)

-- ---- the same geometry

-- The ISO form of a geometry is the same geometry.
pub same_iso_form : (o : Endianness) (t : Forest) → Same t (iso_form o t)
unfolding iso_form
same_iso_form o empty = tt
same_iso_form o (first h cs kids rest) = (record { kind = refl; dimension = refl; ordinates = sym (shown_iso o h cs) }, same_iso_form o kids, same_iso_form o rest)

-- as many siblings
pub siblings_iso_form : (o : Endianness) (t : Forest) → siblings (iso_form o t) ≡ siblings t
unfolding iso_form siblings
siblings_iso_form o empty = refl
siblings_iso_form o (first h cs kids rest) = ap suc (siblings_iso_form o rest)

-- the count is the same
pub count_iso_form : (o : Endianness) (h : Header) (cs : List Ordinates) (kids : Forest) → count (iso_header o h) (iso_coordinates h cs) (iso_form o kids) ≡ count h cs kids
count_iso_form o h cs kids = ap₂ (λ (xs : List Ordinates) (n : ℕ). cond (holds_coordinates h.kind) (length xs) n) (shown_iso o h cs) (siblings_iso_form o kids)

-- It is as deep.
pub depth_iso_form : (o : Endianness) (t : Forest) → depth (iso_form o t) ≡ depth t
unfolding iso_form depth
depth_iso_form o empty = refl
depth_iso_form o (first h cs kids rest) = ap₂ (λ (m n : ℕ). max (suc m) n) (depth_iso_form o kids) (depth_iso_form o rest)

-- in an order, with no SRID, and with no flags: the code is the ISO code, or a ring's 0
abbrev pub InIso : Endianness → Node → Type 0
InIso o n = (n.0.order ≡ o) × (n.0.srid ≡ none) × (n.0.code ≡ cond (same_kind n.0.kind Ring) 0 (iso_code n.0.kind n.0.dimension))

-- Every geometry and ring of it is in the order asked for, with its ISO code and no SRID.
pub nodes_iso_form : (o : Endianness) (t : Forest) → Each (InIso o) (nodes (iso_form o t))
unfolding iso_form nodes
nodes_iso_form o empty = tt
nodes_iso_form o (first h cs kids rest) =
    ((refl, refl, refl), each_append (InIso o) (nodes (iso_form o kids)) (nodes (iso_form o rest)) (nodes_iso_form o kids) (nodes_iso_form o rest))

-- The ISO form of an ISO form is the geometry's own, in whatever order the first was.
pub iso_form_again : (o e : Endianness) (t : Forest) → iso_form o (iso_form e t) ≡ iso_form o t
unfolding iso_form
iso_form_again o e empty = refl
iso_form_again o e (first h cs kids rest) =
    rw (iso_form_again o e kids, iso_form_again o e rest, empty_point_iso e h cs)
    (ap (λ (xs : List Ordinates). first (iso_header o h) xs (iso_form o kids) (iso_form o rest)) (again (empty_point h cs)))
  where
    again : (t : Bool) → cond t (no_numbers h.dimension ∷ []) (cond t (no_numbers h.dimension ∷ []) cs) ≡ cond t (no_numbers h.dimension ∷ []) cs
    again true = refl
    again false = refl
