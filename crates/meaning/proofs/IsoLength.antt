-- The ISO form's length: the geometry's own, less four bytes if the outermost geometry has an SRID. Assumes nothing.
use Prim.Native.Nat.{ℕ, suc, ◌+◌, ◌*◌}
use native.Mathlib.Omega.{arith}
use mathlib.Core.Path.{◌≡◌, refl, sym, ap, subst, ◌∙◌}
use mathlib.Core.Bool.{Bool, true, false, ◌&&◌, ◌||◌, not, cond}
use mathlib.Core.List.{List, ◌++◌}
use lib.ListN.{length, length-append}
use lib.Dec.{leb}
use borrow.Author.Tests.{not-true}
use Rattle.meaning.specs.declared.Endianness.{Endianness}
use Rattle.meaning.specs.declared.Kind.TheVariants.{Polygon}
use Rattle.meaning.specs.Code.{size, kind_number, same_kind}
use Rattle.meaning.specs.Grammar.{Header, Ordinates, Forest, empty, first, siblings, bytes, front, count, ordinate_bytes, is_some, Asks, Place, rings, geometries, inside, HeaderAt, Body, WellFormed, Geometry}
use Rattle.meaning.specs.Writer.{iso_header, iso_coordinates, iso_form, iso_bytes}
use Rattle.meaning.proofs.Coordinates.{length_ordinate_bytes}
use Rattle.meaning.proofs.Sizes.{front_size, no_siblings}
use Rattle.meaning.proofs.IsoForm.{length_iso_coordinates, iso_ordinates}

-- where no geometry may have an SRID
abbrev Plain : Place → Type 0
Plain (rings o d) = Unit
Plain (geometries a) = a.srid ≡ false

plain_inside : (h : Header) → Plain (inside h)
unfolding inside
plain_inside h = go (same_kind h.kind Polygon) (leb 4 (kind_number h.kind) && leb (kind_number h.kind) 6) _ _ refl refl
  where
    go : (t u : Bool) (a b : Asks) → a.srid ≡ false → b.srid ≡ false → Plain (cond t (rings h.order h.dimension) (cond u (geometries a) (geometries b)))
    go true u a b e f = tt
    go false true a b e f = e
    go false false a b e f = f

no_srid : (p : Place) (l : ℕ) (h : Header) → Plain p → HeaderAt p l h → is_some h.srid ≡ false
no_srid (rings o d) l h q g = ap (λ (k : Header). is_some k.srid) g
no_srid (geometries a) l h q g = not-true (is_some h.srid) (subst (λ (t : Bool). (t || not (is_some h.srid)) ≡ true) q g.plain)

-- the bytes of the outermost geometry's SRID
abbrev pub srid_length : Forest → ℕ
srid_length empty = 0
srid_length (first h cs kids rest) = cond (is_some h.srid) 4 0

module _ (o : Endianness) where
  length_first_iso : (h : Header) (cs : List Ordinates) (kids rest : Forest) → Body h cs kids → length (iso_bytes o kids) ≡ length (bytes kids) → length (iso_bytes o rest) ≡ length (bytes rest)
      → length (iso_bytes o (first h cs kids rest)) + cond (is_some h.srid) 4 0 ≡ length (bytes (first h cs kids rest))
  unfolding iso_form bytes
  length_first_iso h cs kids rest g k r =
      let h' = iso_header o h in
      let cs' = iso_coordinates h cs in
      let n = count h cs kids in
      let n' = count h' cs' (iso_form o kids) in
      let f = front_size h n in
      let f' = front_size h' n' in
      let c = length_ordinate_bytes h.order (size h.dimension) cs g.ordinates in
      let c' = length_ordinate_bytes o (size h.dimension) cs' (iso_ordinates o h cs g.ordinates) ∙ ap (λ (m : ℕ). 8 * size h.dimension * m) (length_iso_coordinates o h cs g.one) in
      let e₁ = length-append (front h n) (ordinate_bytes h.order cs ++ (bytes kids ++ bytes rest)) in
      let e₂ = length-append (ordinate_bytes h.order cs) (bytes kids ++ bytes rest) in
      let e₃ = length-append (bytes kids) (bytes rest) in
      let i₁ = length-append (front h' n') (ordinate_bytes o cs' ++ (iso_bytes o kids ++ iso_bytes o rest)) in
      let i₂ = length-append (ordinate_bytes o cs') (iso_bytes o kids ++ iso_bytes o rest) in
      let i₃ = length-append (iso_bytes o kids) (iso_bytes o rest) in
      omega arith

  -- where no geometry may have an SRID, the ISO form is as long
  length_plain : (t : Forest) (p : Place) (l : ℕ) → Plain p → WellFormed p l t → length (iso_bytes o t) ≡ length (bytes t)
  unfolding iso_form bytes
  length_plain empty p l q g = refl
  length_plain (first h cs kids rest) p l q g =
      let e = length_first_iso h cs kids rest g.1 (length_plain kids (inside h) (suc l) (plain_inside h) g.2) (length_plain rest p l q g.3) in
      let z : ◌≡◌ {A = ℕ} (cond (is_some h.srid) 4 0) 0 = rw (no_srid p l h q g.0) refl in
      omega arith

  -- The ISO form's length, and four more if the outermost geometry has an SRID, is the geometry's length.
  pub length_iso : (t : Forest) → Geometry t → length (iso_bytes o t) + srid_length t ≡ length (bytes t)
  unfolding iso_form bytes siblings
  length_iso empty g = absurd (omega (arith, g.one))
  length_iso (first h cs kids rest) g =
      let e : rest ≡ empty = no_siblings rest (omega (arith, g.one)) in
      length_first_iso h cs kids rest g.well_formed.1 (length_plain kids (inside h) 1 (plain_inside h) g.well_formed.2)
      (subst (λ (t : Forest). length (iso_bytes o t) ≡ length (bytes t)) (sym e) refl)
