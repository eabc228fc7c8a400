-- Every byte once: header, SRID, count and ordinate bytes of all rows lie end to end, from the first byte to the prefix's length. Assumes nothing.
use Prim.Native.Nat.{ℕ, suc, ◌+◌, ◌*◌, ◌≤◌, ◌<◌}
use native.Mathlib.Nat.{mul-zero, zero-add}
use native.Mathlib.Omega.{arith}
use mathlib.Core.Path.{◌≡◌, refl, sym, ap, subst, ◌∙◌}
use mathlib.Core.Bool.{Bool, true, false, ◌&&◌, cond}
use mathlib.Core.List.{List, [], ◌∷◌, ◌++◌, flat_map, append_assoc}
use lib.ListN.{length, length-append}
use lib.Dec.{leb, ltb}
use borrow.Author.Tests.{le-leb, lt-ltb, ltb-true, ltb-false, leb-true}
use Rattle.meaning.specs.declared.Kind.TheVariants.{Point}
use Rattle.meaning.specs.declared.RowFields.{RowFields}
use Rattle.meaning.specs.Number.{Bytes}
use Rattle.meaning.specs.Code.{size, same_kind}
use Rattle.meaning.specs.Grammar.{Header, Ordinates, Forest, empty, first, bytes, front, holds_coordinates, count, ordinate_bytes, Place, outermost, inside, Body, WellFormed}
use Rattle.meaning.specs.Answer.{answered}
use Rattle.meaning.specs.Reading.{reading}
use Rattle.meaning.specs.Table.{Span, spans, ordinate_size, row_of, rows}
use Rattle.meaning.proofs.Codes.{same_kind-true, same_kind-false}
use Rattle.meaning.proofs.Coordinates.{length_ordinate_bytes}
use Rattle.meaning.proofs.Bodies.{count_wire}
use Rattle.meaning.proofs.Accepted.{accepted_exactly, accepted_short, begins_length}
use Rattle.meaning.proofs.Sizes.{front_size, no_siblings}

-- end to end, from one offset to another
abbrev Tiles : ℕ → List Span → ℕ → Type 0
Tiles at [] e = at ≡ e
Tiles at (s ∷ ss) e = (s.0 ≡ at) × Tiles (at + s.1) ss e

tiles_append : (at m e : ℕ) (xs ys : List Span) → Tiles at xs m → Tiles m ys e → Tiles at (xs ++ ys) e
tiles_append at m e [] ys p q = subst (λ (n : ℕ). Tiles n ys e) (sym p) q
tiles_append at m e (x ∷ xs) ys p q = (p.0, tiles_append (at + x.1) m e xs ys p.1 q)

flat_append : (xs ys : List RowFields) → flat_map spans (xs ++ ys) ≡ flat_map spans xs ++ flat_map spans ys
unfolding flat_map
flat_append [] ys = refl
flat_append (x ∷ xs) ys = ap (λ (ss : List Span). spans x ++ ss) (flat_append xs ys) ∙ sym (append_assoc (spans x) (flat_map spans xs) (flat_map spans ys))

module _ (h : Header) (cs : List Ordinates) (kids : Forest) (g : Body h cs kids) where
  ordinate_size_is : (at l : ℕ) → ordinate_size (row_of at l h cs kids) ≡ length (ordinate_bytes h.order cs)
  ordinate_size_is at l =
      ap (λ (n : ℕ). 8 * size h.dimension * n) (go (holds_coordinates h.kind) (same_kind h.kind Point) refl refl)
      ∙ sym (length_ordinate_bytes h.order (size h.dimension) cs g.ordinates)
    where
      go : (t u : Bool) → holds_coordinates h.kind ≡ t → same_kind h.kind Point ≡ u → cond t (cond u 1 (count h cs kids)) 0 ≡ length cs
      go true true e f = sym (g.one (same_kind-true h.kind Point f))
      go true false e f = count_wire h cs kids (same_kind-false h.kind Point f) ∙ rw e
      go false u e f = sym (g.bare e)

  -- one row's spans, up to behind its coordinates
  row_tiles : (at l : ℕ) → Tiles at (spans (row_of at l h cs kids)) ((row_of at l h cs kids).body.0 + length (ordinate_bytes h.order cs))
  row_tiles at l =
      let e = front_size h (count h cs kids) in
      let o = ordinate_size_is at l in
      (refl, (refl, (refl, (omega arith, omega arith))))

-- a geometry's children, behind its coordinates: it has either coordinates or children
kids_tile : (h : Header) (cs : List Ordinates) (kids : Forest) (body l : ℕ) → Body h cs kids → Tiles body (flat_map spans (rows body l kids)) (body + length (bytes kids))
    → Tiles (body + length (ordinate_bytes h.order cs)) (flat_map spans (rows body l kids)) (body + length (ordinate_bytes h.order cs) + length (bytes kids))
unfolding rows bytes flat_map
kids_tile h cs kids body l g t = go (holds_coordinates h.kind) refl
  where
    o : ℕ
    o = length (ordinate_bytes h.order cs)

    leaf : (k : Forest) → k ≡ empty → Tiles (body + o) (flat_map spans (rows body l k)) (body + o + length (bytes k))
    leaf k e = subst (λ (k : Forest). Tiles (body + o) (flat_map spans (rows body l k)) (body + o + length (bytes k))) (sym e) (omega arith)

    bare : length cs ≡ 0 → o ≡ 0
    bare e = length_ordinate_bytes h.order (size h.dimension) cs g.ordinates ∙ ap (λ (n : ℕ). 8 * size h.dimension * n) e ∙ mul-zero (8 * size h.dimension)

    go : (u : Bool) → holds_coordinates h.kind ≡ u → Tiles (body + o) (flat_map spans (rows body l kids)) (body + o + length (bytes kids))
    go true e = leaf kids (no_siblings kids (g.childless e))
    go false e =
        let z = bare (g.bare e) in
        let i : body ≡ body + o = omega arith in
        subst (λ (n : ℕ). Tiles n (flat_map spans (rows body l kids)) (n + length (bytes kids))) i t

tiles_rows : (t : Forest) (p : Place) (l at : ℕ) → WellFormed p l t → Tiles at (flat_map spans (rows at l t)) (at + length (bytes t))
unfolding rows flat_map bytes
tiles_rows empty p l at g = omega arith
tiles_rows (first h cs kids rest) p l at g =
    let r = row_of at l h cs kids in
    let k = rows r.body.0 (suc l) kids in
    let o = length (ordinate_bytes h.order cs) in
    let e₁ = length-append (front h (count h cs kids)) (ordinate_bytes h.order cs ++ (bytes kids ++ bytes rest)) in
    let e₂ = length-append (ordinate_bytes h.order cs) (bytes kids ++ bytes rest) in
    let e₃ = length-append (bytes kids) (bytes rest) in
    let end : r.end.0 + length (bytes rest) ≡ at + length (front h (count h cs kids) ++ (ordinate_bytes h.order cs ++ (bytes kids ++ bytes rest))) = omega arith in
    subst (Tiles at (spans r ++ flat_map spans (k ++ rows r.end.0 l rest))) end
    (tiles_append at (r.body.0 + o) (r.end.0 + length (bytes rest)) (spans r) (flat_map spans (k ++ rows r.end.0 l rest))
    (row_tiles h cs kids g.1 at l)
    (subst (λ (ss : List Span). Tiles (r.body.0 + o) ss (r.end.0 + length (bytes rest))) (sym (flat_append k (rows r.end.0 l rest)))
    (tiles_append (r.body.0 + o) r.end.0 (r.end.0 + length (bytes rest)) (flat_map spans k) (flat_map spans (rows r.end.0 l rest))
    (kids_tile h cs kids r.body.0 (suc l) g.1 (tiles_rows kids (inside h) (suc l) r.body.0 g.2))
    (tiles_rows rest p l r.end.0 g.3))))

-- ---- what follows of spans that lie end to end

abbrev in_span : ℕ → Span → Bool
in_span k s = leb s.0 k && ltb k (s.0 + s.1)

-- how many of the spans hold a byte
unfoldable pub holding : ℕ → List Span → ℕ
holding k [] = 0
holding k (s ∷ ss) = cond (in_span k s) 1 0 + holding k ss

unfoldable pub total : List Span → ℕ
total [] = 0
total (s ∷ ss) = s.1 + total ss

tiles_total : (at : ℕ) (ss : List Span) (e : ℕ) → Tiles at ss e → at + total ss ≡ e
unfolding total
tiles_total at [] e t = omega arith
tiles_total at (s ∷ ss) e t = omega (arith, tiles_total (at + s.1) ss e t.1)

outside : (k at w : ℕ) → (at ≤ k → k < at + w → ⊥) → (leb at k && ltb k (at + w)) ≡ false
outside k at w h = go (leb at k) (ltb k (at + w)) refl refl
  where
    go : (t u : Bool) → leb at k ≡ t → ltb k (at + w) ≡ u → (t && u) ≡ false
    go true true e f = absurd (h (leb-true at k e) (ltb-true k (at + w) f))
    go true false e f = refl
    go false u e f = refl

-- no span from here on holds a byte before here
before : (k at : ℕ) (ss : List Span) (e : ℕ) → Tiles at ss e → k < at → holding k ss ≡ 0
unfolding holding
before k at [] e t lt = refl
before k at (s ∷ ss) e t lt =
    let i = t.0 in
    rw (outside k s.0 s.1 (λ a b. omega arith)) (omega (arith, before k (at + s.1) ss e t.1 (omega arith)))

once : (k at : ℕ) (ss : List Span) (e : ℕ) → Tiles at ss e → at ≤ k → k < e → holding k ss ≡ 1
unfolding holding
once k at [] e t le lt = absurd (omega arith)
once k at (s ∷ ss) e t le lt = go (ltb k (at + s.1)) refl (λ le'. once k (at + s.1) ss e t.1 le' lt)
  where
    go : (u : Bool) → ltb k (at + s.1) ≡ u → (at + s.1 ≤ k → holding k ss ≡ 1) → cond (in_span k s) 1 0 + holding k ss ≡ 1
    go true f next =
        let i = t.0 in
        let b = ltb-true k (at + s.1) f in
        rw (le-leb s.0 k (omega arith), lt-ltb k (s.0 + s.1) (omega arith)) (omega (arith, before k (at + s.1) ss e t.1 b))
    go false f next =
        let i = t.0 in
        let b = ltb-false k (at + s.1) f in
        rw (outside k s.0 s.1 (λ c d. omega arith)) (omega (arith, next b))

-- Every byte once: of an accepted buffer, each byte of the prefix lies in one span of one row, and the spans' sizes add up to the prefix's length.
pub every_byte_once : (b : List ℕ) → Bytes b → (t : Forest) (n : ℕ) → reading b ≡ answered (t, n)
    → ((k : ℕ) → k < n → holding k (flat_map spans (rows 0 0 t)) ≡ 1) × (total (flat_map spans (rows 0 0 t)) ≡ n)
every_byte_once b all t n e =
    let (g, p) = (accepted_exactly b all (accepted_short b (t, n) e) t n).0 e in
    let l : length (bytes t) ≡ n = begins_length b t n p in
    let z = zero-add (length (bytes t)) in
    let tiles : Tiles 0 (flat_map spans (rows 0 0 t)) n = subst (Tiles 0 (flat_map spans (rows 0 0 t))) (z ∙ l) (tiles_rows t outermost 0 0 g.well_formed) in (
      λ k lt. once k 0 (flat_map spans (rows 0 0 t)) n tiles (omega arith) lt,
      sym (zero-add (total (flat_map spans (rows 0 0 t)))) ∙ tiles_total 0 (flat_map spans (rows 0 0 t)) n tiles,
    )
