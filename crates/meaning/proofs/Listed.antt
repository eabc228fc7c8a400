-- The rows of a geometry, each with the node that it lists and where that node's bytes stand. Assumes nothing.
use Prim.Native.Nat.{ℕ, zero, suc, ◌+◌}
use native.Mathlib.Omega.{arith}
use mathlib.Core.Path.{◌≡◌, refl, sym, ap, subst, ◌∙◌}
use mathlib.Core.Bool.{Bool, true, false}
use mathlib.Core.Option.{some}
use mathlib.Core.List.{List, [], ◌∷◌, ◌++◌, append_assoc, flat_map}
use lib.ListN.{length, drop, get_elem?}
use Rattle.meaning.specs.declared.RowFields.{RowFields}
use Rattle.meaning.specs.Grammar.{Header, Ordinates, Forest, empty, first, Node, nodes, bytes, front, holds_coordinates, count, ordinate_bytes, Place, inside, Body, WellFormed}
use Rattle.meaning.specs.Table.{row_of, rows}
use Rattle.meaning.proofs.Lists.{none_left}
use Rattle.meaning.proofs.Fields.{behind}
use Rattle.meaning.proofs.Sizes.{no_siblings}

-- two lists side by side
abbrev pub Pairs : {A B : Type 0} → (A → B → Type 0) → List A → List B → Type 0
Pairs P [] [] = Unit
Pairs P [] (y ∷ ys) = ⊥
Pairs P (x ∷ xs) [] = ⊥
Pairs P (x ∷ xs) (y ∷ ys) = P x y × Pairs P xs ys

module _ {A B : Type 0} (P : A → B → Type 0) where
  pairs_append : (xs : List A) (ys : List B) (xs' : List A) (ys' : List B) → Pairs P xs ys → Pairs P xs' ys' → Pairs P (xs ++ xs') (ys ++ ys')
  pairs_append [] [] xs' ys' p q = q
  pairs_append [] (y ∷ ys) xs' ys' p q = absurd p
  pairs_append (x ∷ xs) [] xs' ys' p q = absurd p
  pairs_append (x ∷ xs) (y ∷ ys) xs' ys' p q = (p.0, pairs_append xs ys xs' ys' p.1 q)

  pub pairs_nth : (xs : List A) (ys : List B) (r : ℕ) (x : A) → Pairs P xs ys → get_elem? xs r ≡ some x → (y : B) × (get_elem? ys r ≡ some y) × P x y
  pairs_nth [] ys r x p e = let z : ◌≡◌ {A = ℕ} 0 1 = cc in absurd (omega arith)
  pairs_nth (x₀ ∷ xs) [] r x p e = absurd p
  pairs_nth (x₀ ∷ xs) (y ∷ ys) zero x p e = let i : x₀ ≡ x = cc in (y, refl, subst (λ (z : A). P z y) i p.0)
  pairs_nth (x₀ ∷ xs) (y ∷ ys) (suc r) x p e = pairs_nth xs ys r x p.1 e

-- a row lists a node: it is the node's row at an offset where the node's bytes stand
pub record Lists (b : List ℕ) (n : Node) (r : RowFields) : Type 0 where
  pub at : ℕ
  pub level : ℕ
  pub behind : List ℕ
  pub row : r ≡ row_of at level n.0 n.1 n.2
  pub body : Body n.0 n.1 n.2
  pub stands : drop at b ≡ front n.0 (count n.0 n.1 n.2) ++ (ordinate_bytes n.0.order n.1 ++ (bytes n.2 ++ behind))

module _ (b : List ℕ) where
  -- the children stand where the body starts: a geometry has either coordinates or children
  kids_listed : (h : Header) (cs : List Ordinates) (kids : Forest) (l at : ℕ) (s : List ℕ) → Body h cs kids → drop at b ≡ ordinate_bytes h.order cs ++ s
      → (drop at b ≡ s → Pairs (Lists b) (nodes kids) (rows at l kids)) → Pairs (Lists b) (nodes kids) (rows at l kids)
  unfolding nodes rows flat_map
  kids_listed h cs kids l at s g e k = go (holds_coordinates h.kind) refl
    where
      go : (u : Bool) → holds_coordinates h.kind ≡ u → Pairs (Lists b) (nodes kids) (rows at l kids)
      go true c = subst (λ (x : Forest). Pairs (Lists b) (nodes x) (rows at l x)) (sym (no_siblings kids (g.childless c))) tt
      go false c = k (e ∙ ap (λ (x : List Ordinates). ordinate_bytes h.order x ++ s) (none_left cs (g.bare c)))

  pub nodes_listed : (t : Forest) (p : Place) (l at : ℕ) (s : List ℕ) → WellFormed p l t → drop at b ≡ bytes t ++ s → Pairs (Lists b) (nodes t) (rows at l t)
  unfolding nodes rows bytes
  nodes_listed empty p l at s g e = tt
  nodes_listed (first h cs kids rest) p l at s g e =
      let r = row_of at l h cs kids in
      let f = front h (count h cs kids) in
      let o = ordinate_bytes h.order cs in
      let s₁ = bytes rest ++ s in
      let e₁ : drop at b ≡ f ++ (o ++ (bytes kids ++ s₁)) = e ∙ simp append_assoc in
      let e₂ : drop r.body.0 b ≡ o ++ (bytes kids ++ s₁) = behind b at f (o ++ (bytes kids ++ s₁)) e₁ in
      let e₃ = behind b r.body.0 o (bytes kids ++ s₁) e₂ in
      let e₄ : drop r.end.0 b ≡ bytes rest ++ s = behind b (r.body.0 + length o) (bytes kids) s₁ e₃ in (
        record { at = at; level = l; behind = s₁; row = refl; body = g.1; stands = e₁ },
        pairs_append (Lists b) (nodes kids) (rows r.body.0 (suc l) kids) (nodes rest) (rows r.end.0 l rest)
            (kids_listed h cs kids (suc l) r.body.0 (bytes kids ++ s₁) g.1 e₂ (λ d. nodes_listed kids (inside h) (suc l) r.body.0 s₁ g.2 d))
            (nodes_listed rest p l r.end.0 s g.3 e₄),
      )
