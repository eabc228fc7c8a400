-- What is written of a table's rows is the ISO form of the geometry that they list. Assumes nothing.
use Prim.Native.Nat.{ℕ, zero, suc, ◌*◌, ◌≤◌, ◌<◌}
use native.Mathlib.Omega.{arith}
use mathlib.Core.Path.{◌≡◌, refl, sym, ap, ap₂, subst, ◌∙◌}
use mathlib.Core.Bool.{Bool, true, false, ◌&&◌, cond}
use mathlib.Core.List.{List, [], ◌∷◌, ◌++◌, append_assoc, append-nil, flat_map}
use lib.ListN.{length, take, drop, get_or, replicate, length-append, length-drop}
use lib.Seq.{take_at}
use lib.Dec.{eqb}
use borrow.Author.Tests.{eqb-true}
use Rattle.meaning.specs.declared.Endianness.{Endianness}
use Rattle.meaning.specs.declared.Kind.TheVariants.{Point}
use Rattle.meaning.specs.declared.RowFields.{RowFields}
use Rattle.meaning.specs.Code.{size, same_kind}
use Rattle.meaning.specs.Grammar.{Header, Ordinates, Forest, empty, first, Node, nodes, siblings, bytes, front, holds_coordinates, count, empty_point, shown, ordinate_bytes, outermost, Body, is_nan, every}
use Rattle.meaning.specs.Reading.{coordinates_in}
use Rattle.meaning.specs.Table.{rows_in, rows, row_of, fetch}
use Rattle.meaning.specs.Writer.{iso_header, iso_coordinates, iso_form, iso_bytes}
use Rattle.meaning.proofs.Codes.{both, same_kind-true}
use Rattle.meaning.proofs.Coordinates.{length_ordinate_bytes, read_bytes}
use Rattle.meaning.proofs.Fields.{behind}
use Rattle.meaning.proofs.IsoForm.{count_iso_form}
use Rattle.meaning.proofs.Listed.{Pairs, Lists, nodes_listed}
use Rattle.meaning.proofs.Lists.{none_left}
use Rattle.meaning.proofs.Siblings.{length_rows}
use Rattle.meaning.proofs.Sizes.{front_some}
use Rattle.questions.proofs.Begun.{Begun}
use Rattle.writer.specs.Rows.{row_header, row_count, row_ordinates, row_bytes, empty_bytes, full_bytes, Within, rows_bytes}

-- ---- a node's own bytes in the ISO form

abbrev own : Endianness → Node → List ℕ
own o n = front (iso_header o n.0) (count n.0 n.1 n.2) ++ ordinate_bytes o (iso_coordinates n.0 n.1)

flat_append : {A : Type 0} (g : A → List ℕ) (xs ys : List A) → flat_map g (xs ++ ys) ≡ flat_map g xs ++ flat_map g ys
unfolding flat_map
flat_append g [] ys = refl
flat_append g (x ∷ xs) ys = ap (λ (z : List ℕ). g x ++ z) (flat_append g xs ys) ∙ sym (append_assoc (g x) (flat_map g xs) (flat_map g ys))

-- The ISO form's bytes are its nodes' own, in reading order.
pub iso_nodes : (o : Endianness) (f : Forest) → iso_bytes o f ≡ flat_map (own o) (nodes f)
unfolding iso_form bytes nodes flat_map
iso_nodes o empty = refl
iso_nodes o (first h cs kids rest) =
    let c = ordinate_bytes o (iso_coordinates h cs) in
    let below = flat_map (own o) (nodes kids) in
    let after = flat_map (own o) (nodes rest) in
    ap₂ {C = List ℕ} (λ (n : ℕ) (x : List ℕ). front (iso_header o h) n ++ (c ++ x))
    (count_iso_form o h cs kids)
    (ap₂ {C = List ℕ} (λ (x y : List ℕ). x ++ y) (iso_nodes o kids) (iso_nodes o rest) ∙ sym (flat_append (own o) (nodes kids) (nodes rest)))
    ∙ sym (append_assoc (front (iso_header o h) (count h cs kids)) c (flat_map (own o) (nodes kids ++ nodes rest)))

-- ---- a row that lists a node

module _ (b : List ℕ) (o : Endianness) (h : Header) (cs : List Ordinates) (kids : Forest) (at l : ℕ) (s : List ℕ) (g : Body h cs kids)
    (stands : drop at b ≡ front h (count h cs kids) ++ (ordinate_bytes h.order cs ++ s)) where
  abbrev r : RowFields
  r = row_of at l h cs kids

  there : drop r.body.0 b ≡ ordinate_bytes h.order cs ++ s
  there = behind b at (front h (count h cs kids)) (ordinate_bytes h.order cs ++ s) stands

  no_longer : (u : Bool) → length (cond u [] cs) ≤ length cs
  no_longer true = omega arith
  no_longer false = omega arith

  pub row_within : Within b r
  row_within k =
      let n : count h cs kids ≡ length (shown h cs) = ap (λ (u : Bool). cond u (length (shown h cs)) (siblings kids)) k in
      let m : 8 * size h.dimension * count h cs kids ≤ 8 * size h.dimension * length cs = rw n (more (8 * size h.dimension) (length (shown h cs)) (length cs) (no_longer (empty_point h cs))) in
      let e₀ = ap length stands in
      let e₁ = length-append (front h (count h cs kids)) (ordinate_bytes h.order cs ++ s) in
      let e₂ = length-append (ordinate_bytes h.order cs) s in
      let e₃ = length_ordinate_bytes h.order (size h.dimension) cs g.ordinates in
      let e₄ = length-drop at b in
      let e₅ = front_some h (count h cs kids) in
      omega arith
    where
      more : (w x y : ℕ) → x ≤ y → w * x ≤ w * y
      more zero x y le = omega arith
      more (suc w) x y le = omega (arith, more w x y le)

  -- the coordinates in the buffer are the node's
  full : (n : ℕ) → n ≡ length cs → ordinate_bytes o (coordinates_in h.order (size h.dimension) n (take (8 * size h.dimension * n) (drop r.body.0 b))) ≡ ordinate_bytes o cs
  full n i =
      let w = 8 * size h.dimension * length cs in
      let e : take w (drop r.body.0 b) ≡ ordinate_bytes h.order cs =
      ap (take w) there ∙ take_at (ordinate_bytes h.order cs) s w (length_ordinate_bytes h.order (size h.dimension) cs g.ordinates) in
      rw i (ap (λ (x : List ℕ). ordinate_bytes o (coordinates_in h.order (size h.dimension) (length cs) x)) e ∙ ap (ordinate_bytes o) (read_bytes h.order (size h.dimension) cs g.ordinates))

  by_place : (t v : Bool) → same_kind h.kind Point ≡ t → eqb (length cs) 0 ≡ v → cond (t && v) (empty_bytes o h.dimension) (ordinate_bytes o cs) ≡ ordinate_bytes o cs
  by_place true true i j = let p = g.one (same_kind-true h.kind Point i) in let q = eqb-true (length cs) 0 j in absurd (omega arith)
  by_place true false i j = refl
  by_place false v i j = refl

  filled : (u : Bool) → empty_point h cs ≡ u
      → cond (same_kind h.kind Point && eqb (length (cond u [] cs)) 0) (empty_bytes o h.dimension)
      (ordinate_bytes o (coordinates_in h.order (size h.dimension) (length (cond u [] cs)) (take (8 * size h.dimension * length (cond u [] cs)) (drop r.body.0 b))))
      ≡ ordinate_bytes o (cond u (iso_coordinates h cs) cs)
  filled true e =
      ap (λ (v : Bool).
      cond (v && eqb 0 0) (empty_bytes o h.dimension) (ordinate_bytes o (coordinates_in h.order (size h.dimension) 0 (take (8 * size h.dimension * 0) (drop r.body.0 b)))))
      (both (same_kind h.kind Point) (every (every is_nan) cs) e).0
      ∙ sym (ap (λ (u : Bool). ordinate_bytes o (cond u (replicate (size h.dimension) 0x7FF8_0000_0000_0000 ∷ []) cs)) e)
  filled false e =
      ap (λ (x : List ℕ). cond (same_kind h.kind Point && eqb (length cs) 0) (empty_bytes o h.dimension) x) (full (length cs) refl)
      ∙ by_place (same_kind h.kind Point) (eqb (length cs) 0) refl refl

  iso_again : (u : Bool) → empty_point h cs ≡ u → cond u (iso_coordinates h cs) cs ≡ iso_coordinates h cs
  iso_again true e = refl
  iso_again false e = rw e refl

  no_point : holds_coordinates h.kind ≡ false → (u : Bool) → same_kind h.kind Point ≡ u → u ≡ false
  no_point k true e = let p = ap holds_coordinates (same_kind-true h.kind Point e) in absurd (cc)
  no_point k false e = refl

  ordinates : (k : Bool) → holds_coordinates h.kind ≡ k → row_ordinates b o r ≡ ordinate_bytes o (iso_coordinates h cs)
  unfolding flat_map
  ordinates true k =
      let n : count h cs kids ≡ length (shown h cs) = ap (λ (u : Bool). cond u (length (shown h cs)) (siblings kids)) k in
      ap₂ {C = List ℕ} (λ (u : Bool) (n : ℕ).
      cond u
      (cond (same_kind h.kind Point && eqb n 0) (empty_bytes o h.dimension) (ordinate_bytes o (coordinates_in h.order (size h.dimension) n (take (8 * size h.dimension * n) (drop r.body.0 b)))))
      []) k n
      ∙ filled (empty_point h cs) refl
      ∙ ap (ordinate_bytes o) (iso_again (empty_point h cs) refl)
  ordinates false k =
      let e : cs ≡ [] = none_left cs (g.bare k) in
      ap (λ (u : Bool). cond u (cond (same_kind h.kind Point && eqb (count h cs kids) 0) (empty_bytes o h.dimension) (full_bytes b o r)) []) k
      ∙ sym (ap (λ (u : Bool). ordinate_bytes o (cond (u && every (every is_nan) cs) (iso_coordinates h cs) cs)) (no_point k (same_kind h.kind Point) refl) ∙ ap (ordinate_bytes o) e)
      ∙ ap (ordinate_bytes o) (iso_again (empty_point h cs) refl)

  pub row_own : row_bytes b o r ≡ own o (h, cs, kids)
  row_own =
      ap (λ (x : List ℕ). row_header o r ++ (row_count o h.kind (count h cs kids) ++ x)) (ordinates (holds_coordinates h.kind) refl)
      ∙ sym (append_assoc (row_header o r) (row_count o h.kind (count h cs kids)) (ordinate_bytes o (iso_coordinates h cs)))

module _ (b : List ℕ) (o : Endianness) where
  pub own_listed : (n : Node) (r : RowFields) → Lists b n r → row_bytes b o r ≡ own o n
  own_listed n r p = ap (row_bytes b o) p.row ∙ row_own b o n.0 n.1 n.2 p.at p.level (bytes n.2 ++ p.behind) p.body p.stands

  pub within_listed : (n : Node) (r : RowFields) → Lists b n r → Within b r
  within_listed n r p = subst (Within b) (sym p.row) (row_within b o n.0 n.1 n.2 p.at p.level (bytes n.2 ++ p.behind) p.body p.stands)

  each_own : (ns : List Node) (rs : List RowFields) → Pairs (Lists b) ns rs → flat_map (row_bytes b o) rs ≡ flat_map (own o) ns
  unfolding flat_map
  each_own [] [] p = refl
  each_own [] (r ∷ rs) p = absurd p
  each_own (n ∷ ns) [] p = absurd p
  each_own (n ∷ ns) (r ∷ rs) p = ap₂ {C = List ℕ} (λ (x y : List ℕ). x ++ y) (own_listed n r p.0) (each_own ns rs p.1)

  -- ---- rows by their numbers

  first_row : (row : ℕ → RowFields) (n : ℕ) → rows_bytes b row o (suc n) ≡ row_bytes b o (row 0) ++ rows_bytes b (λ i. row (suc i)) o n
  unfolding rows_bytes
  first_row row zero = sym (append-nil (row_bytes b o (row 0)))
  first_row row (suc n) =
      ap (λ (x : List ℕ). x ++ row_bytes b o (row (suc n))) (first_row row n)
      ∙ append_assoc (row_bytes b o (row 0)) (rows_bytes b (λ i. row (suc i)) o n) (row_bytes b o (row (suc n)))

  by_number : (rs : List RowFields) (row : ℕ → RowFields) → ((i : ℕ) → i < length rs → (d : RowFields) → row i ≡ get_or rs i d) → rows_bytes b row o (length rs) ≡ flat_map (row_bytes b o) rs
  unfolding flat_map rows_bytes
  by_number [] row e = refl
  by_number (r ∷ rs) row e =
      first_row row (length rs)
      ∙ ap₂ {C = List ℕ} (λ (x y : List ℕ). x ++ y)
      (ap (row_bytes b o) (e 0 (omega arith) r))
      (by_number rs (λ i. row (suc i)) (λ i lt d. e (suc i) (omega arith) d))

-- ---- a table that lists a geometry

each_within : (b : List ℕ) (ns : List Node) (rs : List RowFields) → Pairs (Lists b) ns rs → (i : ℕ) → i < length rs → (d : RowFields) → Within b (get_or rs i d)
each_within b [] [] p i lt d = absurd (omega arith)
each_within b [] (r ∷ rs) p i lt d = absurd p
each_within b (n ∷ ns) [] p i lt d = absurd p
each_within b (n ∷ ns) (q ∷ rs) p zero lt d = within_listed b n.0.order n q p.0
each_within b (n ∷ ns) (r ∷ rs) p (suc i) lt d = each_within b ns rs p.1 i (omega arith) d

module _ (b t : List ℕ) (f : Forest) (g : Begun b t f) where
  pairs : Pairs (Lists b) (nodes f) (rows 0 0 f)
  pairs = nodes_listed b f outermost 0 0 g.behind g.geometry.well_formed g.stands

  pub table_iso : (o : Endianness) → rows_bytes b (fetch t) o (rows_in f) ≡ iso_bytes o f
  table_iso o =
      ap (rows_bytes b (fetch t) o) (sym (length_rows f 0 0))
      ∙ by_number b o (rows 0 0 f) (fetch t) (λ i lt d. g.fetched i (omega (arith, length_rows f 0 0)) d)
      ∙ each_own b o (nodes f) (rows 0 0 f) pairs
      ∙ sym (iso_nodes o f)

  pub table_within : (r : ℕ) → r < rows_in f → Within b (fetch t r)
  table_within r lt =
      let d = fetch t r in
      subst (Within b) (sym (g.fetched r lt d)) (each_within b (nodes f) (rows 0 0 f) pairs r (omega (arith, length_rows f 0 0)) d)
