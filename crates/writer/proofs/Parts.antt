-- The parts of a row as the code writes them. Assumes nothing.
use Prim.Native.Nat.{ℕ, ◌+◌, ◌*◌, ◌-◌, ◌≤◌}
use native.Mathlib.Omega.{arith}
use mathlib.Core.Path.{◌≡◌, refl, sym, ap, ap₂, ◌∙◌}
use mathlib.Core.Bool.{Bool, true, false, ◌&&◌, cond}
use mathlib.Core.List.{List, [], ◌++◌}
use lib.ListN.{length, take, drop, length-drop}
use lib.Seq.{length-take-le}
use lib.Dec.{eqb}
use borrow.Author.Tests.{le-leb, eqb-true}
use borrow.Rule.Slice.PartAt.{part_to_end}
use Rattle.meaning.specs.declared.Endianness.{Endianness}
use Rattle.meaning.specs.declared.Kind.{Kind}
use Rattle.meaning.specs.declared.Kind.TheVariants.{Point}
use Rattle.meaning.specs.declared.RowFields.{RowFields}
use Rattle.meaning.specs.Number.{bytes_of}
use Rattle.meaning.specs.Code.{size, kind_number, same_kind}
use Rattle.meaning.specs.Grammar.{ordinate_bytes, holds_coordinates}
use Rattle.meaning.specs.Reading.{coordinates_in}
use Rattle.meaning.proofs.Numbers.{length_bytes_of}
use Rattle.meaning.proofs.Codes.{same_kind-true, ne_same_kind}
use Rattle.writer.specs.Rows.{row_count, empty_bytes, full_bytes, row_ordinates, Within}
use Rattle.writer.proofs.Running.{length_coordinates, length_repeated}

-- ---- a count

module _ (o : Endianness) (k : Kind) (n : ℕ) (other : k ≡ Point → ⊥) where
  counted : row_count o k n ≡ bytes_of o 4 n
  counted = ap (λ (t : Bool). cond t [] (bytes_of o 4 n)) (ne_same_kind k Point other)

  pub length_counted : length (row_count o k n) ≡ 4
  length_counted = ap length counted ∙ length_bytes_of o 4 n

  pub count_put : (s s₀ : List ℕ) → s ≡ bytes_of o 4 n ++ drop 4 s₀ → (s ≡ row_count o k n ++ drop (length (row_count o k n)) s₀) × (4 ≡ length (row_count o k n))
  count_put s s₀ e = (e ∙ ap₂ {C = List ℕ} (λ x i. x ++ drop i s₀) (sym counted) (sym length_counted), sym length_counted)

-- ---- an empty Point's numbers

module _ (b : List ℕ) (o : Endianness) (r : RowFields) (point : r.kind ≡ Point) (none : r.count ≡ 0) where
  emptied : row_ordinates b o r ≡ empty_bytes o r.dimension
  emptied = ap₂ {C = List ℕ} (λ k n. cond (holds_coordinates k) (cond (same_kind k Point && eqb n 0) (empty_bytes o r.dimension) (full_bytes b o r)) []) point none

  pub length_emptied : length (row_ordinates b o r) ≡ 8 * size r.dimension
  length_emptied = ap length emptied ∙ length_repeated o 0x7FF8_0000_0000_0000 (size r.dimension)

  pub empty_put : (s s₀ : List ℕ) (n : ℕ) → n ≡ size r.dimension → s ≡ empty_bytes o r.dimension ++ drop (8 * size r.dimension) s₀
      → (s ≡ row_ordinates b o r ++ drop (length (row_ordinates b o r)) s₀) × (8 * n ≡ length (row_ordinates b o r))
  empty_put s s₀ n i e =
      (e ∙ ap₂ {C = List ℕ} (λ x m. x ++ drop m s₀) (sym emptied) (sym length_emptied), ap (λ (m : ℕ). 8 * m) i ∙ sym length_emptied)

-- ---- the coordinates that stand in the buffer

module _ (b : List ℕ) (o : Endianness) (r : RowFields) (few : kind_number r.kind ≤ 2) (some : r.kind ≡ Point → r.count ≡ 0 → ⊥) (within : Within b r) (s : ℕ) (is : s ≡ size r.dimension) where
  filled : row_ordinates b o r ≡ full_bytes b o r
  filled = rw (le-leb (kind_number r.kind) 2 few) (go (same_kind r.kind Point) (eqb r.count 0) refl refl)
    where
      go : (t u : Bool) → same_kind r.kind Point ≡ t → eqb r.count 0 ≡ u → cond (t && u) (empty_bytes o r.dimension) (full_bytes b o r) ≡ full_bytes b o r
      go true true i j = absurd (some (same_kind-true r.kind Point i) (eqb-true r.count 0 j))
      go true false i j = refl
      go false u i j = refl

  pub length_filled : length (row_ordinates b o r) ≡ 8 * s * r.count
  length_filled =
      ap length filled
      ∙ length_coordinates r.order o (size r.dimension) r.count (take (8 * size r.dimension * r.count) (drop r.body.0 b))
      ∙ ap (λ (m : ℕ). 8 * m * r.count) (sym is)

  -- as the code takes them
  abbrev pub part : List ℕ
  part = take (8 * s * r.count) (take (length b - r.body.0) (drop r.body.0 b))

  same_part : part ≡ take (8 * size r.dimension * r.count) (drop r.body.0 b)
  same_part = ap₂ {C = List ℕ} (λ (m : ℕ) (x : List ℕ). take (8 * m * r.count) x) is (part_to_end b r.body.0)

  pub part_within : r.body.0 + 8 * s * r.count ≤ length b
  part_within = rw is (within (le-leb (kind_number r.kind) 2 few))

  pub length_part : length part ≡ 8 * s * r.count
  length_part =
      ap (λ (x : List ℕ). length (take (8 * s * r.count) x)) (part_to_end b r.body.0)
      ∙ length-take-le (8 * s * r.count) (drop r.body.0 b) (omega (arith, part_within, length-drop r.body.0 b))

  pub full_put : (t t₀ : List ℕ)
      → ((s n : ℕ) → length part ≡ 8 * s * n → t ≡ ordinate_bytes o (coordinates_in r.order s n part) ++ drop (length part) t₀)
      → (t ≡ row_ordinates b o r ++ drop (length (row_ordinates b o r)) t₀) × (8 * s * r.count ≡ length (row_ordinates b o r))
  full_put t t₀ e =
      let l : length part ≡ 8 * size r.dimension * r.count = length_part ∙ ap (λ (m : ℕ). 8 * m * r.count) is in (
        e (size r.dimension) r.count l
            ∙ ap₂ {C = List ℕ} (λ (x : List ℕ) (m : ℕ). ordinate_bytes o (coordinates_in r.order (size r.dimension) r.count x) ++ drop m t₀) same_part (length_part ∙ sym length_filled)
            ∙ ap (λ (x : List ℕ). x ++ drop (length (row_ordinates b o r)) t₀) (sym filled),
        sym length_filled,
      )
