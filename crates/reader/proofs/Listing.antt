-- Rows listed one after the other. Assumes nothing.
use Prim.Native.Nat.{ℕ, suc, ◌+◌, ◌<◌}
use native.Mathlib.Omega.{arith}
use mathlib.Core.Path.{◌≡◌, refl, ap, ◌∙◌}
use mathlib.Core.List.{List, [], ◌∷◌, ◌++◌}
use lib.ListN.{length}
use Rattle.meaning.specs.declared.RowFields.{RowFields}
use Rattle.reader.specs.Rows.{Lists, AnyOrder, list_rows}

module _ {S : Type 0} (list : Lists S) (any_order : AnyOrder list) where
  -- a row before others, listed first or last
  list_before : (s : S) (i j : ℕ) (f : RowFields) (fs : List RowFields) → i < j → list (list_rows list s j fs) i f ≡ list_rows list (list s i f) j fs
  unfolding list_rows
  list_before s i j f [] lt = refl
  list_before s i j f (g ∷ gs) lt =
      any_order (list_rows list s (suc j) gs) i j f g lt ∙ ap (λ (u : S). list u j g) (list_before s i (suc j) f gs (omega arith))

  pub list_append : (s : S) (r : ℕ) (fs gs : List RowFields) → list_rows list s r (fs ++ gs) ≡ list_rows list (list_rows list s r fs) (r + length fs) gs
  unfolding list_rows
  list_append s r [] gs = ap (λ (n : ℕ). list_rows list s n gs) (omega arith)
  list_append s r (f ∷ fs) gs =
      ap (λ (u : S). list u r f) (list_append s (suc r) fs gs)
      ∙ list_before (list_rows list s (suc r) fs) r (suc r + length fs) f gs (omega arith)
      ∙ ap (λ (n : ℕ). list_rows list (list (list_rows list s (suc r) fs) r f) n gs) (omega arith)

-- what lists rows, seen as another that does
pub list_along : {S T : Type 0} (list : Lists S) (other : Lists T) (v : S → T) → ((s : S) (i : ℕ) (f : RowFields) → v (list s i f) ≡ other (v s) i f) → (s : S) (r : ℕ) (fs : List RowFields)
    → v (list_rows list s r fs) ≡ list_rows other (v s) r fs
unfolding list_rows
list_along list other v h s r [] = refl
list_along list other v h s r (f ∷ fs) = h (list_rows list s (suc r) fs) r f ∙ ap (λ t. other t r f) (list_along list other v h s (suc r) fs)
