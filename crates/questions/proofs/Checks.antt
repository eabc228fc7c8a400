-- From the walk to what the check says. Assumes nothing.
use Prim.Native.Nat.{ℕ, ◌+◌, ◌*◌, ◌/◌, ◌≤◌}
use native.Mathlib.Omega.{arith}
use mathlib.Core.Path.{◌≡◌, refl, sym, ap, ◌∙◌}
use mathlib.Core.Bool.{true}
use mathlib.Core.List.{List}
use lib.ListN.{length, take}
use borrow.Author.Tests.{le-leb}
use Rattle.meaning.specs.Grammar.{Forest}
use Rattle.meaning.specs.Answer.{Answer, refused, answered}
use Rattle.meaning.specs.Reading.{reading}
use Rattle.meaning.specs.Table.{rows_in, rows, words_of, rows_of}
use Rattle.meaning.specs.Questions.{same_words, holds, check}
use Rattle.reader.specs.declared.rows.Compare.{Compare}
use Rattle.reader.specs.Rows.{list_rows}
use Rattle.reader.specs.Walk.{State, whole}
use Rattle.reader.proofs.Compared.{compared, compared_with, compares}

pub enough : (x : Forest × ℕ) (t : List ℕ) → rows_in x.0 ≤ length t / 2 → same_words (take (2 * rows_in x.0) t) (words_of x.0) ≡ holds (answered x) t
enough x t h = rw (le-leb (rows_in x.0) (rows_of t) h)

-- where the table has room for the rows that the walk went over, what it compared decides
pub all_rows : (b : List ℕ) (s : Compare) → s.same ≡ true → (st : State Compare) → answered st ≡ whole compared_with 0 0 0 s (reading b) → st.1 ≤ length s.table.now / 2
    → st.2.same ≡ check b s.table.now
all_rows b s q st i le = go (reading b) refl i
  where
    t : List ℕ
    t = s.table.now

    go : (A : Answer (Forest × ℕ)) → reading b ≡ A → answered st ≡ whole compared_with 0 0 0 s A → st.2.same ≡ check b t
    go (refused x y) e j = let z : ◌≡◌ {A = ℕ} 0 1 = cc in absurd (omega arith)
    go (answered x) e j =
        let i₀ : st ≡ (x.1, 0 + rows_in x.0, list_rows compared_with s 0 (rows 0 0 x.0)) = cc in
        let room : rows_in x.0 ≤ length t / 2 = omega (arith, ap (λ (y : State Compare). y.1) i₀, le) in
        ap (λ (y : State Compare). y.2.same) i₀ ∙ compares s 0 (rows 0 0 x.0) q ∙ compared t x.0 room ∙ enough x t room ∙ ap (λ (y : Answer (Forest × ℕ)). holds y t) (sym e)
