-- Fetched: from a table that passed the check come the rows of the geometry. Assumes nothing.
use Prim.Native.Nat.{ℕ, zero, suc, ◌+◌, ◌*◌, ◌<◌}
use native.Mathlib.Omega.{arith}
use mathlib.Core.Path.{◌≡◌, refl, sym, ap, ap₂, ◌∙◌}
use mathlib.Core.Bool.{true}
use mathlib.Core.List.{List, [], ◌∷◌}
use lib.ListN.{length, get_or}
use lib.Seq.{get_or-take}
use Rattle.meaning.specs.declared.RowFields.{RowFields}
use Rattle.meaning.specs.Number.{Bytes}
use Rattle.meaning.specs.Grammar.{Forest}
use Rattle.meaning.specs.Answer.{answered}
use Rattle.meaning.specs.Reading.{reading}
use Rattle.meaning.specs.Table.{rows_in, rows, word_a, word_b, words, words_of, RowFits, fields_of, fetch}
use Rattle.meaning.specs.Questions.{check}
use Rattle.meaning.proofs.Lists.{each_get}
use Rattle.meaning.proofs.Siblings.{length_rows}
use Rattle.meaning.proofs.Words.{row_back}
use Rattle.meaning.proofs.Fits.{fits_the_words}
use Rattle.questions.proofs.Checked.{Listed, listed_as}

words_there : (rs : List RowFields) (r : ℕ) (d : RowFields) → r < length rs → (get_or (words rs) (2 * r) 0 ≡ word_a (get_or rs r d)) × (get_or (words rs) (2 * r + 1) 0 ≡ word_b (get_or rs r d))
unfolding words
words_there [] r d lt = absurd (omega arith)
words_there (f ∷ fs) zero d lt = (refl, refl)
words_there (f ∷ fs) (suc r) d lt =
    let (a, b) = words_there fs r d (omega arith) in
    let m : 2 * suc r ≡ suc (suc (2 * r)) = omega arith in
    let n : 2 * suc r + 1 ≡ suc (suc (2 * r + 1)) = omega arith in
    (ap (λ (i : ℕ). get_or (words (f ∷ fs)) i 0) m ∙ a, ap (λ (i : ℕ). get_or (words (f ∷ fs)) i 0) n ∙ b)

-- Each row of a table that lists a geometry is that geometry's row there;
pub fetch_listed : (b : List ℕ) → Bytes b → (t : List ℕ) (f : Forest) (n : ℕ) → Listed b t f n → (r : ℕ) → r < rows_in f → (d : RowFields) → fetch t r ≡ get_or (rows 0 0 f) r d
fetch_listed b all t f n l r lt d =
    let rs = rows 0 0 f in
    let there : r < length rs = omega (arith, length_rows f 0 0) in
    let (x, y) = words_there rs r d there in
    ap₂ fields_of (word (2 * r) (omega arith) ∙ x) (word (2 * r + 1) (omega arith) ∙ y) ∙ row_back (get_or rs r d) (each_get RowFits rs r d (fits_the_words b all f n l.read) there)
  where
    word : (i : ℕ) → i < 2 * rows_in f → get_or t i 0 ≡ get_or (words_of f) i 0
    word i le = sym (get_or-take (2 * rows_in f) t i 0 le) ∙ ap (λ (ws : List ℕ). get_or ws i 0) l.same

-- so of a checked pair.
pub fetched : (b : List ℕ) → Bytes b → (t : List ℕ) → check b t ≡ true → (f : Forest) (n : ℕ) → reading b ≡ answered (f, n) → (r : ℕ) → r < rows_in f → (d : RowFields)
    → fetch t r ≡ get_or (rows 0 0 f) r d
fetched b all t h f n e = fetch_listed b all t f n (listed_as b t h f n e)
