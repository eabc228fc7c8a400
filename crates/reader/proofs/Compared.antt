-- The rows that a walk compares are the words of the table. Assumes nothing.
use Prim.Native.Nat.{ℕ, suc, ◌+◌, ◌*◌, ◌/◌, ◌≤◌, ◌<◌}
use native.Mathlib.Omega.{arith}
use mathlib.Core.Path.{◌≡◌, refl, sym, ap, ap₂, ◌∙◌}
use mathlib.Core.Bool.{Bool, true, ◌&&◌, and_assoc, and_comm}
use mathlib.Core.List.{List, [], ◌∷◌, ◌++◌}
use lib.ListN.{length, take, drop, get_or}
use lib.Seq.{drop-cons}
use lib.Dec.{eqb}
use borrow.Author.Tests.{lt-ltb}
use Rattle.meaning.specs.declared.RowFields.{RowFields}
use Rattle.meaning.specs.Grammar.{Forest}
use Rattle.meaning.specs.Table.{rows_in, rows, word_a, word_b, words}
use Rattle.meaning.specs.Questions.{same_words}
use Rattle.meaning.proofs.Siblings.{length_rows}
use Rattle.reader.specs.declared.rows.Compare.{Compare}
use Rattle.reader.specs.Rows.{has_row, has_rows, list_rows}
use Rattle.reader.proofs.Listing.{list_along}

has_at : (t : List ℕ) (r : ℕ) (f : RowFields) → r < length t / 2 → has_row t r f ≡ eqb (get_or t (2 * r) 0) (word_a f) && eqb (get_or t (2 * r + 1) 0) (word_b f)
has_at t r f h = rw (lt-ltb r (length t / 2) h)

drop_two : (t : List ℕ) (i : ℕ) → i + 1 < length t → drop i t ≡ get_or t i 0 ∷ get_or t (i + 1) 0 ∷ drop (i + 2) t
drop_two t i h =
    let one : suc i ≡ i + 1 = omega arith in
    let two : suc (i + 1) ≡ i + 2 = omega arith in
    drop-cons t i 0 (omega arith)
    ∙ ap (λ (l : List ℕ). get_or t i 0 ∷ l) (ap (λ (j : ℕ). drop j t) one ∙ drop-cons t (i + 1) 0 h ∙ ap (λ (j : ℕ). get_or t (i + 1) 0 ∷ drop j t) two)

-- rows that the table has room for
has_words : (t : List ℕ) (r : ℕ) (rs : List RowFields) → r + length rs ≤ length t / 2 → has_rows t r rs ≡ same_words (take (2 * length rs) (drop (2 * r) t)) (words rs)
unfolding list_rows same_words words
has_words t r [] h = refl
has_words t r (f ∷ fs) h =
    let a = get_or t (2 * r) 0 in
    let b = get_or t (2 * r + 1) 0 in
    let later = drop (2 * suc r) t in
    let w : same_words (take (2 * length fs) later) (words fs) ≡ has_rows t (suc r) fs = sym (has_words t (suc r) fs (omega arith)) in
    let n : 2 * suc (length fs) ≡ suc (suc (2 * length fs)) = omega arith in
    let m : 2 * r + 2 ≡ 2 * suc r = omega arith in
    let d : drop (2 * r) t ≡ a ∷ b ∷ later = drop_two t (2 * r) (omega arith) ∙ ap (λ (j : ℕ). a ∷ b ∷ drop j t) m in
    ap (λ (x : Bool). has_rows t (suc r) fs && x) (has_at t r f (omega arith))
    ∙ and_comm (has_rows t (suc r) fs) (eqb a (word_a f) && eqb b (word_b f))
    ∙ and_assoc (eqb a (word_a f)) (eqb b (word_b f)) (has_rows t (suc r) fs)
    ∙ ap (λ (x : Bool). eqb a (word_a f) && (eqb b (word_b f) && x)) (sym w)
    ∙ sym (ap₂ (λ (k : ℕ) (l : List ℕ). same_words (take k l) (word_a f ∷ word_b f ∷ words fs)) n d)

-- rows behind others are compared as they are
pub has_append : (t : List ℕ) (r : ℕ) (fs gs : List RowFields) → has_rows t r (fs ++ gs) ≡ has_rows t r fs && has_rows t (r + length fs) gs
unfolding list_rows
has_append t r [] gs = ap (λ (n : ℕ). has_rows t n gs) (omega arith)
has_append t r (f ∷ fs) gs =
    ap (λ (b : Bool). b && has_row t r f) (has_append t (suc r) fs gs ∙ ap (λ (n : ℕ). has_rows t (suc r) fs && has_rows t n gs) (omega arith))
    ∙ swap (has_rows t (suc r) fs) (has_rows t (r + length (f ∷ fs)) gs) (has_row t r f)
  where
    swap : (a b c : Bool) → a && b && c ≡ a && c && b
    swap a b c = and_assoc a b c ∙ ap (λ (x : Bool). a && x) (and_comm b c) ∙ sym (and_assoc a c b)

pub compared : (t : List ℕ) (f : Forest) → rows_in f ≤ length t / 2 → has_rows t 0 (rows 0 0 f) ≡ same_words (take (2 * rows_in f) t) (words (rows 0 0 f))
compared t f h =
    let n = length_rows f 0 0 in
    has_words t 0 (rows 0 0 f) (omega arith) ∙ ap (λ (k : ℕ). same_words (take (2 * k) t) (words (rows 0 0 f))) n

-- a table compared with the rows that a walk lists
abbrev pub compared_with : Compare → ℕ → RowFields → Compare
compared_with s r f = record s { same = s.same && has_row s.table.now r f }

pub compares : (s : Compare) (r : ℕ) (fs : List RowFields) → s.same ≡ true → (list_rows compared_with s r fs).same ≡ has_rows s.table.now r fs
compares s r fs e =
    let old = s.table.now in
    let along : list_rows compared_with s r fs ≡ record s { same = list_rows (λ same i f. same && has_row old i f) s.same r fs } =
    sym (list_along (λ (same : Bool) i f. same && has_row old i f) compared_with (λ (same : Bool). record s { same = same }) (λ b i f. refl) s.same r fs) in
    ap (λ (c : Compare). c.same) along ∙ ap (λ (b : Bool). list_rows (λ same i f. same && has_row old i f) b r fs) e
