-- Rows are put into a table, and compared with those of a table, in any order. Assumes nothing.
use Prim.Native.Nat.{ℕ, ◌+◌, ◌*◌, ◌/◌, ◌≤◌, ◌<◌}
use native.Mathlib.Omega.{arith}
use mathlib.Core.Path.{◌≡◌, refl, sym, ap, ◌∙◌}
use mathlib.Core.Bool.{Bool, true, false, ◌&&◌, cond, and_assoc, and_comm}
use mathlib.Core.List.{List}
use lib.ListN.{length, set, length-set}
use lib.Seq.{set_comm}
use lib.Dec.{ltb}
use borrow.Author.Tests.{lt-ltb, le-ltb, ltb-true, ltb-false}
use Rattle.meaning.specs.declared.RowFields.{RowFields}
use Rattle.meaning.specs.Table.{word_a, word_b, rows_of}
use Rattle.reader.specs.Rows.{put_row, has_row}

abbrev at_row : List ℕ → ℕ → RowFields → List ℕ
at_row t r f = set (set t (2 * r) (word_a f)) (2 * r + 1) (word_b f)

length_at_row : (t : List ℕ) (r : ℕ) (f : RowFields) → length (at_row t r f) ≡ length t
length_at_row t r f = simp length-set

at_rows : (t : List ℕ) (r s : ℕ) (f g : RowFields) → r < s → at_row (at_row t s g) r f ≡ at_row (at_row t r f) s g
at_rows t r s f g lt =
    let u = set t (2 * s) (word_a g) in
    ap (λ (l : List ℕ). set l (2 * r + 1) (word_b f)) (set_comm u (2 * s + 1) (2 * r) (word_b g) (word_a f) (λ e. omega arith))
    ∙ set_comm (set u (2 * r) (word_a f)) (2 * s + 1) (2 * r + 1) (word_b g) (word_b f) (λ e. omega arith)
    ∙ ap (λ (l : List ℕ). set l (2 * s + 1) (word_b g))
    (ap (λ (l : List ℕ). set l (2 * r + 1) (word_b f)) (set_comm t (2 * s) (2 * r) (word_a g) (word_a f) (λ e. omega arith))
    ∙ set_comm (set t (2 * r) (word_a f)) (2 * s) (2 * r + 1) (word_a g) (word_b f) (λ e. omega arith))

pub put_at : (t : List ℕ) (r : ℕ) (f : RowFields) → r < length t / 2 → put_row t r f ≡ at_row t r f
put_at t r f h = rw (lt-ltb r (length t / 2) h)

put_not : (t : List ℕ) (r : ℕ) (f : RowFields) → length t / 2 ≤ r → put_row t r f ≡ t
put_not t r f h = rw (le-ltb r (length t / 2) h)

pub put_length : (t : List ℕ) (r : ℕ) (f : RowFields) → length (put_row t r f) ≡ length t
put_length t r f = go (ltb r (rows_of t))
  where
    go : (c : Bool) → length (cond c (at_row t r f) t) ≡ length t
    go true = length_at_row t r f
    go false = refl

-- rows at two places are put in either order
pub put_swap : (t : List ℕ) (r s : ℕ) (f g : RowFields) → r < s → put_row (put_row t s g) r f ≡ put_row (put_row t r f) s g
put_swap t r s f g lt = go (ltb s (length t / 2)) refl
  where
    go : (c : Bool) → ltb s (length t / 2) ≡ c → put_row (put_row t s g) r f ≡ put_row (put_row t r f) s g
    go true e =
        let h = ltb-true s (length t / 2) e in
        let l = ap (λ (n : ℕ). n / 2) (length_at_row t s g) in
        let m = ap (λ (n : ℕ). n / 2) (length_at_row t r f) in
        ap (λ (u : List ℕ). put_row u r f) (put_at t s g h) ∙ put_at (at_row t s g) r f (omega arith) ∙ at_rows t r s f g lt
        ∙ sym (ap (λ (u : List ℕ). put_row u s g) (put_at t r f (omega arith)) ∙ put_at (at_row t r f) s g (omega arith))
    go false e =
        let h = ltb-false s (length t / 2) e in
        let m = ap (λ (n : ℕ). n / 2) (put_length t r f) in
        ap (λ (u : List ℕ). put_row u r f) (put_not t s g h) ∙ sym (put_not (put_row t r f) s g (omega arith))

-- rows at two places are compared in either order
pub has_swap : (t : List ℕ) (r s : ℕ) (f g : RowFields) (b : Bool) → b && has_row t s g && has_row t r f ≡ b && has_row t r f && has_row t s g
has_swap t r s f g b =
    let x = has_row t s g in
    let y = has_row t r f in
    and_assoc b x y ∙ ap (λ (z : Bool). b && z) (and_comm x y) ∙ sym (and_assoc b y x)
