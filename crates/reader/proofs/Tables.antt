-- From the walk to what the reader answers and leaves in the table. Assumes nothing.
use Prim.Native.Nat.{ℕ, suc, ◌+◌, ◌*◌, ◌/◌, ◌≤◌, ◌<◌}
use native.Mathlib.Nat.{add-zero, zero-add}
use native.Mathlib.Omega.{arith}
use mathlib.Core.Path.{◌≡◌, refl, sym, ap, ap₂, ◌∙◌}
use mathlib.Core.List.{List, [], ◌∷◌, ◌++◌, append_assoc}
use lib.ListN.{length, take, drop, get_or, set, length-append, take-append-drop}
use lib.Seq.{take-suc, set_at, length-take-le}
use borrow.Author.Tests.{le-leb, lt-leb}
use Rattle.std.specs.Prelude.{Result, Ok, Err}
use Rattle.meaning.specs.declared.Refusal.{Refusal}
use Rattle.meaning.specs.declared.RowFields.{RowFields}
use Rattle.meaning.specs.Grammar.{Forest}
use Rattle.meaning.specs.Answer.{Answer, refused, answered}
use Rattle.meaning.specs.Reading.{reading}
use Rattle.meaning.specs.Table.{rows_in, rows, word_a, word_b, words, rows_of, tabled, read_wkb}
use Rattle.meaning.proofs.Siblings.{length_rows}
use Rattle.reader.specs.declared.rows.Fill.{Fill}
use Rattle.reader.specs.declared.spot.Spot.{Spot}
use Rattle.reader.specs.Orders.{put_at, put_length}
use Rattle.reader.specs.Rows.{Lists, list_rows, put_row, put_rows}
use Rattle.reader.specs.Walk.{State, whole, walked}
use Rattle.reader.proofs.Listing.{list_along}

-- two words behind each other
set_two : (p : List ℕ) (x y : ℕ) (s : List ℕ) (i a b : ℕ) → length p ≡ i → set (set (p ++ (x ∷ y ∷ s)) i a) (i + 1) b ≡ p ++ (a ∷ b ∷ s)
set_two p x y s i a b e =
    ap (λ (l : List ℕ). set l (i + 1) b) (set_at p x (y ∷ s) a i e ∙ sym (append_assoc p (a ∷ []) (y ∷ s)))
    ∙ set_at (p ++ (a ∷ [])) y s b (i + 1) (length-append p (a ∷ []) ∙ ap (λ (n : ℕ). n + 1) e)
    ∙ append_assoc p (a ∷ []) (b ∷ s)

take_two : (t : List ℕ) (i : ℕ) → i + 1 < length t → take (suc (suc i)) t ≡ take i t ++ (get_or t i 0 ∷ get_or t (suc i) 0 ∷ [])
take_two t i h =
    take-suc t (suc i) 0 (omega arith) ∙ ap (λ (l : List ℕ). l ++ (get_or t (suc i) 0 ∷ [])) (take-suc t i 0 (omega arith))
    ∙ append_assoc (take i t) (get_or t i 0 ∷ []) (get_or t (suc i) 0 ∷ [])

pub length_words : (rs : List RowFields) → length (words rs) ≡ 2 * length rs
unfolding words
length_words [] = refl
length_words (r ∷ rs) = let e = length_words rs in omega arith

rows_length : (t : List ℕ) (r : ℕ) (fs : List RowFields) → length (put_rows t r fs) ≡ length t
unfolding list_rows
rows_length t r [] = refl
rows_length t r (f ∷ fs) = put_length (put_rows t (suc r) fs) r f ∙ rows_length t (suc r) fs

-- rows that fit are put at their places
put_fits : (t : List ℕ) (r : ℕ) (rs : List RowFields) → r + length rs ≤ length t / 2 → put_rows t r rs ≡ take (2 * r) t ++ (words rs ++ drop (2 * (r + length rs)) t)
unfolding list_rows words
put_fits t r [] h = sym (ap (λ (n : ℕ). take (2 * r) t ++ drop (2 * n) t) (add-zero r) ∙ take-append-drop (2 * r) t)
put_fits t r (f ∷ fs) h =
    let X = words fs ++ drop (2 * (suc r + length fs)) t in
    let ih : put_rows t (suc r) fs ≡ take (2 * suc r) t ++ X = put_fits t (suc r) fs (omega arith) in
    let two : 2 * suc r ≡ suc (suc (2 * r)) = omega arith in
    let x = get_or t (2 * r) 0 in
    let y = get_or t (suc (2 * r)) 0 in
    let g : put_rows t (suc r) fs ≡ take (2 * r) t ++ (x ∷ y ∷ X) =
    ih ∙ ap (λ (n : ℕ). take n t ++ X) two ∙ ap (λ (l : List ℕ). l ++ X) (take_two t (2 * r) (omega arith)) ∙ append_assoc (take (2 * r) t) (x ∷ y ∷ []) X in
    let l : length (take (2 * r) t) ≡ 2 * r = length-take-le (2 * r) t (omega arith) in
    let m : length (put_rows t (suc r) fs) ≡ length t = rows_length t (suc r) fs in
    let n : suc r + length fs ≡ r + length (f ∷ fs) = omega arith in
    put_at (put_rows t (suc r) fs) r f (omega (arith, ap (λ (k : ℕ). k / 2) m))
    ∙ ap (λ (u : List ℕ). set (set u (2 * r) (word_a f)) (2 * r + 1) (word_b f)) g
    ∙ set_two (take (2 * r) t) x y X (2 * r) (word_a f) (word_b f) l
    ∙ ap (λ (k : ℕ). take (2 * r) t ++ (word_a f ∷ word_b f ∷ (words fs ++ drop (2 * k) t))) n

pub filled_words : (t : List ℕ) (f : Forest) → rows_in f ≤ length t / 2 → put_rows t 0 (rows 0 0 f) ≡ words (rows 0 0 f) ++ drop (2 * rows_in f) t
filled_words t f h =
    let n = length_rows f 0 0 in
    put_fits t 0 (rows 0 0 f) (omega arith) ∙ ap (λ (k : ℕ). words (rows 0 0 f) ++ drop (2 * k) t) (zero-add (length (rows 0 0 f)) ∙ n)

-- a part of no words is lent, and comes back
pub nothing_lent : (ys t : List ℕ) → length ys ≡ 0 → ys ++ t ≡ t
nothing_lent [] t e = refl
nothing_lent (y ∷ ys) t e = absurd (omega arith)

pub reading_long : (b : List ℕ) → 1048575 < length b → reading b ≡ refused 1 0
unfolding reading
reading_long b h = rw (lt-leb (length b) 1048575 h)

-- a table filled with the rows that a walk lists
abbrev pub listed : Fill → ℕ → RowFields → Fill
listed s i f = record s { table = record s.table { now = put_row s.table.now i f } }

abbrev pub with : Fill → List ℕ → Fill
with s t = record s { table = record s.table { now = t } }

pub fills : (s : Fill) (r : ℕ) (fs : List RowFields) → list_rows listed s r fs ≡ with s (put_rows s.table.now r fs)
fills s r fs = sym (list_along put_row listed (with s) (λ t i f. refl) s.table.now r fs)

module _ (b t : List ℕ) {S : Type 0} (list : Lists S) (s : S) where
  by_walk : (A : Answer (Forest × ℕ)) → reading b ≡ A → tabled A t ≡ read_wkb b t
  by_walk A e = ap (λ (x : Answer (Forest × ℕ)). tabled x t) (sym e)

  module _ (st : State S) (i : answered st ≡ whole list 0 0 0 s (reading b)) where
    ends : (x : Forest × ℕ) → answered st ≡ whole list 0 0 0 s (answered x) → (st.0 ≡ x.1) × (st.1 ≡ rows_in x.0)
    ends x j =
        let e : st ≡ (x.1, 0 + rows_in x.0, list_rows list s 0 (rows 0 0 x.0)) = cc in
        (ap (λ (y : State S). y.0) e, ap (λ (y : State S). y.1) e ∙ zero-add (rows_in x.0))

    -- it has room, and the second walk has filled it
    pub read_filled : st.1 ≤ length t / 2 → (f : Fill) (w : Result Spot Refusal) (new : Fill) → f.table.now ≡ t → walked w new ≡ whole listed 0 0 0 f (reading b)
        → (u : List ℕ) × ((answered (st.0, st.1), u) ≡ read_wkb b t) × (new ≡ with f u) × ((e : Refusal) → w ≡ Err e → ⊥)
    read_filled le f w new p k = go (reading b) refl i w k
      where
        go : (A : Answer (Forest × ℕ)) → reading b ≡ A → answered st ≡ whole list 0 0 0 s A → (w : Result Spot Refusal) → walked w new ≡ whole listed 0 0 0 f A
            → (u : List ℕ) × ((answered (st.0, st.1), u) ≡ read_wkb b t) × (new ≡ with f u) × ((e : Refusal) → w ≡ Err e → ⊥)
        go (refused x y) e j w k = let z : ◌≡◌ {A = ℕ} 0 1 = cc in absurd (omega arith)
        go (answered x) e j (Err why) k = let z : ◌≡◌ {A = ℕ} 0 1 = cc in absurd (omega arith)
        go (answered x) e j (Ok end) k =
            let (i₀, i₁) = ends x j in
            let fits : rows_in x.0 ≤ length t / 2 = omega arith in
            let full : ◌≡◌ {A = State Fill} (end.at.0, end.row.0, new) (x.1, 0 + rows_in x.0, list_rows listed f 0 (rows 0 0 x.0)) = cc in (
              words (rows 0 0 x.0) ++ drop (2 * rows_in x.0) t,
              ap₂ (λ (n m : ℕ). (answered (n, m), words (rows 0 0 x.0) ++ drop (2 * rows_in x.0) t)) i₀ i₁ ∙ rw (le-leb (rows_in x.0) (rows_of t) fits) at (by_walk (answered x) e),
              ap (λ (y : State Fill). y.2) full ∙ fills f 0 (rows 0 0 x.0) ∙ ap (with f) (ap (λ (y : List ℕ). put_rows y 0 (rows 0 0 x.0)) p ∙ filled_words t x.0 fits),
              λ e' q. let z : ◌≡◌ {A = ℕ} 0 1 = cc in absurd (omega arith),
            )
