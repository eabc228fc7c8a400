-- Checked: what the reader leaves in a table passes the check, whatever stands behind the rows, and a table that passes has those rows.
-- What follows the geometry in the buffer does not matter. Assumes nothing.
use Prim.Native.Nat.{ℕ, ◌*◌, ◌≤◌}
use native.Mathlib.Omega.{arith}
use mathlib.Core.Path.{◌≡◌, refl, sym, ap, ap₂, ◌∙◌}
use mathlib.Core.Bool.{Bool, true, false, cond}
use mathlib.Core.List.{List, [], ◌∷◌, ◌++◌}
use lib.ListN.{length, take, drop, length-take}
use lib.Seq.{take_at}
use lib.Dec.{leb, eqb}
use borrow.Author.Tests.{leb-true, eqb-true, eq-eqb}
use Rattle.meaning.specs.Number.{Bytes}
use Rattle.meaning.specs.Grammar.{Forest}
use Rattle.meaning.specs.Answer.{Answer, refused, answered}
use Rattle.meaning.specs.Reading.{reading}
use Rattle.meaning.specs.Table.{rows_in, rows, words_of, rows_of, tabled, read_wkb}
use Rattle.meaning.specs.Questions.{same_words, holds, check}
use Rattle.meaning.proofs.Codes.{both}
use Rattle.meaning.proofs.Siblings.{length_rows}
use Rattle.meaning.proofs.Accepted.{what_follows}
use Rattle.reader.proofs.Tables.{length_words}
use Rattle.questions.proofs.Checks.{enough}

same_self : (ws : List ℕ) → same_words ws ws ≡ true
unfolding same_words
same_self [] = refl
same_self (w ∷ ws) = rw (eq-eqb w w refl, same_self ws)

same_words_equal : (vs ws : List ℕ) → same_words vs ws ≡ true → vs ≡ ws
unfolding same_words
same_words_equal [] [] e = refl
same_words_equal [] (w ∷ ws) e = let z : ◌≡◌ {A = ℕ} 0 1 = cc in absurd (omega arith)
same_words_equal (v ∷ vs) [] e = let z : ◌≡◌ {A = ℕ} 0 1 = cc in absurd (omega arith)
same_words_equal (v ∷ vs) (w ∷ ws) e =
    let (p, q) = both (eqb v w) (same_words vs ws) e in
    ap₂ {C = List ℕ} (λ x xs. x ∷ xs) (eqb-true v w p) (same_words_equal vs ws q)

length_words_of : (f : Forest) → length (words_of f) ≡ 2 * rows_in f
length_words_of f = length_words (rows 0 0 f) ∙ ap (λ (n : ℕ). 2 * n) (length_rows f 0 0)

-- the buffer begins with the geometry f of n bytes, and the table with its rows
pub record Listed (b t : List ℕ) (f : Forest) (n : ℕ) : Type 0 where
  pub read : reading b ≡ answered (f, n)
  pub room : rows_in f ≤ rows_of t
  pub same : take (2 * rows_in f) t ≡ words_of f

-- A table that passes the check lists what was read,
pub listed_as : (b t : List ℕ) → check b t ≡ true → (f : Forest) (n : ℕ) → reading b ≡ answered (f, n) → Listed b t f n
listed_as b t h f n e =
    let ws = take (2 * rows_in f) t in
    let (l, s) = both (leb (rows_in f) (rows_of t)) (same_words ws (words_of f)) (ap (λ (x : Answer (Forest × ℕ)). holds x t) (sym e) ∙ h) in
    record { read = e; room = leb-true (rows_in f) (rows_of t) l; same = same_words_equal ws (words_of f) s }

-- and something was read;
pub listed : (b t : List ℕ) → check b t ≡ true → (f : Forest) × (n : ℕ) × Listed b t f n
listed b t h = go (reading b) refl h
  where
    go : (A : Answer (Forest × ℕ)) → reading b ≡ A → holds A t ≡ true → (f : Forest) × (n : ℕ) × Listed b t f n
    go (refused n k) e j = let z : ◌≡◌ {A = ℕ} 0 1 = cc in absurd (omega arith)
    go (answered x) e j = (x.0, x.1, listed_as b t h x.0 x.1 e)

-- and one that lists it passes.
pub passes : (b t : List ℕ) (f : Forest) (n : ℕ) → Listed b t f n → check b t ≡ true
passes b t f n l =
    ap (λ (x : Answer (Forest × ℕ)). holds x t) l.read
    ∙ sym (enough (f, n) t l.room)
    ∙ ap (λ (ws : List ℕ). same_words ws (words_of f)) l.same
    ∙ same_self (words_of f)

-- words that are there have room
with_room : (b t : List ℕ) (f : Forest) (n : ℕ) → reading b ≡ answered (f, n) → take (2 * rows_in f) t ≡ words_of f → Listed b t f n
with_room b t f n e s =
    let l = sym (length-take (2 * rows_in f) t) ∙ ap length s ∙ length_words_of f in
    record { read = e; room = omega arith; same = s }

-- what the reader answers, and the table that it leaves
abbrev Left : Type 0
Left = Answer (ℕ × ℕ) × List ℕ

-- a geometry that was read, in a table with room for it or without
abbrev left : Forest → ℕ → List ℕ → Bool → Left
left f m t room = cond room (answered (m, rows_in f), words_of f ++ drop (2 * rows_in f) t) (refused 8 (rows_in f), t)

-- what is left after an answer lists what was read
module _ (b t t' : List ℕ) (n r : ℕ) where
  by_room : (f : Forest) (m : ℕ) → reading b ≡ answered (f, m) → (room : Bool) → (left f m t room).0 ≡ answered (n, r) → (left f m t room).1 ≡ t' → (r ≡ rows_in f) × Listed b t' f n
  by_room f m e false i j = let z : ◌≡◌ {A = ℕ} 0 1 = cc in absurd (omega arith)
  by_room f m e true i j =
      let p : ◌≡◌ {A = ℕ × ℕ} (m, rows_in f) (n, r) = cc in
      let w = ap (take (2 * rows_in f)) (sym j) ∙ take_at (words_of f) (drop (2 * rows_in f) t) (2 * rows_in f) (length_words_of f) in
      (sym (ap (λ (y : ℕ × ℕ). y.1) p), with_room b t' f n (e ∙ ap (λ (y : ℕ × ℕ). answered (f, y.0)) p) w)

  left_listed : read_wkb b t ≡ (answered (n, r), t') → (f : Forest) × ((r ≡ rows_in f) × Listed b t' f n)
  left_listed h = go (reading b) refl (ap (λ (x : Left). x.0) h) (ap (λ (x : Left). x.1) h)
    where
      go : (A : Answer (Forest × ℕ)) → reading b ≡ A → (tabled A t).0 ≡ answered (n, r) → (tabled A t).1 ≡ t' → (f : Forest) × ((r ≡ rows_in f) × Listed b t' f n)
      go (refused x y) e i j = let z : ◌≡◌ {A = ℕ} 0 1 = cc in absurd (omega arith)
      go (answered x) e i j = (x.0, by_room x.0 x.1 e (leb (rows_in x.0) (rows_of t)) i j)

-- Later words don't count.
pub later_words : (b t s : List ℕ) (f : Forest) (n : ℕ) → Listed b t f n → take (2 * rows_in f) s ≡ take (2 * rows_in f) t → Listed b s f n
later_words b t s f n l e = with_room b s f n l.read (e ∙ l.same)

-- Checked: any table that begins as the reader's table does.
pub checked : (b t t' : List ℕ) (n r : ℕ) → read_wkb b t ≡ (answered (n, r), t') → (s : List ℕ) → take (2 * r) s ≡ take (2 * r) t' → check b s ≡ true
checked b t t' n r h s e =
    let (f, (q, l)) = left_listed b t t' n r h in
    passes b s f n (later_words b t' s f n l (ap (λ (k : ℕ). take (2 * k) s) (sym q) ∙ e ∙ ap (λ (k : ℕ). take (2 * k) t') q))

pub checked_itself : (b t t' : List ℕ) (n r : ℕ) → read_wkb b t ≡ (answered (n, r), t') → check b t' ≡ true
checked_itself b t t' n r h = checked b t t' n r h t' refl

-- What follows does not matter: other bytes after the prefix, within the limit, and any table.
pub what_follows_check : (b : List ℕ) → Bytes b → (f : Forest) (n : ℕ) → reading b ≡ answered (f, n) → (s t : List ℕ) → length (take n b ++ s) ≤ 1048575 → check (take n b ++ s) t ≡ check b t
what_follows_check b all f n e s t h = ap (λ (x : Answer (Forest × ℕ)). holds x t) (what_follows b all f n e s h)

-- So a table that passed still passes.
pub still_checked : (b : List ℕ) → Bytes b → (t : List ℕ) (h : check b t ≡ true) (s : List ℕ) → length (take (listed b t h).1 b ++ s) ≤ 1048575
    → check (take (listed b t h).1 b ++ s) t ≡ true
still_checked b all t h s le =
    let (f, n, l) = listed b t h in
    what_follows_check b all f n l.read s t le ∙ h
