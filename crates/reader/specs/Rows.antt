-- Rows that a walk lists: put into a table where they fit, or compared with those of a table.
use Rattle.std.specs.Prelude.{ℕ, suc, ◌+◌, ◌*◌, ◌<◌, ◌≡◌, Bool, true, ◌&&◌, cond, List, [], ◌∷◌, set, get_or, ltb, eqb}
use Rattle.meaning.specs.declared.RowFields.{RowFields}
use Rattle.meaning.specs.Table.{word_a, word_b, rows_of}

-- a row's words in the table, where it has that row
abbrev pub put_row : List ℕ → ℕ → RowFields → List ℕ
put_row out r f = cond (ltb r (rows_of out)) (set (set out (2 * r) (word_a f)) (2 * r + 1) (word_b f)) out

-- whether a table has these words in that row, or no such row
abbrev pub has_row : List ℕ → ℕ → RowFields → Bool
has_row old r f = cond (ltb r (rows_of old)) (eqb (get_or old (2 * r) 0) (word_a f) && eqb (get_or old (2 * r + 1) 0) (word_b f)) true

-- what lists a row at a time
abbrev pub Lists : Type 0 → Type 0
Lists S = S → ℕ → RowFields → S

-- two rows may be listed in either order
abbrev pub AnyOrder : {S : Type 0} → Lists S → Type 0
AnyOrder {S} list = (s : S) (i j : ℕ) (f g : RowFields) → i < j → list (list s j g) i f ≡ list (list s i f) j g

-- rows from r on: a row is known, and listed, after those below it
unfoldable pub list_rows : {S : Type 0} → Lists S → S → ℕ → List RowFields → S
list_rows list s r [] = s
list_rows list s r (f ∷ fs) = list (list_rows list s (suc r) fs) r f

abbrev pub put_rows : List ℕ → ℕ → List RowFields → List ℕ
put_rows = list_rows put_row

abbrev pub has_rows : List ℕ → ℕ → List RowFields → Bool
has_rows old = list_rows (λ same r f. same && has_row old r f) true
