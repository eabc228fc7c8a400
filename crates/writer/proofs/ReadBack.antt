-- What was written, read into a table with room, fills it, and the check passes. Assumes nothing.
use Prim.Native.Nat.{ℕ, suc, ◌+◌, ◌*◌, ◌≤◌}
use mathlib.Core.Path.{◌≡◌, refl, sym, subst, ap, ap₂, ◌∙◌}
use mathlib.Core.Bool.{true}
use mathlib.Core.List.{List, ◌++◌}
use lib.ListN.{take, drop}
use borrow.Author.Tests.{le-leb}
use Rattle.meaning.specs.declared.Endianness.{Endianness}
use Rattle.meaning.specs.Grammar.{Forest, empty, first}
use Rattle.meaning.specs.Answer.{Answer, answered}
use Rattle.meaning.specs.Table.{rows_in, rows_of, words_of, tabled, read_wkb}
use Rattle.meaning.specs.Questions.{check}
use Rattle.meaning.specs.Writer.{iso_form}
use Rattle.meaning.proofs.WrittenBack.{WrittenBack}
use Rattle.questions.proofs.Checked.{checked_itself}

-- as many rows
rows_in_iso_form : (o : Endianness) (t : Forest) → rows_in (iso_form o t) ≡ rows_in t
unfolding iso_form rows_in
rows_in_iso_form o empty = refl
rows_in_iso_form o (first h cs kids rest) = ap₂ (λ (m n : ℕ). suc (m + n)) (rows_in_iso_form o kids) (rows_in_iso_form o rest)

module _ (b : List ℕ) (o : Endianness) (n : ℕ) (out : List ℕ) (x : WrittenBack b o n out) (s : List ℕ) (room : rows_in x.geometry ≤ rows_of s) where
  -- the table after that reading
  abbrev pub filled_table : List ℕ
  filled_table = words_of (iso_form o x.geometry) ++ drop (2 * rows_in (iso_form o x.geometry)) s

  -- All bytes that were written are read, into as many rows as the buffer's own reading used.
  pub read_back : read_wkb (take n out) s ≡ (answered (n, rows_in x.geometry), filled_table)
  read_back =
      let e = rows_in_iso_form o x.geometry in
      ap (λ (r : Answer (Forest × ℕ)). tabled r s) x.back
      ∙ rw (le-leb (rows_in (iso_form o x.geometry)) (rows_of s) (subst (λ (m : ℕ). m ≤ rows_of s) (sym e) room))
      (ap (λ (m : ℕ). (answered (n, m), filled_table)) e)

  -- and the table so filled passes the check.
  pub read_back_checks : check (take n out) filled_table ≡ true
  read_back_checks = checked_itself (take n out) s filled_table n (rows_in x.geometry) read_back
