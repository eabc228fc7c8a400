-- A table that passed the check is ready to be written: its first row says how much, and its rows say what. Assumes nothing.
use Prim.Native.Nat.{ℕ, ◌+◌, ◌*◌, ◌-◌, ◌≤◌, ◌<◌}
use native.Mathlib.Omega.{arith}
use mathlib.Core.Path.{◌≡◌, refl, sym, ap, ap₂, subst, ◌∙◌}
use mathlib.Core.Bool.{Bool, true, false, cond}
use mathlib.Core.List.{List, ◌++◌}
use lib.ListN.{length, drop, length-append}
use borrow.Author.Tests.{le-leb, lt-leb}
use mir.Val.{bool_byte}
use Rattle.meaning.specs.declared.Endianness.{Endianness}
use Rattle.meaning.specs.declared.RowFields.{RowFields}
use Rattle.meaning.specs.Number.{Bytes}
use Rattle.meaning.specs.Grammar.{Forest, empty, first, siblings, bytes, front, count, ordinate_bytes}
use Rattle.meaning.specs.Answer.{Answer, refused, answered}
use Rattle.meaning.specs.Table.{rows_in, rows, row_of, rows_of, fetch}
use Rattle.meaning.specs.Questions.{check}
use Rattle.meaning.specs.Writer.{iso_bytes, written, written_from, write_geometry}
use Rattle.meaning.proofs.IsoLength.{srid_length, length_iso}
use Rattle.meaning.proofs.Sizes.{no_siblings}
use Rattle.questions.proofs.Checked.{listed}
use Rattle.questions.proofs.Begun.{Begun, begun}
use Rattle.writer.specs.Rows.{Within, rows_bytes, Writable}
use Rattle.writer.proofs.Forests.{table_iso, table_within}

-- what the first row says of the whole
record Whole (r : RowFields) (f : Forest) : Type 0 where
  some : 0 < rows_in f
  subtree : r.subtree ≡ rows_in f
  end : r.end.0 ≡ length (bytes f)
  srid : cond r.srid 4 0 ≡ srid_length f

whole : (b t : List ℕ) (f : Forest) → Begun b t f → Whole (fetch t 0) f
unfolding siblings rows rows_in bytes
whole b t empty g = absurd (omega (arith, g.geometry.one))
whole b t (first h cs kids rest) g =
    let none : rest ≡ empty = no_siblings rest (omega (arith, g.geometry.one)) in
    let r = row_of 0 0 h cs kids in
    let e : fetch t 0 ≡ r = g.fetched 0 (omega arith) r in
    let n : ◌≡◌ {A = ℕ} (rows_in rest) 0 = rw none refl in
    let m : ◌≡◌ {A = ℕ} (length (bytes rest)) 0 = rw none refl in
    let e₁ = length-append (front h (count h cs kids)) (ordinate_bytes h.order cs ++ (bytes kids ++ bytes rest)) in
    let e₂ = length-append (ordinate_bytes h.order cs) (bytes kids ++ bytes rest) in
    let e₃ = length-append (bytes kids) (bytes rest) in
    subst (λ (x : RowFields). Whole x (first h cs kids rest)) (sym e)
    (record { some = omega arith; subtree = omega arith; end = omega arith; srid = refl })

pub record Ready (b t : List ℕ) (o : Endianness) : Type 0 where
  pub iso : List ℕ
  pub as_rows : rows_bytes b (fetch t) o (fetch t 0).subtree ≡ iso
  pub some : 0 < rows_of t
  pub there : (fetch t 0).subtree ≤ rows_of t
  pub within : (r : ℕ) → r < (fetch t 0).subtree → Within b (fetch t r)
  pub needed : length iso + cond (fetch t 0).srid 4 0 ≡ (fetch t 0).end.0
  pub meant : (out : List ℕ) → write_geometry b t o out ≡ written iso out

pub ready : (b : List ℕ) → Bytes b → (t : List ℕ) → check b t ≡ true → (o : Endianness) → Ready b t o
ready b all t h o =
    let (f, n, l) = listed b t h in
    let g = begun b all t f n l in
    let w = whole b t f g in
    record {
      iso = iso_bytes o f;
      as_rows = ap (rows_bytes b (fetch t) o) w.subtree ∙ table_iso b t f g o;
      some = omega (arith, w.some, g.room);
      there = omega (arith, w.subtree, g.room);
      within = λ r lt. table_within b t f g r (omega (arith, w.subtree));
      needed = ap (λ (k : ℕ). length (iso_bytes o f) + k) w.srid ∙ length_iso o f g.geometry ∙ sym w.end;
      meant = λ out. ap₂ (λ (u : Bool) (x : Answer (Forest × ℕ)). cond u (written_from x o out) (refused 9 0, out)) h l.read;
    }

four : (s : Bool) → 4 * bool_byte s ≡ cond s 4 0
four true = refl
four false = refl

-- as the code has them: the first row r, and its flag k
module _ (b t : List ℕ) (o : Endianness) (y : Ready b t o) (r : RowFields) (is : r ≡ fetch t 0) (k : ℕ) (flag : k ≡ bool_byte r.srid) where
  pub ends : length y.iso + 4 * k ≡ r.end.0
  ends =
      ap (λ (n : ℕ). length y.iso + 4 * n) flag
      ∙ ap (λ (n : ℕ). length y.iso + n) (four r.srid)
      ∙ ap (λ (x : RowFields). length y.iso + cond x.srid 4 0) is
      ∙ y.needed
      ∙ ap (λ (x : RowFields). x.end.0) (sym is)

  size : r.end.0 - 4 * k ≡ length y.iso
  size = omega (arith, ends)

  pub too_short : (out : List ℕ) → length out < r.end.0 - 4 * k → ◌≡◌ {A = Answer ℕ × List ℕ} (refused 11 (r.end.0 - 4 * k), out) (write_geometry b t o out)
  too_short out lt =
      ap (λ (n : ℕ). (refused 11 n, out)) size
      ∙ sym (ap (λ (u : Bool). cond u (answered (length y.iso), y.iso ++ drop (length y.iso) out) (refused 11 (length y.iso), out)) (lt-leb (length y.iso) (length out) (omega (arith, size))))
      ∙ sym (y.meant out)

  rows_are : rows_bytes b (fetch t) o r.subtree ≡ y.iso
  rows_are = ap (λ (x : RowFields). rows_bytes b (fetch t) o x.subtree) is ∙ y.as_rows

  pub writable : (out : List ℕ) → r.end.0 - 4 * k ≤ length out → Writable b t o r.subtree (length out)
  writable out le =
      let s = ap (λ (x : RowFields). x.subtree) is in
      record {
        there = omega (arith, y.there);
        within = λ q lt. y.within q (omega arith);
        roomy = omega (arith, size, ap length rows_are);
      }

  pub all_written : (out out' : List ℕ) → r.end.0 - 4 * k ≤ length out → out' ≡ rows_bytes b (fetch t) o r.subtree ++ drop (length (rows_bytes b (fetch t) o r.subtree)) out
      → ◌≡◌ {A = Answer ℕ × List ℕ} (answered (r.end.0 - 4 * k), out') (write_geometry b t o out)
  all_written out out' le e =
      ap₂ (λ (n : ℕ) (x : List ℕ). (answered n, x)) size (e ∙ ap (λ (x : List ℕ). x ++ drop (length x) out) rows_are)
      ∙ sym (ap (λ (u : Bool). cond u (answered (length y.iso), y.iso ++ drop (length y.iso) out) (refused 11 (length y.iso), out)) (le-leb (length y.iso) (length out) (omega (arith, size))))
      ∙ sym (y.meant out)
