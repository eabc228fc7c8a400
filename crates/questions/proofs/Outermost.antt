-- The outermost geometry: row 0, and its SRID. Assumes nothing.
use Prim.Native.Nat.{ℕ}
use native.Mathlib.Omega.{arith}
use mathlib.Core.Path.{◌≡◌, refl, sym, ap, ap₂, ◌∙◌}
use mathlib.Core.Bool.{Bool, cond}
use mathlib.Core.Option.{Option, none, some}
use mathlib.Core.List.{List, ◌++◌, append_assoc}
use lib.ListN.{length, take, drop, length-append}
use lib.Seq.{take_at}
use borrow.Author.Tests.{le-leb, lt-ltb}
use Rattle.meaning.specs.declared.Kind.TheVariants.{Ring}
use Rattle.meaning.specs.declared.RowFields.{RowFields}
use Rattle.meaning.specs.Number.{number, bytes_of, number_at}
use Rattle.meaning.specs.Code.{kind_number}
use Rattle.meaning.specs.Grammar.{Header, Ordinates, Forest, empty, first, siblings, count, count_bytes, header_bytes, srid_bytes, ordinate_bytes, bytes, Fits32, is_some, said}
use Rattle.meaning.specs.Answer.{answered}
use Rattle.meaning.specs.Table.{rows_in, row_of, rows, rows_of}
use Rattle.meaning.specs.Questions.{guard, ◌>>◌, srid_if, srid}
use Rattle.meaning.proofs.Numbers.{length_bytes_of, number_bytes_of}
use Rattle.meaning.proofs.Codes.{kind_range, ne_same_kind}
use Rattle.meaning.proofs.Fields.{behind}
use Rattle.meaning.proofs.Sizes.{header_size}
use Rattle.questions.specs.Tree.{srid_of}
use Rattle.questions.proofs.Begun.{Begun}

-- the SRID of a row 0 whose geometry's header stands first in the buffer
module _ (b : List ℕ) (h : Header) (cs : List Ordinates) (kids : Forest) (s : List ℕ) (five : length (header_bytes h) ≡ 5) where
  srid_there : (v : Option ℕ) → Fits32 v → b ≡ header_bytes h ++ (srid_bytes h.order v ++ s) → srid_if (is_some v) b (row_of 0 0 h cs kids) ≡ answered v
  srid_there none f e = refl
  srid_there (some x) f e =
      let bs = bytes_of h.order 4 x in
      let four = length_bytes_of h.order 4 x in
      let l = ap length e ∙ length-append (header_bytes h) (bs ++ s) in
      let m = length-append bs s in
      let d : drop 5 b ≡ bs ++ s = ap (λ (n : ℕ). drop n b) (sym five ∙ omega arith) ∙ behind b 0 (header_bytes h) (bs ++ s) e in
      let n : number_at h.order 4 b 5 ≡ x = ap (λ (xs : List ℕ). number h.order (take 4 xs)) d ∙ ap (number h.order) (take_at bs s 4 four) ∙ number_bytes_of h.order 4 x f in
      ap (λ (z : Bool). ◌>>◌ (guard z 9 0) (answered (some (number_at h.order 4 b 5)))) (le-leb 9 (length b) (omega arith))
      ∙ ap (λ (y : ℕ). answered (some y)) n

-- SRID answers the outermost geometry's own
pub srid_answered : (b t : List ℕ) (f : Forest) → Begun b t f → srid b t ≡ answered (srid_of f)
unfolding rows rows_in bytes siblings
srid_answered b t empty g = let n = g.geometry.one in absurd (omega arith)
srid_answered b t (first h cs kids rest) g =
    let w = g.geometry.well_formed.0 in
    let k = (kind_range h.code (said h) w.says).0 in
    let five = header_size h ∙ ap (λ (z : Bool). cond z 0 5) (ne_same_kind h.kind Ring (λ e. let n = ap kind_number e in omega arith)) in
    let s = count_bytes h (count h cs kids) ++ ((ordinate_bytes h.order cs ++ (bytes kids ++ bytes rest)) ++ g.behind) in
    let stands : b ≡ header_bytes h ++ (srid_bytes h.order h.srid ++ s) = g.stands ∙ simp append_assoc in
    ap₂ (λ (z : Bool) (y : RowFields). ◌>>◌ (guard z 9 0) (srid_if y.srid b y)) (lt-ltb 0 (rows_of t) (omega (arith, g.room))) (g.fetched 0 (omega arith) (row_of 0 0 h cs kids))
    ∙ srid_there b h cs kids s five h.srid w.srid stands
