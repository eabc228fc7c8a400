-- Written and read back: what the writer wrote is read as the ISO form of what was read; writing it again gives the same bytes. Assumes nothing.
use Prim.Native.Nat.{ℕ, ◌+◌, ◌≤◌}
use native.Mathlib.Omega.{arith}
use mathlib.Core.Path.{◌≡◌, refl, sym, ap, ap₂, ◌∙◌}
use mathlib.Core.Bool.{Bool, true, false, cond}
use mathlib.Core.List.{List, ◌++◌}
use lib.ListN.{length, take, drop}
use lib.Seq.{take_at, take-length}
use lib.Dec.{leb}
use Rattle.meaning.specs.declared.Endianness.{Endianness}
use Rattle.meaning.specs.Number.{Each, Bytes}
use Rattle.meaning.specs.Grammar.{Forest, nodes, bytes}
use Rattle.meaning.specs.Answer.{Answer, refused, answered}
use Rattle.meaning.specs.Reading.{reading}
use Rattle.meaning.specs.Questions.{check}
use Rattle.meaning.specs.Writer.{iso_form, iso_bytes, Same, written_from, write_geometry}
use Rattle.meaning.proofs.Accepted.{accepted_exactly, accepted_short, begins_length, read_there, reading_short}
use Rattle.meaning.proofs.IsoForm.{InIso, same_iso_form, nodes_iso_form, iso_form_again}
use Rattle.meaning.proofs.IsoFits.{iso_form_well_formed}
use Rattle.meaning.proofs.IsoLength.{srid_length, length_iso}
use Rattle.meaning.proofs.WriterAnswers.{wrote, always_written}

-- Of a buffer b, n bytes were written in an order: there is a geometry that is read of b; n is its length there, less that of its SRID; what was written is the
-- bytes of its ISO form, and is read as that form, with nothing left over; and that is the same geometry, in that order, with no flags and no SRID.
pub record WrittenBack (b : List ℕ) (o : Endianness) (n : ℕ) (out : List ℕ) : Type 0 where
  pub geometry : Forest
  pub prefix : ℕ
  pub read : reading b ≡ answered (geometry, prefix)
  pub long : length (iso_bytes o geometry) ≡ n
  pub less : n + srid_length geometry ≡ prefix
  pub wrote : take n out ≡ iso_bytes o geometry
  pub back : reading (take n out) ≡ answered (iso_form o geometry, n)
  pub same : Same geometry (iso_form o geometry)
  pub plain : Each (InIso o) (nodes (iso_form o geometry))

no_refusal : (m p n : ℕ) (xs ys : List ℕ) → ◌≡◌ {A = Answer ℕ × List ℕ} (refused m p, xs) (answered n, ys) → ⊥
no_refusal m p n xs ys e =
    let f : ◌≡◌ {A = Answer ℕ} (refused m p) (answered n) = ap (λ x. x.0) e in
    let z : ◌≡◌ {A = ℕ} 0 1 = cc in
    omega arith

module _ (b : List ℕ) (all : Bytes b) where
  -- The ISO form of what was read has the prefix's length, less four if the outermost geometry has an SRID.
  pub iso_shorter : (f : Forest) (n : ℕ) → reading b ≡ answered (f, n) → (o : Endianness) → length (iso_bytes o f) + srid_length f ≡ n
  iso_shorter f n e o =
      let (g, p) = (accepted_exactly b all (accepted_short b (f, n) e) f n).0 e in
      length_iso o f g ∙ begins_length b f n p

  -- The ISO form of what was read is read, whole.
  pub iso_read : (f : Forest) (n : ℕ) → reading b ≡ answered (f, n) → (o : Endianness) → reading (iso_bytes o f) ≡ answered (iso_form o f, length (iso_bytes o f))
  iso_read f n e o =
      let s = accepted_short b (f, n) e in
      let (g, p) = (accepted_exactly b all s f n).0 e in
      let l = iso_shorter f n e o in
      let w = p.within in
      reading_short (iso_bytes o f) (omega arith)
      ∙ read_there (iso_bytes o f) (iso_form o f) (length (iso_bytes o f)) (iso_form_well_formed o f g) (record { within = omega arith; same = sym (take-length (iso_bytes o f)) })

  module _ (t : List ℕ) (o : Endianness) (out : List ℕ) (n : ℕ) (out' : List ℕ) where
    from_room : (f : Forest) (k : ℕ) → reading b ≡ answered (f, k) → (u : Bool)
        → ◌≡◌ {A = Answer ℕ × List ℕ} (cond u (wrote o f out) (refused 11 (length (iso_bytes o f)), out)) (answered n, out')
        → WrittenBack b o n out'
    from_room f k e true w =
        let a : ◌≡◌ {A = Answer ℕ} (answered (length (iso_bytes o f))) (answered n) = ap (λ x. x.0) w in
        let l : length (iso_bytes o f) ≡ n = cc in
        let m : iso_bytes o f ++ drop (length (iso_bytes o f)) out ≡ out' = ap (λ x. x.1) w in
        let s : take n out' ≡ iso_bytes o f = ap (take n) (sym m) ∙ take_at (iso_bytes o f) (drop (length (iso_bytes o f)) out) n l in
        record {
          geometry = f;
          prefix = k;
          read = e;
          long = l;
          less = ap (λ (i : ℕ). i + srid_length f) (sym l) ∙ iso_shorter f k e o;
          wrote = s;
          back = ap reading s ∙ iso_read f k e o ∙ ap (λ (i : ℕ). answered (iso_form o f, i)) l;
          same = same_iso_form o f;
          plain = nodes_iso_form o f;
        }
    from_room f k e false w = absurd (no_refusal _ _ _ _ _ w)

    from_reading : (r : Answer (Forest × ℕ)) → reading b ≡ r → (u : Bool) → ◌≡◌ {A = Answer ℕ × List ℕ} (cond u (written_from r o out) (refused 9 0, out)) (answered n, out') → WrittenBack b o n out'
    from_reading r e false w = absurd (no_refusal _ _ _ _ _ w)
    from_reading (refused m p) e true w = absurd (no_refusal _ _ _ _ _ w)
    from_reading (answered x) e true w = from_room x.0 x.1 e (leb (length (iso_bytes o x.0)) (length out)) w

    -- Written and read back.
    pub written_back : write_geometry b t o out ≡ (answered n, out') → WrittenBack b o n out'
    written_back = from_reading (reading b) refl (check b t)

    -- Writing again: what was written, with a table that checks, is written the same in the same order, into any output with room.
    pub written_again : write_geometry b t o out ≡ (answered n, out') → (t' out'' : List ℕ) → check (take n out') t' ≡ true → n ≤ length out''
        → write_geometry (take n out') t' o out'' ≡ (answered n, take n out' ++ drop n out'')
    written_again w t' out'' c le =
        let x = written_back w in
        let (f, k, e, g) = always_written (take n out') t' c in
        let j : ◌≡◌ {A = Answer (Forest × ℕ)} (answered (f, k)) (answered (iso_form o x.geometry, n)) = sym e ∙ x.back in
        let h : ◌≡◌ {A = Forest × ℕ} (f, k) (iso_form o x.geometry, n) = cc in
        let i : iso_bytes o f ≡ take n out' = ap (λ (y : Forest × ℕ). iso_bytes o y.0) h ∙ ap bytes (iso_form_again o o x.geometry) ∙ sym x.wrote in
        let l : length (iso_bytes o f) ≡ n = ap length i ∙ ap length x.wrote ∙ x.long in
        g o out'' (omega arith) ∙ ap₂ (λ (m : ℕ) (bs : List ℕ). (answered m, bs ++ drop m out'')) l i
