-- The writer is never refused where the check passed and there is room, and what follows the prefix does not matter to it. Assumes nothing.
use Prim.Native.Nat.{ℕ, ◌≤◌}
use mathlib.Core.Path.{◌≡◌, refl, ap}
use mathlib.Core.Bool.{true, cond}
use mathlib.Core.List.{List, ◌++◌}
use lib.ListN.{length, take, drop}
use borrow.Author.Tests.{le-leb}
use Rattle.meaning.specs.declared.Endianness.{Endianness}
use Rattle.meaning.specs.Number.{Bytes}
use Rattle.meaning.specs.Grammar.{Forest}
use Rattle.meaning.specs.Answer.{Answer, refused, answered}
use Rattle.meaning.specs.Reading.{reading}
use Rattle.meaning.specs.Questions.{holds, check}
use Rattle.meaning.specs.Writer.{iso_bytes, written_from, write_geometry}
use Rattle.meaning.proofs.Accepted.{what_follows}

-- what the writer answers and leaves, by what the buffer's reading says
abbrev by_reading : List ℕ → Endianness → List ℕ → Answer (Forest × ℕ) → Answer ℕ × List ℕ
by_reading t o out r = cond (holds r t) (written_from r o out) (refused 9 0, out)

-- a geometry is written: the output begins with its ISO form, whose length is answered, and the bytes beyond stay
abbrev pub wrote : Endianness → Forest → List ℕ → Answer ℕ × List ℕ
wrote o f out = (answered (length (iso_bytes o f)), iso_bytes o f ++ drop (length (iso_bytes o f)) out)

-- The writer is never refused: where the check says yes, the buffer is read, and the geometry is written into any output with room for its ISO form.
pub always_written : (b t : List ℕ) → check b t ≡ true
    → (f : Forest) × (k : ℕ) × (reading b ≡ answered (f, k)) × ((o : Endianness) (out : List ℕ) → length (iso_bytes o f) ≤ length out → write_geometry b t o out ≡ wrote o f out)
always_written b t = go (reading b)
  where
    go : (r : Answer (Forest × ℕ)) → holds r t ≡ true
        → (f : Forest) × (k : ℕ) × (r ≡ answered (f, k)) × ((o : Endianness) (out : List ℕ) → length (iso_bytes o f) ≤ length out → by_reading t o out r ≡ wrote o f out)
    go (refused n p) c = absurd (cc)
    go (answered x) c = (x.0, x.1, refl, λ o out le. rw (c, le-leb (length (iso_bytes o x.0)) (length out) le) refl)

-- What follows does not matter: other bytes after the prefix, within the limit, give the same answer and output, with any table.
pub what_follows_written : (b : List ℕ) → Bytes b → (f : Forest) (n : ℕ) → reading b ≡ answered (f, n) → (s : List ℕ) → length (take n b ++ s) ≤ 1048575
    → (t : List ℕ) (o : Endianness) (out : List ℕ) → write_geometry (take n b ++ s) t o out ≡ write_geometry b t o out
what_follows_written b all f n e s le t o out = ap (by_reading t o out) (what_follows b all f n e s le)
