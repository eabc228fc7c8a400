-- Accepted exactly; the only prefix; what follows does not matter. Assumes nothing.
use Prim.Native.Nat.{ℕ, ◌≤◌}
use native.Mathlib.Nat.{zero-add}
use native.Mathlib.Omega.{arith}
use mathlib.Core.Path.{◌≡◌, refl, sym, ap, ◌∙◌}
use mathlib.Core.Logic.{◌↔◌}
use mathlib.Core.Bool.{Bool, true, false}
use mathlib.Core.List.{List, ◌++◌}
use lib.ListN.{length, take, drop, length-append, take-append-drop}
use lib.Seq.{take_at, length-take-le}
use lib.Dec.{leb}
use borrow.Author.Tests.{le-leb, leb-true}
use Rattle.meaning.specs.Number.{Bytes}
use Rattle.meaning.specs.Grammar.{Forest, bytes, outermost, Geometry}
use Rattle.meaning.specs.Answer.{Answer, refused, answered}
use Rattle.meaning.specs.Reading.{forest, reading}
use Rattle.meaning.specs.Table.{tabled, read_wkb}
use Rattle.meaning.proofs.Exact.{forest_there, forest_from}
use Rattle.meaning.proofs.Levels.{nineteen_levels}

-- the geometry's bytes are the first n bytes of the buffer
pub record Begins (b : List ℕ) (t : Forest) (n : ℕ) : Type 0 where
  pub within : n ≤ length b
  pub same : bytes t ≡ take n b

pub begins_split : (b : List ℕ) (t : Forest) (n : ℕ) → Begins b t n → b ≡ bytes t ++ drop n b
begins_split b t n h = sym (take-append-drop n b) ∙ ap (λ (bs : List ℕ). bs ++ drop n b) (sym h.same)

pub begins_length : (b : List ℕ) (t : Forest) (n : ℕ) → Begins b t n → length (bytes t) ≡ n
begins_length b t n h = ap length h.same ∙ length-take-le n b h.within

-- a well-formed geometry at the buffer's beginning is read, whatever the buffer's length
pub read_there : (b : List ℕ) (t : Forest) (n : ℕ) → Geometry t → Begins b t n → forest b 19 1 outermost 0 0 ≡ answered (t, n)
read_there b t n g h =
    ap (λ (m : ℕ). forest b 19 m outermost 0 0) (sym g.one)
    ∙ forest_there b t 19 outermost 0 0 (drop n b) g.well_formed (nineteen_levels t g) (begins_split b t n h)
    ∙ ap (λ (m : ℕ). answered (t, m)) (zero-add (length (bytes t)) ∙ begins_length b t n h)

pub reading_short : (b : List ℕ) → length b ≤ 1048575 → reading b ≡ forest b 19 1 outermost 0 0
unfolding reading
reading_short b h = rw (le-leb (length b) 1048575 h)

short_cases : (t : Bool) (b : List ℕ) (y : Forest × ℕ) → leb (length b) 1048575 ≡ t → reading b ≡ answered y → length b ≤ 1048575
unfolding reading
short_cases true b y c e = leb-true (length b) 1048575 c
short_cases false b y c e =
    let f : refused 1 0 ≡ answered y = rw c at e in
    let z : ◌≡◌ {A = ℕ} 0 1 = cc in
    absurd (omega arith)

-- what is accepted is short enough
pub accepted_short : (b : List ℕ) (y : Forest × ℕ) → reading b ≡ answered y → length b ≤ 1048575
accepted_short b y e = short_cases (leb (length b) 1048575) b y refl e

accepted_begins : (b : List ℕ) → Bytes b → (t : Forest) (n : ℕ) → reading b ≡ answered (t, n) → Geometry t × Begins b t n
accepted_begins b all t n e =
    let f = sym (reading_short b (accepted_short b (t, n) e)) ∙ e in
    let (w, one, (l, s)) = forest_from b all 19 1 outermost 0 0 (t, n) f in
    let k = zero-add (length (bytes t)) in
    let m = ap length s ∙ length-append (bytes t) (drop n b) in (
      record { one = one; well_formed = w },
      record { within = omega arith; same = sym (take_at (bytes t) (drop n b) n (sym (l ∙ k))) ∙ ap (take n) (sym s) },
    )

-- Accepted exactly: reading gives t and n if and only if t is one well-formed outermost geometry and its bytes are the first n.
pub accepted_exactly : (b : List ℕ) → Bytes b → length b ≤ 1048575 → (t : Forest) (n : ℕ) → (reading b ≡ answered (t, n)) ↔ (Geometry t × Begins b t n)
accepted_exactly b all h t n = (accepted_begins b all t n, λ g. reading_short b h ∙ read_there b t n g.0 g.1)

-- The only prefix: of any buffer.
pub only_prefix : (b : List ℕ) (t u : Forest) (m n : ℕ) → Geometry t → Geometry u → Begins b t m → Begins b u n → (t ≡ u) × (m ≡ n)
only_prefix b t u m n g k p q =
    let e : ◌≡◌ {A = Answer (Forest × ℕ)} (answered (t, m)) (answered (u, n)) = sym (read_there b t m g p) ∙ read_there b u n k q in
    let i : ◌≡◌ {A = Forest × ℕ} (t, m) (u, n) = cc in
    (ap (λ (x : Forest × ℕ). x.0) i, ap (λ (x : Forest × ℕ). x.1) i)

-- What follows does not matter: other bytes after the prefix, within the limit, give the same reading,
pub what_follows : (b : List ℕ) → Bytes b → (t : Forest) (n : ℕ) → reading b ≡ answered (t, n) → (s : List ℕ) → length (take n b ++ s) ≤ 1048575 → reading (take n b ++ s) ≡ reading b
what_follows b all t n e s h =
    let (g, p) = accepted_begins b all t n e in
    let l = length-take-le n b p.within in
    let k = length-append (take n b) s in
    reading_short (take n b ++ s) h
    ∙ read_there (take n b ++ s) t n g (record { within = omega arith; same = p.same ∙ sym (take_at (take n b) s n l) })
    ∙ sym e

-- and the same answer and rows, in any table.
pub what_follows_rows : (b : List ℕ) → Bytes b → (t : Forest) (n : ℕ) → reading b ≡ answered (t, n) → (s table : List ℕ) → length (take n b ++ s) ≤ 1048575 → read_wkb (take n b ++ s) table ≡ read_wkb b table
what_follows_rows b all t n e s table h = ap (λ (r : Answer (Forest × ℕ)). tabled r table) (what_follows b all t n e s h)
