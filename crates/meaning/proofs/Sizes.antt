-- How many bytes the parts of a geometry have, and how many rows fit in bytes. Assumes nothing.
use Prim.Native.Nat.{ℕ, suc, ◌+◌, ◌*◌, ◌≤◌}
use native.Mathlib.Omega.{arith}
use mathlib.Core.Path.{◌≡◌, refl, ap, ap₂, ◌∙◌}
use mathlib.Core.Bool.{Bool, true, false, cond}
use mathlib.Core.Option.{Option, none, some}
use mathlib.Core.List.{[], ◌∷◌, ◌++◌}
use lib.ListN.{length, length-append}
use Rattle.meaning.specs.declared.Endianness.{Endianness}
use Rattle.meaning.specs.declared.Kind.TheVariants.{Ring, Point}
use Rattle.meaning.specs.Number.{order_byte, bytes_of}
use Rattle.meaning.specs.Code.{same_kind}
use Rattle.meaning.specs.Grammar.{Header, Forest, empty, first, siblings, header_bytes, srid_bytes, count_bytes, ordinate_bytes, front, bytes, count, is_some}
use Rattle.meaning.specs.Table.{rows_in}
use Rattle.meaning.proofs.Numbers.{length_bytes_of}
use Rattle.meaning.proofs.Codes.{same_kind-true}

pub header_size : (h : Header) → length (header_bytes h) ≡ cond (same_kind h.kind Ring) 0 5
header_size h = go (same_kind h.kind Ring)
  where
    go : (t : Bool) → length (cond t [] (order_byte h.order ∷ bytes_of h.order 4 h.code)) ≡ cond t 0 5
    go true = refl
    go false = ap suc (length_bytes_of h.order 4 h.code)

pub srid_size : (o : Endianness) (v : Option ℕ) → length (srid_bytes o v) ≡ cond (is_some v) 4 0
srid_size o none = refl
srid_size o (some s) = length_bytes_of o 4 s

pub count_size : (h : Header) (n : ℕ) → length (count_bytes h n) ≡ cond (same_kind h.kind Point) 0 4
count_size h n = go (same_kind h.kind Point)
  where
    go : (t : Bool) → length (cond t [] (bytes_of h.order 4 n)) ≡ cond t 0 4
    go true = refl
    go false = length_bytes_of h.order 4 n

pub front_size : (h : Header) (n : ℕ) → length (front h n) ≡ cond (same_kind h.kind Ring) 0 5 + (cond (is_some h.srid) 4 0 + cond (same_kind h.kind Point) 0 4)
front_size h n =
    length-append (header_bytes h) (srid_bytes h.order h.srid ++ count_bytes h n)
    ∙ ap₂ ◌+◌ (header_size h) (length-append (srid_bytes h.order h.srid) (count_bytes h n) ∙ ap₂ ◌+◌ (srid_size h.order h.srid) (count_size h n))

pub front_some : (h : Header) (n : ℕ) → 4 ≤ length (front h n)
front_some h n = let e = front_size h n in let le = go (same_kind h.kind Ring) (same_kind h.kind Point) refl refl in omega arith
  where
    go : (t u : Bool) → same_kind h.kind Ring ≡ t → same_kind h.kind Point ≡ u → 4 ≤ cond t 0 5 + (cond (is_some h.srid) 4 0 + cond u 0 4)
    go true true e f =
        let i = same_kind-true h.kind Ring e in
        let j = same_kind-true h.kind Point f in
        absurd (cc)
    go true false e f = omega arith
    go false u e f = omega arith

-- every row has at least four bytes of its own
pub rows_bytes : (t : Forest) → 4 * rows_in t ≤ length (bytes t)
unfolding rows_in bytes
rows_bytes empty = omega arith
rows_bytes (first h cs kids rest) =
    let n = count h cs kids in
    let c = ordinate_bytes h.order cs in
    let e₁ = length-append (front h n) (c ++ (bytes kids ++ bytes rest)) in
    let e₂ = length-append c (bytes kids ++ bytes rest) in
    let e₃ = length-append (bytes kids) (bytes rest) in
    omega (arith, front_some h n, rows_bytes kids, rows_bytes rest)

pub siblings_rows : (t : Forest) → siblings t ≤ rows_in t
unfolding siblings rows_in
siblings_rows empty = omega arith
siblings_rows (first h cs kids rest) = omega (arith, siblings_rows rest)

pub no_siblings : (t : Forest) → siblings t ≡ 0 → t ≡ empty
unfolding siblings
no_siblings empty e = refl
no_siblings (first h cs kids rest) e = absurd (omega arith)
