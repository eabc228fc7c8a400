-- What a test for bytes tells. Assumes nothing.
use Prim.Native.Nat.{ℕ, ◌+◌, ◌-◌, ◌≤◌, ◌<◌}
use native.Mathlib.Omega.{arith}
use mathlib.Core.Path.{◌≡◌, refl, sym, ap, ◌∙◌}
use mathlib.Core.Bool.{Bool, true, false, cond}
use mathlib.Core.List.{List}
use lib.Dec.{leb}
use lib.ListN.{length}
use borrow.Author.Tests.{leb-true, leb-false}
use Rattle.std.specs.Prelude.{Result, Ok, Err}
use Rattle.meaning.specs.declared.Endianness.{Endianness}
use Rattle.meaning.specs.declared.Offset.{Offset}
use Rattle.meaning.specs.declared.Refusal.{Refusal}
use Rattle.meaning.specs.declared.Refusal.TheVariants.{PastEnd}
use Rattle.meaning.specs.Number.{number_at}
use Rattle.meaning.specs.Answer.{answered, refusal}
use Rattle.meaning.specs.Reading.{num}
use Rattle.meaning.proofs.Steps.{num_good, num_past}

abbrev test : List ℕ → Offset → ℕ → Result Unit Refusal
test b at n = cond (leb n (length b - at.0)) (Ok tt) (Err (PastEnd at))

module _ (b : List ℕ) (at : Offset) (n : ℕ) where
  pub there_good : {u : Unit} → Ok u ≡ test b at n → n ≤ length b - at.0
  there_good e = leb-true n (length b - at.0) (go (leb n (length b - at.0)) e)
    where
      go : (c : Bool) {u : Unit} → ◌≡◌ {A = Result Unit Refusal} (Ok u) (cond c (Ok tt) (Err (PastEnd at))) → c ≡ true
      go true e = refl
      go false e = let z : ◌≡◌ {A = ℕ} 0 1 = cc in absurd (omega arith)

  pub there_past : {x : Refusal} → Err x ≡ test b at n → (length b - at.0 < n) × (PastEnd at ≡ x)
  there_past {x} e = let (f, g) = go (leb n (length b - at.0)) e in (leb-false n (length b - at.0) f, g)
    where
      go : (c : Bool) → ◌≡◌ {A = Result Unit Refusal} (Err x) (cond c (Ok tt) (Err (PastEnd at))) → (c ≡ false) × (PastEnd at ≡ x)
      go true e = let z : ◌≡◌ {A = ℕ} 0 1 = cc in absurd (omega arith)
      go false e = (refl, (cc))

module _ (b : List ℕ) (at : Offset) (o : Endianness) where
  pub num_there : {u : Unit} → Ok u ≡ test b at 4 → answered (number_at o 4 b at.0, at.0 + 4) ≡ num b o 4 at.0
  num_there e = sym (num_good b at.0 o 4 (there_good b at 4 e))

  pub num_away : {x : Refusal} → Err x ≡ test b at 4 → refusal x ≡ num b o 4 at.0
  num_away e = let (lt, i) = there_past b at 4 e in ap refusal (sym i) ∙ sym (num_past b at.0 o 4 lt)

  -- a number that was read was there
  pub num_within : {n m : ℕ} → answered (n, m) ≡ num b o 4 at.0 → 4 ≤ length b - at.0
  num_within {n} {m} e = go (leb 4 (length b - at.0)) refl
    where
      go : (c : Bool) → leb 4 (length b - at.0) ≡ c → 4 ≤ length b - at.0
      go true i = leb-true 4 (length b - at.0) i
      go false i = let p = e ∙ num_past b at.0 o 4 (leb-false 4 (length b - at.0) i) in let z : ◌≡◌ {A = ℕ} 0 1 = cc in absurd (omega arith)
