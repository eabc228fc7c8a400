-- One answer of the reader: any two results that its contract allows are equal, table included. Assumes nothing.
use Prim.Native.Nat.{ℕ}
use mathlib.Core.Path.{◌≡◌, sym, ap, ◌∙◌}
use mathlib.Core.List.{List}
use Rattle.std.specs.Prelude.{Result}
use Rattle.meaning.specs.declared.Prefix.{Prefix}
use Rattle.meaning.specs.declared.Refusal.{Refusal}
use Rattle.meaning.specs.Answer.{Answer, read_meant}
use Rattle.meaning.specs.Table.{read_wkb}
use Rattle.meaning.proofs.OneAnswer.{one_read}

pub one_result : (b t : List ℕ) (r r' : Result Prefix Refusal) (t₁ t₂ : List ℕ) → (read_meant r, t₁) ≡ read_wkb b t → (read_meant r', t₂) ≡ read_wkb b t → (r ≡ r') × (t₁ ≡ t₂)
one_result b t r r' t₁ t₂ e f =
    let i : ◌≡◌ {A = Answer (ℕ × ℕ) × List ℕ} (read_meant r, t₁) (read_meant r', t₂) = e ∙ sym f in
    (one_read r r' (ap (λ (x : Answer (ℕ × ℕ) × List ℕ). x.0) i), ap (λ (x : Answer (ℕ × ℕ) × List ℕ). x.1) i)
