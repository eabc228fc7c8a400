-- Laws of type codes and dimensions. Assumes nothing.
use Prim.Native.Nat.{ℕ, zero, suc, ◌<◌, ◌≤◌}
use native.Mathlib.Omega.{arith}
use mathlib.Core.Path.{◌≡◌, refl, sym, ap, ◌∙◌}
use Rattle.std.specs.Prelude.{Option as CodeOption, Some}
use Rattle.meaning.specs.Answer.{type_meant}
use Rattle.meaning.specs.Code.{dimension_of, kind_number, type_of}
use Rattle.meaning.specs.Reading.{order_of}
use Rattle.meaning.specs.declared.Dimension.TheVariants.{Xyzm}
use Rattle.meaning.specs.declared.Endianness.TheVariants.{LittleEndian}
use Rattle.meaning.specs.declared.WkbType.{WkbType}
use Rattle.meaning.proofs.Codes.{kind_range}

-- the arms that are left to the other numbers
pub other_dimension : (k : ℕ) → 2 < k → Xyzm ≡ dimension_of k
other_dimension zero h = absurd (omega arith)
other_dimension (suc zero) h = absurd (omega arith)
other_dimension (suc (suc zero)) h = absurd (omega arith)
other_dimension (suc (suc (suc n))) h = refl

pub other_order : (x : ℕ) → (x ≡ 0 → ⊥) → LittleEndian ≡ order_of x
other_order zero a = absurd (a refl)
other_order (suc x) a = refl

-- the kind that `type_of` answers is 1 to 7
pub kind_named : (c : ℕ) (a : CodeOption WkbType) (t : WkbType) → type_meant a ≡ type_of c → a ≡ Some t → (1 ≤ kind_number t.kind) × (kind_number t.kind ≤ 7)
kind_named c a t e k = kind_range c t (sym e ∙ ap type_meant k)
