-- Answers and refusals, and what each case of the code's answers is in the paper's numbers and values.
use Rattle.std.specs.Prelude.{ℕ, Result, Ok, Err, Option as CodeOption, Some, None}
use Rattle.std.proofs.Math.Option.{Option, none, some}
use Rattle.meaning.specs.declared.Endianness.{Endianness}
use Rattle.meaning.specs.declared.Row.{Row}
use Rattle.meaning.specs.declared.Prefix.{Prefix}
use Rattle.meaning.specs.declared.Coordinate.{Coordinate}
use Rattle.meaning.specs.declared.Form.{Form}
use Rattle.meaning.specs.declared.Refusal.{Refusal}
use Rattle.meaning.specs.declared.Refusal.TheVariants.{TooLong, PastEnd, ByteOrder, TypeCode, WrongChild, ChildSrid, TooDeep, TooFewRows, Unsound, NotThere, OutputTooShort}
use Rattle.meaning.specs.declared.WkbType.{WkbType}

-- "Each refusal returns number and place and changes no lent memory": what stays is said with each answer (`tabled`, `written`)
pub data Answer (A : Type 0) : Type 0 where
  refused : ℕ → ℕ → Answer A
  answered : A → Answer A

-- the table of "Refusal numbers": number and place, such as 5 at the "child's code" and 8 with the "rows needed"
abbrev pub numbered : Refusal → ℕ × ℕ
numbered TooLong = (1, 0)
numbered (PastEnd p) = (2, p.0)
numbered (ByteOrder p) = (3, p.0)
numbered (TypeCode p) = (4, p.0)
numbered (WrongChild p) = (5, p.0)
numbered (ChildSrid p) = (6, p.0)
numbered (TooDeep p) = (7, p.0)
numbered (TooFewRows n) = (8, n)
numbered (Unsound r) = (9, r.0)
numbered (NotThere n) = (10, n)
numbered (OutputTooShort n) = (11, n)

abbrev pub refusal : {A : Type 0} → Refusal → Answer A
refusal x = refused (numbered x).0 (numbered x).1

-- an `Option` of the code
abbrev pub option_meant : {A : Type 0} → CodeOption A → Option A
option_meant None = none
option_meant (Some x) = some x

-- what a type code says, if it is allowed
abbrev pub type_meant : CodeOption WkbType → Option WkbType
type_meant = option_meant

-- an answer of the code, whose values are the paper's by `good`
abbrev pub meant : {A B : Type 0} → (A → B) → Result A Refusal → Answer B
meant good (Ok x) = answered (good x)
meant good (Err x) = refusal x

-- prefix length and rows
abbrev pub read_meant : Result Prefix Refusal → Answer (ℕ × ℕ)
read_meant = meant (λ a. (a.length, a.rows))

abbrev pub ordinate_meant : Result ℕ Refusal → Answer ℕ
ordinate_meant = meant (λ x. x)

abbrev pub coordinate_meant : Result Coordinate Refusal → Answer Coordinate
coordinate_meant = meant (λ c. c)

-- order and count
abbrev pub form_meant : Result Form Refusal → Answer (Endianness × ℕ)
form_meant = meant (λ f. (f.order, f.count))

abbrev pub child_meant : Result Row Refusal → Answer ℕ
child_meant = meant (λ r. r.0)

abbrev pub srid_meant : Result (CodeOption ℕ) Refusal → Answer (Option ℕ)
srid_meant = meant option_meant

-- the length written
abbrev pub write_meant : Result ℕ Refusal → Answer ℕ
write_meant = meant (λ n. n)
