-- One answer: what an answer means tells the answer, so that any two results that a contract allows are equal. Assumes nothing.
use Prim.Native.Nat.{ℕ, ◌-◌}
use mathlib.Core.Path.{◌≡◌, refl, sym, ap, ◌∙◌}
use mathlib.Core.List.{[], ◌∷◌}
use mathlib.Core.Option.{Option, none, some}
use lib.ListN.{get_or}
use Rattle.std.specs.Prelude.{Result, Ok, Err, Option as CodeOption, Some, None}
use Rattle.meaning.specs.declared.Row.{Row}
use Rattle.meaning.specs.declared.Prefix.{Prefix}
use Rattle.meaning.specs.declared.Coordinate.{Coordinate}
use Rattle.meaning.specs.declared.Form.{Form}
use Rattle.meaning.specs.declared.Refusal.{Refusal}
use Rattle.meaning.specs.declared.Refusal.TheVariants.{TooLong, PastEnd, ByteOrder, TypeCode, WrongChild, ChildSrid, TooDeep, TooFewRows, Unsound, NotThere, OutputTooShort}
use Rattle.meaning.specs.declared.WkbType.{WkbType}
use Rattle.meaning.specs.Answer.{Answer, refused, answered, numbered, option_meant, meant, type_meant, read_meant, ordinate_meant, coordinate_meant, form_meant, child_meant, srid_meant, write_meant}

-- the refusal of a number and place
which : ℕ → ℕ → Refusal
which n p =
    get_or
    ((λ _. TooLong) ∷ (λ p. PastEnd (record { 0 = p })) ∷ (λ p. ByteOrder (record { 0 = p })) ∷ (λ p. TypeCode (record { 0 = p }))
    ∷ (λ p. WrongChild (record { 0 = p })) ∷ (λ p. ChildSrid (record { 0 = p })) ∷ (λ p. TooDeep (record { 0 = p })) ∷ TooFewRows
    ∷ (λ p. Unsound (record { 0 = p })) ∷ NotThere ∷ OutputTooShort ∷ [])
    (n - 1)
    (λ _. TooLong)
    p

which_numbered : (x : Refusal) → which (numbered x).0 (numbered x).1 ≡ x
unfolding which
which_numbered TooLong = refl
which_numbered (PastEnd p) = refl
which_numbered (ByteOrder p) = refl
which_numbered (TypeCode p) = refl
which_numbered (WrongChild p) = refl
which_numbered (ChildSrid p) = refl
which_numbered (TooDeep p) = refl
which_numbered (TooFewRows n) = refl
which_numbered (Unsound r) = refl
which_numbered (NotThere n) = refl
which_numbered (OutputTooShort n) = refl

-- two answers of one meaning, where the meaning can be taken back
one : {A B : Type 0} (meant : A → B) (back : B → A) → ((a : A) → back (meant a) ≡ a) → (a b : A) → meant a ≡ meant b → a ≡ b
one meant back h a b e = sym (h a) ∙ ap back e ∙ h b

-- back from what an option means
abbrev back_option : {A : Type 0} → Option A → CodeOption A
back_option none = None
back_option (some x) = Some x

back_back : {A : Type 0} (a : CodeOption A) → back_option (option_meant a) ≡ a
back_back None = refl
back_back (Some x) = refl

pub one_type : (a b : CodeOption WkbType) → type_meant a ≡ type_meant b → a ≡ b
one_type = one option_meant back_option back_back

-- back from what an answer means
abbrev back_to : {A B : Type 0} → (B → A) → Answer B → Result A Refusal
back_to good (refused n p) = Err (which n p)
back_to good (answered x) = Ok (good x)

-- two answers of one meaning, where their values can be taken back
one_meant : {A B : Type 0} (good : A → B) (back : B → A) → ((a : A) → back (good a) ≡ a) → (a b : Result A Refusal) → meant good a ≡ meant good b → a ≡ b
one_meant good back h = one (meant good) (back_to back) (elim [ Ok a ↦ ap Ok (h a) | Err x ↦ ap Err (which_numbered x) ])

pub one_read : (a b : Result Prefix Refusal) → read_meant a ≡ read_meant b → a ≡ b
one_read = one_meant (λ a. (a.length, a.rows)) (λ x. record { length = x.0; rows = x.1 }) (λ a. refl)

pub one_ordinate : (a b : Result ℕ Refusal) → ordinate_meant a ≡ ordinate_meant b → a ≡ b
one_ordinate = one_meant (λ x. x) (λ x. x) (λ x. refl)

pub one_coordinate : (a b : Result Coordinate Refusal) → coordinate_meant a ≡ coordinate_meant b → a ≡ b
one_coordinate = one_meant (λ c. c) (λ c. c) (λ c. refl)

pub one_form : (a b : Result Form Refusal) → form_meant a ≡ form_meant b → a ≡ b
one_form = one_meant (λ f. (f.order, f.count)) (λ x. record { order = x.0; count = x.1 }) (λ f. refl)

pub one_child : (a b : Result Row Refusal) → child_meant a ≡ child_meant b → a ≡ b
one_child = one_meant (λ r. r.0) (λ n. record { 0 = n }) (λ r. refl)

pub one_srid : (a b : Result (CodeOption ℕ) Refusal) → srid_meant a ≡ srid_meant b → a ≡ b
one_srid = one_meant option_meant back_option back_back

pub one_write : (a b : Result ℕ Refusal) → write_meant a ≡ write_meant b → a ≡ b
one_write = one_meant (λ n. n) (λ n. n) (λ n. refl)
