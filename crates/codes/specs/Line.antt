-- What a line of the input says. Assumes nothing.
use Rattle.std.specs.Prelude.{ℕ, ◌+◌, ◌*◌, List, [], ◌∷◌, cond, ltb, eqb, length, Option, Some, None, Result, Ok, Err}
use Rattle.text.specs.Spelt.{digit_of}
use Rattle.codes.specs.declared.line.SpellingError.{SpellingError}
use Rattle.codes.specs.declared.line.SpellingError.TheVariants.{Empty, TooLong, NotHex}

-- what comes of the character at place i: the value goes to the rest, or the spelling ends there
abbrev pub after : Option ℕ → ℕ → (ℕ → Result ℕ SpellingError) → Result ℕ SpellingError
after (Some d) i more = more d
after None i more = Err (NotHex (i + 1))

-- the digits from place i on, after those that spell v
unfoldable pub code_from : ℕ → ℕ → List ℕ → Result ℕ SpellingError
code_from v i [] = Ok v
code_from v i (b ∷ bs) = after (digit_of b) i (λ d. code_from (16 * v + d) (i + 1) bs)

-- the code that 1 to 8 hex digits spell
abbrev pub code_of : List ℕ → Result ℕ SpellingError
code_of line =
    cond (eqb (length line) 0) (Err Empty)
    (cond (ltb 8 (length line)) (Err (TooLong (length line)))
    (code_from 0 0 line))
