-- What the characters of a line say. Assumes nothing.
use Rattle.std.specs.Prelude.{ℕ, ◌+◌, ◌-◌, Bool, ◌&&◌, cond, leb, Option, Some, None}

-- the characters from low to high
abbrev pub within : ℕ → ℕ → ℕ → Bool
within low high b = leb low b && leb b high

-- 0 to 9, A to F, a to f
abbrev pub digit_of : ℕ → Option ℕ
digit_of b =
    cond (within 48 57 b) (Some (b - 48))
    (cond (within 65 70 b) (Some (b - 65 + 10))
    (cond (within 97 102 b) (Some (b - 97 + 10))
    None))
