-- Byte orders, and numbers of any width in either order.
use Rattle.std.specs.Prelude.{ℕ, zero, suc, ◌+◌, ◌*◌, ◌/◌, ◌%◌, ◌<◌, List, [], ◌∷◌, reverse, take, drop}
use Rattle.meaning.specs.declared.Endianness.{Endianness}
use Rattle.meaning.specs.declared.Endianness.TheVariants.{BigEndian, LittleEndian}

-- "one order byte, 0 big or 1 little"
abbrev pub order_byte : Endianness → ℕ
order_byte BigEndian = 0
order_byte LittleEndian = 1

abbrev pub Each : {A : Type 0} → (A → Type 0) → List A → Type 0
Each P [] = Unit
Each P (x ∷ xs) = P x × Each P xs

-- a list of bytes
abbrev pub Bytes : List ℕ → Type 0
Bytes bs = Each (λ b. b < 256) bs

-- the number whose digits to the base 256 these are, the lowest first
unfoldable pub value : List ℕ → ℕ
value [] = 0
value (b ∷ bs) = b + 256 * value bs

-- the lowest w digits of a number, the lowest first
unfoldable pub digits : ℕ → ℕ → List ℕ
digits zero n = []
digits (suc w) n = n % 256 ∷ digits w (n / 256)

-- little: the lowest first; big: the highest first
abbrev pub in_order : Endianness → List ℕ → List ℕ
in_order BigEndian bs = reverse bs
in_order LittleEndian bs = bs

-- the number that stands in these bytes
abbrev pub number : Endianness → List ℕ → ℕ
number o bs = value (in_order o bs)

-- a number's w bytes as they stand
abbrev pub bytes_of : Endianness → ℕ → ℕ → List ℕ
bytes_of o w n = in_order o (digits w n)

-- the number in the w bytes at an offset
abbrev pub number_at : Endianness → ℕ → List ℕ → ℕ → ℕ
number_at o w b at = number o (take w (drop at b))
