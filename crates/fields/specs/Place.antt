-- Where the digits of a number stand among its bytes.
use Rattle.std.specs.Prelude.{ℕ, ◌-◌, Bool, true, false}
use Rattle.meaning.specs.declared.Endianness.{Endianness}
use Rattle.meaning.specs.declared.Endianness.TheVariants.{BigEndian, LittleEndian}

-- the digit that has n digits above it, among w
abbrev pub place_of : Endianness → ℕ → ℕ → ℕ
place_of BigEndian w n = n
place_of LittleEndian w n = w - 1 - n

-- big, or else little
abbrev pub order_if : Bool → Endianness
order_if true = BigEndian
order_if false = LittleEndian
