-- Numbers of eight bytes, read in one order and written in another.
use Rattle.std.specs.Prelude.{ℕ, List, map}
use mathlib.Core.List.{flat_map}
use Rattle.meaning.specs.declared.Endianness.{Endianness}
use Rattle.meaning.specs.Number.{number, bytes_of}
use Rattle.meaning.specs.Reading.{pieces}

-- the first n of them
abbrev pub rewritten : Endianness → Endianness → ℕ → List ℕ → List ℕ
rewritten from order n bs = flat_map (bytes_of order 8) (map (number from) (pieces 8 n bs))
