-- Each step of a reading by what stands in the buffer: the laws for code that reads. Assumes nothing.
use Prim.Native.Nat.{ℕ, ◌+◌, ◌*◌, ◌-◌, ◌≤◌, ◌<◌}
use native.Mathlib.Omega.{arith}
use mathlib.Core.Path.{◌≡◌}
use mathlib.Core.List.{List}
use lib.ListN.{length, take, drop, get_or}
use lib.Seq.{drop-cons}
use borrow.Author.Tests.{le-leb, lt-leb}
use Rattle.meaning.specs.declared.Endianness.{Endianness}
use Rattle.meaning.specs.declared.Endianness.TheVariants.{LittleEndian}
use Rattle.meaning.specs.Number.{value, number_at}
use Rattle.meaning.specs.Code.{size}
use Rattle.meaning.specs.Grammar.{Header}
use Rattle.meaning.specs.Answer.{refused, answered}
use Rattle.meaning.specs.Reading.{order_of, span, num, order, run, coordinates_in}

module _ (b : List ℕ) (at : ℕ) where
  pub span_good : (w : ℕ) → w ≤ length b - at → span b w at ≡ answered (take w (drop at b), at + w)
  unfolding span
  span_good w h = rw (le-leb w (length b - at) h)

  pub span_past : (w : ℕ) → length b - at < w → span b w at ≡ refused 2 at
  unfolding span
  span_past w h = rw (lt-leb w (length b - at) h)

  pub num_good : (o : Endianness) (w : ℕ) → w ≤ length b - at → num b o w at ≡ answered (number_at o w b at, at + w)
  num_good o w h = rw (span_good w h)

  pub num_past : (o : Endianness) (w : ℕ) → length b - at < w → num b o w at ≡ refused 2 at
  num_past o w h = rw (span_past w h)

  byte_here : at < length b → number_at LittleEndian 1 b at ≡ get_or b at 0
  unfolding value
  byte_here h = rw (drop-cons b at 0 h) (omega arith)

  pub order_past : length b ≤ at → order b at ≡ refused 2 at
  order_past h = rw (num_past LittleEndian 1 (omega arith))

  pub order_wrong : at < length b → 1 < get_or b at 0 → order b at ≡ refused 3 at
  order_wrong h g = rw (num_good LittleEndian 1 (omega arith), byte_here h, lt-leb (get_or b at 0) 1 g)

  pub order_good : at < length b → get_or b at 0 ≤ 1 → order b at ≡ answered (order_of (get_or b at 0), at + 1)
  order_good h g = rw (num_good LittleEndian 1 (omega arith), byte_here h, le-leb (get_or b at 0) 1 g)

  pub run_good : (h : Header) (n : ℕ) → 8 * size h.dimension * n ≤ length b - at
      → run b h n at ≡ answered (coordinates_in h.order (size h.dimension) n (take (8 * size h.dimension * n) (drop at b)), at + 8 * size h.dimension * n)
  run_good h n le = rw (span_good (8 * size h.dimension * n) le)

  pub run_past : (h : Header) (n : ℕ) → length b - at < 8 * size h.dimension * n → run b h n at ≡ refused 2 at
  run_past h n lt = rw (span_past (8 * size h.dimension * n) lt)
