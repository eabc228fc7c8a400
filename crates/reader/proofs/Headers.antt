-- Each way out of reading a header. Assumes nothing.
use Prim.Native.Nat.{ℕ, ◌+◌, ◌≤◌, ◌<◌}
use mathlib.Core.Path.{◌≡◌}
use mathlib.Core.List.{List}
use mathlib.Core.Option.{none, some}
use lib.ListN.{length, get_or}
use Rattle.meaning.specs.declared.Endianness.{Endianness}
use Rattle.meaning.specs.declared.WkbType.{WkbType}
use Rattle.meaning.specs.Code.{type_of}
use Rattle.meaning.specs.Grammar.{Asks, geometries}
use Rattle.meaning.specs.Answer.{Answer, refused, answered}
use Rattle.meaning.specs.Reading.{header, num, order_of}
use Rattle.meaning.proofs.Steps.{order_past, order_wrong, order_good}
use Rattle.reader.specs.declared.geometry.Head.{Head}
use Rattle.reader.specs.Asks.{viewed, opened}

module _ (b : List ℕ) (a : Asks) (l at : ℕ) where
  abbrev H : Answer Head
  H = viewed (header b (geometries a) l at)

  pub no_order : length b ≤ at → refused 2 at ≡ H
  unfolding header
  no_order h = rw (order_past b at h)

  module _ (h : at < length b) where
    pub bad_order : 1 < get_or b at 0 → refused 3 at ≡ H
    unfolding header
    bad_order g = rw (order_wrong b at h g)

    module _ (g : get_or b at 0 ≤ 1) (o : Endianness) (e : o ≡ order_of (get_or b at 0)) where
      pub no_code : (x y : ℕ) → refused x y ≡ num b o 4 (at + 1) → refused x y ≡ H
      unfolding header
      no_code x y k = rw (order_good b at h g, ← e, ← k)

      module _ (c : ℕ) (k : answered (c, at + 1 + 4) ≡ num b o 4 (at + 1)) where
        pub bad_code : type_of c ≡ none → refused 4 (at + 1) ≡ H
        unfolding header
        bad_code n = rw (order_good b at h g, ← e, ← k, n)

        pub good_code : (t : WkbType) → type_of c ≡ some t → viewed (opened b a l at o c t (at + 1 + 4)) ≡ H
        unfolding header
        good_code t n = rw (order_good b at h g, ← e, ← k, n)
