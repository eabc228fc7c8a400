-- What is known of a slice of bytes. Assumes nothing.
use Prim.Native.Nat.{ℕ, ◌<◌}
use native.Mathlib.Omega.{arith}
use mathlib.Core.List.{List}
use lib.ListN.{get_or}
use mir.Val.{Fits}
use mir.Syntax.{w8}
use Rattle.meaning.specs.Number.{Bytes}
use Rattle.meaning.proofs.Lists.{each_at}

pub bytes_known : (b : List ℕ) → ((i : ℕ) → Fits w8 (get_or b i 0)) → Bytes b
bytes_known b f = each_at (λ x. x < 256) b 0 (λ i. omega (arith, f i))
