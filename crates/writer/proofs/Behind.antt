-- The rest of an output is lent, and comes back with more in it. Assumes nothing.
use Prim.Native.Nat.{ℕ, ◌+◌, ◌-◌, ◌≤◌}
use native.Mathlib.Omega.{arith}
use mathlib.Core.Path.{◌≡◌, sym, ap, ap₂, ◌∙◌}
use mathlib.Core.List.{List, ◌++◌, append_assoc, append-nil}
use lib.ListN.{length, take, drop, length-append, length-drop, drop_of_length-le}
use lib.Seq.{take_at, drop_at, drop-drop}
use borrow.Rule.Slice.PartAt.{part_to_end}
use borrow.Rule.Slice.PartMut.{put_mid}

-- w, which has a bytes, was written at the start of o₀
module _ (w o o₀ : List ℕ) (a : ℕ) (l : length w ≡ a) (e : o ≡ w ++ drop a o₀) where
  pub rest_lent : take (length o - a) (drop a o) ≡ drop a o₀
  rest_lent = part_to_end o a ∙ ap (drop a) e ∙ drop_at w (drop a o₀) a l

  pub rest_starts : a ≤ length o
  rest_starts = omega (arith, ap length e, length-append w (drop a o₀))

  -- of an output with room for w and v, the rest has room for v
  pub rest_room : (v : List ℕ) → a + length v ≤ length o₀ → length v ≤ length (take (length o - a) (drop a o))
  rest_room v h = omega (arith, ap length rest_lent, length-drop a o₀)

  -- v is written at the start of the rest
  pub rest_put : (v ys : List ℕ) → ys ≡ v ++ drop (length v) (take (length o - a) (drop a o)) → put_mid a (length o - a) o ys ≡ (w ++ v) ++ drop (a + length v) o₀
  rest_put v ys f =
      ap₂ {C = List ℕ} (λ x y. x ++ (ys ++ y))
      (ap (take a) e ∙ take_at w (drop a o₀) a l)
      (drop-drop (length o - a) a o ∙ drop_of_length-le o {i = a + (length o - a)} (omega arith))
      ∙ ap (λ (x : List ℕ). w ++ x)
      (append-nil ys ∙ f ∙ ap (λ (x : List ℕ). v ++ drop (length v) x) rest_lent ∙ ap (λ (x : List ℕ). v ++ x) (drop-drop (length v) a o₀))
      ∙ sym (append_assoc w v (drop (a + length v) o₀))
