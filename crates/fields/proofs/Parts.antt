-- A word's fields, each taken straight from the word. Assumes nothing.
use mathlib.Core.Path.{◌≡◌, refl, sym, ap, ◌∙◌}
use mathlib.Core.List.{List, [], ◌∷◌}
use Prim.Native.Nat.{ℕ, ◌+◌, ◌*◌, ◌/◌, ◌%◌, ◌^◌, ◌<◌}
use native.Mathlib.Nat.{mul-pos, mod-lt, div-add-mod, add-mul-div_left, add-mul-mod_self_left, mod-eq_of_lt, div-lt_iff_lt-mul, mod-mod_of_dvd, dvd-mul_left}
use native.Mathlib.Omega.{arith}
use lib.Pow.{pow_pos, pow-add}
use Rattle.meaning.specs.Table.{sum, unpack}

-- each field by itself, where unpack takes the fields above it off first
unfoldable pub parts : List ℕ → ℕ → List ℕ
parts [] x = []
parts (w ∷ ws) x = x / 2 ^ sum ws % 2 ^ w ∷ parts ws x

-- below a * s, and a multiple of it above
top_part : (a s r k : ℕ) → 0 < s → r < a * s → (r + s * (a * k)) / s % a ≡ r / s
top_part a s r k q h =
    rw (add-mul-div_left r (a * k) q, add-mul-mod_self_left (r / s) a k) (mod-eq_of_lt ((div-lt_iff_lt-mul q).1 h))

-- the part from s up to a * s, taken in either order
part : (a s x : ℕ) → 0 < a → 0 < s → x % (a * s) / s ≡ x / s % a
part a s x p q =
    let e : x ≡ x % (a * s) + s * (a * (x / (a * s))) = omega (arith, div-add-mod x (a * s)) in
    sym (ap (λ (y : ℕ). y / s % a) e ∙ top_part a s (x % (a * s)) (x / (a * s)) q (mod-lt x (mul-pos p q)))

-- of the bits that the fields take
parts_below : (ws : List ℕ) (x : ℕ) → unpack ws (x % 2 ^ sum ws) ≡ parts ws x
unfolding unpack parts sum
parts_below [] x = refl
parts_below (w ∷ ws) x =
    let a = 2 ^ w in
    let s = 2 ^ sum ws in
    rw (pow-add, part a s x (pow_pos w) (pow_pos (sum ws)), mod-mod_of_dvd s x (dvd-mul_left s a), parts_below ws x)

-- the top field has all that stands above the others
pub unpack_parts : (w : ℕ) (ws : List ℕ) (x : ℕ) → unpack (w ∷ ws) x ≡ x / 2 ^ sum ws ∷ parts ws x
unfolding unpack
unpack_parts w ws x = ap (λ (l : List ℕ). x / 2 ^ sum ws ∷ l) (parts_below ws x)
