-- Numbers of any width in either order: what is written is read, and what is read is written. Assumes nothing.
use Prim.Native.Nat.{ℕ, zero, suc, ◌+◌, ◌*◌, ◌/◌, ◌%◌, ◌^◌, ◌<◌}
use native.Mathlib.Nat.{pow-suc}
use native.Mathlib.Omega.{arith}
use mathlib.Core.Path.{◌≡◌, refl, sym, ap, ap₂, ◌∙◌}
use mathlib.Core.List.{List, [], ◌∷◌, reverse, reverse-reverse}
use lib.ListN.{length, length-reverse}
use Rattle.meaning.specs.declared.Endianness.{Endianness}
use Rattle.meaning.specs.declared.Endianness.TheVariants.{BigEndian, LittleEndian}
use Rattle.meaning.specs.Number.{Bytes, value, digits, number, bytes_of}
use Rattle.meaning.proofs.Lists.{each_reverse}

length_digits : (w n : ℕ) → length (digits w n) ≡ w
unfolding digits
length_digits zero n = refl
length_digits (suc w) n = ap suc (length_digits w (n / 256))

value_digits : (w n : ℕ) → n < 256 ^ w → value (digits w n) ≡ n
unfolding value digits
value_digits zero n h = omega arith
value_digits (suc w) n h =
    let s = pow-suc 256 w in
    let e = value_digits w (n / 256) (omega arith) in
    omega arith

value_below : (bs : List ℕ) → Bytes bs → value bs < 256 ^ length bs
unfolding value
value_below [] h = omega arith
value_below (b ∷ bs) h =
    let s = pow-suc 256 (length bs) in
    let e = value_below bs h.1 in
    omega arith

digits_value : (bs : List ℕ) → Bytes bs → digits (length bs) (value bs) ≡ bs
unfolding value digits
digits_value [] h = refl
digits_value (b ∷ bs) h =
    let r : (b + 256 * value bs) % 256 ≡ b = omega arith in
    let q : (b + 256 * value bs) / 256 ≡ value bs = omega arith in
    ap₂ {C = List ℕ} (λ x xs. x ∷ xs) r (ap (digits (length bs)) q ∙ digits_value bs h.1)

bytes_digits : (w n : ℕ) → Bytes (digits w n)
unfolding digits
bytes_digits zero n = tt
bytes_digits (suc w) n = (omega arith, bytes_digits w (n / 256))

-- ---- in either order

pub length_bytes_of : (o : Endianness) (w n : ℕ) → length (bytes_of o w n) ≡ w
length_bytes_of BigEndian w n = length-reverse (digits w n) ∙ length_digits w n
length_bytes_of LittleEndian w n = length_digits w n

pub bytes_bytes_of : (o : Endianness) (w n : ℕ) → Bytes (bytes_of o w n)
bytes_bytes_of BigEndian w n = each_reverse (λ b. b < 256) (digits w n) (bytes_digits w n)
bytes_bytes_of LittleEndian w n = bytes_digits w n

pub number_bytes_of : (o : Endianness) (w n : ℕ) → n < 256 ^ w → number o (bytes_of o w n) ≡ n
number_bytes_of BigEndian w n h = ap value (reverse-reverse (digits w n)) ∙ value_digits w n h
number_bytes_of LittleEndian w n h = value_digits w n h

pub bytes_of_number : (o : Endianness) (bs : List ℕ) → Bytes bs → bytes_of o (length bs) (number o bs) ≡ bs
bytes_of_number BigEndian bs h =
    ap (λ (w : ℕ). reverse (digits w (value (reverse bs)))) (sym (length-reverse bs))
    ∙ ap reverse (digits_value (reverse bs) (each_reverse (λ b. b < 256) bs h)) ∙ reverse-reverse bs
bytes_of_number LittleEndian bs h = digits_value bs h

pub number_below : (o : Endianness) (bs : List ℕ) → Bytes bs → number o bs < 256 ^ length bs
number_below BigEndian bs h = rw length-reverse at (value_below (reverse bs) (each_reverse (λ b. b < 256) bs h))
number_below LittleEndian bs h = value_below bs h
