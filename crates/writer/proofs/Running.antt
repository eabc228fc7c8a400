-- Runs of 8-byte numbers: what a turn of each loop adds, and what the whole run is. Assumes nothing.
use Prim.Native.Nat.{ℕ, zero, suc, ◌+◌, ◌*◌, ◌/◌, ◌<◌}
use native.Mathlib.Nat.{mul-zero}
use native.Mathlib.Omega.{arith}
use mathlib.Core.Path.{◌≡◌, refl, sym, ap, ap₂, ◌∙◌}
use mathlib.Core.List.{List, [], ◌∷◌, ◌++◌, append_assoc, append-nil, flat_map, reverse, reverse-reverse}
use lib.ListN.{length, take, drop, replicate, length-drop, length-append}
use lib.Seq.{take_at, drop_at, drop-drop, take-take, length-take-le}
use Rattle.std.proofs.lemmas.List.{drop-take, flat_map_more, replicate_more}
use Rattle.meaning.specs.declared.Endianness.{Endianness}
use Rattle.meaning.specs.declared.Endianness.TheVariants.{BigEndian, LittleEndian}
use Rattle.meaning.specs.Number.{Bytes, digits, number, bytes_of, number_at}
use Rattle.meaning.specs.Grammar.{ordinate_bytes}
use Rattle.meaning.specs.Reading.{pieces, coordinates_in}
use Rattle.meaning.proofs.Lists.{each_take, each_drop}
use Rattle.meaning.proofs.Numbers.{length_bytes_of, bytes_of_number}
use Rattle.meaning.proofs.Coordinates.{bytes_read}
use Rattle.writer.specs.Rewritten.{rewritten}

-- w is put behind what was written, bs
put_behind : (bs w s s₀ : List ℕ) (at : ℕ) → s ≡ bs ++ drop at s₀ → length bs ≡ at
    → take at s ++ (w ++ drop (at + 8) s) ≡ (bs ++ w) ++ drop (at + 8) s₀
put_behind bs w s s₀ at e l =
    let t : take at s ≡ bs = ap (take at) e ∙ take_at bs (drop at s₀) at l in
    let d : drop (at + 8) s ≡ drop (at + 8) s₀ =
    sym (drop-drop 8 at s) ∙ ap (λ (x : List ℕ). drop 8 (drop at x)) e ∙ ap (drop 8) (drop_at bs (drop at s₀) at l) ∙ drop-drop 8 at s₀ in
    ap₂ {C = List ℕ} (λ x y. x ++ (w ++ y)) t d ∙ sym (append_assoc bs w (drop (at + 8) s₀))

module _ (from order : Endianness) where
  -- the first n numbers, and those behind them
  rewritten_add : (n m : ℕ) (bs : List ℕ) → rewritten from order (n + m) bs ≡ rewritten from order n bs ++ rewritten from order m (drop (8 * n) bs)
  unfolding pieces flat_map
  rewritten_add zero m bs =
      let z : 0 + m ≡ m = omega arith in
      ap (λ (k : ℕ). rewritten from order k bs) z
  rewritten_add (suc n) m bs =
      let w = bytes_of order 8 (number from (take 8 bs)) in
      let e : suc n + m ≡ suc (n + m) = omega arith in
      let k : 8 * suc n ≡ 8 + 8 * n = omega arith in
      let d : drop (8 * n) (drop 8 bs) ≡ drop (8 * suc n) bs = drop-drop (8 * n) 8 bs ∙ ap (λ (i : ℕ). drop i bs) (sym k) in
      ap (λ (i : ℕ). rewritten from order i bs) e
      ∙ ap (λ (x : List ℕ). w ++ x) (rewritten_add n m (drop 8 bs) ∙ ap (λ (x : List ℕ). rewritten from order n (drop 8 bs) ++ rewritten from order m x) d)
      ∙ sym (append_assoc w (rewritten from order n (drop 8 bs)) (rewritten from order m (drop (8 * suc n) bs)))

  -- of n numbers only their own bytes count
  rewritten_take : (n : ℕ) (bs : List ℕ) → rewritten from order n (take (8 * n) bs) ≡ rewritten from order n bs
  unfolding pieces flat_map
  rewritten_take zero bs = refl
  rewritten_take (suc n) bs =
      let k : 8 * suc n ≡ 8 + 8 * n = omega arith in
      let d : drop 8 (take (8 * suc n) bs) ≡ take (8 * n) (drop 8 bs) = ap (λ (i : ℕ). drop 8 (take i bs)) k ∙ drop-take 8 (8 * n) bs in
      ap₂ {C = List ℕ} (λ x y. bytes_of order 8 (number from x) ++ y)
      (take-take 8 (8 * suc n) bs (omega arith))
      (ap (rewritten from order n) d ∙ rewritten_take n (drop 8 bs))

  length_rewritten : (n : ℕ) (bs : List ℕ) → length (rewritten from order n bs) ≡ 8 * n
  unfolding pieces flat_map
  length_rewritten zero bs = refl
  length_rewritten (suc n) bs =
      length-append (bytes_of order 8 (number from (take 8 bs))) (rewritten from order n (drop 8 bs))
      ∙ omega (arith, length_bytes_of order 8 (number from (take 8 bs)), length_rewritten n (drop 8 bs))

  pub rewritten_none : (bs s₀ : List ℕ) → s₀ ≡ rewritten from order 0 bs ++ s₀
  unfolding pieces flat_map
  rewritten_none bs s₀ = refl

  one_rewritten : (bs : List ℕ) → rewritten from order 1 bs ≡ bytes_of order 8 (number from (take 8 bs))
  unfolding pieces flat_map
  one_rewritten bs = append-nil (bytes_of order 8 (number from (take 8 bs)))

  -- the next number is put behind n of them
  pub rewritten_next : (bs s s₀ : List ℕ) (n : ℕ) → s ≡ rewritten from order n bs ++ drop (8 * n) s₀
      → take (8 * n) s ++ (bytes_of order 8 (number_at from 8 bs (8 * n)) ++ drop (8 * n + 8) s) ≡ rewritten from order (n + 1) bs ++ drop (8 * (n + 1)) s₀
  rewritten_next bs s s₀ n e =
      let k : 8 * n + 8 ≡ 8 * (n + 1) = omega arith in
      put_behind (rewritten from order n bs) (bytes_of order 8 (number_at from 8 bs (8 * n))) s s₀ (8 * n) e (length_rewritten n bs)
      ∙ ap₂ {C = List ℕ} (λ x y. x ++ y)
      (ap (λ (x : List ℕ). rewritten from order n bs ++ x) (sym (one_rewritten (drop (8 * n) bs))) ∙ sym (rewritten_add n 1 bs))
      (ap (λ (i : ℕ). drop i s₀) k)

  -- coordinates, one after the other, are one run
  coordinates_rewritten : (s n : ℕ) (bs : List ℕ) → ordinate_bytes order (coordinates_in from s n bs) ≡ rewritten from order (s * n) bs
  unfolding pieces flat_map
  coordinates_rewritten s zero bs =
      let z : 0 ≡ s * 0 = omega (arith, mul-zero s) in
      ap (λ (k : ℕ). rewritten from order k bs) z
  coordinates_rewritten s (suc n) bs =
      let e : s + s * n ≡ s * suc n = omega arith in
      ap₂ {C = List ℕ} (λ x y. x ++ y) (rewritten_take s bs) (coordinates_rewritten s n (drop (8 * s) bs))
      ∙ sym (rewritten_add s (s * n) bs)
      ∙ ap (λ (k : ℕ). rewritten from order k bs) e

  pub length_coordinates : (s n : ℕ) (bs : List ℕ) → length (ordinate_bytes order (coordinates_in from s n bs)) ≡ 8 * s * n
  length_coordinates s n bs =
      let m : 8 * (s * n) ≡ 8 * s * n = omega arith in
      ap length (coordinates_rewritten s n bs) ∙ length_rewritten (s * n) bs ∙ m

-- big to little is little to big
other_way : (w : List ℕ) → length w ≡ 8 → Bytes w → bytes_of BigEndian 8 (number LittleEndian w) ≡ bytes_of LittleEndian 8 (number BigEndian w)
other_way w l q =
    let a : bytes_of LittleEndian 8 (number LittleEndian w) ≡ w = ap (λ (k : ℕ). bytes_of LittleEndian k (number LittleEndian w)) (sym l) ∙ bytes_of_number LittleEndian w q in
    let b : bytes_of BigEndian 8 (number BigEndian w) ≡ w = ap (λ (k : ℕ). bytes_of BigEndian k (number BigEndian w)) (sym l) ∙ bytes_of_number BigEndian w q in
    ap reverse a ∙ sym (ap reverse b) ∙ reverse-reverse (digits 8 (number BigEndian w))

pub either_way : (n : ℕ) (bs : List ℕ) → length bs ≡ 8 * n → Bytes bs → rewritten LittleEndian BigEndian n bs ≡ rewritten BigEndian LittleEndian n bs
unfolding pieces flat_map
either_way zero bs l q = refl
either_way (suc n) bs l q =
    ap₂ {C = List ℕ} (λ x y. x ++ y)
    (other_way (take 8 bs) (length-take-le 8 bs (omega arith)) (each_take (λ b. b < 256) 8 bs q))
    (either_way n (drop 8 bs) (length-drop 8 bs ∙ omega arith) (each_drop (λ b. b < 256) 8 bs q))

-- ---- coordinates, in their own order and in the other

-- coordinates in their own order
pub copied : (o : Endianness) (s n : ℕ) (bs : List ℕ) → length bs ≡ 8 * s * n → Bytes bs → bs ≡ ordinate_bytes o (coordinates_in o s n bs)
copied o s n bs l q = sym (bytes_read o s n bs l q)

-- coordinates in the other order
pub swapped : (from order : Endianness) → (from ≡ order → ⊥) → (s n : ℕ) (bs : List ℕ) → length bs ≡ 8 * s * n → Bytes bs
    → rewritten BigEndian LittleEndian (length bs / 8) bs ≡ ordinate_bytes order (coordinates_in from s n bs)
swapped BigEndian BigEndian d s n bs l q = absurd (d refl)
swapped LittleEndian LittleEndian d s n bs l q = absurd (d refl)
swapped BigEndian LittleEndian d s n bs l q =
    let e : length bs / 8 ≡ s * n = omega arith in
    ap (λ (k : ℕ). rewritten BigEndian LittleEndian k bs) e ∙ sym (coordinates_rewritten BigEndian LittleEndian s n bs)
swapped LittleEndian BigEndian d s n bs l q =
    let e : length bs / 8 ≡ s * n = omega arith in
    ap (λ (k : ℕ). rewritten BigEndian LittleEndian k bs) e
    ∙ sym (either_way (s * n) bs (omega arith) q)
    ∙ sym (coordinates_rewritten LittleEndian BigEndian s n bs)

-- ---- the same number again and again

-- the numbers of one coordinate, all the same
abbrev pub repeated : Endianness → ℕ → ℕ → List ℕ
repeated o n x = ordinate_bytes o (replicate n x ∷ [])

module _ (o : Endianness) (x : ℕ) where
  pub length_repeated : (n : ℕ) → length (repeated o n x) ≡ 8 * n
  unfolding flat_map
  length_repeated zero = refl
  length_repeated (suc n) =
      ap length (append_assoc (bytes_of o 8 x) (flat_map (bytes_of o 8) (replicate n x)) [])
      ∙ length-append (bytes_of o 8 x) (repeated o n x)
      ∙ omega (arith, length_bytes_of o 8 x, length_repeated n)

  pub repeated_none : (s₀ : List ℕ) → s₀ ≡ repeated o 0 x ++ s₀
  unfolding flat_map
  repeated_none s₀ = refl

  repeated_more : (n : ℕ) → repeated o n x ++ bytes_of o 8 x ≡ repeated o (n + 1) x
  unfolding flat_map
  repeated_more n =
      rw (append-nil (flat_map (bytes_of o 8) (replicate n x)), append-nil (flat_map (bytes_of o 8) (replicate (n + 1) x)), ← replicate_more n x)
      (flat_map_more (bytes_of o 8) [] (replicate n x) x)

  pub repeated_next : (s s₀ : List ℕ) (n : ℕ) → s ≡ repeated o n x ++ drop (8 * n) s₀
      → take (8 * n) s ++ (bytes_of o 8 x ++ drop (8 * n + 8) s) ≡ repeated o (n + 1) x ++ drop (8 * (n + 1)) s₀
  repeated_next s s₀ n e =
      let k : 8 * n + 8 ≡ 8 * (n + 1) = omega arith in
      put_behind (repeated o n x) (bytes_of o 8 x) s s₀ (8 * n) e (length_repeated n)
      ∙ ap₂ {C = List ℕ} (λ y z. y ++ z) (repeated_more n) (ap (λ (i : ℕ). drop i s₀) k)
