-- Numbers of any width in either order, a digit at a time: how far each loop is, and what a turn does. Assumes nothing.
use mathlib.Core.Path.{◌≡◌, refl, sym, ap, ◌∙◌}
use mathlib.Core.List.{List, ◌++◌, reverse-append, reverse-cons}
use Prim.Native.Nat.{ℕ, suc, ◌+◌, ◌*◌, ◌-◌, ◌/◌, ◌%◌, ◌^◌, ◌<◌, ◌≤◌}
use native.Mathlib.Nat.{add-zero, sub_self, pow-suc, mul-le-mul_right, pow-le-pow_right}
use native.Mathlib.Omega.{arith}
use lib.Dec.{lit<}
use lib.ListN.{length, take, drop, get_or, set, take-append-drop, length-drop, length-set}
use lib.Seq.{take-suc, drop-cons, get_or-drop, get_or-set_same, take-set-le, drop-set-lt, take-suc-set, append_snoc}
use Rattle.meaning.specs.declared.Endianness.{Endianness}
use Rattle.meaning.specs.declared.Endianness.TheVariants.{BigEndian, LittleEndian}
use Rattle.meaning.specs.Number.{value, digits, bytes_of, number_at}
use Rattle.fields.specs.Place.{place_of}

-- where the highest n of the w digits at an offset begin
abbrev top_of : Endianness → ℕ → ℕ → ℕ → ℕ
top_of BigEndian at w n = at
top_of LittleEndian at w n = at + (w - n)

top_all : (o : Endianness) (at w : ℕ) → top_of o at w w ≡ at
top_all BigEndian at w = refl
top_all LittleEndian at w = omega arith

-- ---- Reading

no_digit : (o : Endianness) (b : List ℕ) (a : ℕ) → number_at o 0 b a ≡ 0
unfolding value
no_digit BigEndian b a = refl
no_digit LittleEndian b a = refl

-- the highest n + 1 digits are the highest n and the one below them
next_digit : (o : Endianness) (b : List ℕ) (at w n : ℕ) → n < w → at + w ≤ length b
    → number_at o (suc n) b (top_of o at w (suc n)) ≡ get_or b (at + place_of o w n) 0 + 256 * number_at o n b (top_of o at w n)
unfolding value
next_digit BigEndian b at w n h r =
    let l : n < length (drop at b) = simp length-drop (omega arith) in
    rw (take-suc (drop at b) n 0, reverse-append, get_or-drop)
next_digit LittleEndian b at w n h r =
    let k = at + (w - 1 - n) in
    let l : k < length b = omega arith in
    let p : at + (w - suc n) ≡ k = omega arith in
    let q : at + (w - n) ≡ suc k = omega arith in
    rw (p, q, drop-cons b k 0)

-- n digits are left, the highest; v is the number of those below them, and p the value of the next one's place, if there is one
pub record Read (o : Endianness) (b : List ℕ) (at w v p n : ℕ) : Type 0 where
  pub place : 0 < n → p ≡ 256 ^ (w - n)
  pub below : v < 256 ^ (w - n)
  pub left : v + 256 ^ (w - n) * number_at o n b (top_of o at w n) ≡ number_at o w b at

pub read_none : {o : Endianness} {b : List ℕ} {at w : ℕ} → Read o b at w 0 1 w
read_none {o} {b} {at} {w} = record { place = λ _. rw sub_self; below = rw sub_self (lit< tt); left = rw (sub_self, top_all) (omega arith) }

module _ {o : Endianness} {b : List ℕ} {at w v p n : ℕ} (r : Read o b at w v p n) where
  place_room : 0 < n → w ≤ 8 → p ≤ 2 ^ 56
  place_room h g = omega (arith, r.place h, pow-le-pow_right {n = 256} (lit< tt) {i = w - n} {j = 7} (omega arith))

  under_place : {x : ℕ} → 0 < n → x < 256 → v + x * p < p * 256
  under_place {x} h k = omega (arith, r.below, r.place h, mul-le-mul_right {m = x} {n = 255} p (omega arith))

  pub digit_room : {x : ℕ} → 0 < n → w ≤ 8 → x < 256 → v + x * p < 2 ^ 64
  digit_room h g x = omega (arith, place_room h g, under_place h x)

  pub read_next : {x j : ℕ} → 0 < n → n ≤ w → w ≤ 8 → at + w ≤ length b → j ≡ place_of o w (n - 1) → x ≡ get_or b (at + j) 0 → x < 256
      → Read o b at w (v + x * p) (p * 256 % 2 ^ 64) (n - 1)
  read_next {x} {j} h q w8 l e f g =
      let m : n ≡ suc (n - 1) = omega arith in
      let k : w - (n - 1) ≡ suc (w - n) = omega arith in
      let d : number_at o n b (top_of o at w n) ≡ x + 256 * number_at o (n - 1) b (top_of o at w (n - 1)) =
      ap (λ (i : ℕ). number_at o i b (top_of o at w i)) m ∙ rw (f, e) (next_digit o b at w (n - 1) (omega arith) l)
      in
      let pl = r.place h in
      record {
        place = λ h'. rw (k, pow-suc) (omega (arith, pl, pow-le-pow_right {n = 256} (lit< tt) {i = w - n} {j = 6} (omega arith)));
        below = rw (k, pow-suc) (omega (arith, pl, under_place h g));
        left = rw (k, pow-suc, ← pl) (omega (arith, rw (d, ← pl) at r.left));
      }

  pub read_all : n ≡ 0 → (v ≡ number_at o w b at) × (v < 256 ^ w)
  read_all e =
      let z : number_at o n b (top_of o at w n) ≡ 0 = ap (λ (i : ℕ). number_at o i b (top_of o at w i)) e ∙ no_digit o b (top_of o at w 0) in
      let k : w - n ≡ w = omega arith in
      (omega (arith, rw z at r.left), rw k at r.below)

-- ---- Writing

-- s with the lowest n digits of y at an offset
abbrev laid : Endianness → ℕ → ℕ → ℕ → List ℕ → List ℕ
laid o n at y s = take at s ++ (bytes_of o n y ++ drop (at + n) s)

lay_none : (o : Endianness) (at y : ℕ) (s : List ℕ) → s ≡ laid o 0 at y s
unfolding digits
lay_none BigEndian at y s = rw (add-zero, take-append-drop)
lay_none LittleEndian at y s = rw (add-zero, take-append-drop)

-- the lowest of n + 1 digits is put, and the n others go above it
lay_next : (o : Endianness) (s : List ℕ) (at w n y : ℕ) → n < w → at + w ≤ length s
    → laid o n (top_of o at w n) (y / 256) (set s (at + place_of o w n) (y % 256)) ≡ laid o (suc n) (top_of o at w (suc n)) y s
unfolding digits
lay_next BigEndian s at w n y h r =
    let k = at + n in
    let l : k < length s = omega arith in
    let l' : k < length (set s k (y % 256)) = simp length-set l in
    let e : at + suc n ≡ suc k = omega arith in
    let le : at ≤ k = omega arith in
    let lt : k < suc k = omega arith in
    rw (take-set-le, drop-cons (set s k (y % 256)) k 0, get_or-set_same, drop-set-lt, e, reverse-cons, append_snoc)
lay_next LittleEndian s at w n y h r =
    let k = at + (w - 1 - n) in
    let l : k < length s = omega arith in
    let p : at + (w - suc n) ≡ k = omega arith in
    let q : at + (w - n) ≡ suc k = omega arith in
    let e : k + suc n ≡ suc k + n = omega arith in
    let lt : k < suc k + n = omega arith in
    rw (p, q, e, take-suc-set, drop-set-lt, append_snoc)

-- n digits are left, those of y: s with them is s₀ with all the digits of x
pub record Put (o : Endianness) (at w x : ℕ) (s₀ : List ℕ) (y n : ℕ) (s : List ℕ) : Type 0 where
  pub left : laid o n (top_of o at w n) y s ≡ laid o w at x s₀

pub put_none : {o : Endianness} {at w x : ℕ} {s : List ℕ} → Put o at w x s x w s
put_none = record { left = rw top_all }

module _ {o : Endianness} {at w x : ℕ} {s₀ : List ℕ} {y n : ℕ} {s : List ℕ} (p : Put o at w x s₀ y n s) where
  pub put_next : {j : ℕ} → 0 < n → n ≤ w → at + w ≤ length s → j ≡ place_of o w (n - 1) → Put o at w x s₀ (y / 256) (n - 1) (set s (at + j) (y % 256))
  put_next {j} h g l e =
      let f : n ≡ suc (n - 1) = omega arith in
      record { left = rw e (lay_next o s at w (n - 1) y (omega arith) l) ∙ ap (λ (m : ℕ). laid o m (top_of o at w m) y s) (sym f) ∙ p.left }

  pub put_all : n ≡ 0 → s ≡ laid o w at x s₀
  put_all e = lay_none o (top_of o at w 0) y s ∙ ap (λ (m : ℕ). laid o m (top_of o at w m) y s) (sym e) ∙ p.left
