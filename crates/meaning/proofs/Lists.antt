-- Each element of a list, and pieces of equal width. Assumes nothing.
use Prim.Native.Nat.{ℕ, zero, suc, ◌*◌, ◌<◌}
use native.Mathlib.Nat.{mul-zero}
use native.Mathlib.Omega.{arith}
use mathlib.Core.Path.{◌≡◌, refl, sym, ap, ap₂, ◌∙◌}
use mathlib.Core.List.{List, [], ◌∷◌, ◌++◌, map, flat_map, reverse, reverse_aux}
use lib.ListN.{length, take, drop, get_or, take-append-drop, length-append, length-drop}
use lib.Seq.{take_at, drop_at, length-take-le}
use Rattle.meaning.specs.Number.{Each, Bytes}
use Rattle.meaning.specs.Reading.{pieces}

module _ {A : Type 0} (P : A → Type 0) where
  pub each_append : (xs ys : List A) → Each P xs → Each P ys → Each P (xs ++ ys)
  each_append [] ys p q = q
  each_append (x ∷ xs) ys p q = (p.0, each_append xs ys p.1 q)

  pub each_take : (n : ℕ) (xs : List A) → Each P xs → Each P (take n xs)
  each_take zero xs p = tt
  each_take (suc n) [] p = tt
  each_take (suc n) (x ∷ xs) p = (p.0, each_take n xs p.1)

  pub each_drop : (n : ℕ) (xs : List A) → Each P xs → Each P (drop n xs)
  each_drop zero xs p = p
  each_drop (suc n) [] p = tt
  each_drop (suc n) (x ∷ xs) p = each_drop n xs p.1

  each_reverse_aux : (xs ys : List A) → Each P xs → Each P ys → Each P (reverse_aux xs ys)
  each_reverse_aux [] ys p q = q
  each_reverse_aux (x ∷ xs) ys p q = each_reverse_aux xs (x ∷ ys) p.1 (p.0, q)

  pub each_reverse : (xs : List A) → Each P xs → Each P (reverse xs)
  each_reverse xs p = each_reverse_aux xs [] p tt

  pub each_at : (xs : List A) (d : A) → ((i : ℕ) → P (get_or xs i d)) → Each P xs
  each_at [] d p = tt
  each_at (x ∷ xs) d p = (p 0, each_at xs d (λ i. p (suc i)))

pub each_map : {A B : Type 0} (P : B → Type 0) (f : A → B) (xs : List A) → Each (λ x. P (f x)) xs → Each P (map f xs)
each_map P f [] p = tt
each_map P f (x ∷ xs) p = (p.0, each_map P f xs p.1)

pub each_also : {A : Type 0} {P Q : A → Type 0} → ((x : A) → P x → Q x) → (xs : List A) → Each P xs → Each Q xs
each_also f [] p = tt
each_also f (x ∷ xs) p = (f x p.0, each_also f xs p.1)

pub each_get : {A : Type 0} (P : A → Type 0) (xs : List A) (i : ℕ) (d : A) → Each P xs → i < length xs → P (get_or xs i d)
each_get P [] i d p lt = absurd (omega arith)
each_get P (x ∷ xs) zero d p lt = p.0
each_get P (x ∷ xs) (suc i) d p lt = each_get P xs i d p.1 (omega arith)

-- no element, no list
pub none_left : {A : Type 0} (xs : List A) → length xs ≡ 0 → xs ≡ []
none_left [] e = refl
none_left (x ∷ xs) e = absurd (omega arith)

-- Things that are written in w bytes each: what is written of the pieces read is the bytes, and the pieces of what was written are the things.
module _ {A : Type 0} (write : A → List ℕ) (read : List ℕ → A) (w : ℕ) where
  pub length_pieces : (n : ℕ) (bs : List ℕ) → length (map read (pieces w n bs)) ≡ n
  unfolding pieces
  length_pieces zero bs = refl
  length_pieces (suc n) bs = ap suc (length_pieces n (drop w bs))

  pub length_written : (xs : List A) → Each (λ x. length (write x) ≡ w) xs → length (flat_map write xs) ≡ w * length xs
  unfolding flat_map
  length_written [] p = sym (mul-zero w)
  length_written (x ∷ xs) p =
      let e = length_written xs p.1 in
      length-append (write x) (flat_map write xs) ∙ omega (arith, p.0)

  pub pieces_written : (xs : List A) → Each (λ x. (length (write x) ≡ w) × (read (write x) ≡ x)) xs → map read (pieces w (length xs) (flat_map write xs)) ≡ xs
  unfolding pieces flat_map
  pieces_written [] p = refl
  pieces_written (x ∷ xs) p =
      let t = take_at (write x) (flat_map write xs) w p.0.0 in
      let d = drop_at (write x) (flat_map write xs) w p.0.0 in
      ap₂ {C = List A} (λ y ys. y ∷ ys)
      (ap read t ∙ p.0.1)
      (ap (λ (bs : List ℕ). map read (pieces w (length xs) bs)) d ∙ pieces_written xs p.1)

  module _ (P : A → Type 0) (good : (bs : List ℕ) → length bs ≡ w → Bytes bs → (write (read bs) ≡ bs) × P (read bs)) where
    -- the first piece, and what is left
    piece : (n : ℕ) (bs : List ℕ) → length bs ≡ w * suc n → length (take w bs) ≡ w
    piece n bs e = length-take-le w bs (omega arith)

    left : (n : ℕ) (bs : List ℕ) → length bs ≡ w * suc n → length (drop w bs) ≡ w * n
    left n bs e = length-drop w bs ∙ omega arith

    pub written_pieces : (n : ℕ) (bs : List ℕ) → length bs ≡ w * n → Bytes bs → flat_map write (map read (pieces w n bs)) ≡ bs
    unfolding pieces flat_map
    written_pieces zero bs e q = sym (none_left bs (omega (arith, mul-zero w)))
    written_pieces (suc n) bs e q =
        ap₂ {C = List ℕ} (λ xs ys. xs ++ ys)
        (good (take w bs) (piece n bs e) (each_take (λ b. b < 256) w bs q)).0
        (written_pieces n (drop w bs) (left n bs e) (each_drop (λ b. b < 256) w bs q))
        ∙ take-append-drop w bs

    pub each_piece : (n : ℕ) (bs : List ℕ) → length bs ≡ w * n → Bytes bs → Each P (map read (pieces w n bs))
    unfolding pieces
    each_piece zero bs e q = tt
    each_piece (suc n) bs e q = (
      (good (take w bs) (piece n bs e) (each_take (λ b. b < 256) w bs q)).1,
      each_piece n (drop w bs) (left n bs e) (each_drop (λ b. b < 256) w bs q),
    )
