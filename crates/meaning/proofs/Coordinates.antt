-- Coordinates and their bytes. Assumes nothing.
use Prim.Native.Nat.{ℕ, zero, suc, ◌+◌, ◌*◌, ◌^◌, ◌<◌}
use native.Mathlib.Nat.{mul-zero}
use native.Mathlib.Omega.{arith}
use mathlib.Core.Path.{◌≡◌, sym, ap, subst, ◌∙◌}
use mathlib.Core.List.{List, [], ◌∷◌, ◌++◌, append_assoc, flat_map, map}
use lib.ListN.{length, take, drop, get_or}
use lib.Seq.{take_at, drop-drop, drop-append-add}
use Rattle.meaning.specs.declared.Endianness.{Endianness}
use Rattle.meaning.specs.Number.{Each, Bytes, number, bytes_of, number_at}
use Rattle.meaning.specs.Grammar.{Ordinates, ordinate_bytes}
use Rattle.meaning.specs.Reading.{pieces, coordinates_in}
use Rattle.meaning.proofs.Lists.{each_get, each_also, length_pieces, length_written, pieces_written, written_pieces, each_piece}
use Rattle.meaning.proofs.Numbers.{length_bytes_of, number_bytes_of, bytes_of_number, number_below}

module _ (o : Endianness) where
  -- an ordinate in its eight bytes
  ordinate : (bs : List ℕ) → length bs ≡ 8 → Bytes bs → (bytes_of o 8 (number o bs) ≡ bs) × (number o bs < 2 ^ 64)
  ordinate bs l q = (
    ap (λ (w : ℕ). bytes_of o w (number o bs)) (sym l) ∙ bytes_of_number o bs q,
    subst (λ (w : ℕ). number o bs < 256 ^ w) l (number_below o bs q),
  )

  abbrev write : Ordinates → List ℕ
  write xs = flat_map (bytes_of o 8) xs

  module _ (s : ℕ) where
    abbrev pub Sized : Ordinates → Type 0
    Sized xs = (length xs ≡ s) × Each (λ x. x < 2 ^ 64) xs

    abbrev read : List ℕ → Ordinates
    read c = map (number o) (pieces 8 s c)

    -- a coordinate in its bytes
    coordinate : (bs : List ℕ) → length bs ≡ 8 * s → Bytes bs → (write (read bs) ≡ bs) × Sized (read bs)
    coordinate bs l q = (
      written_pieces (bytes_of o 8) (number o) 8 (λ x. x < 2 ^ 64) ordinate s bs l q,
      (length_pieces (bytes_of o 8) (number o) 8 s bs, each_piece (bytes_of o 8) (number o) 8 (λ x. x < 2 ^ 64) ordinate s bs l q),
    )

    length_write : (xs : Ordinates) → Sized xs → length (write xs) ≡ 8 * s
    length_write xs h =
        length_written (bytes_of o 8) (number o) 8 xs (each_also (λ x _. length_bytes_of o 8 x) xs h.1) ∙ ap (λ (n : ℕ). 8 * n) h.0

    read_write : (xs : Ordinates) → Sized xs → read (write xs) ≡ xs
    read_write xs h =
        ap (λ (n : ℕ). map (number o) (pieces 8 n (write xs))) (sym h.0)
        ∙ pieces_written (bytes_of o 8) (number o) 8 xs (each_also (λ x lt. (length_bytes_of o 8 x, number_bytes_of o 8 x lt)) xs h.1)

    -- the bytes of coordinates that were read
    pub bytes_read : (n : ℕ) (bs : List ℕ) → length bs ≡ 8 * s * n → Bytes bs → ordinate_bytes o (coordinates_in o s n bs) ≡ bs
    bytes_read n bs l q = written_pieces write read (8 * s) Sized coordinate n bs l q

    pub count_read : (n : ℕ) (bs : List ℕ) → length (coordinates_in o s n bs) ≡ n
    count_read n bs = length_pieces write read (8 * s) n bs

    pub sized_read : (n : ℕ) (bs : List ℕ) → length bs ≡ 8 * s * n → Bytes bs → Each Sized (coordinates_in o s n bs)
    sized_read n bs l q = each_piece write read (8 * s) Sized coordinate n bs l q

    -- the coordinates in bytes that were written
    pub read_bytes : (cs : List Ordinates) → Each Sized cs → coordinates_in o s (length cs) (ordinate_bytes o cs) ≡ cs
    read_bytes cs h = pieces_written write read (8 * s) cs (each_also (λ xs p. (length_write xs p, read_write xs p)) cs h)

    pub length_ordinate_bytes : (cs : List Ordinates) → Each Sized cs → length (ordinate_bytes o cs) ≡ 8 * s * length cs
    length_ordinate_bytes cs h = length_written write read (8 * s) cs (each_also length_write cs h)

-- ---- an ordinate by its coordinate and place

-- the i-th of things written in w bytes each
flat_at : {A : Type 0} (write : A → List ℕ) (w : ℕ) (xs : List A) (s : List ℕ) (i : ℕ) (d : A) → Each (λ x. length (write x) ≡ w) xs → i < length xs
    → drop (w * i) (flat_map write xs ++ s) ≡ write (get_or xs i d) ++ (flat_map write (drop (suc i) xs) ++ s)
unfolding flat_map
flat_at write w [] s i d p lt = absurd (omega arith)
flat_at write w (x ∷ xs) s zero d p lt = ap (λ (n : ℕ). drop n (write x ++ flat_map write xs ++ s)) (mul-zero w) ∙ append_assoc (write x) (flat_map write xs) s
flat_at write w (x ∷ xs) s (suc i) d p lt =
    let e : w * suc i ≡ length (write x) + w * i = omega (arith, p.0) in
    ap (λ (l : List ℕ). drop (w * suc i) l) (append_assoc (write x) (flat_map write xs) s)
    ∙ ap (λ (n : ℕ). drop n (write x ++ (flat_map write xs ++ s))) e
    ∙ drop-append-add (write x) (flat_map write xs ++ s) (w * i)
    ∙ flat_at write w xs s i d p.1 (omega arith)

pub ordinate_at : (b : List ℕ) (o : Endianness) (s : ℕ) (cs : List Ordinates) (at : ℕ) (rest : List ℕ) → drop at b ≡ ordinate_bytes o cs ++ rest → Each (Sized o s) cs → (i j : ℕ) → i < length cs → j < s
    → number_at o 8 b (at + 8 * (s * i + j)) ≡ get_or (get_or cs i []) j 0
ordinate_at b o s cs at rest e g i j lt lt' =
    let xs = get_or cs i [] in
    let z = each_get (Sized o s) cs i [] g lt in
    let k : at + 8 * (s * i + j) ≡ at + (8 * s * i + 8 * j) = omega arith in
    let far = flat_map (write o) (drop (suc i) cs) ++ rest in
    let d₁ : drop (8 * s * i) (drop at b) ≡ write o xs ++ far = ap (drop (8 * s * i)) e ∙ flat_at (write o) (8 * s) cs rest i [] (each_also (length_write o s) cs g) lt in
    let d₂ : drop (8 * j) (write o xs ++ far) ≡ bytes_of o 8 (get_or xs j 0) ++ (flat_map (bytes_of o 8) (drop (suc j) xs) ++ far) =
    flat_at (bytes_of o 8) 8 xs far j 0 (each_also (λ x _. length_bytes_of o 8 x) xs z.1) (omega (arith, z.0)) in
    let d : drop (at + 8 * (s * i + j)) b ≡ bytes_of o 8 (get_or xs j 0) ++ (flat_map (bytes_of o 8) (drop (suc j) xs) ++ far) =
    ap (λ (n : ℕ). drop n b) k ∙ sym (drop-drop (8 * s * i + 8 * j) at b) ∙ sym (drop-drop (8 * j) (8 * s * i) (drop at b)) ∙ ap (drop (8 * j)) d₁ ∙ d₂ in
    ap (λ (l : List ℕ). number o (take 8 l)) d
    ∙ ap (number o) (take_at (bytes_of o 8 (get_or xs j 0)) (flat_map (bytes_of o 8) (drop (suc j) xs) ++ far) 8 (length_bytes_of o 8 (get_or xs j 0)))
    ∙ number_bytes_of o 8 (get_or xs j 0) (each_get (λ x. x < 2 ^ 64) xs j 0 z.1 (omega (arith, z.0)))
