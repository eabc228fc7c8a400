-- Questions about the coordinates of a listed row: fitting ones are answered, and every answer is the tree's own. Assumes nothing.
use Prim.Native.Nat.{ℕ, suc, ◌+◌, ◌*◌, ◌≤◌, ◌<◌}
use native.Mathlib.Nat.{mul-le-mul_left, mul-zero}
use native.Mathlib.Omega.{arith}
use mathlib.Core.Path.{◌≡◌, refl, sym, ap, ap₂, ◌∙◌}
use mathlib.Core.Bool.{Bool, true, false, ◌&&◌, cond}
use mathlib.Core.Option.{Option, none, some, map}
use mathlib.Core.List.{List, [], ◌∷◌, ◌++◌, flat_map}
use lib.ListN.{length, take, drop, get_or, get_elem?, length-append, length-drop}
use lib.Seq.{take_at}
use lib.Dec.{leb, ltb, eqb}
use lib.Ieee.{Float, of_bits, binary64}
use borrow.Author.Tests.{le-leb, lt-ltb, ltb-true}
use Rattle.meaning.specs.declared.Endianness.{Endianness}
use Rattle.meaning.specs.declared.Dimension.{Dimension}
use Rattle.meaning.specs.declared.Dimension.TheVariants.{Xy, Xyz, Xym, Xyzm}
use Rattle.meaning.specs.declared.Coordinate.{Coordinate}
use Rattle.meaning.specs.declared.RowFields.{RowFields}
use Rattle.meaning.specs.Number.{number_at}
use Rattle.meaning.specs.Code.{axes, size}
use Rattle.meaning.specs.Grammar.{Header, Ordinates, Forest, nodes, holds_coordinates, empty_point, shown, count, front, ordinate_bytes, bytes}
use Rattle.meaning.specs.Answer.{Answer, answered}
use Rattle.meaning.specs.Table.{row_of, rows_of, fetch}
use Rattle.meaning.specs.Questions.{guard, ◌>>=◌, ◌>>◌, position, on_axis, sound, ordinate, float_of, coordinate, coords_slice, coords_form}
use Rattle.meaning.proofs.Fields.{behind}
use Rattle.meaning.proofs.Coordinates.{ordinate_at, length_ordinate_bytes}
use Rattle.meaning.proofs.Sizes.{front_some}
use Rattle.meaning.proofs.Listed.{Lists}
use Rattle.questions.specs.Tree.{ordinate_in, coordinate_in, part_in, form_in}
use Rattle.questions.proofs.Begun.{Begun, listed_row}

-- ---- coordinates

-- a row's first test, by its fields
abbrev sound_by : List ℕ → Bool → RowFields → Bool
sound_by b here y = here && holds_coordinates y.kind && leb (y.body.0 + 8 * size y.dimension * y.count) y.end.0 && leb y.end.0 (length b)

three_tests : (x y z : Bool) → x ≡ true → y ≡ true → z ≡ true → (true && x && y && z) ≡ true
three_tests x y z p q u = rw (p, q, u)

-- the coordinates that count are all of them, or none
shown_some : (h : Header) (cs : List Ordinates) (i : ℕ) → i < length (shown h cs) → shown h cs ≡ cs
shown_some h cs i lt = go (empty_point h cs) lt
  where
    go : (e : Bool) → i < length (cond e [] cs) → cond e [] cs ≡ cs
    go true lt = absurd (omega arith)
    go false lt = refl

shown_few : (h : Header) (cs : List Ordinates) → length (shown h cs) ≤ length cs
shown_few h cs = go (empty_point h cs)
  where
    go : (e : Bool) → length (cond e [] cs) ≤ length cs
    go true = omega arith
    go false = omega arith

module _ (b : List ℕ) (h : Header) (cs : List Ordinates) (kids : Forest) (y : RowFields) (s : Lists b (h, cs, kids) y) (k : holds_coordinates h.kind ≡ true) where
  counted : count h cs kids ≡ length (shown h cs)
  counted = rw k

  run_length : length (ordinate_bytes h.order cs) ≡ 8 * size h.dimension * length cs
  run_length = length_ordinate_bytes h.order (size h.dimension) cs s.body.ordinates

  pub sound_row : sound_by b true (row_of s.at s.level h cs kids) ≡ true
  sound_row =
      let m = mul-le-mul_left (8 * size h.dimension) (shown_few h cs) in
      let r = run_length in
      let c = ap (λ (z : ℕ). 8 * size h.dimension * z) counted in
      let x = front h (count h cs kids) in
      let o = ordinate_bytes h.order cs in
      let d = ap length s.stands ∙ length-append x (o ++ (bytes kids ++ s.behind)) in
      let d₁ = length-append o (bytes kids ++ s.behind) in
      let d₂ = length-append (bytes kids) s.behind in
      let d₃ = length-drop s.at b in
      let four = front_some h (count h cs kids) in
      three_tests _ _ _ k
      (le-leb ((row_of s.at s.level h cs kids).body.0 + 8 * size h.dimension * count h cs kids) (row_of s.at s.level h cs kids).end.0 (omega arith))
      (le-leb (row_of s.at s.level h cs kids).end.0 (length b) (omega arith))

  body_there : drop (s.at + length (front h (count h cs kids))) b ≡ ordinate_bytes h.order cs ++ (bytes kids ++ s.behind)
  body_there = behind b s.at (front h (count h cs kids)) (ordinate_bytes h.order cs ++ (bytes kids ++ s.behind)) s.stands

-- where an axis stands is within the dimension
position_below : (a : ℕ) (xs : List ℕ) (j : ℕ) → position a xs ≡ some j → j < length xs
unfolding position
position_below a [] j e = let z : ◌≡◌ {A = ℕ} 0 1 = cc in absurd (omega arith)
position_below a (x ∷ xs) j e = go (eqb a x) (position a xs) (position_below a xs) e
  where
    go : (c : Bool) (o : Option ℕ) → ((k : ℕ) → o ≡ some k → k < length xs) → cond c (some 0) (map suc o) ≡ some j → j < length (x ∷ xs)
    go true o i f = let q : ◌≡◌ {A = ℕ} 0 j = cc in omega arith
    go false none i f = let z : ◌≡◌ {A = ℕ} 0 1 = cc in absurd (omega arith)
    go false (some k) i f = let q : suc k ≡ j = cc in let lt = i k refl in omega arith

-- what a row's fields give for an index and an axis, by two tests
abbrev found : List ℕ → RowFields → ℕ → ℕ → Bool → Option ℕ → Answer ℕ
found b y i a v o = do
  guard v 10 i
  j ← on_axis o a
  answered (number_at y.order 8 b (y.body.0 + 8 * (size y.dimension * i + j)))

-- what a coordinate of the tree gives
abbrev told : Ordinates → ℕ → ℕ → Bool → Option ℕ → Answer ℕ
told xs i a v o = do
  guard v 10 i
  j ← on_axis o a
  answered (get_or xs j 0)

module _ (b : List ℕ) (h : Header) (cs : List Ordinates) (kids : Forest) (y : RowFields) (s : Lists b (h, cs, kids) y) (k : holds_coordinates h.kind ≡ true) where
  ordinate_there : (i a : ℕ) (v : Bool) (o : Option ℕ) → ltb i (length (shown h cs)) ≡ v → position a (axes h.dimension) ≡ o
      → found b (row_of s.at s.level h cs kids) i a v o ≡ told (get_or (shown h cs) i []) i a v o
  ordinate_there i a false o c p = refl
  ordinate_there i a true none c p = refl
  ordinate_there i a true (some j) c p =
      let lt = ltb-true i (length (shown h cs)) c in
      let few = shown_few h cs in
      ap answered (ordinate_at b h.order (size h.dimension) cs (s.at + length (front h (count h cs kids))) (bytes kids ++ s.behind) (body_there b h cs kids y s k) s.body.ordinates i j
      (omega arith) (position_below a (axes h.dimension) j p)
      ∙ ap (λ (xs : List Ordinates). get_or (get_or xs i []) j 0) (sym (shown_some h cs i lt)))

  part_there : take (8 * size h.dimension * count h cs kids) (drop (s.at + length (front h (count h cs kids))) b) ≡ ordinate_bytes h.order (shown h cs)
  unfolding flat_map
  part_there =
      let o = ordinate_bytes h.order cs in
      let rest = bytes kids ++ s.behind in
      ap₂ (λ (m : ℕ) (xs : List ℕ). take (8 * size h.dimension * m) xs) (counted b h cs kids y s k) (body_there b h cs kids y s k)
      ∙ go (empty_point h cs)
    where
      go : (e : Bool) → take (8 * size h.dimension * length (cond e [] cs)) (ordinate_bytes h.order cs ++ (bytes kids ++ s.behind)) ≡ ordinate_bytes h.order (cond e [] cs)
      go true = ap (λ (m : ℕ). take m (ordinate_bytes h.order cs ++ (bytes kids ++ s.behind))) (mul-zero (8 * size h.dimension))
      go false = take_at (ordinate_bytes h.order cs) (bytes kids ++ s.behind) (8 * size h.dimension * length cs) (run_length b h cs kids y s k)

-- an ordinate of a coordinate as a float; one that the dimension lacks is positive zero
abbrev pub float_in : Option ℕ → Ordinates → Float
float_in none xs = of_bits binary64 0
float_in (some j) xs = of_bits binary64 (get_or xs j 0)

-- a coordinate of the tree
abbrev pub coordinate_of : Dimension → Ordinates → Coordinate
coordinate_of d xs = record {
  dimension = d;
  x = float_in (position 0 (axes d)) xs;
  y = float_in (position 1 (axes d)) xs;
  z = float_in (position 2 (axes d)) xs;
  m = float_in (position 3 (axes d)) xs;
}

x_first : (d : Dimension) → position 0 (axes d) ≡ some 0
unfolding position
x_first Xy = refl
x_first Xyz = refl
x_first Xym = refl
x_first Xyzm = refl

module _ (b t : List ℕ) (f : Forest) (g : Begun b t f) (r : ℕ) (h : Header) (cs : List Ordinates) (kids : Forest)
    (e : get_elem? (nodes f) r ≡ some (h, cs, kids)) where
  -- a listed row passes the first test exactly if its kind does
  sound_listed : sound b t r ≡ holds_coordinates h.kind
  sound_listed =
      let (y, fe, here, s) = listed_row b t f g r (h, cs, kids) e in
      ap₂ (sound_by b) (lt-ltb r (rows_of t) here) (fe ∙ s.row) ∙ go y s (holds_coordinates h.kind) refl
    where
      go : (y : RowFields) (s : Lists b (h, cs, kids) y) (u : Bool) → holds_coordinates h.kind ≡ u → sound_by b true (row_of s.at s.level h cs kids) ≡ holds_coordinates h.kind
      go y s false k = rw k
      go y s true k = sound_row b h cs kids y s k ∙ sym k

  -- ---- for any kind, index and axis

  pub ordinate_listed : (i a : ℕ) → ordinate b t r i a ≡ ordinate_in r h cs i a
  unfolding ordinate
  ordinate_listed i a =
      let (y, fe, here, s) = listed_row b t f g r (h, cs, kids) e in
      ap₂ (λ (u : Bool) (w : RowFields). ◌>>◌ (guard u 9 r) (found b w i a (ltb i w.count) (position a (axes w.dimension)))) sound_listed (fe ∙ s.row)
      ∙ go y s (holds_coordinates h.kind) refl
    where
      o : Option ℕ
      o = position a (axes h.dimension)

      go : (y : RowFields) (s : Lists b (h, cs, kids) y) (u : Bool) → holds_coordinates h.kind ≡ u
          → ◌>>◌ (guard u 9 r) (found b (row_of s.at s.level h cs kids) i a (ltb i (count h cs kids)) o) ≡ ◌>>◌ (guard u 9 r) (told (get_or (shown h cs) i []) i a (ltb i (length (shown h cs))) o)
      go y s false k = refl
      go y s true k =
          ap (λ (m : ℕ). found b (row_of s.at s.level h cs kids) i a (ltb i m) o) (counted b h cs kids y s k)
          ∙ ordinate_there b h cs kids y s k i a (ltb i (length (shown h cs))) o refl refl

  pub coordinate_listed : (i : ℕ) → coordinate b t r i ≡ coordinate_in r h cs i
  coordinate_listed i =
      let (y, fe, here, s) = listed_row b t f g r (h, cs, kids) e in
      let d : (fetch t r).dimension ≡ h.dimension = ap (λ (w : RowFields). w.dimension) (fe ∙ s.row) in
      let o = ordinate_listed i in
      λ u. ◌>>=◌ (o 0 u) (λ x. answered (record { dimension = d u; x = of_bits binary64 x; y = float_of (o 1 u); z = float_of (o 2 u); m = float_of (o 3 u) }))

  pub part_listed : coords_slice b t r ≡ part_in h cs
  part_listed =
      let (y, fe, here, s) = listed_row b t f g r (h, cs, kids) e in
      ap₂ (λ (u : Bool) (w : RowFields). cond u (take (8 * size w.dimension * w.count) (drop w.body.0 b)) []) sound_listed (fe ∙ s.row)
      ∙ go y s (holds_coordinates h.kind) refl
    where
      go : (y : RowFields) (s : Lists b (h, cs, kids) y) (u : Bool) → holds_coordinates h.kind ≡ u
          → cond u (take (8 * size h.dimension * count h cs kids) (drop (s.at + length (front h (count h cs kids))) b)) [] ≡ cond u (ordinate_bytes h.order (shown h cs)) []
      go y s false k = refl
      go y s true k = part_there b h cs kids y s k

  pub form_listed : coords_form b t r ≡ form_in r h cs
  form_listed =
      let (y, fe, here, s) = listed_row b t f g r (h, cs, kids) e in
      ap₂ (λ (u : Bool) (w : RowFields). ◌>>◌ (guard u 9 r) (answered (w.order, w.count))) sound_listed (fe ∙ s.row)
      ∙ go y s (holds_coordinates h.kind) refl
    where
      go : (y : RowFields) (s : Lists b (h, cs, kids) y) (u : Bool) → holds_coordinates h.kind ≡ u
          → ◌>>◌ {B = Endianness × ℕ} (guard u 9 r) (answered (h.order, count h cs kids)) ≡ ◌>>◌ (guard u 9 r) (answered (h.order, length (shown h cs)))
      go y s false k = refl
      go y s true k = ap (λ (m : ℕ). answered (h.order, m)) (counted b h cs kids y s k)

  -- ---- where the kind, the index and the axis fit

  module _ (k : holds_coordinates h.kind ≡ true) where
    ordinate_told : (i a : ℕ) → i < length (shown h cs) → ordinate_in r h cs i a ≡ told (get_or (shown h cs) i []) i a true (position a (axes h.dimension))
    ordinate_told i a lt =
        ap₂ (λ (u v : Bool). ◌>>◌ (guard u 9 r) (told (get_or (shown h cs) i []) i a v (position a (axes h.dimension)))) k (lt-ltb i (length (shown h cs)) lt)

    pub ordinate_answered : (i a j : ℕ) → i < length (shown h cs) → position a (axes h.dimension) ≡ some j → ordinate b t r i a ≡ answered (get_or (get_or (shown h cs) i []) j 0)
    ordinate_answered i a j lt p = ordinate_listed i a ∙ ordinate_told i a lt ∙ ap (told (get_or (shown h cs) i []) i a true) p

    float_told : (i a : ℕ) → i < length (shown h cs) → float_of (ordinate_in r h cs i a) ≡ float_in (position a (axes h.dimension)) (get_or (shown h cs) i [])
    float_told i a lt = ap float_of (ordinate_told i a lt) ∙ go (position a (axes h.dimension))
      where
        go : (o : Option ℕ) → float_of (told (get_or (shown h cs) i []) i a true o) ≡ float_in o (get_or (shown h cs) i [])
        go none = refl
        go (some j) = refl

    pub coordinate_answered : (i : ℕ) → i < length (shown h cs) → coordinate b t r i ≡ answered (coordinate_of h.dimension (get_or (shown h cs) i []))
    coordinate_answered i lt =
        let xs = get_or (shown h cs) i [] in
        let first = ordinate_told i 0 lt ∙ ap (told xs i 0 true) (x_first h.dimension) in
        coordinate_listed i
        ∙ (λ u. ◌>>=◌ (first u) (λ x. answered (record { dimension = h.dimension; x = of_bits binary64 x; y = float_told i 1 lt u; z = float_told i 2 lt u; m = float_told i 3 lt u })))
        ∙ ap (λ (o : Option ℕ). answered (record {
          dimension = h.dimension;
          x = float_in o xs;
          y = float_in (position 1 (axes h.dimension)) xs;
          z = float_in (position 2 (axes h.dimension)) xs;
          m = float_in (position 3 (axes h.dimension)) xs;
        })) (sym (x_first h.dimension))

    pub part_answered : coords_slice b t r ≡ ordinate_bytes h.order (shown h cs)
    part_answered = part_listed ∙ ap (λ (u : Bool). cond u (ordinate_bytes h.order (shown h cs)) []) k

    pub form_answered : coords_form b t r ≡ answered (h.order, length (shown h cs))
    form_answered = form_listed ∙ ap (λ (u : Bool). ◌>>◌ (guard u 9 r) (answered (h.order, length (shown h cs)))) k
