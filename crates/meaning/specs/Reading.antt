-- Reading: bytes to a geometry and the prefix's length, or a refusal. The order of the lines is the order of the tests.
use Rattle.std.specs.Prelude.{ℕ, zero, suc, ◌+◌, ◌*◌, ◌-◌, List, [], ◌∷◌, map, Bool, true, false, not, cond, length, take, drop, leb}
use Rattle.std.proofs.Math.Option.{Option, none, some}
use Rattle.meaning.specs.declared.Endianness.{Endianness}
use Rattle.meaning.specs.declared.Endianness.TheVariants.{BigEndian, LittleEndian}
use Rattle.meaning.specs.declared.Kind.TheVariants.{Point}
use Rattle.meaning.specs.declared.WkbType.{WkbType}
use Rattle.meaning.specs.Number.{number}
use Rattle.meaning.specs.Code.{size, same_kind, type_of}
use Rattle.meaning.specs.Grammar.{Header, Ordinates, Forest, empty, first, Place, rings, geometries, outermost, inside, ring_header, fits, srid_fits, too_deep, holds_coordinates}
use Rattle.meaning.specs.Answer.{Answer, refused, answered}

-- a reader goes from an offset to what it read and the offset behind it, or it refuses
abbrev pub Reader : Type 0 → Type 0
Reader A = ℕ → Answer (A × ℕ)

abbrev pub after : {A B : Type 0} → Answer (A × ℕ) → (A → Reader B) → Answer (B × ℕ)
after (refused n p) f = refused n p
after (answered x) f = f x.0 x.1

abbrev pub ◌>>=◌ : {A B : Type 0} → Reader A → (A → Reader B) → Reader B
◌>>=◌ r f = λ at. after (r at) f

abbrev pub ◌>>◌ : {A B : Type 0} → Reader A → Reader B → Reader B
◌>>◌ r s = λ at. after (r at) (λ _. s)

abbrev pub give : {A : Type 0} → A → Reader A
give a = λ at. answered (a, at)

abbrev pub here : Reader ℕ
here = λ at. answered (at, at)

-- refused by this number at this place, unless the test passes
abbrev pub guard : Bool → ℕ → ℕ → Reader Unit
guard true n p = give tt
guard false n p = λ at. refused n p

-- 4: "code not allowed", at "the code"
abbrev pub known : Option WkbType → ℕ → Reader WkbType
known none p = λ at. refused 4 p
known (some t) p = give t

-- "one order byte, 0 big or 1 little"
abbrev pub order_of : ℕ → Endianness
order_of zero = BigEndian
order_of (suc n) = LittleEndian

-- n pieces of w bytes each
unfoldable pub pieces : ℕ → ℕ → List ℕ → List (List ℕ)
pieces w zero bs = []
pieces w (suc n) bs = take w bs ∷ pieces w n (drop w bs)

-- n coordinates of s ordinates each, out of their bytes
abbrev pub coordinates_in : Endianness → ℕ → ℕ → List ℕ → List Ordinates
coordinates_in o s n bs = map (λ c. map (number o) (pieces 8 s c)) (pieces (8 * s) n bs)

module _ (b : List ℕ) where
  -- the w bytes from here on. 2: "a field or coordinate run goes past the buffer", at "its first byte"
  unfoldable pub span : ℕ → Reader (List ℕ)
  span w = λ at. cond (leb w (length b - at)) (answered (take w (drop at b), at + w)) (refused 2 at)

  abbrev pub num : Endianness → ℕ → Reader ℕ
  num o w = do
    bs ← span w
    give (number o bs)

  -- "2 for the order byte, 3"
  abbrev pub order : Reader Endianness
  order = do
    at ← here
    x ← num LittleEndian 1
    guard (leb x 1) 3 at
    give (order_of x)

  -- "2 for the SRID"
  abbrev pub srid : Bool → Endianness → Reader (Option ℕ)
  srid false o = give none
  srid true o = do
    s ← num o 4
    give (some s)

  -- "2 for the order byte, 3, 2 for the code, 4, 5, 6, 7, 2 for the SRID"
  unfoldable pub header : Place → ℕ → Reader Header
  header (rings o d) l = give (ring_header o d)
  header (geometries a) l = do
    at ← here
    o ← order
    code ← here
    c ← num o 4
    t ← known (type_of c) code
    guard (fits a t) 5 code
    guard (srid_fits a t) 6 code
    guard (not (too_deep l t)) 7 at
    s ← srid t.srid o
    give (record { kind = t.kind; dimension = t.dimension; order = o; code = c; srid = s })

  -- "2 for the count"; a Point has none, and one coordinate
  abbrev pub count_of : Header → Reader ℕ
  count_of h = cond (same_kind h.kind Point) (give 1) (num h.order 4)

  -- "2 for .. a Point's ordinates", or another coordinate run, tested whole
  abbrev pub run : Header → ℕ → Reader (List Ordinates)
  run h n = do
    bs ← span (8 * size h.dimension * n)
    give (coordinates_in h.order (size h.dimension) n bs)

  -- "then elements in turn": n siblings of at most d levels
  unfoldable pub forest : ℕ → ℕ → Place → ℕ → Reader Forest
  forest zero zero p l = give empty
  forest zero (suc n) p l = λ at. refused 7 at
  forest (suc d) zero p l = give empty
  forest (suc d) (suc n) p l = do
    h ← header p l
    c ← count_of h
    cs ← run h (cond (holds_coordinates h.kind) c 0)
    kids ← forest d (cond (holds_coordinates h.kind) 0 c) (inside h) (suc l)
    rest ← forest (suc d) n p l
    give (first h cs kids rest)

-- 1: "buffer longer than 1,048,575", at 0: "Rule 1 comes first." Nineteen levels are enough (proofs/Levels.antt). "Bytes past the prefix
-- never alter an answer", since the forest ends where its last field does.
unfoldable pub reading : List ℕ → Answer (Forest × ℕ)
reading b = cond (leb (length b) 1048575) (forest b 19 1 outermost 0 0) (refused 1 0)
