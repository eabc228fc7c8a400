-- The ISO form of a geometry, what the writer answers and leaves in the output, and 'same geometry'.
use Rattle.std.specs.Prelude.{ℕ, ◌≡◌, List, [], ◌∷◌, ◌++◌, cond, length, drop, replicate, leb}
use Rattle.std.proofs.Math.Option.{none}
use Rattle.meaning.specs.declared.Endianness.{Endianness}
use Rattle.meaning.specs.declared.Kind.TheVariants.{Ring}
use Rattle.meaning.specs.Code.{size, same_kind, iso_code}
use Rattle.meaning.specs.Grammar.{Header, Ordinates, Forest, empty, first, empty_point, shown, bytes}
use Rattle.meaning.specs.Answer.{Answer, refused, answered}
use Rattle.meaning.specs.Reading.{reading}
use Rattle.meaning.specs.Questions.{check}

-- "the geometry with no flags, every geometry in that order"
abbrev pub iso_header : Endianness → Header → Header
iso_header o h = record {
  kind = h.kind;
  dimension = h.dimension;
  order = o;
  code = cond (same_kind h.kind Ring) 0 (iso_code h.kind h.dimension);
  srid = none;
}

-- "empty points as 7FF8000000000000 in each ordinate (the Rust's `f64::NAN`)"
abbrev pub iso_coordinates : Header → List Ordinates → List Ordinates
iso_coordinates h cs = cond (empty_point h cs) (replicate (size h.dimension) 0x7FF8_0000_0000_0000 ∷ []) cs

-- "the geometry", in one order: each header and each point so, in the same nesting
unfoldable pub iso_form : Endianness → Forest → Forest
iso_form o empty = empty
iso_form o (first h cs kids rest) = first (iso_header o h) (iso_coordinates h cs) (iso_form o kids) (iso_form o rest)

abbrev pub iso_bytes : Endianness → Forest → List ℕ
iso_bytes o t = bytes (iso_form o t)

-- "then 11, else the geometry"; "Success returns the output length: the prefix length, less 4 if row 0 has an SRID. Bytes beyond stay."
abbrev pub written : List ℕ → List ℕ → Answer ℕ × List ℕ
written iso out =
    cond (leb (length iso) (length out))
    (answered (length iso), iso ++ drop (length iso) out)
    (refused 11 (length iso), out)

abbrev pub written_from : Answer (Forest × ℕ) → Endianness → List ℕ → Answer ℕ × List ℕ
written_from (refused n p) o out = (refused 9 0, out)
written_from (answered x) o out = written (iso_bytes o x.0) out

-- "9 unless the check says yes"
abbrev pub write_geometry : List ℕ → List ℕ → Endianness → List ℕ → Answer ℕ × List ℕ
write_geometry b t o out = cond (check b t) (written_from (reading b) o out) (refused 9 0, out)

-- ---- "Same geometry: equal kinds, dimensions, counts, ordinate bits and emptiness of points, in the same nesting.
-- The NaN patterns of an empty point don't count."

pub record SameNode (h : Header) (cs : List Ordinates) (k : Header) (ds : List Ordinates) : Type 0 where
  pub kind : h.kind ≡ k.kind
  pub dimension : h.dimension ≡ k.dimension
  pub ordinates : shown h cs ≡ shown k ds

-- "in the same nesting"
abbrev pub Same : Forest → Forest → Type 0
Same empty empty = Unit
Same empty (first k ds below after) = ⊥
Same (first h cs kids rest) empty = ⊥
Same (first h cs kids rest) (first k ds below after) = SameNode h cs k ds × Same kids below × Same rest after
