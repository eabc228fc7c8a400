-- A body of coordinates: how many count, where they begin, and where they end.
use Rattle.std.specs.Prelude.{ℕ, zero, suc, ◌+◌, ◌*◌, Bool, true, ◌&&◌, cond, List, Result}
use Rattle.meaning.specs.declared.Endianness.{Endianness}
use Rattle.meaning.specs.declared.Refusal.{Refusal}
use Rattle.meaning.specs.Number.{number_at}
use Rattle.meaning.specs.declared.Kind.TheVariants.{Point}
use Rattle.meaning.specs.Code.{same_kind, size}
use Rattle.meaning.specs.Grammar.{is_nan}
use Rattle.meaning.specs.Answer.{Answer, meant}
use Rattle.meaning.specs.Reading.{Reader, num, span, here, give, ◌>>=◌, ◌>>◌}
use Rattle.reader.specs.declared.geometry.Head.{Head}
use Rattle.reader.specs.declared.body.Body.{Body}

-- whether the n ordinates from an offset on are all NaN
unfoldable pub all_nan : List ℕ → Endianness → ℕ → ℕ → Bool
all_nan b o zero at = true
all_nan b o (suc n) at = is_nan (number_at o 8 b at) && all_nan b o n (at + 8)

-- of a LineString or a ring: a count, and that many coordinates
abbrev pub line_body : List ℕ → Head → Answer ((ℕ × ℕ) × ℕ)
line_body b h = read h.next.0
  where
    read : Reader (ℕ × ℕ)
    read = do
      n ← num b h.order 4
      start ← here
      span b (8 * size h.dimension * n)
      give (n, start)

-- of a Point: one coordinate, which does not count if all its ordinates are NaN
abbrev pub point_body : List ℕ → Head → Answer ((ℕ × ℕ) × ℕ)
point_body b h = read h.next.0
  where
    read : Reader (ℕ × ℕ)
    read = do
      start ← here
      span b (8 * size h.dimension)
      give (cond (all_nan b h.order (size h.dimension) start) 0 1, start)

abbrev pub coordinates_body : List ℕ → Head → Answer ((ℕ × ℕ) × ℕ)
coordinates_body b h = cond (same_kind h.kind Point) (point_body b h) (line_body b h)

-- count and start, and the offset behind
abbrev pub body_meant : Result Body Refusal → Answer ((ℕ × ℕ) × ℕ)
body_meant = meant (λ x. ((x.count, x.start.0), x.end.0))
