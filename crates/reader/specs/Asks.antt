-- What the code's values for a parent's demands and for a header mean.
use Rattle.std.specs.Prelude.{ℕ, ◌+◌, ◌≡◌, List, length, true, false, not, Result}
use Rattle.std.proofs.Math.Option.{none, some}
use Rattle.meaning.specs.declared.Endianness.{Endianness}
use Rattle.meaning.specs.declared.Refusal.{Refusal}
use Rattle.meaning.specs.declared.WkbType.{WkbType}
use Rattle.meaning.specs.Grammar.{Header, Asks, Place, rings, geometries, is_some, fits, srid_fits, too_deep}
use Rattle.meaning.specs.Reading.{Reader, guard, srid, give, ◌>>=◌, ◌>>◌}
use Rattle.meaning.specs.Answer.{Answer, refused, answered, meant}
use Rattle.meaning.specs.Table.{offset}
use Rattle.meaning.proofs.Headers.{headed}
use Rattle.reader.specs.declared.place.Parent.{Parent}
use Rattle.reader.specs.declared.place.Parent.TheVariants.{NoParent, Multi, Collection}
use Rattle.reader.specs.declared.place.Siblings.{Siblings}
use Rattle.reader.specs.declared.place.Siblings.TheVariants.{Rings, Geometries}
use Rattle.reader.specs.declared.geometry.Head.{Head}

-- what a place below this parent asks
abbrev pub asks_of : Parent → Asks
asks_of NoParent = record { kind = none; dimension = none; srid = true }
asks_of (Multi k d) = record { kind = some k; dimension = some d; srid = false }
asks_of Collection = record { kind = none; dimension = none; srid = false }

-- the place where the code's siblings stand
abbrev pub place_meant : Siblings → Place
place_meant (Rings o d) = rings o d
place_meant (Geometries p) = geometries (asks_of p)

-- what of a header the walk needs: not the code, and of the SRID only that it is there
abbrev pub head_of : Header → ℕ → Head
head_of h e = record { kind = h.kind; dimension = h.dimension; order = h.order; srid = is_some h.srid; next = offset e }

-- the header was read at this offset, and this is what the walk has of it
pub record Heads (h : Header) (at : ℕ) (head : Head) : Type 0 where
  pub same : head_of h head.next.0 ≡ head
  pub behind : head.next.0 ≡ at + length (headed h)

abbrev pub viewed : Answer (Header × ℕ) → Answer Head
viewed (refused n p) = refused n p
viewed (answered x) = answered (head_of x.0 x.1)

abbrev pub head_meant : Result Head Refusal → Answer Head
head_meant = meant (λ h. h)

-- the header's reading from where its code is known
abbrev pub opened : List ℕ → Asks → ℕ → ℕ → Endianness → ℕ → WkbType → Reader Header
opened b a l at o c t = do
  guard (fits a t) 5 (at + 1)
  guard (srid_fits a t) 6 (at + 1)
  guard (not (too_deep l t)) 7 at
  s ← srid b t.srid o
  give (record { kind = t.kind; dimension = t.dimension; order = o; code = c; srid = s })
