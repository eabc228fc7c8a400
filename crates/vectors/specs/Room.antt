-- How much room an answer takes.
use Rattle.std.specs.Prelude.{ℕ, ◌≤◌, ⊤}
use Rattle.vectors.specs.declared.question.Question.{Question}
use Rattle.vectors.specs.declared.question.Question.TheVariants.{Check, Ordinate, Coordinate, Part, Form, Child, Srid}

-- a coordinate part is written whole, so it is asked for where the buffer, and the part with it, is not too long
abbrev pub PartFits : Question → ℕ → Type 0
PartFits (Part row) n = n ≤ 5000
PartFits Check n = ⊤
PartFits (Ordinate row index axis) n = ⊤
PartFits (Coordinate row index) n = ⊤
PartFits (Form row) n = ⊤
PartFits (Child row index) n = ⊤
PartFits Srid n = ⊤
