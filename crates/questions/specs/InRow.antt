-- What is left of a question once its row is fetched.
use Rattle.std.specs.Prelude.{ℕ, ◌+◌, ◌*◌, ◌≤◌, List, length, ltb}
use Rattle.meaning.specs.declared.RowFields.{RowFields}
use Rattle.meaning.specs.Number.{number_at}
use Rattle.meaning.specs.Code.{axes, size}
use Rattle.meaning.specs.Answer.{Answer, answered}
use Rattle.meaning.specs.Questions.{guard, ◌>>=◌, ◌>>◌, position, on_axis}

-- the coordinates that the row counts are in the buffer
abbrev pub Within : List ℕ → RowFields → Type 0
Within b f = f.body.0 + 8 * size f.dimension * f.count ≤ length b

-- Ordinate behind the first test
abbrev pub ordinate_of_row : List ℕ → RowFields → ℕ → ℕ → Answer ℕ
ordinate_of_row b f i a = do
  guard (ltb i f.count) 10 i
  j ← on_axis (position a (axes f.dimension)) a
  answered (number_at f.order 8 b (f.body.0 + 8 * (size f.dimension * i + j)))
