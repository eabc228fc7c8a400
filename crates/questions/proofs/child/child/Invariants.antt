-- The steps that are left give the answer. Assumes nothing.
use Rattle.std.proofs.Common.{◌≡◌, ◌-◌}
use Rattle.meaning.specs.Questions.{steps, child}
use Rattle.questions.proofs.child.child.Given as goal

abbrev pub invariant-loop : goal.invariant-loop
invariant-loop l = child l.table l.row.0 l.index ≡ steps l.table l.row.0 (l.index - l.counter) l.reached.0
