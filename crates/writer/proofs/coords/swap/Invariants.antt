use Rattle.std.proofs.Common.{◌≡◌, ◌++◌, ◌*◌, drop}
use Rattle.meaning.specs.declared.Endianness.TheVariants.{BigEndian, LittleEndian}
use Rattle.writer.specs.Rewritten.{rewritten}
use Rattle.writer.proofs.coords.swap.Given as goal

abbrev pub invariant-loop-n : goal.invariant-loop-n
invariant-loop-n l = l.out ≡ rewritten BigEndian LittleEndian l.n l.part ++ drop (8 * l.n) l.initial.out
