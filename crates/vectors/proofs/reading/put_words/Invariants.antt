-- Each word passed took room for a space and 16 digits at most.
use Rattle.std.proofs.Common.{◌+◌, ◌*◌, ◌≤◌}
use Rattle.arrayvec.specs.ArrayVec.{array_vec_len}
use Rattle.vectors.proofs.reading.put_words.Given as goal

abbrev pub invariant-loop-word : goal.invariant-loop-word
invariant-loop-word g l = array_vec_len l.out ≤ array_vec_len l.initial.out + 17 * l.word-index
