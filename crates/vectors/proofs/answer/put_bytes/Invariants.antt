-- Each byte passed took room for two digits at most.
use Rattle.std.proofs.Common.{◌+◌, ◌*◌, ◌≤◌}
use Rattle.arrayvec.specs.ArrayVec.{array_vec_len}
use Rattle.vectors.proofs.answer.put_bytes.Given as goal

abbrev pub invariant-loop-byte : goal.invariant-loop-byte
invariant-loop-byte g l = array_vec_len l.out ≤ array_vec_len l.initial.out + 2 * l.byte-index
