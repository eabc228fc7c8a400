-- What is left of the line, after the digits passed, spells what the whole line does.
use Rattle.std.proofs.Common.{◌≡◌, ◌^◌, ◌<◌, drop}
use Rattle.codes.specs.Line.{code_from, code_of}
use Rattle.codes.proofs.line.code_of.Given as goal

abbrev pub invariant-loop-i : goal.invariant-loop-i
invariant-loop-i l = record {
  small : l.code < 16 ^ l.i;
  same_code : code_from l.code l.i (drop l.i l.line) ≡ code_of l.line;
}
