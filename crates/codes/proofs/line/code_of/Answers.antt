use Rattle.std.proofs.Common.{◌∙◌, sym, arith}
use Rattle.codes.proofs.Lines.{code_more, code_stops, code_ends, digit_more, room}
use Rattle.codes.proofs.line.code_of.Goals as goal

pub returns-in_default : goal.returns-in_default
returns-in_default c =
    sym (code_stops _ _ _ c.loop-i-test.true (sym c.in_default.is ∙ c.digit_of.ensures.value)) ∙ c.loop-i.invariant.same_code

pub overflow_add-code : goal.overflow_add-code
overflow_add-code c =
    omega (
      arith,
      digit_more c.loop-i.code c.in-Some.digit c.loop-i.i c.loop-i.invariant.small c.in-Some.ensures.small,
      room c.loop-i.i (omega arith),
    )

pub loop-i-preserved : goal.loop-i-preserved
loop-i-preserved c = record {
  small = digit_more _ _ _ c.loop-i.invariant.small c.in-Some.ensures.small;
  same_code = sym (code_more _ _ _ c.loop-i-test.true _ c.in-Some.ensures.value) ∙ c.loop-i.invariant.same_code;
}

pub returns : goal.returns
returns c = sym (code_ends _ _ _ c.loop-i-test.false) ∙ c.loop-i.invariant.same_code
