use Rattle.std.proofs.Common.{◌≡◌, take, rules, arith, refl, ap}
use Rattle.std.proofs.lemmas.List.{take_all}
use Rattle.std.specs.Char.{digit_value}
use Rattle.std.specs.Str.Parse.{digits_value}
use Rattle.text.proofs.Digits.{each_digit, value_next, all_next, value_so_far}
use Rattle.text.proofs.spelt.number_of.Goals as goal

pub loop-b-init : goal.loop-b-init
loop-b-init c = record { digits = tt; room = omega arith; value = refl }

pub returns-in_err-digit : goal.returns-in_err-digit
returns-in_err-digit c = rw c.from_residual.ensures (λ p. c.in_err-digit.ensures.value (rw c.from.ensures (each_digit _ _ p.0.1 c.loop-b-test.true)))

pub returns-in_err-checked_mul : goal.returns-in_err-checked_mul
returns-in_err-checked_mul c = rw c.from_residual-in_err-checked_mul.ensures
    (λ p. c.in_err-checked_mul.ensures (omega (arith, value_so_far _ _ c.loop-b-test.true, c.loop-b.invariant.value, p.1)))

pub returns-in_err-number : goal.returns-in_err-number
returns-in_err-number c = rw c.from_residual-in_err-number.ensures
    (λ p. c.in_err-number.ensures (omega (
      arith,
      value_so_far _ _ c.loop-b-test.true,
      c.loop-b.invariant.value,
      c.in_ok-checked_mul.ensures,
      c.in_ok-digit.ensures.value,
      ap digit_value c.from.ensures,
      p.1,
    )))

pub loop-b-preserved : goal.loop-b-preserved
loop-b-preserved c = record {
  digits = all_next _ _ c.loop-b-test.true c.loop-b.invariant.digits (omega (arith, c.in_ok-digit.ensures.value, ap digit_value c.from.ensures));
  room = omega (arith, c.in_ok-number.ensures);
  value = omega (
    arith,
    value_next _ _ c.loop-b-test.true,
    c.loop-b.invariant.value,
    c.in_ok-checked_mul.ensures,
    c.in_ok-number.ensures,
    c.in_ok-digit.ensures.value,
    ap digit_value c.from.ensures,
  );
}

pub returns : goal.returns
returns c =
    let whole : take c.loop-b.b-index c.args.s.now ≡ c.args.s.now = take_all _ _ c.loop-b-test.false in
    let i = c.loop-b.invariant in
    (((search rules, rw (← whole) i.digits), omega (arith, i.room, i.value, ap (digits_value 10) whole)), rw (← whole) i.value)
