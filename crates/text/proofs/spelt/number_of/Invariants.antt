-- The digits passed are digits, and the number is what they say.
use Rattle.std.proofs.Common.{◌≡◌, ◌<◌, ◌^◌, take}
use Rattle.std.specs.Str.Parse.{AllDigits, digits_value}
use Rattle.text.proofs.spelt.number_of.Given as goal

abbrev pub invariant-loop-b : goal.invariant-loop-b
invariant-loop-b l = record {
  digits : AllDigits 10 (take l.b-index l.s);
  room : l.number < 2 ^ 64;
  value : l.number ≡ digits_value 10 (take l.b-index l.s);
}
