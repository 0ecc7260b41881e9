use Rattle.std.proofs.Common.{◌≡◌, ◌<◌, ◌^◌, take}
use Rattle.std.specs.Str.Parse.{digits_value}
use Rattle.hp_text.proofs.spelling.whole_number.Given as goal

-- so far this is the number of the digits so far, and one whose thousandths fit 64 bits
abbrev pub invariant-loop-digit : goal.invariant-loop-digit
invariant-loop-digit l = record {
  same : l.number ≡ digits_value 10 (take l.digit-index l.digits);
  few : l.number < 10 ^ 16;
}
