use Rattle.std.proofs.Common.{◌≡◌, ◌≤◌, true, drop}
use Rattle.std.specs.List.{list_all}
use Rattle.hp_syntax.specs.Text.{is_digit}
use Rattle.hp_words.specs.Numbers.{number_from}
use Rattle.hp_words.proofs.numbers.number_up_to.Given as goal

abbrev pub invariant-loop-digit : goal.invariant-loop-digit
invariant-loop-digit l = record {
  left : number_from l.number (drop l.digit-index l.digits) ≡ number_from 0 l.digits;
  digits : list_all is_digit (drop l.digit-index l.digits) ≡ true;
  small : l.number ≤ l.most;
}
