use Rattle.std.proofs.Common.{◌≡◌, List, ◌∷◌, Option, Some, None, map, option_map, string_bytes, refl, sym, ◌∙◌}
use Rattle.std.specs.Option.{option_and_then}
use Rattle.hp_words.specs.Command.{CommandOption, Given, given_all, given_by, given_with, options_spelled}
use Rattle.hp_words.specs.Words.{given_of, option_of}
use Rattle.hp_words.proofs.options.given_by.Goals as goal

-- the options behind one give with it what all of them give
with_next : (g h : Given) (o : CommandOption) (others spelled : Option (List CommandOption)) (all : Option Given)
    → Some h ≡ given_with g o → spelled ≡ option_map (λ os. o ∷ os) others
    → option_and_then (given_all g) spelled ≡ all → option_and_then (given_all h) others ≡ all
with_next g h o None spelled all e s a = sym (rw s refl) ∙ a
with_next g h o (Some os) spelled all e s a = sym (rw (s, ← e) refl) ∙ a

-- where an option was given before, all of them give nothing
given_twice : (g : Given) (o : CommandOption) (others spelled : Option (List CommandOption)) (all : Option Given)
    → None ≡ given_with g o → spelled ≡ option_map (λ os. o ∷ os) others
    → option_and_then (given_all g) spelled ≡ all → None ≡ all
given_twice g o None spelled all e s a = sym (rw s refl) ∙ a
given_twice g o (Some os) spelled all e s a = sym (rw (s, ← e) refl) ∙ a

pub returns-in_err-given-clause-spelled : goal.returns-in_err-given-clause-spelled
returns-in_err-given-clause-spelled c =
    rw c.from_residual-in_err-given.ensures
    (given_twice (given_of c.loop-rest.given) (option_of c.in_ok-option.option)
    (options_spelled (map string_bytes c.in_ok-option.behind.now))
    (options_spelled (map string_bytes c.loop-rest.rest.now)) (given_by (map string_bytes c.args.words.now))
    c.in_err-given.ensures.given c.in_ok-option.ensures.spelled c.loop-rest.invariant.left)

pub loop-rest-preserved : goal.loop-rest-preserved
loop-rest-preserved c = record {
  left = with_next (given_of c.loop-rest.given) (given_of c.in_ok-given.given) (option_of c.in_ok-option.option)
      (options_spelled (map string_bytes c.in_ok-option.behind.now))
      (options_spelled (map string_bytes c.loop-rest.rest.now)) (given_by (map string_bytes c.args.words.now))
      c.in_ok-given.ensures.given c.in_ok-option.ensures.spelled c.loop-rest.invariant.left;
  within = c.in_ok-given.ensures.within;
}
