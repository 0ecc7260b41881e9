use Rattle.std.proofs.Common.{◌≡◌, ◌++◌, drop, map}
use Rattle.hp_syntax.specs.Views.{effect_of}
use Rattle.hp_syntax.specs.Written as written
use Rattle.hp_syntax.specs.Written.{rest_text}
use Rattle.hp_print.proofs.effects.push_more_effects.Given as goal

abbrev pub invariant-loop-effect : goal.invariant-loop-effect
invariant-loop-effect l =
    l.text.items ++ rest_text (written.effects l.vars (map effect_of (drop l.effect-index l.list)))
    ≡ l.fn.text.items ++ rest_text (written.effects l.vars (map effect_of l.list))
