use Rattle.std.proofs.Common.{Bor, map, refl, sym, ap, ◌∙◌}
use Rattle.std.specs.Prelude.{option_map}
use Rattle.std.proofs.lemmas.List.{at_drop_all}
use Rattle.hp_syntax.specs.declared.pattern.Pat.{Pat}
use Rattle.hp_syntax.specs.Views.{effect_of, pattern_of}
use Rattle.hp_blame.specs.Patterns.{in_effect, in_effects}
use Rattle.hp_blame.proofs.FirstLemmas.{none_here, some_here}
use Rattle.hp_blame.proofs.patterns.in_effects.Goals as goal

pub returns-in-Some : goal.returns-in-Some
returns-in-Some c =
    some_here (λ xs. in_effects c.args.span (map effect_of xs)) (λ x. in_effect c.args.span (effect_of x)) (λ y ys. refl) c.args.effects.now
    c.loop-effect.effect-index c.effect-item.result c.loop-effect-test.true c.effect-item.is _ c.loop-effect.invariant _
    (sym c.in_effect.ensures ∙ ap (option_map (λ (p : Bor Pat). pattern_of p.now)) c.in-Some.is)

pub loop-effect-preserved : goal.loop-effect-preserved
loop-effect-preserved c =
    none_here (λ xs. in_effects c.args.span (map effect_of xs)) (λ x. in_effect c.args.span (effect_of x)) (λ y ys. refl) c.args.effects.now
    c.loop-effect.effect-index c.effect-item.result c.loop-effect-test.true c.effect-item.is _ c.loop-effect.invariant
    (sym c.in_effect.ensures ∙ ap (option_map (λ (p : Bor Pat). pattern_of p.now)) c.in-None.is)

pub returns : goal.returns
returns c =
    sym (at_drop_all (λ xs. in_effects c.args.span (map effect_of xs)) c.args.effects.now c.loop-effect.effect-index c.loop-effect-test.false)
    ∙ c.loop-effect.invariant
