use Rattle.std.proofs.Common.{◌==◌, nat_le, length, sym, ap, ap₂, ◌∙◌}
use Rattle.hp_syntax.specs.GroundViews.{grounds_of}
use Rattle.hp_syntax.specs.Views.{patterns_of}
use Rattle.hp_mismatch.specs.Mismatch.{pattern_count, takes, term_count}
use Rattle.hp_mismatch.proofs.MismatchSteps.{count_patterns, count_terms}
use Rattle.hp_mismatch.proofs.mismatch.takes.Goals as goal

pub returns-in-Some : goal.returns-in-Some
returns-in-Some c =
    let ps = c.args.head.now.args.items in
    let gs = c.args.terms.now in
    ap₂ nat_le (ap length c.as_slice-args.ensures.value ∙ sym (count_patterns ps)) (sym (count_terms gs))
    ∙ sym (ap (λ t. takes t (pattern_count (patterns_of ps)) (term_count (grounds_of gs))) c.in-Some.is)

pub returns-in-None : goal.returns-in-None
returns-in-None c =
    let ps = c.args.head.now.args.items in
    let gs = c.args.terms.now in
    ap₂ ◌==◌ (ap length c.as_slice-args.ensures.value ∙ sym (count_patterns ps)) (sym (count_terms gs))
    ∙ sym (ap (λ t. takes t (pattern_count (patterns_of ps)) (term_count (grounds_of gs))) c.in-None.is)
