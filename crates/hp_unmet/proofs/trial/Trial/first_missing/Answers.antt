use Rattle.std.proofs.Common.{length, refl, ◌∙◌, subst, arith}
use Rattle.hp_choice.specs.Starting.{levels_from}
use Rattle.hp_unmet.specs.Halving.{IsBetween}
use Rattle.hp_unmet.specs.Trials.{InTrial, tried}
use Rattle.hp_unmet.proofs.HalvingSteps.{between_all, neighbours}
use Rattle.hp_unmet.proofs.trial.Trial.first_missing.Goals as goal

pub loop-between-init : goal.loop-between-init
loop-between-init c = record {
  held = λ n at o starts.
      let s = c.args.self.now in
      between_all (tried s (levels_from c.args.walk.now.nest s.start) n.state o) (length s.asked.parts.now) c.args.met
      c.requires.prefix.within (c.requires.met n at o starts) (c.requires.all n at o starts);
  prefix = c.requires.prefix;
  ordered = c.requires.prefix.within;
  within = omega arith;
  some = omega arith;
  same = refl;
}

pub loop-between-preserved : goal.loop-between-preserved
loop-between-preserved c =
    let s = c.args.self.now in
    record {
      held =
          subst (λ p. InTrial p s
          (λ nest state o. IsBetween (tried s nest state o) (length s.asked.parts.now) c.in_ok-nearer.nearer))
          c.loop-between.invariant.same c.in_ok-nearer.ensures.held;
      prefix = c.in_ok-nearer.ensures.prefix;
      ordered = c.in_ok-nearer.ensures.ordered;
      within = c.in_ok-nearer.ensures.within;
      some = omega (arith, c.saturating_mul-step.ensures, c.loop-between.invariant.some);
      same = c.nearer.ensures.same ∙ c.loop-between.invariant.same;
    }

pub returns-clause-missing : goal.returns-clause-missing
returns-clause-missing c = λ n at o starts.
    let s = c.args.self.now in
    neighbours (tried s (levels_from c.args.walk.now.nest s.start) n.state o) (length s.asked.parts.now)
    c.loop-between.between (c.loop-between.invariant.held n at o starts) c.loop-between-test.false
