use Rattle.std.proofs.Common.{sym, ◌∙◌}
use Rattle.hp_eval.proofs.AttemptLemmas.{place_free}
use Rattle.hp_pick.proofs.FillSteps.{stays_unbound, stays_bound, bound_above}
use Rattle.hp_pick.proofs.heard.fill.Goals as goal

pub returns-in_default-clause-value : goal.returns-in_default-clause-value
returns-in_default-clause-value c =
    stays_unbound c.args.slots.now.values c.args.v c.args.value c.requires.known c.in_default.is c.requires.keeps

pub bind-requires : goal.bind-requires
bind-requires c = record {
  unbound = place_free c.args.slots.now c.args.v c.requires.known (sym c.get.ensures ∙ c.in-None.is);
}

pub returns-in-None-clause-above : goal.returns-in-None-clause-above
returns-in-None-clause-above c =
    bound_above c.args.slots.now c.bind.new.self c.args.v c.in-Some.cell c.requires.known
    (sym c.get.ensures ∙ c.in-None.is) c.bind.ensures

pub returns-in-Some-get-clause-value : goal.returns-in-Some-get-clause-value
returns-in-Some-get-clause-value c =
    stays_bound c.args.slots.now c.args.v c.in-Some-get.field-0 c.args.value c.requires.known
    (sym c.get.ensures ∙ c.in-Some-get.is) c.requires.keeps
