use Rattle.std.proofs.Common.{FitsSigned, w64, rules, ap, sym, ◌∙◌}
use Rattle.std.proofs.lemmas.Int.{to_z-of_z}
use Rattle.std.proofs.lemmas.Option.{slice_get_within}
use Rattle.hp_eval.specs.Slotted.{bindings_of}
use Rattle.hp_syntax.specs.Changes.{Went}
use Rattle.hp_effect.proofs.CostLemmas.{cost_of_number, cost_of_value, went_or}
use Rattle.hp_effect.proofs.costs.cost.Goals as goal

pub returns-in-Num-clause-costs : goal.returns-in-Num-clause-costs
returns-in-Num-clause-costs c =
    let n-fits : FitsSigned w64 c.in-Num.n = search rules in
    cost_of_number c.args.pat.now (bindings_of c.args.cells.now c.args.slots.now) c.in-Num.n c.in-Num.is
    ∙ ap Went (sym (to_z-of_z w64 c.in-Num.n n-fits))

pub number-requires : goal.number-requires
number-requires c =
    let (t, h, k) = c.in_ok-cell.ensures.gives in
    slice_get_within c.value.new.cells c.in_ok-cell.cell t k

pub returns-in-Some-clause-costs : goal.returns-in-Some-clause-costs
returns-in-Some-clause-costs c =
    let (t, h, k) = c.in_ok-cell.ensures.gives in
    let e = cost_of_value c.args.pat.now (bindings_of c.args.cells.now c.args.slots.now) t c.number.result h
    (c.number.ensures t k) ∙ ap (went_or c.args.pat.now.span) c.in-Some.is in
    search rules

pub returns-in-None-clause-costs : goal.returns-in-None-clause-costs
returns-in-None-clause-costs c =
    let (t, h, k) = c.in_ok-cell.ensures.gives in
    cost_of_value c.args.pat.now (bindings_of c.args.cells.now c.args.slots.now) t c.number.result h
    (c.number.ensures t k) ∙ ap (went_or c.args.pat.now.span) c.in-None.is
