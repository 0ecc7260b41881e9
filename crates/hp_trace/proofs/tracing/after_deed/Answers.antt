use Rattle.std.proofs.Common.{Some, ap, sym, subst, ◌∙◌}
use Rattle.std.specs.Prelude.{option_map}
use Rattle.hp_passes.specs.Passing.{sight_of}
use Rattle.hp_search.specs.Planned.{Planned, stands_planned, tree_planned}
use Rattle.hp_syntax.specs.Views.{domain_of}
use Rattle.hp_trace.specs.Reaching.{ComesNext}
use Rattle.hp_trace.specs.Tracing.{GoesOn}
use Rattle.hp_trace.proofs.StuckSteps.{goes_none, goes_some}
use Rattle.hp_trace.proofs.tracing.after_deed.Goals as goal

pub returns-in-Some-clause-goes : goal.returns-in-Some-clause-goes
returns-in-Some-clause-goes c = λ v ws h.
    let rules = (domain_of c.args.domain.now).rules in
    let t = tree_planned c.args.planner.now in
    let to = stands_planned c.visit_below.new.planner in
    subst (λ xs. GoesOn rules t c.args.from.now v ws xs (Some (sight_of c.in-Some.next)) to) (sym c.new.ensures.items)
    (goes_some rules t c.args.from.now v ws
    (stands_planned c.args.planner.now) to _ h c.in_ok-below.ensures.stands
    (ap (option_map sight_of) (sym c.in-Some.is) ∙ c.in_ok-below.ensures.next))

pub returns-in_ok-next-in-None-clause-goes : goal.returns-in_ok-next-in-None-clause-goes
returns-in_ok-next-in-None-clause-goes c = λ v ws h.
    goes_none (domain_of c.args.domain.now).rules (tree_planned c.args.planner.now) c.args.from.now v ws
    (tree_planned c.visit_below.new.planner) (stands_planned c.args.planner.now) (stands_planned c.visit_below.new.planner)
    _ _ _ h c.visit_below.ensures.tree c.in_ok-below.ensures.stands
    (ap (option_map sight_of) (sym c.in-None.is) ∙ c.in_ok-below.ensures.next)
    c.in_ok-stuck-in-None.ensures.are
    (subst (λ (w : Planned). ComesNext c.args.from.now (stands_planned w).rest
    (option_map sight_of c.in_ok-next-in-None.next) (stands_planned c.next_visit.new.planner))
    c.all_stuck.ensures.same c.in_ok-next-in-None.ensures.next)
