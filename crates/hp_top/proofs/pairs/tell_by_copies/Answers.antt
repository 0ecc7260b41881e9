use Rattle.std.proofs.Common.{◌∙◌, ap, sym, subst}
use Rattle.hp_out.specs.Writing.{sink_run}
use Rattle.hp_syntax.specs.Report.{Answer}
use Rattle.hp_syntax.specs.Views.{domain_of, pair_of}
use Rattle.hp_top.specs.Outcome.{pair_visits}
use Rattle.hp_telling.specs.Telling.{IsTold}
use Rattle.hp_top.specs.declared.pairs.Engine.TheVariants.{Copies}
use Rattle.hp_top.proofs.PlanEnds.{can_be_found, copies_one_tree, tree_told}
use Rattle.hp_top.proofs.pairs.tell_by_copies.Goals as goal

pub tell_walk-requires-clause-found : goal.tell_walk-requires-clause-found
tell_walk-requires-clause-found g c =
    let w = c.args.wanted in
    let p = pair_of c.args.pair.now in
    can_be_found (Copies c.args.domain) w.sought w.levels w.depth p _ c.requires.wanted.sought
    (copies_one_tree (Copies c.args.domain) w.sought tt c.requires.wanted.sought)
    (λ rules by. c.in-Ok.ensures.visits ∙ ap (λ rs. pair_visits rs w.levels w.depth p) (sym by))
    c.priced_costs_never_fall.ensures.visits

pub returns-clause-told : goal.returns-clause-told
returns-clause-told g c =
    let w = c.args.wanted in
    subst
    (λ (a : Answer). IsTold a c.tell_walk.result
    (sink_run (g.K.Sink.faults c.args.out.now) (g.K.Sink.faults c.tell_walk.new.out) (g.K.Sink.bytes c.args.out.now)
    (g.K.Sink.bytes c.tell_walk.new.out)))
    (tree_told w (domain_of c.args.domain.now).rules (pair_of c.args.pair.now) _
    (copies_one_tree (Copies c.args.domain) w.sought tt c.requires.wanted.sought) c.in-Ok.ensures.visits)
    c.tell_walk.ensures.told
