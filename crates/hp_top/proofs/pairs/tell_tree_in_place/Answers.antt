use Rattle.std.proofs.Common.{subst}
use Rattle.hp_out.specs.Writing.{sink_run}
use Rattle.hp_syntax.specs.Report.{Answer}
use Rattle.hp_syntax.specs.Views.{pair_of}
use Rattle.hp_top.specs.declared.pairs.Engine.TheVariants.{InPlace}
use Rattle.hp_telling.specs.Telling.{IsTold}
use Rattle.hp_top.proofs.PlanEnds.{can_be_found, tree_told}
use Rattle.hp_top.proofs.pairs.tell_tree_in_place.Goals as goal

pub tell_walk-requires-clause-found : goal.tell_walk-requires-clause-found
tell_walk-requires-clause-found g c =
    let w = c.args.wanted in
    can_be_found (InPlace c.args.code) w.sought w.levels w.depth (pair_of c.args.pair.now) _
    c.requires.wanted.sought c.requires.tree c.in-Ok.ensures.visits c.priced_costs_never_fall.ensures.visits

pub returns-clause-told : goal.returns-clause-told
returns-clause-told g c = λ rules by.
    subst
    (λ (a : Answer). IsTold a c.tell_walk.result
    (sink_run (g.K.Sink.faults c.args.out.now) (g.K.Sink.faults c.tell_walk.new.out) (g.K.Sink.bytes c.args.out.now)
    (g.K.Sink.bytes c.tell_walk.new.out)))
    (tree_told c.args.wanted rules (pair_of c.args.pair.now) _ c.requires.tree (c.in-Ok.ensures.visits rules by))
    c.tell_walk.ensures.told
