use Rattle.std.proofs.Common.{subst, sym}
use Rattle.hp_out.specs.Writing.{sink_run}
use Rattle.hp_syntax.specs.Report.{Answer}
use Rattle.hp_syntax.specs.Views.{pair_of}
use Rattle.hp_telling.specs.Telling.{IsTold}
use Rattle.hp_top.proofs.PlanEnds.{other_one_tree, shallowest_told}
use Rattle.hp_top.proofs.pairs.tell_in_place.Goals as goal

pub returns-in-Shallowest-clause-told : goal.returns-in-Shallowest-clause-told
returns-in-Shallowest-clause-told g c = λ rules by.
    subst
    (λ (a : Answer). IsTold a c.tell_least.result
    (sink_run (g.K.Sink.faults c.args.out.now) (g.K.Sink.faults c.tell_least.new.out) (g.K.Sink.bytes c.args.out.now)
    (g.K.Sink.bytes c.tell_least.new.out)))
    (sym (shallowest_told c.args.wanted c.in-Shallowest.states rules (pair_of c.args.pair.now) c.in-Shallowest.is))
    (c.tell_least.ensures.told rules by)

pub tell_tree_in_place-requires-clause-tree : goal.tell_tree_in_place-requires-clause-tree
tell_tree_in_place-requires-clause-tree g c = other_one_tree c.args.wanted.sought c.in_default.not-Shallowest
