use Rattle.std.proofs.Common.{refl, sym, ap, ◌∙◌}
use Rattle.std.proofs.lemmas.Result.{IfOk-weaker}
use Rattle.hp_after.proofs.Arrivals.{tree_at}
use Rattle.hp_dead_ends.specs.declared.searching.SearchEnd.TheVariants as ends
use Rattle.hp_dead_ends.specs.DeadEnds.{ending, is_stopped, until_plan}
use Rattle.hp_dead_ends.proofs.FindSteps.{found_by, furthest_in, held_in, met_in, over_by, reached_root, tells_root}
use Rattle.hp_dead_ends.proofs.HeldLemmas.{cuts_held}
use Rattle.hp_dead_ends.proofs.MeetSteps.{many_steps}
use Rattle.hp_dead_ends.proofs.searching.find.Goals as goal

pub go_through-requires-clause-at : goal.go_through-requires-clause-at
go_through-requires-clause-at g c = tree_at (g.W.Walk.tree c.args.walk.now) _ c.requires.new

pub returns-in-Ok-clause-found : goal.returns-in-Ok-clause-found
returns-in-Ok-clause-found g c =
    let t = g.W.Walk.tree c.args.walk.now in
    let steps = many_steps (g.W.Walk.terms c.args.walk.now) c.plan.result.now _ t.root
    (reached_root t (g.W.Walk.stands c.args.walk.now) c.requires.at_root) c.plan.ensures.steps in
    IfOk-weaker c.finish.result _ _
    (λ f h. found_by t _ c.go_through.new.pass _ _ _ _ c.requires.depth
    (tells_root _ t.root c.new.ensures.items steps refl refl c.new-2.ensures.items refl refl refl refl refl refl)
    c.requires.new c.in-Ok.ensures.passes f h)
    c.finish.ensures

pub returns-in-Ok-clause-dead : goal.returns-in-Ok-clause-dead
returns-in-Ok-clause-dead g c =
    IfOk-weaker c.finish.result _ _ (λ f h. furthest_in (g.W.Walk.tree c.args.walk.now) c.args.most f h)
    (returns-in-Ok-clause-found g c)

pub returns-in-Ok-clause-held : goal.returns-in-Ok-clause-held
returns-in-Ok-clause-held g c =
    IfOk-weaker c.finish.result _ _ (λ f h. held_in (g.W.Walk.tree c.args.walk.now) c.args.most f h)
    (returns-in-Ok-clause-found g c)

pub returns-in-Ok-clause-cuts : goal.returns-in-Ok-clause-cuts
returns-in-Ok-clause-cuts g c =
    IfOk-weaker c.finish.result _ _ (λ f h. cuts_held (g.W.Walk.tree c.args.walk.now) c.args.most f h)
    (returns-in-Ok-clause-found g c)

pub returns-in-Ok-clause-over : goal.returns-in-Ok-clause-over
returns-in-Ok-clause-over g c =
    IfOk-weaker c.finish.result _ _
    (λ f h q. over_by _ _ _ _ (g.W.Walk.stands c.args.walk.now).rest _ ends.Whole c.in-Ok.ensures.passes
    (ap (λ ws. is_stopped (ending ends.Whole (until_plan ws))) c.requires.new ∙ (sym (ap is_stopped h.end) ∙ q)))
    (returns-in-Ok-clause-found g c)

pub returns-in-Ok-clause-fault : goal.returns-in-Ok-clause-fault
returns-in-Ok-clause-fault g c =
    let t = g.W.Walk.tree c.args.walk.now in
    IfOk-weaker c.finish.result _ _
    (λ f h x q. met_in t _ _ _ _ (g.W.Walk.stands c.args.walk.now).rest _ x c.requires.new c.in-Ok.ensures.passes
    (sym h.end ∙ q))
    (returns-in-Ok-clause-found g c)
