use Rattle.std.proofs.Common.{ap, subst, ◌∙◌}
use Rattle.std.proofs.lemmas.Result.{IfOk-weaker, on_ok_weaker}
use Rattle.hp_net.specs.Standings.{Tree}
use Rattle.hp_dead_ends.specs.Finding.{HasMet}
use Rattle.hp_search.specs.Planned.{stands_planned, tree_planned}
use Rattle.hp_syntax.specs.Views.{pair_of}
use Rattle.hp_doctor_why.specs.Searches.{tree_searched}
use Rattle.hp_doctor_why.proofs.ReasonSteps.{all_furthest_over, all_held_over, cuts_over, found_over, root_depth}
use Rattle.hp_doctor_why.proofs.reasons.dead_ends.Goals as goal

pub find-requires-clause-depth : goal.find-requires-clause-depth
find-requires-clause-depth c =
    ap (λ (t : Tree). t.root.depth) c.requires.fresh.of.tree
    ∙ root_depth (pair_of c.args.search.pair.now) c.args.search.depth

pub returns-clause-found : goal.returns-clause-found
returns-clause-found c =
    IfOk-weaker c.find.result _ _
    (λ f h. found_over c.lowered_rules_have_the_tree.ensures.visits (tree_searched c.args.search)
    (tree_planned c.args.walk.now) c.requires.fresh.of.tree c.args.most f h) c.find.ensures.found

pub returns-clause-dead : goal.returns-clause-dead
returns-clause-dead c =
    IfOk-weaker c.find.result _ _
    (λ f h. all_furthest_over c.lowered_rules_have_the_tree.ensures.visits (tree_searched c.args.search)
    (tree_planned c.args.walk.now) c.requires.fresh.of.tree
    c.lowered_rules_have_the_tree.ensures.children c.lowered_rules_have_the_tree.ensures.nodes f.furthest.items h)
    c.find.ensures.dead

pub returns-clause-held : goal.returns-clause-held
returns-clause-held c =
    IfOk-weaker c.find.result _ _
    (λ f h. all_held_over c.lowered_rules_have_the_tree.ensures.visits (tree_searched c.args.search)
    (tree_planned c.args.walk.now) c.requires.fresh.of.tree f.furthest.items h) c.find.ensures.held

pub returns-clause-cuts : goal.returns-clause-cuts
returns-clause-cuts c =
    IfOk-weaker c.find.result _ _
    (λ f h. cuts_over c.lowered_rules_have_the_tree.ensures.visits (tree_searched c.args.search)
    (tree_planned c.args.walk.now) c.requires.fresh.of.tree f h) c.find.ensures.cuts

pub returns-clause-fault : goal.returns-clause-fault
returns-clause-fault c =
    IfOk-weaker c.find.result _ _
    (λ f h x e. subst (λ (t : Tree). HasMet t (stands_planned c.find.new.walk) x) c.requires.fresh.of.tree (h x e))
    c.find.ensures.fault

pub returns-clause-of : goal.returns-clause-of
returns-clause-of c =
    on_ok_weaker c.find.result
    (λ h. record { live = h; tree = c.find.ensures.tree ∙ c.requires.fresh.of.tree }) c.find.ensures.live
