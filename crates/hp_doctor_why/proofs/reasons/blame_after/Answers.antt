use Rattle.std.proofs.Common.{ap, subst, sym}
use Rattle.std.specs.Prelude.{option_map}
use Rattle.std.proofs.lemmas.Result.{IfOk-weaker}
use Rattle.hp_blame.specs.Blames.{blame_kept}
use Rattle.hp_dead_ends.specs.declared.searching.SearchEnd.{SearchEnd}
use Rattle.hp_net.specs.Standings.{Tree}
use Rattle.hp_search.specs.Planned.{stands_planned, tree_planned}
use Rattle.hp_doctor_why.specs.Reasons.{IsBlamed, lowered_tree}
use Rattle.hp_doctor_why.specs.Searches.{tree_searched}
use Rattle.hp_doctor_why.proofs.ReasonSteps.{blamed_there}
use Rattle.hp_doctor_why.proofs.reasons.blame_after.Goals as goal

pub returns-in-Fault-clause-is : goal.returns-in-Fault-clause-is
returns-in-Fault-clause-is c =
    let t = tree_searched c.args.search in
    let walk = c.args.walk.now in
    IfOk-weaker c.find_blame.result _ _
    (λ o h. subst (λ (e : SearchEnd). IsBlamed t (lowered_tree t) e (option_map blame_kept o)) (sym c.in-Fault.is)
    (blamed_there t (tree_planned walk) (stands_planned walk) walk.nest c.in-Fault.fault (option_map blame_kept o)
    c.requires.of.tree (ap (λ (x : Tree). x.nest) c.requires.of.tree) (c.requires.fault c.in-Fault.fault c.in-Fault.is) h))
    c.find_blame.ensures.is
