use Rattle.hp_laws.proofs.ChildLemmas.{children_listing}
use Rattle.hp_laws.proofs.plan_laws.choices_are_the_children.Goals as goal

pub returns : goal.returns
returns c = λ rules nest n.
    let all = children_listing rules nest n in
    (all.list, all.same, all.order, all.dids)
