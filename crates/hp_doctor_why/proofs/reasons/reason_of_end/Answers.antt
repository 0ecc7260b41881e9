use Rattle.std.proofs.Common.{◌≡◌, List, ℕ, true, ap, sym, subst, ◌∙◌}
use Rattle.hp_dead_ends.specs.Arriving.{HasArrived, IsHeld, is_small}
use Rattle.hp_net.specs.Standings.{Tree}
use Rattle.hp_search.specs.Planned.{stands_planned, tree_planned}
use Rattle.hp_doctor_why.specs.Reasons.{lowered_tree}
use Rattle.hp_doctor_why.specs.Searches.{tree_searched}
use Rattle.hp_doctor_why.specs.Whys.{kept}
use Rattle.hp_doctor_why.proofs.ReasonSteps.{held_back, reason_there}
use Rattle.hp_doctor_why.proofs.reasons.reason_of_end.Goals as goal

pub go_to-requires-clause-held : goal.go_to-requires-clause-held
go_to-requires-clause-held c =
    let s = tree_planned c.args.walk in
    subst (λ (p : List ℕ). IsHeld s p) (sym c.as_slice.ensures.value)
    (held_back c.lowered_rules_have_the_tree.ensures.visits (tree_searched c.args.search) s c.requires.fresh.of.tree
    c.args.end.now.path.items c.requires.held)

pub returns-then-branch : goal.returns-then-branch
returns-then-branch c =
    let t = tree_searched c.args.search in
    let s = tree_planned c.go_to.new.walk in
    let at = stands_planned c.go_to.new.walk in
    let path = c.args.end.now.path.items in
    let is : s ≡ lowered_tree t = c.go_to.ensures.tree ∙ c.requires.fresh.of.tree in
    let small : is_small path ≡ true =
    ap is_small (sym c.as_slice.ensures.value) ∙ (sym c.in_ok-go_to.ensures.is ∙ c.if-branch.true) in
    let there : HasArrived s at path = subst (λ (p : List ℕ). HasArrived s at p) c.as_slice.ensures.value
    (subst (λ (x : Tree). HasArrived x at c.as_slice.result.now) (sym c.go_to.ensures.tree)
    (c.in_ok-go_to.ensures.there c.if-branch.true)) in
    reason_there t s at c.go_to.new.walk.nest path (kept c.in_ok-found.found) c.lowered_rules_have_the_tree.ensures.nodes is
    (ap (λ (x : Tree). x.nest) is) small there c.in_ok-found.ensures
