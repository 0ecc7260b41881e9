use Rattle.std.proofs.Common.{◌≡◌, ◌∙◌}
use Rattle.hp_search.specs.Planned.{stands_planned, tree_planned}
use Rattle.hp_doctor_why.specs.Reasons.{lowered_tree}
use Rattle.hp_doctor_why.specs.Searches.{tree_searched}
use Rattle.hp_doctor_why.specs.Whys.{cut_of}
use Rattle.hp_doctor_why.proofs.ReasonSteps.{cut_there, held_back}
use Rattle.hp_doctor_why.proofs.reasons.cut_at.Goals as goal

pub go_to-requires-clause-held : goal.go_to-requires-clause-held
go_to-requires-clause-held c =
    held_back c.lowered_rules_have_the_tree.ensures.visits (tree_searched c.args.search) (tree_planned c.args.walk)
    c.requires.fresh.of.tree _ c.requires.held

pub returns-then-branch : goal.returns-then-branch
returns-then-branch c =
    let t = tree_searched c.args.search in
    let s = tree_planned c.go_to.new.walk in
    let is : s ≡ lowered_tree t = c.go_to.ensures.tree ∙ c.requires.fresh.of.tree in
    let there = c.in_ok-go_to.ensures.there c.if-branch.true in
    cut_there (lowered_tree t) s (stands_planned c.go_to.new.walk).path c.args.path.now (cut_of c.in_ok-found.found) is
    there.path c.in_ok-found.ensures
