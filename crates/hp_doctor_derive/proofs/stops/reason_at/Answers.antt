use Rattle.std.proofs.Common.{◌≡◌, true, ap, map, sym, subst, ◌∙◌}
use Rattle.hp_code.specs.Codes.{code_of}
use Rattle.hp_dead_ends.specs.Arriving.{HasArrived, is_small}
use Rattle.hp_doctor_derive.proofs.StopSteps.{followed_back}
use Rattle.hp_doctor_why.proofs.ReasonSteps.{reason_there, tree_known}
use Rattle.hp_doctor_why.specs.Reasons.{lowered_tree}
use Rattle.hp_doctor_why.specs.Searches.{tree_searched}
use Rattle.hp_doctor_why.specs.Whys.{kept}
use Rattle.hp_net.specs.Standings.{Tree}
use Rattle.hp_search.specs.Planned.{stands_planned, tree_planned}
use Rattle.hp_syntax.specs.GroundViews.{ground_of}
use Rattle.hp_doctor_derive.proofs.stops.reason_at.Goals as goal

pub stand_at-requires-clause-followed : goal.stand_at-requires-clause-followed
stand_at-requires-clause-followed c =
    let t = tree_searched c.args.search in
    let s = tree_planned c.in_ok-walk.walk in
    followed_back c.lowered_rules_have_the_tree.ensures.visits (map ground_of c.args.steps.now) t s
    (tree_known (code_of c.args.search.code.now) t s
    (c.compiled_rules_are_a_code.ensures.reads t.rules (code_of c.args.search.code.now) c.requires.search.code)
    c.in_ok-walk.ensures.tree) c.args.path.now c.requires.followed

pub returns-then-branch : goal.returns-then-branch
returns-then-branch c =
    let t = tree_searched c.args.search in
    let s = tree_planned c.stand_at.new.walk in
    let at = stands_planned c.stand_at.new.walk in
    let path = c.args.path.now in
    let is : s ≡ lowered_tree t = c.stand_at.ensures.tree
    ∙ tree_known (code_of c.args.search.code.now) t (tree_planned c.in_ok-walk.walk)
    (c.compiled_rules_are_a_code.ensures.reads t.rules (code_of c.args.search.code.now) c.requires.search.code)
    c.in_ok-walk.ensures.tree in
    let small : is_small path ≡ true = sym c.in_ok-stand_at.ensures.is ∙ c.if-branch.true in
    let there : HasArrived s at path =
    subst (λ (x : Tree). HasArrived x at path) (sym c.stand_at.ensures.tree)
    (c.in_ok-stand_at.ensures.there c.if-branch.true) in
    reason_there t s at c.stand_at.new.walk.nest path (kept c.in_ok-found.found) c.lowered_rules_have_the_tree.ensures.nodes is
    (ap (λ (x : Tree). x.nest) is) small there c.in_ok-found.ensures
