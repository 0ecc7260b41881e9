use Rattle.std.proofs.Common.{◌≡◌, map}
use Rattle.std.proofs.lemmas.Result.{IfOk-weaker}
use Rattle.hp_code.specs.Codes.{code_of}
use Rattle.hp_doctor_derive.proofs.StopSteps.{followed_over, following_over, most_over}
use Rattle.hp_doctor_why.proofs.ReasonSteps.{tree_known}
use Rattle.hp_doctor_why.specs.Reasons.{lowered_tree}
use Rattle.hp_doctor_why.specs.Searches.{tree_searched}
use Rattle.hp_search.specs.Planned.{tree_planned}
use Rattle.hp_syntax.specs.GroundViews.{ground_of}
use Rattle.hp_doctor_derive.proofs.stops.follow_pair.Goals as goal

pub returns-clause-following : goal.returns-clause-following
returns-clause-following c =
    let t = tree_searched c.args.search in
    let s = tree_planned c.in_ok-walk.walk in
    let is : s ≡ lowered_tree t = tree_known (code_of c.args.search.code.now) t s
    (c.compiled_rules_are_a_code.ensures.reads t.rules (code_of c.args.search.code.now) c.requires.search.code)
    c.in_ok-walk.ensures.tree in
    IfOk-weaker c.follow.result _ _
    (λ f h. following_over c.lowered_rules_have_the_tree.ensures.visits (map ground_of c.args.steps.now) t s is f h)
    c.follow.ensures.following

pub returns-clause-followed : goal.returns-clause-followed
returns-clause-followed c =
    let t = tree_searched c.args.search in
    let s = tree_planned c.in_ok-walk.walk in
    let is : s ≡ lowered_tree t = tree_known (code_of c.args.search.code.now) t s
    (c.compiled_rules_are_a_code.ensures.reads t.rules (code_of c.args.search.code.now) c.requires.search.code)
    c.in_ok-walk.ensures.tree in
    IfOk-weaker c.follow.result _ _
    (λ f h n. followed_over c.lowered_rules_have_the_tree.ensures.visits (map ground_of c.args.steps.now) t s is
    f.path.items (h n))
    c.follow.ensures.followed

pub returns-clause-most : goal.returns-clause-most
returns-clause-most c =
    let t = tree_searched c.args.search in
    let s = tree_planned c.in_ok-walk.walk in
    let is : s ≡ lowered_tree t = tree_known (code_of c.args.search.code.now) t s
    (c.compiled_rules_are_a_code.ensures.reads t.rules (code_of c.args.search.code.now) c.requires.search.code)
    c.in_ok-walk.ensures.tree in
    IfOk-weaker c.follow.result _ _
    (λ f h. most_over c.lowered_rules_have_the_tree.ensures.visits (map ground_of c.args.steps.now) t s is f h)
    c.follow.ensures.most
