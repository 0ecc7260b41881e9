use Rattle.std.proofs.Common.{◌≡◌, ◌+◌, ◌<◌, length, map, drop, ap, sym, ◌∙◌, subst, rules}
use Rattle.std.specs.Prelude.{flat_map, slice_get}
use Rattle.std.proofs.lemmas.List.{length-map}
use Rattle.hp_syntax.specs.Events.{chosen}
use Rattle.hp_syntax.specs.Views.{branch_of}
use Rattle.hp_answers.specs.AnswerViews.{answer_event}
use Rattle.hp_eval.specs.Slotted.{bindings_of}
use Rattle.hp_eval.proofs.GrowthLemmas.{below_grows, grows_on}
use Rattle.hp_syntax.specs.Walk.{child_of}
use Rattle.hp_world.specs.Stages.{StageBelow}
use Rattle.hp_answers.proofs.AnswerLemmas.{stage_below_grows}
use Rattle.hp_tree.specs.Children.{branch_done}
use Rattle.hp_tree.proofs.ChildLemmas.{branch_chosen}
use Rattle.hp_plain.specs.Candidates.{rules_at, nest_at, own_node, place_at}
use Rattle.hp_plain.proofs.CandidateSteps.{precondition_stays, branch_met, branch_there, finds_below}
use Rattle.hp_satisfiers.proofs.ChosenBranches.{chosen_left, chosen_here, chosen_passes}
use Rattle.hp_plain.proofs.candidate.Candidate.first_branch.Goals as goal

pub returns-then-not-is_empty-clause-chooses : goal.returns-then-not-is_empty-clause-chooses
returns-then-not-is_empty-clause-chooses c =
    let old = c.args.cells.now in
    let mid = c.loop-i.cells in
    let s = c.args.self.now in
    let n = own_node old s in
    let slots = c.args.slots.now in
    let e = bindings_of old slots in
    let met = branch_met (rules_at s) (nest_at s) n.state e in
    let branches = c.args.branches.now in
    let i = c.loop-i.i in
    let b = c.index-branches-i.result in
    let items = c.in_ok-found.found.items in
    let held = c.loop-i.invariant in
    let some : 0 < length items = search rules in
    let finds = finds_below c.precondition.new.cells (length slots.values) items _ _
    (precondition_stays s old mid held.grows c.requires.candidate b.pre slots c.requires.slots)
    c.in_ok-found.ensures.finds in
    record {
      stand =
          ap (λ xs. flat_map (child_of (branch_done n (place_at s) (slice_get
          (map branch_of branches) i))) xs) finds.stand
          ∙ branch_chosen n (place_at s) (map branch_of branches) i (branch_of b) _ _
          (branch_there branches i b c.loop-i-test.true c.index-branches-i.is)
          (held.left ∙ (chosen_left met branch_of branches i b c.loop-i-test.true c.index-branches-i.is
          ∙ chosen_here (branch_of b) (met (branch_of b)) (chosen met (map branch_of (drop (i + 1) branches)))
          (subst (λ k. 0 < k) (sym (length-map items (answer_event c.precondition.new.cells))
          ∙ ap length finds.stand) some)));
      below = finds.below;
    }

pub loop-i-preserved : goal.loop-i-preserved
loop-i-preserved c =
    let old = c.args.cells.now in
    let mid = c.loop-i.cells in
    let s = c.args.self.now in
    let n = own_node old s in
    let slots = c.args.slots.now in
    let e = bindings_of old slots in
    let met = branch_met (rules_at s) (nest_at s) n.state e in
    let branches = c.args.branches.now in
    let i = c.loop-i.i in
    let b = c.index-branches-i.result in
    let items = c.in_ok-found.found.items in
    let held = c.loop-i.invariant in
    let none : length items ≡ 0 = search rules in
    let finds = finds_below c.precondition.new.cells (length slots.values) items _ _
    (precondition_stays s old mid held.grows c.requires.candidate b.pre slots c.requires.slots)
    c.in_ok-found.ensures.finds in
    let lengths = ap length finds.stand in
    let empty = length-map items (answer_event c.precondition.new.cells) in
    record {
      grows = grows_on old mid c.precondition.new.cells held.grows c.in_ok-found.ensures.cells;
      left =
          held.left ∙ (chosen_left met branch_of branches i b c.loop-i-test.true c.index-branches-i.is
          ∙ chosen_passes (branch_of b) (met (branch_of b)) (chosen met (map branch_of (drop (i + 1) branches)))
          (sym lengths ∙ (empty ∙ none)));
    }

pub returns-in_err-found-clause-cells : goal.returns-in_err-found-clause-cells
returns-in_err-found-clause-cells c =
    grows_on c.args.cells.now c.loop-i.cells c.precondition.new.cells c.loop-i.invariant.grows
    c.precondition.ensures.cells

pub returns-then-not-is_empty-clause-cells : goal.returns-then-not-is_empty-clause-cells
returns-then-not-is_empty-clause-cells c =
    grows_on c.args.cells.now c.loop-i.cells c.precondition.new.cells c.loop-i.invariant.grows
    c.precondition.ensures.cells

pub precondition-requires-clause-slots : goal.precondition-requires-clause-slots
precondition-requires-clause-slots c =
    below_grows c.args.cells.now c.loop-i.cells c.loop-i.invariant.grows c.args.slots.now c.requires.slots

pub precondition-requires-clause-world : goal.precondition-requires-clause-world
precondition-requires-clause-world c =
    let old = c.args.cells.now in
    let mid = c.loop-i.cells in
    let world = c.args.self.now.node.now.world in
    subst (λ w. StageBelow (length mid) w.now) (sym c.requires.candidate.world)
    (stage_below_grows old mid c.loop-i.invariant.grows world.now c.requires.candidate.node.stage)

pub returns-clause-cells : goal.returns-clause-cells
returns-clause-cells c = c.loop-i.invariant.grows
