use Rattle.std.proofs.Common.{◌≡◌, ◌+◌, [], IfSome, Some, length, refl, ap, sym, subst, ◌∙◌, is_some, arith}
use Rattle.std.proofs.lemmas.Option.{same_Some}
use Rattle.hp_eval.specs.Slotted.{AreBelow, bindings_of}
use Rattle.hp_eval.proofs.GrowthLemmas.{below_grows, grows_on, grows_self}
use Rattle.hp_nodes.specs.NodeViews.{laid_of}
use Rattle.hp_nodes.specs.Trees.{Laid}
use Rattle.hp_precondition.specs.Picks.{picked_rest}
use Rattle.hp_suspended.specs.SceneViews.{code_in, setting_of}
use Rattle.hp_suspended.specs.Settings.{state_in}
use Rattle.hp_suspended.proofs.CallLemmas.{ready_grows}
use Rattle.hp_code.specs.CodeViews.{rules_in}
use Rattle.hp_method.specs.declared.chosen.Chosen.{Chosen}
use Rattle.hp_method.specs.Branches.{AreBranchesIn, IsChosenAt}
use Rattle.hp_method.proofs.BranchNodes.{branches_end, stands_branch}
use Rattle.hp_method.proofs.ChosenEvents.{BranchesLeft, BranchesPassed, events_stay, heard_nothing, heard_some, left_chosen, left_none, left_passes, passed_chosen, passed_next}
use Rattle.hp_method.proofs.chosen.chosen_branch.Goals as goal

pub loop-at-init : goal.loop-at-init
loop-at-init c = record {
  grows = grows_self c.args.cells.now;
  slots = refl;
  branches = c.requires.branches;
  left = λ bs is. record { rest = bs; is = is; same = refl };
  passed = λ bs is. record { passed = []; rest = bs; is = is; whole = refl; many = refl; none = refl };
  few = omega arith;
}

pub heard-requires-clause-ready : goal.heard-requires-clause-ready
heard-requires-clause-ready c =
    let held = c.loop-at.invariant in
    let old = c.args.cells.now in
    let now = c.loop-at.cells in
    ready_grows c.args.scene.now old now held.grows c.args.slots.now c.loop-at.slots c.requires.ready
    (subst (AreBelow (length now)) (sym held.slots)
    (below_grows old now held.grows c.args.slots.now c.requires.ready.bindings))

pub heard-requires-clause-node : goal.heard-requires-clause-node
heard-requires-clause-node c =
    let s = c.args.scene.now in
    let b = stands_branch (code_in s) s.code.now.kept c.loop-at.at c.args.end c.loop-at.invariant.branches
    c.loop-at-test.true in
    ap is_some b.reads

pub returns-in-Some-clause-chooses : goal.returns-in-Some-clause-chooses
returns-in-Some-clause-chooses c = λ bs is.
    let s = c.args.scene.now in
    let k = code_in s in
    let nest = c.args.nest in
    let old = c.args.cells.now in
    let now = c.loop-at.cells in
    let held = c.loop-at.invariant in
    let x = c.in-Some.chosen in
    let b = stands_branch k s.code.now.kept c.loop-at.at c.args.end held.branches c.loop-at-test.true in
    let stay = events_stay s old now c.args.slots.now c.loop-at.slots c.requires.ready held.grows held.slots nest
    b.branch in
    let h = heard_some s c.heard.new.cells c.loop-at.slots c.heard.new.slots b.branch c.in_ok-chosen.field-0 _ x
    c.in-Some.is (c.in_ok-chosen.ensures.hears b.branch b.reads) in
    record {
      branch = b.branch;
      is =
          left_chosen k c.loop-at.at c.args.end nest (state_in (setting_of s old)) (bindings_of old c.args.slots.now) bs
          (held.left bs is) b x.first (bindings_of c.heard.new.cells c.heard.new.slots)
          (picked_rest x.sats s c.heard.new.cells c.heard.new.slots)
          (sym stay ∙ h.0)
          h.1.0;
      tasks = h.1.1;
    }

pub returns-in-Some-clause-number : goal.returns-in-Some-clause-number
returns-in-Some-clause-number c = λ bs is.
    let s = c.args.scene.now in
    let k = code_in s in
    let nest = c.args.nest in
    let old = c.args.cells.now in
    let now = c.loop-at.cells in
    let st = state_in (setting_of s old) in
    let e = bindings_of old c.args.slots.now in
    let held = c.loop-at.invariant in
    let x = c.in-Some.chosen in
    let b = stands_branch k s.code.now.kept c.loop-at.at c.args.end held.branches c.loop-at-test.true in
    let stay = events_stay s old now c.args.slots.now c.loop-at.slots c.requires.ready held.grows held.slots nest
    b.branch in
    let h = heard_some s c.heard.new.cells c.loop-at.slots c.heard.new.slots b.branch c.in_ok-chosen.field-0 _ x
    c.in-Some.is (c.in_ok-chosen.ensures.hears b.branch b.reads) in
    let number : x.number ≡ c.loop-at.number =
    subst (λ o. IfSome o (λ (y : Chosen). y.number ≡ c.loop-at.number)) c.in-Some.is c.in_ok-chosen.ensures.number in
    subst (IsChosenAt (rules_in k) nest st e bs) (sym number)
    (passed_chosen k c.loop-at.at c.args.end nest st e bs c.loop-at.number (held.passed bs is) b _
    (left_chosen k c.loop-at.at c.args.end nest st e bs (held.left bs is) b x.first
    (bindings_of c.heard.new.cells c.heard.new.slots) (picked_rest x.sats s c.heard.new.cells c.heard.new.slots)
    (sym stay ∙ h.0) h.1.0))

pub loop-at-smaller : goal.loop-at-smaller
loop-at-smaller c =
    let s = c.args.scene.now in
    let b = stands_branch (code_in s) s.code.now.kept c.loop-at.at c.args.end c.loop-at.invariant.branches
    c.loop-at-test.true in
    let same = ap (λ (l : Laid). l.to) (same_Some b.node (laid_of c.node_at.result.now)
    (sym b.there ∙ c.node_at.ensures.is)) in
    omega (arith, same, b.more, c.loop-at-test.true)

pub loop-at-preserved : goal.loop-at-preserved
loop-at-preserved c =
    let s = c.args.scene.now in
    let k = code_in s in
    let nest = c.args.nest in
    let old = c.args.cells.now in
    let now = c.loop-at.cells in
    let e = bindings_of old c.args.slots.now in
    let held = c.loop-at.invariant in
    let b = stands_branch k s.code.now.kept c.loop-at.at c.args.end held.branches c.loop-at-test.true in
    let stay = events_stay s old now c.args.slots.now c.loop-at.slots c.requires.ready held.grows held.slots nest
    b.branch in
    let same = same_Some b.node (laid_of c.node_at.result.now) (sym b.there ∙ c.node_at.ensures.is) in
    let h = heard_nothing s c.heard.new.cells c.loop-at.slots c.heard.new.slots b.branch c.in_ok-chosen.field-0 _
    c.in_default.not-Some (c.in_ok-chosen.ensures.hears b.branch b.reads) in
    record {
      grows = grows_on old now c.heard.new.cells held.grows c.heard.ensures.cells;
      slots = h.1 ∙ held.slots;
      branches = subst (λ (l : Laid). AreBranchesIn k l.to c.args.end) same b.branches;
      left = λ bs is.
          subst (λ (l : Laid). BranchesLeft k l.to c.args.end nest (state_in (setting_of s old)) e bs) same
          (left_passes k c.loop-at.at c.args.end nest (state_in (setting_of s old)) e bs (held.left bs is) b
          (sym stay ∙ h.0));
      passed = λ bs is.
          subst
          (λ (l : Laid). BranchesPassed k l.to c.args.end nest (state_in (setting_of s old)) e bs
          (c.loop-at.number + 1))
          same
          (passed_next k c.loop-at.at c.args.end nest (state_in (setting_of s old)) e bs c.loop-at.number
          (held.passed bs is) b (sym stay ∙ h.0) (c.loop-at.number + 1) refl);
      few = (let to = ap (λ (l : Laid). l.to) same in omega (arith, to, b.more, held.few));
    }

pub returns-clause-chooses : goal.returns-clause-chooses
returns-clause-chooses c = λ bs is.
    let s = c.args.scene.now in
    let old = c.args.cells.now in
    let held = c.loop-at.invariant in
    left_none (code_in s) c.loop-at.at c.args.end c.args.nest (state_in (setting_of s old))
    (bindings_of old c.args.slots.now) bs (held.left bs is)
    (branches_end (code_in s) c.loop-at.at c.args.end held.branches (omega (arith, c.loop-at-test.false)))
