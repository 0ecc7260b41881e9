use Rattle.std.proofs.Common.{◌≡◌, ◌+◌, true, false, length, arith, sym, ap₂, subst, refl, rules}
use Rattle.std.specs.Prelude.{is_some, slice_get}
use Rattle.std.proofs.lemmas.List.Elements.{All-get_or}
use Rattle.hp_syntax.specs.Walk.{child_of}
use Rattle.hp_eval.specs.GoalViews.{term_at}
use Rattle.hp_eval.proofs.GrowthLemmas.{grows_on, grows_self, grows_length}
use Rattle.hp_answers.specs.AnswerViews.{answer_event, BindsBelow}
use Rattle.hp_tree.specs.Children.{place_in, done_by}
use Rattle.hp_tree.proofs.SearchNodeLemmas.{node_grows}
use Rattle.hp_plain.specs.Agendas.{rules_of}
use Rattle.hp_plain.specs.Children.{Makes}
use Rattle.hp_plain.specs.SearchNodes.{held, node_in}
use Rattle.hp_plain.proofs.AgendaSteps.{choice_grows, choice_from, choice_takes, choice_passes, choice_end, takes_none}
use Rattle.hp_plain.proofs.agenda.OpenChoice.next.Goals as goal

pub child-requires-clause-candidate : goal.child-requires-clause-candidate
child-requires-clause-candidate c =
    let old = c.args.cells.now in
    let mid = c.loop-self.cells in
    let at_first = c.requires.choice in
    record {
      node = node_grows old mid c.loop-self.invariant.grows (held c.args.node.now) c.requires.node;
      candidate = at_first.candidate;
      task =
          (let l = grows_length old mid c.loop-self.invariant.grows in
          let k = at_first.task in omega (arith, l, k));
      deep = at_first.deep;
      few = c.requires.few;
      book = refl;
      world = refl;
    }

pub child-requires-clause-found : goal.child-requires-clause-found
child-requires-clause-found c =
    let r = c.loop-self.self in
    let below = BindsBelow (length c.loop-self.cells) in
    subst below (sym c.index-found.ensures)
    (All-get_or below r.choice.found.items r.next c.index-found.result.now (omega arith)
    c.loop-self.invariant.choice.below)

pub returns-then-is_some-clause-takes : goal.returns-then-is_some-clause-takes
returns-then-is_some-clause-takes c =
    let old = c.args.cells.now in
    let mid = c.loop-self.cells in
    let new = c.child.new.cells in
    let context = c.args.context.now in
    let node = c.args.node.now in
    let r = c.loop-self.self in
    let before = c.loop-self.invariant in
    let some : is_some c.in_ok-child.child ≡ true = search rules in
    let makes = subst (Makes new c.in_ok-child.child)
    (ap₂ (λ i t. child_of (done_by (rules_of context) context.nest (node_in mid node) (place_in node.net.now i)
    (term_at mid t) (slice_get (rules_of context) r.rule) r.choice.branch) (answer_event mid c.index-found.result.now))
    (sym before.id) (sym before.task)) c.in_ok-child.ensures.makes in
    choice_takes mid new c.in_ok-child.ensures.cells (rules_of context) context.nest node
    (node_grows old mid before.grows (held node) c.requires.node) r before.choice c.index-found.result.now
    (omega arith) c.index-found.ensures c.in_ok-child.child _ before.left makes some

pub returns-then-is_some-clause-choice : goal.returns-then-is_some-clause-choice
returns-then-is_some-clause-choice c =
    let r = c.loop-self.self in
    choice_from (length c.child.new.cells) (r.next + 1) c.args.node.now r
    (choice_grows c.loop-self.cells c.child.new.cells c.in_ok-child.ensures.cells c.args.node.now r
    c.loop-self.invariant.choice)

pub loop-self-preserved : goal.loop-self-preserved
loop-self-preserved c =
    let old = c.args.cells.now in
    let mid = c.loop-self.cells in
    let new = c.child.new.cells in
    let context = c.args.context.now in
    let node = c.args.node.now in
    let r = c.loop-self.self in
    let before = c.loop-self.invariant in
    let none : is_some c.in_ok-child.child ≡ false = search rules in
    let makes = subst (Makes new c.in_ok-child.child)
    (ap₂ (λ i t. child_of (done_by (rules_of context) context.nest (node_in mid node) (place_in node.net.now i)
    (term_at mid t) (slice_get (rules_of context) r.rule) r.choice.branch) (answer_event mid c.index-found.result.now))
    (sym before.id) (sym before.task)) c.in_ok-child.ensures.makes in
    record {
      grows = grows_on old mid new before.grows c.in_ok-child.ensures.cells;
      choice =
          choice_from (length new) (r.next + 1) node r
          (choice_grows mid new c.in_ok-child.ensures.cells node r before.choice);
      left =
          choice_passes mid new c.in_ok-child.ensures.cells (rules_of context) context.nest node
          (node_grows old mid before.grows (held node) c.requires.node) r before.choice c.index-found.result.now
          (omega arith) c.index-found.ensures c.in_ok-child.child _ before.left makes none;
      id = before.id;
      task = before.task;
    }

pub loop-self-init : goal.loop-self-init
loop-self-init c = record {
  grows = grows_self c.args.cells.now;
  choice = c.requires.choice;
  left = refl;
  id = refl;
  task = refl;
}

pub returns-in_err-child-clause-cells : goal.returns-in_err-child-clause-cells
returns-in_err-child-clause-cells c =
    grows_on c.args.cells.now c.loop-self.cells c.child.new.cells c.loop-self.invariant.grows c.child.ensures.cells

pub returns-then-is_some-clause-cells : goal.returns-then-is_some-clause-cells
returns-then-is_some-clause-cells c =
    grows_on c.args.cells.now c.loop-self.cells c.child.new.cells c.loop-self.invariant.grows c.child.ensures.cells

pub returns-clause-takes : goal.returns-clause-takes
returns-clause-takes c =
    let context = c.args.context.now in
    takes_none c.loop-self.cells _ _ c.loop-self.invariant.left
    (choice_end (rules_of context) context.nest c.loop-self.cells c.args.node.now c.loop-self.self (omega arith))

pub returns-clause-cells : goal.returns-clause-cells
returns-clause-cells c = c.loop-self.invariant.grows

pub returns-clause-choice : goal.returns-clause-choice
returns-clause-choice c = c.loop-self.invariant.choice
