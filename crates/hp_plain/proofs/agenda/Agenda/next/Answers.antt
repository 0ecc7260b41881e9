use Rattle.std.proofs.Common.{◌≡◌, true, false, ◌∙◌, sym, subst, ◌<◌, ◌≤◌, rules, refl, length, arith}
use Rattle.std.specs.Prelude.{is_some}
use Rattle.hp_eval.proofs.GrowthLemmas.{grows_on, grows_self}
use Rattle.hp_tree.proofs.SearchNodeLemmas.{node_grows}
use Rattle.hp_plain.specs.Agendas.{rules_of, IsQueue, work_left}
use Rattle.hp_plain.specs.SearchNodes.{held}
use Rattle.hp_plain.proofs.AgendaSteps.{agenda_takes, agenda_passes, agenda_ends}
use Rattle.hp_plain.proofs.agenda.Agenda.next.Goals as goal

pub returns-then-is_some-clause-takes : goal.returns-then-is_some-clause-takes
returns-then-is_some-clause-takes c =
    let old = c.args.cells.now in
    let mid = c.loop-child.cells in
    let context = c.args.context.now in
    let node = c.args.node.now in
    let before = c.loop-child.invariant in
    let told = c.in_ok-child.ensures in
    let some : is_some c.in_ok-child.child ≡ true = search rules in
    agenda_takes mid c.next_of_open.new.cells told.cells (rules_of context) context.nest node
    (node_grows old mid before.grows (held node) c.requires.node) c.loop-child.self c.next_of_open.new.self
    c.in_ok-child.child _ before.left told.takes told.queue some

pub loop-child-preserved : goal.loop-child-preserved
loop-child-preserved c =
    let old = c.args.cells.now in
    let mid = c.loop-child.cells in
    let new = c.next_of_open.new.cells in
    let context = c.args.context.now in
    let node = c.args.node.now in
    let before = c.loop-child.invariant in
    let told = c.in_ok-child.ensures in
    let none : is_some c.in_ok-child.child ≡ false = search rules in
    record {
      grows = grows_on old mid c.advance.new.cells before.grows
          (grows_on mid new c.advance.new.cells told.cells c.in_ok-advance.ensures.cells);
      agenda = c.in_ok-advance.ensures.agenda;
      left =
          agenda_passes mid new told.cells (rules_of context) context.nest node
          (node_grows old mid before.grows (held node) c.requires.node) c.loop-child.self c.next_of_open.new.self
          c.in_ok-child.child _ before.left told.takes told.queue none
          ∙ c.in_ok-advance.ensures.left;
    }

pub next_of_open-requires : goal.next_of_open-requires
next_of_open-requires c = record {
  node =
      node_grows c.args.cells.now c.loop-child.cells c.loop-child.invariant.grows (held c.args.node.now)
      c.requires.node;
  few = c.requires.few;
  agenda = c.loop-child.invariant.agenda;
}

pub returns-in_err-child-clause-cells : goal.returns-in_err-child-clause-cells
returns-in_err-child-clause-cells c =
    grows_on c.args.cells.now c.loop-child.cells c.next_of_open.new.cells c.loop-child.invariant.grows
    c.next_of_open.ensures.cells

pub returns-then-is_some-clause-cells : goal.returns-then-is_some-clause-cells
returns-then-is_some-clause-cells c =
    grows_on c.args.cells.now c.loop-child.cells c.next_of_open.new.cells c.loop-child.invariant.grows
    c.next_of_open.ensures.cells

pub returns-then-is_some-clause-agenda : goal.returns-then-is_some-clause-agenda
returns-then-is_some-clause-agenda c = record {
  choice = c.in_ok-child.ensures.choice;
  queue =
      subst (IsQueue (rules_of c.args.context.now) c.args.node.now) (sym c.next_of_open.ensures.queue)
      c.loop-child.invariant.agenda.queue;
}

pub advance-requires : goal.advance-requires
advance-requires c =
    let old = c.args.cells.now in
    let mid = c.loop-child.cells in
    let new = c.next_of_open.new.cells in
    let node = c.args.node.now in
    record {
      node = node_grows old new (grows_on old mid new c.loop-child.invariant.grows c.next_of_open.ensures.cells)
          (held node) c.requires.node;
      few = c.requires.few;
      agenda = record {
        choice = c.in_ok-child.ensures.choice;
        queue =
            subst (IsQueue (rules_of c.args.context.now) node) (sym c.next_of_open.ensures.queue)
            c.loop-child.invariant.agenda.queue;
      };
      some = search rules;
    }

pub loop-child-smaller : goal.loop-child-smaller
loop-child-smaller c =
    let list = rules_of c.args.context.now in
    subst (λ q. work_left list c.advance.new.self.queue < work_left list q) c.next_of_open.ensures.queue
    c.in_ok-advance.ensures.less

pub returns-in_err-advance-clause-cells : goal.returns-in_err-advance-clause-cells
returns-in_err-advance-clause-cells c =
    let old = c.args.cells.now in
    let mid = c.loop-child.cells in
    let new = c.next_of_open.new.cells in
    grows_on old new c.advance.new.cells (grows_on old mid new c.loop-child.invariant.grows
    c.next_of_open.ensures.cells) c.advance.ensures.cells

pub loop-child-init : goal.loop-child-init
loop-child-init c = record { grows = grows_self c.args.cells.now; agenda = c.requires.agenda; left = refl }

pub returns-then-self-len-clause-cells : goal.returns-then-self-len-clause-cells
returns-then-self-len-clause-cells c =
    grows_on c.args.cells.now c.loop-child.cells c.next_of_open.new.cells c.loop-child.invariant.grows
    c.next_of_open.ensures.cells

pub returns-then-self-len-clause-agenda : goal.returns-then-self-len-clause-agenda
returns-then-self-len-clause-agenda c = record {
  choice = c.in_ok-child.ensures.choice;
  queue =
      subst (IsQueue (rules_of c.args.context.now) c.args.node.now) (sym c.next_of_open.ensures.queue)
      c.loop-child.invariant.agenda.queue;
}

pub returns-then-self-len-clause-takes : goal.returns-then-self-len-clause-takes
returns-then-self-len-clause-takes c =
    let old = c.args.cells.now in
    let mid = c.loop-child.cells in
    let context = c.args.context.now in
    let node = c.args.node.now in
    let queue = c.next_of_open.new.self.queue in
    let before = c.loop-child.invariant in
    let told = c.in_ok-child.ensures in
    let none : is_some c.in_ok-child.child ≡ false = search rules in
    let done : length queue.candidates.items ≤ queue.at = omega arith in
    agenda_ends mid c.next_of_open.new.cells told.cells (rules_of context) context.nest node
    (node_grows old mid before.grows (held node) c.requires.node) c.loop-child.self c.next_of_open.new.self
    c.in_ok-child.child _ before.left told.takes told.queue none done
