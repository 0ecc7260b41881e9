use Rattle.std.proofs.Common.{◌≡◌, ◌-◌, length}
use Rattle.hp_eval.specs.Growth.{Grows}
use Rattle.hp_plain.specs.Agendas.{rules_of, choice_children, IsChoice}
use Rattle.hp_plain.proofs.agenda.OpenChoice.next.Given as goal

abbrev pub invariant-loop-self : goal.invariant-loop-self
invariant-loop-self l = record {
  grows : Grows l.fn.cells l.cells;
  choice : IsChoice (length l.cells) l.node l.self;
  left : choice_children (rules_of l.fn.context) l.fn.context.nest l.fn.cells l.node l.fn.self
      ≡ choice_children (rules_of l.fn.context) l.fn.context.nest l.cells l.node l.self;
  id : l.self.id ≡ l.fn.self.id;
  task : l.self.task ≡ l.fn.self.task;
}

abbrev pub decreases-loop-self : goal.decreases-loop-self
decreases-loop-self l = length l.self.choice.found.items - l.self.next
