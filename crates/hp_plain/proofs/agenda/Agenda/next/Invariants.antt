use Rattle.std.proofs.Common.{◌≡◌, length}
use Rattle.hp_eval.specs.Growth.{Grows}
use Rattle.hp_plain.specs.Agendas.{rules_of, agenda_children, work_left, IsAgenda}
use Rattle.hp_plain.proofs.agenda.Agenda.next.Given as goal

abbrev pub invariant-loop-child : goal.invariant-loop-child
invariant-loop-child l = record {
  grows : Grows l.fn.cells l.cells;
  agenda : IsAgenda (rules_of l.context) (length l.cells) l.node l.self;
  left : agenda_children (rules_of l.context) l.context.nest l.fn.cells l.node l.fn.self
      ≡ agenda_children (rules_of l.context) l.context.nest l.cells l.node l.self;
}

abbrev pub decreases-loop-child : goal.decreases-loop-child
decreases-loop-child l = work_left (rules_of l.context) l.self.queue
