use Rattle.std.proofs.Common.{◌≡◌, [], length}
use Rattle.hp_eval.specs.Growth.{Grows}
use Rattle.hp_suspended.specs.SceneViews.{code_in}
use Rattle.hp_site.specs.Sites.{IsSite, held_now}
use Rattle.hp_agenda.specs.Agendas.{IsAgenda, agenda_children}
use Rattle.hp_agenda.specs.Begun.{HasLast}
use Rattle.hp_agenda.specs.Queues.{work_left}
use Rattle.hp_agenda.proofs.AgendaSteps.{Resumes}
use Rattle.hp_agenda.proofs.agenda.Agenda.next.Given as goal

abbrev pub invariant-loop-given : goal.invariant-loop-given
invariant-loop-given l = record {
  grows : Grows l.fn.cells l.cells;
  site : IsSite l.cells l.site;
  resumes : Resumes l.fn.site l.site;
  agenda : IsAgenda l.fn.site.scene l.cells l.base (length l.cells) (held_now l.fn.site) l.self;
  left : agenda_children l.fn.site.scene l.nest l.fn.cells (held_now l.fn.site) l.fn.self
      ≡ agenda_children l.fn.site.scene l.nest l.cells (held_now l.fn.site) l.self;
  last : HasLast l.fn.site.scene l.nest l.fn.cells (held_now l.fn.site) l.fn.self []
      → HasLast l.fn.site.scene l.nest l.cells (held_now l.fn.site) l.self [];
}

abbrev pub decreases-loop-given : goal.decreases-loop-given
decreases-loop-given l = work_left (code_in l.fn.site.scene) l.fn.site.net.now l.self.queue
