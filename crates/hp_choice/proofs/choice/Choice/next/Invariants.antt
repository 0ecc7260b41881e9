use Rattle.std.proofs.Common.{◌≡◌, ◌<◌, ◌≤◌, length}
use Rattle.hp_eval.specs.Growth.{Grows}
use Rattle.hp_world.specs.Pasts.{PastsBelow}
use Rattle.hp_world.specs.Recorded.{history_in}
use Rattle.hp_precondition.specs.Picks.{picked_kept}
use Rattle.hp_tree.specs.Children.{IsCandidate}
use Rattle.hp_site.specs.Sites.{IsSite, Keeps, held_now, mark_now}
use Rattle.hp_choice.specs.Choices.{IsChoice, events_left, held_children}
use Rattle.hp_choice.specs.Served.{ServesStill}
use Rattle.hp_choice.proofs.choice.Choice.next.Given as goal

abbrev pub invariant-loop-event : goal.invariant-loop-event
invariant-loop-event l = record {
  grows : Grows l.fn.cells l.cells;
  choice : IsChoice l.site.scene l.cells (length l.cells) (held_now l.site).stage l.self;
  candidate : IsCandidate l.site.net.now l.self.id;
  site : IsSite l.cells l.site;
  pasts : PastsBelow (picked_kept l.self.sats) (history_in l.site.scene.world);
  deep : 0 < l.site.depth;
  keeps : Keeps (mark_now l.fn.site) l.fn.site l.site;
  stays : mark_now l.site ≡ mark_now l.fn.site;
  left : held_children l.fn.site.scene l.fn.nest l.fn.cells (held_now l.fn.site) l.fn.self
      ≡ held_children l.site.scene l.fn.nest l.cells (held_now l.site) l.self;
  kept : picked_kept l.fn.self.sats ≤ picked_kept l.self.sats;
  id : l.self.id ≡ l.fn.self.id;
  served : ServesStill l.fn.self l.self;
}

abbrev pub decreases-loop-event : goal.decreases-loop-event
decreases-loop-event l = length (events_left l.site.scene l.cells (held_now l.site).stage l.self)
