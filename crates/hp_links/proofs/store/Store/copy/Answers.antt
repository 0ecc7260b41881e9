use Rattle.std.proofs.Common.{List, ap, sym, subst}
use Rattle.hp_world.specs.Trails.{IsUndoable}
use Rattle.hp_links.specs.declared.undo.Change.{Change}
use Rattle.hp_links.specs.Frames.{Frame, frame_in}
use Rattle.hp_links.specs.Linked.{Linked}
use Rattle.hp_links.specs.Undoing.{undone, Fits, IsStage, stage_of}
use Rattle.hp_links.proofs.TrailSteps.{stage_now}
use Rattle.hp_links.proofs.store.Store.copy.Goals as goal

pub returns-clause-sound : goal.returns-clause-sound
returns-clause-sound c =
    let s = c.args.self.now in
    let with_frame : Frame → Linked = λ f. record {
      parts = f.parts;
      owners = f.owners;
      rows = f.rows;
      root = s.root;
      focus = s.focus;
      front = s.front;
    } in
    let stage = stage_now s.trail.items (stage_of s) c.requires in
    let same = ap with_frame c.in_ok-copy.ensures in
    subst (λ (ts : List Change). IsUndoable undone Fits IsStage ts (with_frame (frame_in c.in_ok-copy.field-0))) (sym c.new-trail.ensures.items)
    (subst IsStage (sym same) stage)
