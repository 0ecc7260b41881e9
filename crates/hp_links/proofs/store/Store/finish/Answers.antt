use Rattle.std.proofs.Common.{[], ◌∷◌, ◌++◌, List, None, ap, sym, subst, ◌∙◌}
use Rattle.std.specs.List.{All}
use Rattle.hp_links.specs.declared.undo.Change.{Change}
use Rattle.hp_links.specs.Linked.{Linked, PartBelow}
use Rattle.hp_links.specs.Undoing.{stage_of}
use Rattle.hp_links.proofs.TrailSteps.{stage_now, noted_step}
use Rattle.hp_links.proofs.store.Store.finish.Goals as goal

pub take_out-change-requires-clause-stage : goal.take_out-change-requires-clause-stage
take_out-change-requires-clause-stage c =
    stage_now c.args.self.now.trail.items (stage_of c.args.self.now) c.requires.sound

pub returns-clause-sound : goal.returns-clause-sound
returns-clause-sound c =
    let trail = c.note.ensures.trail
    ∙ ap (λ v. v.items ++ c.take_out-change.result ∷ []) c.take_out-change.ensures.trail
    ∙ ap (λ (ts : List Change). ts ++ c.take_out-change.result ∷ []) c.reserve.ensures.items in
    (noted_step c.args.self.now c.note.new.self (stage_of c.take_out-change.new.self) c.take_out-change.result _ None
    c.requires.sound trail c.take_out-change.ensures.steps c.note.ensures.stage).0

pub returns-clause-past : goal.returns-clause-past
returns-clause-past c =
    let trail = c.note.ensures.trail
    ∙ ap (λ v. v.items ++ c.take_out-change.result ∷ []) c.take_out-change.ensures.trail
    ∙ ap (λ (ts : List Change). ts ++ c.take_out-change.result ∷ []) c.reserve.ensures.items in
    (noted_step c.args.self.now c.note.new.self (stage_of c.take_out-change.new.self) c.take_out-change.result _ None
    c.requires.sound trail c.take_out-change.ensures.steps c.note.ensures.stage).1

pub returns-clause-below : goal.returns-clause-below
returns-clause-below c = λ k h.
    subst (λ (s : Linked). All (PartBelow k) s.parts) (sym c.note.ensures.stage) (c.take_out-change.ensures.below k h)
