use Rattle.std.proofs.Common.{length, ap, sym, ◌<◌, subst}
use Rattle.std.proofs.lemmas.List.Elements.{All-nil}
use Rattle.hp_world.specs.Pasts.{PastsBelow}
use Rattle.hp_world.specs.Recorded.{history_in}
use Rattle.hp_world.specs.Stages.{StageBelow}
use Rattle.hp_tree.proofs.RootSteps.{untouched_below, world_begun}
use Rattle.hp_tree.proofs.root.fill.Goals as goal

pub returns-clause-state : goal.returns-clause-state
returns-clause-state c =
    (world_begun c.args.cells.now c.args.atoms.now c.in_ok-apply_in.field-0 (history_in c.args.world.now)
    (history_in c.apply_in.new.self) (ap (λ h. h.now) c.requires.empty) c.len.ensures.cells c.requires.below
    c.in_ok-apply_in.ensures.ok).0

pub returns-clause-guards : goal.returns-clause-guards
returns-clause-guards c =
    (world_begun c.args.cells.now c.args.atoms.now c.in_ok-apply_in.field-0 (history_in c.args.world.now)
    (history_in c.apply_in.new.self) (ap (λ h. h.now) c.requires.empty) c.len.ensures.cells c.requires.below
    c.in_ok-apply_in.ensures.ok).1

pub returns-clause-below : goal.returns-clause-below
returns-clause-below c =
    let n = length c.args.cells.now in
    let none = All-nil (λ k. k < n) in
    c.apply_in.ensures.below n
    (subst (λ h. StageBelow n h.now) (sym c.requires.empty) (record { atoms = none; guards = none }))
    (record { unguard = none; delete = none; add = c.requires.below; guard = none })

pub returns-clause-pasts : goal.returns-clause-pasts
returns-clause-pasts c =
    let n = length c.args.cells.now in
    c.apply_in.ensures.pasts n c.requires.below (subst (PastsBelow n) (sym c.requires.empty) (untouched_below n))
