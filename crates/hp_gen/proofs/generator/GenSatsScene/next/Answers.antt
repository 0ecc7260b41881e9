use Rattle.std.proofs.Common.{refl}
use Rattle.hp_suspended.specs.Views.{view}
use Rattle.hp_gen.proofs.GenSteps.{fits_all, gen_hears, suits_on, suits_end, slots_end}
use Rattle.hp_gen.proofs.generator.GenSatsScene.next.Goals as goal

pub next-requires-clause-fits : goal.next-requires-clause-fits
next-requires-clause-fits c =
    fits_all c.args.self.now c.args.base.now c.args.cells.now c.args.slots.now c.requires.base c.requires.slots
    c.requires.cells

pub returns-in-Ok-clause-event : goal.returns-in-Ok-clause-event
returns-in-Ok-clause-event c =
    (gen_hears c.args.self.now c.args.base.now c.args.cells.now c.args.slots.now c.requires.base c.requires.slots
    c.requires.cells _ c.next.ensures.moves.grows c.in-Ok.event c.next.new.slots
    (view c.next.new.self) c.in-Ok.ensures.gives c.in-Ok.ensures.leaves).event

pub returns-in-Ok-clause-rest : goal.returns-in-Ok-clause-rest
returns-in-Ok-clause-rest c =
    (gen_hears c.args.self.now c.args.base.now c.args.cells.now c.args.slots.now c.requires.base c.requires.slots
    c.requires.cells _ c.next.ensures.moves.grows c.in-Ok.event c.next.new.slots
    (view c.next.new.self) c.in-Ok.ensures.gives c.in-Ok.ensures.leaves).rest

pub returns-in-Ok-clause-sat : goal.returns-in-Ok-clause-sat
returns-in-Ok-clause-sat c =
    (gen_hears c.args.self.now c.args.base.now c.args.cells.now c.args.slots.now c.requires.base c.requires.slots
    c.requires.cells _ c.next.ensures.moves.grows c.in-Ok.event c.next.new.slots
    (view c.next.new.self) c.in-Ok.ensures.gives c.in-Ok.ensures.leaves).sat

pub returns-in-Ok-clause-base : goal.returns-in-Ok-clause-base
returns-in-Ok-clause-base c =
    suits_on c.args.self.now c.args.base.now c.args.cells.now c.args.slots.now c.requires.base c.requires.slots
    c.requires.cells _ c.next.ensures.moves.grows _ _ c.in-Ok.ensures.keeps c.mark-self.ensures
    c.len-self.ensures.count refl

pub returns-in-Err-clause-base : goal.returns-in-Err-clause-base
returns-in-Err-clause-base c =
    suits_end c.args.self.now c.args.base.now c.args.cells.now c.args.slots.now c.requires.base c.requires.slots
    c.requires.cells _ c.next.ensures.moves.grows c.fail.new.self c.fail.ensures.left c.fail.ensures.bound
    c.fail.ensures.kept c.fail.ensures.mark

pub returns-in-Err-clause-slots : goal.returns-in-Err-clause-slots
returns-in-Err-clause-slots c =
    rw c.fail.ensures.slots
    (slots_end c.args.self.now c.args.base.now c.args.cells.now c.args.slots.now c.requires.base c.requires.slots
    c.requires.cells _ c.next.ensures.moves.grows c.fail.new.self c.next.new.slots c.next.ensures.moves
    c.fail.ensures.bound c.fail.ensures.kept c.fail.ensures.mark)

pub returns-in-Err-clause-below : goal.returns-in-Err-clause-below
returns-in-Err-clause-below c =
    rw c.fail.ensures.slots
    (slots_end c.args.self.now c.args.base.now c.args.cells.now c.args.slots.now c.requires.base c.requires.slots
    c.requires.cells _ c.next.ensures.moves.grows c.fail.new.self c.next.new.slots c.next.ensures.moves
    c.fail.ensures.bound c.fail.ensures.kept c.fail.ensures.mark).below
