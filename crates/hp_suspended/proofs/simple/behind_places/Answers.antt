use Rattle.std.proofs.lemmas.Result.{IfOk-weaker}
use Rattle.std.proofs.Common.{is_some, ap, arith}
use Rattle.hp_syntax.specs.Views.{atom_of}
use Rattle.hp_eval.specs.declared.event.Event.TheVariants as events
use Rattle.hp_suspended.specs.Views.{view}
use Rattle.hp_suspended.proofs.BehindPlaces.{behind_filled, behind_none}
use Rattle.hp_suspended.proofs.Shapes.{view_one}
use Rattle.hp_suspended.proofs.simple.behind_places.Goals as goal

pub is_concluded-requires : goal.is_concluded-requires
is_concluded-requires c = ap is_some c.requires.atom

pub returns-then-is_concluded-clause-behind : goal.returns-then-is_concluded-clause-behind
returns-then-is_concluded-clause-behind c =
    let s = c.args.scene.now in
    let a = atom_of c.args.atom.now in
    let new = c.begun_atom.new.cells in
    IfOk-weaker c.begun_atom.result _ _
    (λ x h. behind_filled s c.args.mark c.args.nest a new c.args.slots.now c.requires.mark c.is_concluded.result
    (c.is_concluded.ensures a c.requires.atom) c.if-is_concluded.true c.args.cells.now c.begun_atom.ensures.cells
    c.requires.slots c.places-end.result (omega (arith, c.places-end.ensures)) (view x) h)
    c.begun_atom.ensures.begins

pub returns-clause-behind : goal.returns-clause-behind
returns-clause-behind c =
    let s = c.args.scene.now in
    let a = atom_of c.args.atom.now in
    behind_none s c.args.mark c.args.nest a c.args.cells.now c.args.slots.now c.requires.mark c.is_concluded.result
    (c.is_concluded.ensures a c.requires.atom) s.code.now.kept c.if-is_concluded.false _
    (view_one c.args.mark events.End)
