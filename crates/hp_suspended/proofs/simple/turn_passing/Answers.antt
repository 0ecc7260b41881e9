use Rattle.std.proofs.Common.{None, sym, subst}
use Rattle.hp_syntax.specs.Views.{atom_of}
use Rattle.hp_suspended.specs.SceneViews.{setting_of}
use Rattle.hp_suspended.specs.SimpleAtoms.{TurnsPassing}
use Rattle.hp_suspended.proofs.PassingTurns.{turn_ended, turn_taken}
use Rattle.hp_suspended.proofs.simple.turn_passing.Goals as goal

pub returns-in-Some-clause-left : goal.returns-in-Some-clause-left
returns-in-Some-clause-left c = λ terms grows.
    turn_taken (setting_of c.args.scene.now c.args.cells.now) terms (atom_of c.args.atom.now) c.args.filter.now grows
    c.requires.atoms c.requires.filter c.args.slots.now c.requires.slots c.match_at.result c.args.from.now
    c.in-Some.place c.match_at.new.slots c.match_at.ensures.below c.in-Some.ensures c.match_at.ensures.gives

pub returns-in-None-clause-left : goal.returns-in-None-clause-left
returns-in-None-clause-left c = λ terms grows.
    let s = c.args.slots.now in
    let a = atom_of c.args.atom.now in
    subst (λ n. TurnsPassing None (setting_of c.args.scene.now terms) a c.args.filter.now c.args.from.now n s s)
    (sym c.places-end.ensures)
    (turn_ended (setting_of c.args.scene.now c.args.cells.now) terms a c.args.filter.now grows c.requires.atoms
    c.requires.filter s c.requires.slots c.args.from.now c.in-None.ensures)
