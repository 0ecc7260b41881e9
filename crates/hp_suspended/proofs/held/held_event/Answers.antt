use Rattle.std.proofs.Common.{[], ◌∷◌, cond, is_some, ap, ◌∙◌}
use Rattle.hp_syntax.specs.Events.{Sat}
use Rattle.hp_syntax.specs.Views.{atom_of}
use Rattle.hp_eval.specs.Slotted.{bindings_of}
use Rattle.hp_suspended.proofs.HeldLemmas.{held_gives}
use Rattle.hp_suspended.proofs.held.held_event.Goals as goal

pub is_concluded-requires : goal.is_concluded-requires
is_concluded-requires c = ap is_some c.requires.atom

pub returns-then-is_held : goal.returns-then-is_held
returns-then-is_held c = λ n terms g.
    let s = c.args.scene.now in
    held_gives s s.code.now.kept c.args.cells.now c.requires.ready.atoms c.args.slots.now c.requires.ready.bindings
    c.args.atom.now c.is_some.result c.is_some.ensures c.if-is_some.false c.is_concluded.result
    (c.is_concluded.ensures (atom_of c.args.atom.now) c.requires.atom) c.if-is_concluded.false
    c.as_slice-args.result.now c.as_slice-args.ensures.value
    c.in_ok-list.list c.in_ok-list.ensures c.is_held.result c.is_held.ensures n terms g
    ∙ ap (λ b. cond b (Sat (bindings_of terms c.args.slots.now) ∷ []) []) c.if-is_held.true

pub returns-else-is_held : goal.returns-else-is_held
returns-else-is_held c = λ n terms g.
    let s = c.args.scene.now in
    held_gives s s.code.now.kept c.args.cells.now c.requires.ready.atoms c.args.slots.now c.requires.ready.bindings
    c.args.atom.now c.is_some.result c.is_some.ensures c.if-is_some.false c.is_concluded.result
    (c.is_concluded.ensures (atom_of c.args.atom.now) c.requires.atom) c.if-is_concluded.false
    c.as_slice-args.result.now c.as_slice-args.ensures.value
    c.in_ok-list.list c.in_ok-list.ensures c.is_held.result c.is_held.ensures n terms g
    ∙ ap (λ b. cond b (Sat (bindings_of terms c.args.slots.now) ∷ []) []) c.if-is_held.false
