use Rattle.std.proofs.Common.{ap, sym, subst, ◌∙◌}
use Rattle.hp_syntax.specs.Changes.{effect_values}
use Rattle.hp_syntax.specs.Syntax as syntax
use Rattle.hp_syntax.specs.Views.{atom_of}
use Rattle.hp_eval.specs.Slotted.{bindings_of}
use Rattle.hp_nodes.specs.NodeViews.{laid_of, operation_of}
use Rattle.hp_world.specs.Stages.{changes_of}
use Rattle.hp_suspended.specs.SceneViews.{code_in, setting_of}
use Rattle.hp_suspended.specs.Settings.{axioms_in, state_in}
use Rattle.hp_effect.specs.Gathering.{PutsAll}
use Rattle.hp_operator.proofs.BodyLemmas.{effect_by, effect_is, effect_within, no_effect, one_effect, there_is}
use Rattle.hp_operator.proofs.bodies.Doing.put_effect.Goals as goal

pub node_at-here-requires : goal.node_at-here-requires
node_at-here-requires c = effect_within (code_in c.args.self.now.scene.now) c.args.node c.requires.effect

pub unreachable-requires : goal.unreachable-requires
unreachable-requires c =
    let s = c.args.self.now.scene.now in
    let x = there_is _ c.requires.effect in
    no_effect c.node_at-here.result.now.op _ _ x.0
    (sym (effect_is (code_in s) c.args.node (laid_of c.node_at-here.result.now) c.node_at-here.ensures.is) ∙ x.1)
    c.in_default.not-Delete c.in_default.not-Unguard c.in_default.not-Add c.in_default.not-Guard
    c.in_default.not-Each

pub returns-in-Delete-clause-puts : goal.returns-in-Delete-clause-puts
returns-in-Delete-clause-puts c = λ x e.
    let s = c.args.self.now.scene.now in
    let w = setting_of s c.args.cells.now in
    let is = one_effect (code_in s) c.args.node (laid_of c.node_at-here.result.now) c.node_at-here.ensures.is x
    (syntax.Change (atom_of c.in-Delete.atom)) (ap (λ o. effect_by (operation_of o)) c.in-Delete.is) e in
    subst (λ y. PutsAll c.args.side c.put_atom.result (effect_values (axioms_in w) c.args.self.now.nest (state_in w) y
    (bindings_of c.args.cells.now c.args.slots.now)) c.put_atom.new.cells (changes_of c.args.cells.now c.args.changes.now)
    c.put_atom.new.changes) (sym is) c.put_atom.ensures.puts

pub returns-in-Add-clause-puts : goal.returns-in-Add-clause-puts
returns-in-Add-clause-puts c = λ x e.
    let s = c.args.self.now.scene.now in
    let w = setting_of s c.args.cells.now in
    let is = one_effect (code_in s) c.args.node (laid_of c.node_at-here.result.now) c.node_at-here.ensures.is x
    (syntax.Change (atom_of c.in-Add.atom)) (ap (λ o. effect_by (operation_of o)) c.in-Add.is) e in
    subst (λ y. PutsAll c.args.side c.put_atom-in-Add.result (effect_values (axioms_in w) c.args.self.now.nest (state_in w) y
    (bindings_of c.args.cells.now c.args.slots.now)) c.put_atom-in-Add.new.cells (changes_of c.args.cells.now c.args.changes.now)
    c.put_atom-in-Add.new.changes) (sym is) c.put_atom-in-Add.ensures.puts

pub returns-in-Unguard-clause-puts : goal.returns-in-Unguard-clause-puts
returns-in-Unguard-clause-puts c = λ x e.
    let s = c.args.self.now.scene.now in
    let w = setting_of s c.args.cells.now in
    let is = one_effect (code_in s) c.args.node (laid_of c.node_at-here.result.now) c.node_at-here.ensures.is x
    (syntax.Protection (atom_of c.in-Unguard.atom)) (ap (λ o. effect_by (operation_of o)) c.in-Unguard.is) e in
    subst (λ y. PutsAll c.args.side c.put_protection.result (effect_values (axioms_in w) c.args.self.now.nest (state_in w) y
    (bindings_of c.args.cells.now c.args.slots.now)) c.put_protection.new.cells (changes_of c.args.cells.now c.args.changes.now)
    c.put_protection.new.changes) (sym is) c.put_protection.ensures.puts

pub returns-in-Guard-clause-puts : goal.returns-in-Guard-clause-puts
returns-in-Guard-clause-puts c = λ x e.
    let s = c.args.self.now.scene.now in
    let w = setting_of s c.args.cells.now in
    let is = one_effect (code_in s) c.args.node (laid_of c.node_at-here.result.now) c.node_at-here.ensures.is x
    (syntax.Protection (atom_of c.in-Guard.atom)) (ap (λ o. effect_by (operation_of o)) c.in-Guard.is) e in
    subst (λ y. PutsAll c.args.side c.put_protection-in-Guard.result (effect_values (axioms_in w) c.args.self.now.nest (state_in w) y
    (bindings_of c.args.cells.now c.args.slots.now)) c.put_protection-in-Guard.new.cells (changes_of c.args.cells.now c.args.changes.now)
    c.put_protection-in-Guard.new.changes) (sym is) c.put_protection-in-Guard.ensures.puts
