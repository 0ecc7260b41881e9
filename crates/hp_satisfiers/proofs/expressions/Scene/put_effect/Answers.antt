use Rattle.std.proofs.Common.{length, sym, ◌∙◌, ap, subst}
use Rattle.hp_syntax.specs.Changes.{effect_values}
use Rattle.hp_syntax.specs.Preconditions.{heard}
use Rattle.hp_syntax.specs.Views.{atoms_of, effect_of}
use Rattle.hp_eval.specs.Slotted.{bindings_of}
use Rattle.hp_eval.proofs.GrowthLemmas.{grows_on}
use Rattle.hp_world.specs.Stages.{changes_of}
use Rattle.hp_effect.specs.Gathering.{each_going, PutsAll}
use Rattle.hp_effect.proofs.GatheringLemmas.{changes_stay, changes_grow}
use Rattle.hp_answers.specs.AnswerViews.{AllFit, answer_events}
use Rattle.hp_satisfiers.specs.Scenes.{axioms_in, state_in}
use Rattle.hp_satisfiers.proofs.EffectSteps.{each_effect}
use Rattle.hp_satisfiers.proofs.expressions.Scene.put_effect.Goals as goal

pub put_listed-requires-clause-fit : goal.put_listed-requires-clause-fit
put_listed-requires-clause-fit c =
    let n = length c.events.new.cells in
    subst (λ m. AllFit m n c.in_ok-found-in-Forall.found.items) (sym c.vars.ensures.vars)
    c.in_ok-found-in-Forall.ensures.fit

pub returns-in_ok-found-in-Forall-clause-puts : goal.returns-in_ok-found-in-Forall-clause-puts
returns-in_ok-found-in-Forall-clause-puts c =
    let side = c.args.side in
    let old = c.args.cells.now in
    let mid = c.events.new.cells in
    let new = c.put_listed.new.cells in
    let axioms = axioms_in c.args.self.now in
    let state = state_in old c.args.self.now in
    let e = bindings_of old c.args.slots.now in
    let as' = atoms_of c.in-Forall.atoms.items in
    let events = heard (answer_events mid c.in_ok-found-in-Forall.found.items) in
    let after = c.put_listed.new.changes in
    let put = each_going as' events in
    let same =
    ap (each_going as') c.in_ok-found-in-Forall.ensures.found
    ∙ each_effect axioms c.args.nest state e c.args.effect.now c.in-Forall.field-0 c.in-Forall.expr c.in-Forall.atoms
    c.in-Forall.is in
    let stay = changes_stay old mid c.events.ensures.cells c.args.changes.now c.requires.below in
    subst (λ g. PutsAll {A = Unit {0}} side c.put_listed.result g new (changes_of old c.args.changes.now) after) same
    (subst (λ x. PutsAll {A = Unit {0}} side c.put_listed.result put new x after) stay c.put_listed.ensures.puts)

pub returns-in_ok-found-in-Forall-clause-cells : goal.returns-in_ok-found-in-Forall-clause-cells
returns-in_ok-found-in-Forall-clause-cells c =
    grows_on c.args.cells.now c.events.new.cells c.put_listed.new.cells c.events.ensures.cells
    c.put_listed.ensures.cells

pub put_listed-requires-clause-below : goal.put_listed-requires-clause-below
put_listed-requires-clause-below c =
    changes_grow c.args.cells.now c.events.new.cells c.events.ensures.cells c.args.changes.now c.requires.below

pub returns-in-Atom-clause-puts : goal.returns-in-Atom-clause-puts
returns-in-Atom-clause-puts c =
    let old = c.args.cells.now in
    let state = state_in old c.args.self.now in
    let e = bindings_of old c.args.slots.now in
    subst
    (λ x. PutsAll {A = Unit {0}} c.args.side c.put_atom.result
    (effect_values (axioms_in c.args.self.now) c.args.nest state (effect_of x) e) c.put_atom.new.cells
    (changes_of old c.args.changes.now) c.put_atom.new.changes) (sym c.in-Atom.is)
    c.put_atom.ensures.puts

pub returns-in-Atom-clause-cells : goal.returns-in-Atom-clause-cells
returns-in-Atom-clause-cells c = c.put_atom.ensures.cells

pub returns-in-Protection-clause-puts : goal.returns-in-Protection-clause-puts
returns-in-Protection-clause-puts c =
    let old = c.args.cells.now in
    let state = state_in old c.args.self.now in
    let e = bindings_of old c.args.slots.now in
    subst
    (λ x. PutsAll {A = Unit {0}} c.args.side c.put_protection.result
    (effect_values (axioms_in c.args.self.now) c.args.nest state (effect_of x) e) c.put_protection.new.cells
    (changes_of old c.args.changes.now) c.put_protection.new.changes) (sym c.in-Protection.is)
    c.put_protection.ensures.puts

pub returns-in-Protection-clause-cells : goal.returns-in-Protection-clause-cells
returns-in-Protection-clause-cells c = c.put_protection.ensures.cells

pub returns-in_err-found-in-Forall-clause-cells : goal.returns-in_err-found-in-Forall-clause-cells
returns-in_err-found-in-Forall-clause-cells c = c.events.ensures.cells
