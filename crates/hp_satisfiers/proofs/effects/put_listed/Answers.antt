use Rattle.std.proofs.Common.{length, sym, ◌∙◌, ap, subst}
use Rattle.hp_syntax.specs.Views.{atoms_of}
use Rattle.hp_eval.specs.Slotted.{no_bindings}
use Rattle.hp_eval.proofs.GrowthLemmas.{grows_self}
use Rattle.hp_world.specs.Stages.{changes_of}
use Rattle.hp_effect.specs.Gathering.{each_going, PutsAll}
use Rattle.hp_answers.specs.AnswerViews.{AllFit}
use Rattle.hp_satisfiers.proofs.PreconditionSteps.{new_vars}
use Rattle.hp_satisfiers.proofs.effects.put_listed.Goals as goal

pub new-sats-requires-clause-blank : goal.new-sats-requires-clause-blank
new-sats-requires-clause-blank c =
    let vars = new_vars c.in_ok-slots.slots c.args.vars c.in_ok-slots.ensures in
    c.in_ok-slots.ensures ∙ ap no_bindings (sym vars)

pub new-sats-requires-clause-fit : goal.new-sats-requires-clause-fit
new-sats-requires-clause-fit c =
    let vars = new_vars c.in_ok-slots.slots c.args.vars c.in_ok-slots.ensures in
    subst (λ n. AllFit n (length c.args.cells.now) c.args.found.items) (sym vars) c.requires.fit

pub returns-clause-puts : goal.returns-clause-puts
returns-clause-puts c =
    let old = c.args.cells.now in
    let same = ap (each_going (atoms_of c.args.atoms.now.items)) (c.new-sats.ensures.rest old c.in_ok-slots.slots) in
    subst
    (λ g. PutsAll {A = Unit {0}} c.args.side c.put_each.result g c.put_each.new.cells
    (changes_of old c.args.changes.now) c.put_each.new.changes) same c.put_each.ensures.puts

pub returns-in_err-slots-clause-cells : goal.returns-in_err-slots-clause-cells
returns-in_err-slots-clause-cells c = grows_self c.args.cells.now

pub returns-clause-cells : goal.returns-clause-cells
returns-clause-cells c = c.put_each.ensures.cells
