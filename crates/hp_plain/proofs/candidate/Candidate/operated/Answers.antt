use Rattle.std.proofs.Common.{w64, FitsSigned, rules, ap, sym, subst, ◌∙◌, length}
use Rattle.std.proofs.lemmas.Int.{to_z-of_z}
use Rattle.std.proofs.lemmas.Result.{IfOk-weaker}
use Rattle.hp_syntax.specs.Changes.{apply, effects}
use Rattle.hp_syntax.specs.Views.{operator_of}
use Rattle.hp_eval.specs.Slotted.{bindings_of}
use Rattle.hp_world.specs.Stages.{changes_of, StageBelow}
use Rattle.hp_satisfiers.specs.EffectsOutcomes.{ComesTo}
use Rattle.hp_satisfiers.specs.Scenes.{axioms_in, state_in}
use Rattle.hp_syntax.specs.Walk.{operated}
use Rattle.hp_plain.specs.Candidates.{nest_at, own_node, own_task, place_at}
use Rattle.hp_tree.proofs.ChildLemmas.{after_went}
use Rattle.hp_tree.proofs.SearchNodeLemmas.{node_stays, term_stays}
use Rattle.hp_plain.specs.SearchNodes.{held}
use Rattle.hp_plain.proofs.CandidateLemmas.{candidate_grows}
use Rattle.hp_plain.proofs.CandidateSteps.{makes_same, effects_in}
use Rattle.hp_plain.proofs.candidate.Candidate.operated.Goals as goal

pub applied-requires-clause-candidate : goal.applied-requires-clause-candidate
applied-requires-clause-candidate c =
    candidate_grows c.args.cells.now c.effects.new.cells c.in_ok-changes.ensures.cells c.args.self.now
    c.requires.candidate

pub returns-in-Went-clause-makes : goal.returns-in-Went-clause-makes
returns-in-Went-clause-makes c =
    let old = c.args.cells.now in
    let new = c.effects.new.cells in
    let g = c.in_ok-changes.ensures.cells in
    let s = c.args.self.now in
    let fits = c.requires.candidate in
    let cost = c.in-Went.cost in
    let within : FitsSigned w64 cost = search rules in
    let told = subst (λ x. ComesTo x (effects (axioms_in s.scene) (nest_at s) (state_in old s.scene)
    (operator_of c.args.operator.now) (bindings_of old c.args.slots.now)) new) c.in-Went.is
    c.in_ok-changes.ensures.comes in
    let went = sym (effects_in (length old) s fits old c.args.operator.now c.args.slots.now) ∙ told.went in
    IfOk-weaker c.applied.result _ _
    (λ child h. makes_same new child _ _
    (ap (λ z. operated (own_node new s) (place_at s) (own_task new s) z
    (apply (own_node new s).state (own_node new s).guards (changes_of new c.in-Went.changes)))
    (to_z-of_z w64 cost within)
    ∙ after_went (own_node new s) (own_node old s) (place_at s) (node_stays old new g (held s.node.now) fits.node)
    (own_task new s) (own_task old s) (changes_of new c.in-Went.changes) cost _
    (term_stays old new g s.task fits.task) went) h)
    c.applied.ensures

pub effects-requires-clause-world : goal.effects-requires-clause-world
effects-requires-clause-world c =
    subst (λ w. StageBelow (length c.args.cells.now) w.now) (sym c.requires.candidate.world)
    c.requires.candidate.node.stage

pub returns-in-Cut-clause-cells : goal.returns-in-Cut-clause-cells
returns-in-Cut-clause-cells c = c.effects.ensures.cells

pub returns-in-Fault-clause-cells : goal.returns-in-Fault-clause-cells
returns-in-Fault-clause-cells c = c.effects.ensures.cells

pub returns-in-Went-clause-cells : goal.returns-in-Went-clause-cells
returns-in-Went-clause-cells c = c.effects.ensures.cells

pub returns-in_err-changes-clause-cells : goal.returns-in_err-changes-clause-cells
returns-in_err-changes-clause-cells c = c.effects.ensures.cells
