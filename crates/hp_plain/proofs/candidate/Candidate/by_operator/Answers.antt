use Rattle.std.proofs.Common.{◌≡◌, ℕ, [], length, ◌∙◌, ap, sym, subst, arith}
use Rattle.std.specs.Option.{option_map_or}
use Rattle.std.proofs.lemmas.Result.{IfOk-weaker}
use Rattle.hp_syntax.specs.Events.{axioms_of}
use Rattle.hp_syntax.specs.Matching.{match_atom}
use Rattle.hp_syntax.specs.Preconditions.{precondition_events}
use Rattle.hp_syntax.specs.Values.{unbound}
use Rattle.hp_syntax.specs.Views.{atom_of, precondition_of}
use Rattle.hp_eval.proofs.GrowthLemmas.{grows_self}
use Rattle.hp_world.specs.Stages.{StageBelow}
use Rattle.hp_plain.specs.Candidates.{rules_at, nest_at, own_node, own_task}
use Rattle.hp_answers.specs.AnswerViews.{MeetsHead}
use Rattle.hp_plain.proofs.CandidateSteps.{precondition_stays, finds_below}
use Rattle.hp_plain.proofs.candidate.Candidate.by_operator.Goals as goal

pub returns-in-None-clause-cells : goal.returns-in-None-clause-cells
returns-in-None-clause-cells c = grows_self c.args.cells.now

pub returns-in_err-slots-clause-cells : goal.returns-in_err-slots-clause-cells
returns-in_err-slots-clause-cells c = grows_self c.args.cells.now

pub precondition-requires-clause-world : goal.precondition-requires-clause-world
precondition-requires-clause-world c =
    subst (λ w. StageBelow (length c.args.cells.now) w.now) (sym c.requires.candidate.world)
    c.requires.candidate.node.stage

pub returns-in-Some-clause-finds : goal.returns-in-Some-clause-finds
returns-in-Some-clause-finds c =
    let s = c.args.self.now in
    let old = c.args.cells.now in
    let o = c.args.operator.now in
    let slots = c.in-Some.slots in
    let found = λ (n : ℕ). match_atom (atom_of o.head) (own_task old s) (unbound n) in
    let long : c.len.result ≡ length o.vars.items = omega (arith, c.len.ensures, o.vars.ok.0) in
    let m = subst (λ x. MeetsHead old c.len.result x (found c.len.result)) c.in-Some.is c.in_ok-slots.ensures in
    let events =
    precondition_events (axioms_of (rules_at s)) (nest_at s) (own_node old s).state (precondition_of o.pre) in
    let same =
    precondition_stays s old old (grows_self old) c.requires.candidate o.pre slots m.2
    ∙ ap (λ b. option_map_or events b []) (sym (ap found (sym long) ∙ m.0)) in
    IfOk-weaker c.precondition.result _ _
    (λ v h. finds_below c.precondition.new.cells (length slots.values) v.items _ _ same h)
    c.precondition.ensures.finds

pub precondition-requires-clause-slots : goal.precondition-requires-clause-slots
precondition-requires-clause-slots c =
    let s = c.args.self.now in
    let x = c.args.operator.now in
    let found = λ (n : ℕ). match_atom (atom_of x.head) (own_task c.args.cells.now s) (unbound n) in
    let met =
    subst (λ o. MeetsHead c.args.cells.now c.len.result o (found c.len.result)) c.in-Some.is c.in_ok-slots.ensures in
    met.2

pub returns-in-Some-clause-cells : goal.returns-in-Some-clause-cells
returns-in-Some-clause-cells c = c.precondition.ensures.cells
