-- The first satisfier of as many of the parts as there are before the place is that of so many.
use Rattle.std.proofs.Common.{◌≡◌, length, min, ap, sym, ◌∙◌, subst}
use Rattle.std.proofs.lemmas.List.{length-map}
use Rattle.hp_choice.specs.FirstSatisfier.{first_sat}
use Rattle.hp_choice.specs.Starting.{AreAfter}
use Rattle.hp_choice.specs.declared.starting.Start.TheVariants as starts
use Rattle.hp_code.specs.Codes.{code_of}
use Rattle.hp_syntax.specs.GroundPatterns.{atom_said}
use Rattle.hp_syntax.specs.Views.{atom_of, domain_of, expression_of}
use Rattle.hp_unmet.specs.Clauses.{bindings_met}
use Rattle.hp_unmet.specs.Conjunctions.{matched}
use Rattle.hp_unmet.specs.Trials.{conjunction_of}
use Rattle.hp_unmet.specs.declared.trial.Trial.{Trial}
use Rattle.hp_unmet.proofs.FoundLemmas.{few_events}
use Rattle.hp_unmet.proofs.TrialLemmas.{are_after}
use Rattle.hp_unmet.proofs.clauses.Question.nodes_before.Goals as goal

pub returns-clause-after : goal.returns-clause-after
returns-clause-after c = λ nest state.
    let q = c.args.self.now in
    let code = code_of q.code.now in
    let rules = (domain_of q.domain.now).rules in
    let task = atom_said (atom_of c.args.task.now) in
    let own = conjunction_of c.args.asking in
    let trial : Trial =
    record {
      domain = q.domain;
      asked = c.args.asking;
      code = q.code;
      nodes = c.nodes_asked.result;
      start = starts.Task c.args.task;
    } in
    let count : c.first.result.count ≡ min q.place (length own.parts) =
    c.first.ensures.count ∙ ap (min q.place) (sym (length-map c.args.asking.parts.now expression_of)) in
    let same : bindings_met rules nest state task own c.first.result.count ≡ bindings_met rules nest state task own q.place =
    ap (bindings_met rules nest state task own) count
    ∙ ap first_sat (few_events rules nest state own (matched own task) q.place) in
    subst (AreAfter code nest state c.nodes_of.result task) same
    (subst (λ x. AreAfter code nest state x task (bindings_met rules nest state task own c.first.result.count))
    (sym c.nodes_of.ensures.is)
    (are_after trial (record { stand = c.nodes_asked.ensures; start = c.requires.ground }) c.first.result
    c.first.ensures.prefix nest state task))
