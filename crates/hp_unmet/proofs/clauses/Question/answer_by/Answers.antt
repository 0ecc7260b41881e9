-- The trial starts from the bindings with which the head starts from the atom.
use Rattle.std.proofs.Common.{◌∙◌, ap, sym, refl}
use Rattle.std.proofs.lemmas.Result.{IfOk-weaker}
use Rattle.hp_choice.specs.declared.starting.Start.TheVariants as starts
use Rattle.hp_syntax.specs.GroundPatterns.{atom_said}
use Rattle.hp_syntax.specs.Views.{atom_of, domain_of}
use Rattle.hp_unmet.specs.Clauses.{bindings_met, clause_answer, clause_of, start_of, values_by}
use Rattle.hp_unmet.specs.Trials.{CanBeTried}
use Rattle.hp_unmet.specs.declared.trial.Trial.{Trial}
use Rattle.hp_unmet.proofs.TrialLemmas.{starts_by_goal}
use Rattle.hp_unmet.proofs.clauses.Question.answer_by.Goals as goal

pub returns-clause-unmet : goal.returns-clause-unmet
returns-clause-unmet c =
    let q = c.args.self.now in
    let rules = (domain_of q.domain.now).rules in
    let task = atom_said (atom_of c.args.task.now) in
    let x = clause_of c.args.clause in
    let before = c.nodes_before-before in
    let trial : Trial =
    record {
      domain = q.domain;
      asked = c.args.clause.own;
      code = q.code;
      nodes = c.nodes_asked.result;
      start = starts.Goal c.args.task before.result c.args.clause.atom;
    } in
    let can : CanBeTried trial =
    record { stand = c.nodes_asked.ensures; start = (c.requires.ground, before.ensures.are) } in
    let nest = c.args.walk.now.nest in
    IfOk-weaker c.answer_with_values.result _ _
    (λ a h n at.
    h n at (start_of rules nest n.state task q.place x)
    (starts_by_goal trial can nest n.state c.args.task before.result c.args.clause.atom
    (bindings_met rules nest n.state task x.asking q.place) (before.ensures.after nest n.state) refl)
    ∙ sym (ap (clause_answer rules nest n.state task q.place) c.requires.clause))
    c.answer_with_values.ensures.unmet

pub returns-clause-values : goal.returns-clause-values
returns-clause-values c =
    let q = c.args.self.now in
    let rules = (domain_of q.domain.now).rules in
    let task = atom_said (atom_of c.args.task.now) in
    let x = clause_of c.args.clause in
    let before = c.nodes_before-before in
    let trial : Trial =
    record {
      domain = q.domain;
      asked = c.args.clause.own;
      code = q.code;
      nodes = c.nodes_asked.result;
      start = starts.Goal c.args.task before.result c.args.clause.atom;
    } in
    let can : CanBeTried trial =
    record { stand = c.nodes_asked.ensures; start = (c.requires.ground, before.ensures.are) } in
    let nest = c.args.walk.now.nest in
    IfOk-weaker c.answer_with_values.result _ _
    (λ a h n at.
    h n at (start_of rules nest n.state task q.place x)
    (starts_by_goal trial can nest n.state c.args.task before.result c.args.clause.atom
    (bindings_met rules nest n.state task x.asking q.place) (before.ensures.after nest n.state) refl)
    ∙ sym (ap (values_by rules nest n.state task q.place a.unmet) c.requires.clause))
    c.answer_with_values.ensures.values
