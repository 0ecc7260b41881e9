use Rattle.std.proofs.lemmas.Result.{IfOk-weaker}
use Rattle.hp_eval.specs.Slotted.{bindings_of}
use Rattle.hp_plain.proofs.CandidateSteps.{done_there, makes_same}
use Rattle.hp_answers.proofs.RuleIndexLemmas.{rule_there, rule_missing}
use Rattle.hp_eval.proofs.GrowthLemmas.{grows_self}
use Rattle.hp_plain.proofs.candidate.Candidate.satisfied.Goals as goal

pub returns-in-Some-Operator-clause-makes : goal.returns-in-Some-Operator-clause-makes
returns-in-Some-Operator-clause-makes c =
    let s = c.args.self.now in
    let old = c.args.cells.now in
    let at = c.in-Some-Operator.ensures.lookup in
    let there = rule_there c.args.rule c.deref.ensures.value at.3.0 at.1 c.in-Some-Operator.field-0-is in
    IfOk-weaker c.operated.result _ _
    (λ child h. makes_same c.operated.new.cells child _ _
    (done_there old s c.args.rule c.args.branch (bindings_of old c.args.slots.now) _ there) h)
    c.operated.ensures.makes

pub returns-in-Some-Method-clause-makes : goal.returns-in-Some-Method-clause-makes
returns-in-Some-Method-clause-makes c =
    let s = c.args.self.now in
    let old = c.args.cells.now in
    let at = c.in-Some-Method.ensures.lookup in
    let there = rule_there c.args.rule c.deref.ensures.value at.3.0 at.1 c.in-Some-Method.field-0-is in
    IfOk-weaker c.by_branch.result _ _
    (λ child h. makes_same c.by_branch.new.cells child _ _
    (done_there old s c.args.rule c.args.branch (bindings_of old c.args.slots.now) _ there) h)
    c.by_branch.ensures.makes

pub returns-in-Some-Axiom-clause-makes : goal.returns-in-Some-Axiom-clause-makes
returns-in-Some-Axiom-clause-makes c =
    let s = c.args.self.now in
    let old = c.args.cells.now in
    let at = c.in-Some-Axiom.ensures.lookup in
    let there = rule_there c.args.rule c.deref.ensures.value at.3.0 at.1 c.in-Some-Axiom.field-0-is in
    record {
      are = done_there old s c.args.rule c.args.branch (bindings_of old c.args.slots.now) _ there;
      fits = tt;
    }

pub returns-in-None-clause-makes : goal.returns-in-None-clause-makes
returns-in-None-clause-makes c =
    let s = c.args.self.now in
    let old = c.args.cells.now in
    let there = rule_missing c.args.rule c.deref.ensures.value c.in-None.ensures.lookup.3 in
    record {
      are = done_there old s c.args.rule c.args.branch (bindings_of old c.args.slots.now) _ there;
      fits = tt;
    }

pub returns-in-None-clause-cells : goal.returns-in-None-clause-cells
returns-in-None-clause-cells c = grows_self c.args.cells.now

pub returns-in-Some-Axiom-clause-cells : goal.returns-in-Some-Axiom-clause-cells
returns-in-Some-Axiom-clause-cells c = grows_self c.args.cells.now
