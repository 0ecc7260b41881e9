use Rattle.std.proofs.Common.{refl, arith}
use Rattle.std.proofs.lemmas.Grind.{common_steps}
use Rattle.hp_top.specs.CheckTexts.{is_operator, is_method, is_axiom}
use Rattle.hp_top.proofs.CountSteps.{counted, passed}
use Rattle.hp_top.proofs.checking.count_rules.Goals.{in-Operator, in-Method, in-Axiom}
use Rattle.hp_top.proofs.checking.count_rules.Goals as goal

pub overflow_add-counts : goal.overflow_add-counts
overflow_add-counts c = grind (arith, common_steps)

pub overflow_add-counts-in-Method : goal.overflow_add-counts-in-Method
overflow_add-counts-in-Method c = grind (arith, common_steps)

pub overflow_add-counts-in-Axiom : goal.overflow_add-counts-in-Axiom
overflow_add-counts-in-Axiom c = grind (arith, common_steps)

pub loop-rule-preserved : goal.loop-rule-preserved
loop-rule-preserved c =
    let rules = c.args.rules.now in
    let i = c.loop-rule.rule-index in
    let r = c.rule-item.result in
    let below = c.loop-rule-test.true in
    let here = c.rule-item.is in
    let so_far = c.loop-rule.invariant in
    elim c.match-rule.branch [
      | in-Operator w ↦
          let kind = w.in-Operator.is in
          rw w.counts-is (record {
            operators = counted is_operator rules i _ r _ below here kind refl so_far.operators;
            methods = passed is_method rules i _ r _ below here kind refl so_far.methods;
            axioms = passed is_axiom rules i _ r _ below here kind refl so_far.axioms;
          })
      | in-Method w ↦
          let kind = w.in-Method.is in
          rw w.counts-is (record {
            operators = passed is_operator rules i _ r _ below here kind refl so_far.operators;
            methods = counted is_method rules i _ r _ below here kind refl so_far.methods;
            axioms = passed is_axiom rules i _ r _ below here kind refl so_far.axioms;
          })
      | in-Axiom w ↦
          let kind = w.in-Axiom.is in
          rw w.counts-is (record {
            operators = passed is_operator rules i _ r _ below here kind refl so_far.operators;
            methods = passed is_method rules i _ r _ below here kind refl so_far.methods;
            axioms = counted is_axiom rules i _ r _ below here kind refl so_far.axioms;
          })
    ]
