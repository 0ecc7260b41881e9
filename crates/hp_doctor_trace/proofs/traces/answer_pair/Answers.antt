use Rattle.std.proofs.Common.{List, refl, subst, sym}
use Rattle.hp_code.specs.Codes.{code_of}
use Rattle.hp_code.specs.Lowered.{lowered_rules}
use Rattle.hp_doctor.specs.Texts.{texts_of}
use Rattle.hp_syntax.specs.Syntax.{Rule}
use Rattle.hp_syntax.specs.Views.{domain_of, pair_of}
use Rattle.hp_syntax.specs.Walk.{root}
use Rattle.hp_doctor_tree.specs.TreeTold.{Told}
use Rattle.hp_doctor_tree.proofs.TreeSteps.{rules_known}
use Rattle.hp_trace.specs.Traces.{IsTrace}
use Rattle.hp_doctor_trace.specs.TraceTold.{trace_answer}
use Rattle.hp_doctor_trace.proofs.traces.answer_pair.Goals as goal

pub returns-in-Ok-trace_of-clause-tells : goal.returns-in-Ok-trace_of-clause-tells
returns-in-Ok-trace_of-clause-tells g c =
    let asked = c.args.asked.now in
    let rules = (domain_of c.args.domain.now).rules in
    let pair = pair_of c.args.pair.now in
    let code = code_of c.in-Ok.code in
    Told (trace_answer (texts_of c.args.files.now) rules asked.from.now asked.most c.as_slice.result.now)
    (record {
      visits = c.as_slice.result.now;
      are =
          subst (λ vs. IsTrace rules (record { rules = lowered_rules rules; nest = asked.nest; root = root pair asked.depth })
          asked.from.now asked.most vs) (sym c.as_slice.ensures.value)
          (subst (λ (rs : List Rule). IsTrace rules (record { rules = rs; nest = asked.nest; root = root pair asked.depth })
          asked.from.now asked.most c.in-Ok-trace_of.visits.items)
          (rules_known code (lowered_rules rules)
          (c.compiled_rules_are_a_code.ensures.reads rules code c.in-Ok.ensures))
          c.in-Ok-trace_of.ensures);
      is = refl;
    }) c.answer_trace.ensures.tells
