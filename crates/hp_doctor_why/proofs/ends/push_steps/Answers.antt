use Rattle.std.proofs.Common.{◌≡◌, ◌++◌, OnOk, cond, false, true, rules, map, subst, sym, ◌∙◌}
use Rattle.hp_syntax.specs.GroundViews.{ground_of}
use Rattle.hp_doctor_why.specs.declared.phrases.TheConstants.{NO_STEP}
use Rattle.hp_doctor_why.specs.Said.{last_line, last_steps}
use Rattle.hp_doctor_why.proofs.StepSteps.{as_empty}
use Rattle.hp_doctor_why.proofs.ends.push_steps.Goals as goal

pub returns-then-is_empty : goal.returns-then-is_empty
returns-then-is_empty c =
    let all = map ground_of c.args.steps.now in
    subst (λ b. OnOk c.extend_from_slice.result (c.extend_from_slice.new.self.items
    ≡ c.args.out.now.items ++ cond b NO_STEP.now (last_line (last_steps all))))
    (as_empty ground_of c.args.steps.now true (sym c.if-is_empty.true ∙ c.is_empty.ensures)) (search rules)

pub returns : goal.returns
returns c =
    let all = map ground_of c.args.steps.now in
    subst (λ b. OnOk c.push_last.result (c.push_last.new.out.items
    ≡ c.args.out.now.items ++ cond b NO_STEP.now (last_line (last_steps all))))
    (as_empty ground_of c.args.steps.now false (sym c.if-is_empty.false ∙ c.is_empty.ensures)) (search rules)
