use Rattle.std.proofs.Common.{◌∙◌}
use Rattle.hp_code.specs.Codes.{code_of}
use Rattle.hp_code.proofs.LookUpSteps.{place_found, place_missing}
use Rattle.hp_code.proofs.code.Code.place_of.Goals as goal

pub returns-in-Ok : goal.returns-in-Ok
returns-in-Ok c =
    let self = c.args.self.now in
    place_found (code_of self) c.args.rule c.as_slice.result.now (c.as_slice.ensures.value ∙ self.rules_are)
    c.in-Ok.place c.in-Ok.ensures.bound c.in-Ok.ensures.ok

pub returns-in-Err : goal.returns-in-Err
returns-in-Err c =
    let self = c.args.self.now in
    place_missing (code_of self) c.args.rule c.as_slice.result.now (c.as_slice.ensures.value ∙ self.rules_are)
    c.in-Err.field-0 c.in-Err.ensures.position
