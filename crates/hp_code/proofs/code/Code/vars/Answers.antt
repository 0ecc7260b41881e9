use Rattle.std.proofs.Common.{refl, ◌∙◌}
use Rattle.hp_code.specs.Codes.{code_of}
use Rattle.hp_code.proofs.LookUpSteps.{names_found, names_none, names_missing}
use Rattle.hp_code.proofs.code.Code.vars.Goals as goal

pub returns-in-Some : goal.returns-in-Some
returns-in-Some c =
    let self = c.args.self.now in
    let at = c.in-Some.ensures.lookup in
    c.as_slice-in-Some.ensures.value
    ∙ names_found (λ names. names.items) (code_of self) c.args.rule c.as_slice.result.now c.deref.result.now
    self.vars.items (c.as_slice.ensures.value ∙ self.rules_are) refl c.deref.ensures.value c.in-Ok.number
    c.in-Ok.ensures.bound c.in-Ok.ensures.ok c.in-Some.names.now at.3.0 at.1

pub returns-in-None : goal.returns-in-None
returns-in-None c =
    let self = c.args.self.now in
    names_none (λ names. names.items) (code_of self) c.args.rule c.as_slice.result.now c.deref.result.now
    self.vars.items (c.as_slice.ensures.value ∙ self.rules_are) refl c.deref.ensures.value c.in-Ok.number
    c.in-Ok.ensures.bound c.in-Ok.ensures.ok c.in-None.ensures.lookup.3

pub returns-in-Err : goal.returns-in-Err
returns-in-Err c =
    let self = c.args.self.now in
    names_missing (λ names. names.items) (code_of self) c.args.rule c.as_slice.result.now self.vars.items
    self.vars.items (c.as_slice.ensures.value ∙ self.rules_are) refl refl c.in-Err.field-0 c.in-Err.ensures.position
