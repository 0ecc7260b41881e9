use Rattle.std.proofs.Common.{sym, ap, ◌∙◌}
use Rattle.hp_syntax.specs.GroundViews.{ground_of, ground_of-list, ground_of-num, ground_of-sym, grounds_of}
use Rattle.hp_syntax.specs.Terms.{Listed}
use Rattle.hp_doctor_why.specs.Heads.{arguments}
use Rattle.hp_doctor_why.proofs.HeadSteps.{no_arguments, rest_arguments}
use Rattle.hp_doctor_why.proofs.heads.arguments.Goals as goal

pub returns-in-empty : goal.returns-in-empty
returns-in-empty c =
    no_arguments c.as_slice.result.now c.in-empty.len_below
    ∙ (ap (λ gs. arguments (Listed (grounds_of gs))) c.as_slice.ensures.value
    ∙ sym (ap arguments (ap ground_of c.in-List.is ∙ ground_of-list c.in-List.parts)))

pub returns-in-len1-up : goal.returns-in-len1-up
returns-in-len1-up c =
    rest_arguments c.as_slice.result.now c.in-len1-up.len_at_least
    ∙ (ap (λ gs. arguments (Listed (grounds_of gs))) c.as_slice.ensures.value
    ∙ sym (ap arguments (ap ground_of c.in-List.is ∙ ground_of-list c.in-List.parts)))

pub returns-in-Sym : goal.returns-in-Sym
returns-in-Sym c = sym (ap arguments (ap ground_of c.in-Sym.is ∙ ground_of-sym c.in-Sym.field-0))

pub returns-in-Num : goal.returns-in-Num
returns-in-Num c = sym (ap arguments (ap ground_of c.in-Num.is ∙ ground_of-num c.in-Num.field-0))
