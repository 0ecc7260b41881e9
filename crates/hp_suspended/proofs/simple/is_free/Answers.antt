use Rattle.hp_syntax.specs.ViewLaws.{pattern_of-var}
use Rattle.hp_syntax.specs.Views.{pattern_of, patterns_of}
use Rattle.hp_suspended.proofs.SimpleCells.{free_there}
use Rattle.hp_suspended.proofs.simple.is_free.Goals as goal

pub returns-in-Var : goal.returns-in-Var
returns-in-Var c = λ holds terms parts.
    let p = c.args.part.now in
    free_there terms c.args.slots.now (pattern_of p) p.span c.in-Var.v (patterns_of parts)
    (pattern_of-var p c.in-Var.v c.in-Var.is) c.value_of.result c.is_none.result c.value_of.ensures c.is_none.ensures
    holds
