use Rattle.std.proofs.Common.{ap, sym}
use Rattle.hp_syntax.specs.ViewLaws.{pattern_of-var, pattern_of-sym, pattern_of-num, pattern_of-list, pattern_of-call}
use Rattle.hp_suspended.specs.SimpleAtoms.{is_simple}
use Rattle.hp_suspended.proofs.simple.is_simple.Goals as goal

pub returns-in-Var : goal.returns-in-Var
returns-in-Var c = sym (ap is_simple (pattern_of-var c.args.part.now c.in-Var.field-0 c.in-Var.is))

pub returns-in-Sym : goal.returns-in-Sym
returns-in-Sym c = sym (ap is_simple (pattern_of-sym c.args.part.now c.in-Sym.field-0 c.in-Sym.is))

pub returns-in-Num : goal.returns-in-Num
returns-in-Num c = sym (ap is_simple (pattern_of-num c.args.part.now c.in-Num.field-0 c.in-Num.is))

pub returns-in-List : goal.returns-in-List
returns-in-List c =
    let i = c.in-List in sym (ap is_simple (pattern_of-list c.args.part.now i.field-0 i.field-1 i.is))

pub returns-in-Call : goal.returns-in-Call
returns-in-Call c =
    let i = c.in-Call in sym (ap is_simple (pattern_of-call c.args.part.now i.field-0 i.field-1 i.is))
