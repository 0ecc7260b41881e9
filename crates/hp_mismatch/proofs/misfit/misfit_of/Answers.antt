use Rattle.std.proofs.Common.{sym, ap}
use Rattle.hp_syntax.specs.ViewLaws.{pattern_of-call, pattern_of-list, pattern_of-num, pattern_of-sym, pattern_of-var}
use Rattle.hp_mismatch.specs.Mismatch.{misfit_of}
use Rattle.hp_mismatch.proofs.misfit.misfit_of.Goals as goal

pub returns-in-Var : goal.returns-in-Var
returns-in-Var c = sym (ap misfit_of (pattern_of-var c.args.pat.now _ c.in-Var.is))

pub returns-in-Sym : goal.returns-in-Sym
returns-in-Sym c = sym (ap misfit_of (pattern_of-sym c.args.pat.now _ c.in-Sym.is))

pub returns-in-Num : goal.returns-in-Num
returns-in-Num c = sym (ap misfit_of (pattern_of-num c.args.pat.now _ c.in-Num.is))

pub returns-in-List : goal.returns-in-List
returns-in-List c = sym (ap misfit_of (pattern_of-list c.args.pat.now _ _ c.in-List.is))

pub returns-in-Call : goal.returns-in-Call
returns-in-Call c = sym (ap misfit_of (pattern_of-call c.args.pat.now _ _ c.in-Call.is))
