use Rattle.std.proofs.Common.{sym, ap, ◌∙◌}
use Rattle.std.proofs.lemmas.Result.{IfOk-weaker}
use Rattle.hp_syntax.specs.GroundViews.{ground_of, ground_of-list, ground_of-num, ground_of-sym, grounds_of}
use Rattle.hp_syntax.specs.Terms.{Listed}
use Rattle.hp_unmet.specs.Said.{is_atom}
use Rattle.hp_unmet.proofs.SaidLemmas.{says_if_same}
use Rattle.hp_unmet.proofs.said.to_atom.Goals as goal

pub returns-in-List : goal.returns-in-List
returns-in-List c =
    IfOk-weaker c.listed_atom.result _ _
    (λ o h. says_if_same o _ _
    (ap (λ gs. Listed (grounds_of gs)) c.as_slice.ensures.value
    ∙ sym (ap ground_of c.in-List.is ∙ ground_of-list c.in-List.parts)) h)
    c.listed_atom.ensures

pub returns-in-Sym : goal.returns-in-Sym
returns-in-Sym c = ap is_atom (ap ground_of c.in-Sym.is ∙ ground_of-sym _)

pub returns-in-Num : goal.returns-in-Num
returns-in-Num c = ap is_atom (ap ground_of c.in-Num.is ∙ ground_of-num _)
