use Rattle.std.proofs.Common.{ap, ◌∙◌}
use Rattle.hp_syntax.specs.GroundViews.{ground_of, ground_of-list, ground_of-num, ground_of-sym, grounds_of}
use Rattle.hp_syntax.specs.Terms.{Listed, More}
use Rattle.hp_unmet.specs.Said.{is_atom}
use Rattle.hp_unmet.proofs.SaidLemmas.{headed}
use Rattle.hp_unmet.proofs.said.headed_atom.Goals as goal

pub returns-in_ok-atom-in-Sym : goal.returns-in_ok-atom-in-Sym
returns-in_ok-atom-in-Sym c =
    headed c.in_ok-atom-in-Sym.atom _ c.in-Sym.name _ (ap ground_of c.in-Sym.is ∙ ground_of-sym c.in-Sym.name)
    c.in_ok-atom-in-Sym.ensures

pub returns-in-Num : goal.returns-in-Num
returns-in-Num c =
    ap (λ x. is_atom (Listed (More x (grounds_of c.args.args.now)))) (ap ground_of c.in-Num.is ∙ ground_of-num _)

pub returns-in-List : goal.returns-in-List
returns-in-List c =
    ap (λ x. is_atom (Listed (More x (grounds_of c.args.args.now)))) (ap ground_of c.in-List.is ∙ ground_of-list _)
