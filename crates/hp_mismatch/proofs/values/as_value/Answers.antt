use Rattle.std.proofs.Common.{FitsSigned, rules, sym, ap, ◌∙◌}
use Rattle.std.specs.Int.{w64}
use Rattle.std.proofs.lemmas.Int.{to_z-of_z}
use Rattle.hp_syntax.specs.GroundViews.{ground_of, ground_of-list, ground_of-num, ground_of-sym, grounds_of}
use Rattle.hp_syntax.specs.Terms.{Listed, Number}
use Rattle.hp_mismatch.proofs.values.as_value.Goals as goal

pub returns-in-Sym : goal.returns-in-Sym
returns-in-Sym c = sym (ap ground_of c.in-Sym.is ∙ ground_of-sym c.in-Sym.name)

pub returns-in-Num : goal.returns-in-Num
returns-in-Num c =
    let fits : FitsSigned w64 c.in-Num.n = search rules in
    ap Number (to_z-of_z w64 c.in-Num.n fits) ∙ sym (ap ground_of c.in-Num.is ∙ ground_of-num c.in-Num.n)

pub returns-in-List : goal.returns-in-List
returns-in-List c =
    ap (λ gs. Listed (grounds_of gs)) c.as_slice.ensures.value
    ∙ sym (ap ground_of c.in-List.is ∙ ground_of-list c.in-List.parts)
