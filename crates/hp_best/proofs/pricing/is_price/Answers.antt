use Rattle.std.proofs.Common.{FitsSigned, rules, ap, pos, ◌∙◌}
use Rattle.std.specs.Int.{w64}
use Rattle.std.specs.Int.Signed.{le_z}
use Rattle.std.proofs.lemmas.Int.{to_z-of_z}
use Rattle.hp_best.proofs.PriceSteps.{no_price, price-num}
use Rattle.hp_best.proofs.pricing.is_price.Goals as goal

pub returns-in-Num : goal.returns-in-Num
returns-in-Num c =
    let n = c.in-Num.n in
    let fits : FitsSigned w64 n = search rules in
    ap (le_z (pos 0)) (to_z-of_z w64 n fits) ∙ price-num c.args.cost.now n c.in-Num.is

pub returns-in-Var : goal.returns-in-Var
returns-in-Var c = no_price c.args.cost.now c.in-Var.is

pub returns-in-Var-2 : goal.returns-in-Var-2
returns-in-Var-2 c = no_price c.args.cost.now c.in-Var.is

pub returns-in-Var-3 : goal.returns-in-Var-3
returns-in-Var-3 c = no_price c.args.cost.now c.in-Var.is

pub returns-in-Var-4 : goal.returns-in-Var-4
returns-in-Var-4 c = no_price c.args.cost.now c.in-Var.is
