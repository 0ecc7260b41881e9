use Rattle.std.proofs.Common.{sym, ap, ◌∙◌}
use Rattle.hp_syntax.specs.GroundViews.{ground_of, ground_of-list, ground_of-num, ground_of-sym}
use Rattle.hp_obstacles.specs.Obstacles.{symbol_name}
use Rattle.hp_obstacles.proofs.obstacles.symbol_name.Goals as goal

pub returns-in-Sym : goal.returns-in-Sym
returns-in-Sym c = sym (ap symbol_name (ap ground_of c.in-Sym.is ∙ ground_of-sym c.in-Sym.name))

pub returns-in-Num : goal.returns-in-Num
returns-in-Num c = sym (ap symbol_name (ap ground_of c.in-Num.is ∙ ground_of-num c.in-Num.field-0))

pub returns-in-List : goal.returns-in-List
returns-in-List c = sym (ap symbol_name (ap ground_of c.in-List.is ∙ ground_of-list c.in-List.field-0))
