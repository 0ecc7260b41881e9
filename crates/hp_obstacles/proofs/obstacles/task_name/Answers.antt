use Rattle.std.proofs.Common.{sym, ap, ◌∙◌}
use Rattle.hp_syntax.specs.GroundViews.{ground_of, ground_of-list, ground_of-num, ground_of-sym, grounds_of}
use Rattle.hp_syntax.specs.Terms.{Listed}
use Rattle.hp_obstacles.specs.Obstacles.{task_name}
use Rattle.hp_obstacles.proofs.ObstacleSteps.{name_listed, no_name_listed}
use Rattle.hp_obstacles.proofs.obstacles.task_name.Goals as goal

pub returns-in-empty : goal.returns-in-empty
returns-in-empty c =
    no_name_listed c.as_slice.result.now c.in-empty.len_below
    ∙ (ap (λ gs. task_name (Listed (grounds_of gs))) c.as_slice.ensures.value
    ∙ sym (ap task_name (ap ground_of c.in-List.is ∙ ground_of-list c.in-List.parts)))

pub returns-in-len1-up : goal.returns-in-len1-up
returns-in-len1-up c =
    c.symbol_name.ensures
    ∙ (name_listed c.as_slice.result.now c.first-item.result c.in-len1-up.len_at_least c.first-item.is
    ∙ (ap (λ gs. task_name (Listed (grounds_of gs))) c.as_slice.ensures.value
    ∙ sym (ap task_name (ap ground_of c.in-List.is ∙ ground_of-list c.in-List.parts))))

pub returns-in-Sym : goal.returns-in-Sym
returns-in-Sym c = sym (ap task_name (ap ground_of c.in-Sym.is ∙ ground_of-sym c.in-Sym.field-0))

pub returns-in-Num : goal.returns-in-Num
returns-in-Num c = sym (ap task_name (ap ground_of c.in-Num.is ∙ ground_of-num c.in-Num.field-0))
