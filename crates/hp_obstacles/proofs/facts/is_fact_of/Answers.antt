use Rattle.hp_cells.specs.declared.keys.View.TheVariants.{Cons}
use Rattle.hp_eval.specs.GoalViews.{term_at}
use Rattle.hp_best.proofs.GroundSteps.{shown_at}
use Rattle.hp_obstacles.proofs.FactSteps.{fact_of_first}
use Rattle.hp_obstacles.proofs.facts.is_fact_of.Goals as goal

pub returns-in-Cons : goal.returns-in-Cons
returns-in-Cons c =
    let terms = c.args.cells.now in
    let head = c.in-Cons.head in
    let tail = c.in-Cons.field-1 in
    fact_of_first terms c.args.name.now head tail (term_at terms c.args.atom) c.is_symbol.result
    (shown_at terms c.args.atom (Cons head tail) c.requires c.in-Cons.ensures.shows) c.is_symbol.ensures
