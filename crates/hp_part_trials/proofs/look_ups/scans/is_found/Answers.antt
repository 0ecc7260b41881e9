use Rattle.std.proofs.Common.{◌<◌, length, arith}
use Rattle.hp_eval.specs.GoalViews.{term_at}
use Rattle.hp_eval.proofs.CellViews.{named_at}
use Rattle.hp_part_trials.proofs.look_ups.scans.is_found.Goals as goal

pub find_cons-requires-clause-tail : goal.find_cons-requires-clause-tail
find_cons-requires-clause-tail c =
    let terms = c.args.cells.now in
    let within : c.args.list < length terms =
    omega (arith, c.if-index-len.true, c.index.ensures, c.len.ensures.count) in
    let cons = c.in-Cons.ensures.shows (term_at terms c.args.list) (named_at terms c.args.list within) in
    (cons.rest, cons.tail_names)
