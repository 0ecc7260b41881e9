use Rattle.std.proofs.Common.{ap}
use Rattle.hp_cells.specs.Keys.{terms_of}
use Rattle.hp_cells.specs.declared.keys.Key.TheVariants.{Nil}
use Rattle.hp_cells.proofs.InternSteps.{inserted_first, interned_first}
use Rattle.hp_cells.proofs.table.Table.new.Goals as goal

pub returns-clause-sound : goal.returns-clause-sound
returns-clause-sound c =
    let keys = inserted_first Nil c.new-keys.ensures.empty c.in_ok-insert.ensures.keys in
    rw (c.new.ensures.empty, keys, c.in_ok-depths.ensures.items) interned_first

pub returns-clause-first : goal.returns-clause-first
unfolding terms_of
returns-clause-first c =
    ap (terms_of c.new.result.keys) (inserted_first Nil c.new-keys.ensures.empty c.in_ok-insert.ensures.keys)
