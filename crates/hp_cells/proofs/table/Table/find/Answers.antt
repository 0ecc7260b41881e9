use Rattle.std.proofs.Common.{Some, None}
use Rattle.hp_cells.specs.contracts.keys.KeyPartialEq.TheImpl as the_impl
use Rattle.hp_cells.proofs.InternSteps.{term_looked_up}
use Rattle.hp_cells.proofs.KeyLemmas.{same_key, key_self}
use Rattle.hp_cells.proofs.PlaceLemmas.{looked_up}
use Rattle.hp_cells.proofs.table.Table.find.Goals as goal

pub returns-in_err-place : goal.returns-in_err-place
returns-in_err-place c =
    rw c.from_residual.ensures
    (λ t stands. term_looked_up c.requires c.args.key t stands None
    (looked_up the_impl.ghosts.eq same_key key_self c.args.key c.args.self.now.keys.keys None
    c.in_err-place.ensures.index c.in_err-place.ensures.found))

pub returns : goal.returns
returns c = λ t stands.
    term_looked_up c.requires c.args.key t stands (Some c.in_ok-place.place)
    (looked_up the_impl.ghosts.eq same_key key_self c.args.key c.args.self.now.keys.keys (Some c.in_ok-place.place)
    c.in_ok-place.ensures.index c.in_ok-place.ensures.found)
