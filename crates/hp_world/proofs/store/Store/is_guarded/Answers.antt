use Rattle.std.proofs.Common.{List, ℕ, ap, ◌∙◌}
use Rattle.hp_syntax.specs.Applying.{is_among}
use Rattle.hp_world.specs.Stages.{same_cell}
use Rattle.hp_world.proofs.DeletingLemmas.{among_turned}
use Rattle.hp_world.proofs.store.Store.is_guarded.Goals as goal

pub returns : goal.returns
returns c =
    c.contains.ensures.value ∙ among_turned c.args.atom _
    ∙ ap (λ (xs : List ℕ). is_among same_cell c.args.atom xs) c.deref.ensures.value
