use Rattle.std.proofs.Common.{ap₂, ◌∙◌}
use Rattle.hp_links.specs.Placed.{candidates_in, immediate_first}
use Rattle.hp_links.proofs.store.Store.candidates.Goals as goal

pub returns : goal.returns
unfolding candidates_in
returns c = c.keep_immediate.ensures ∙ ap₂ immediate_first c.deref.ensures.value c.in_ok-found.ensures
