use Rattle.hp_world.specs.Recorded.{history_in}
use Rattle.hp_effect.proofs.PutLemmas.{comes_to_terms}
use Rattle.hp_effect.proofs.changes.Changes.apply_to.Goals as goal

pub returns-clause-below : goal.returns-clause-below
returns-clause-below c = λ n s d. c.apply.ensures.below n s
    (rw (c.as_slice.ensures.value, c.as_slice-2.ensures.value, c.as_slice-3.ensures.value, c.as_slice-4.ensures.value)
    (rw (← c.self.view_is) at d))

pub returns-clause-terms : goal.returns-clause-terms
returns-clause-terms c =
    rw (← c.self.view_is) (comes_to_terms c.apply.result _ (history_in c.args.world.now) (history_in c.apply.new.self)
    (rw (c.as_slice.ensures.value, c.as_slice-2.ensures.value, c.as_slice-3.ensures.value, c.as_slice-4.ensures.value)
    at c.apply.ensures.ok))

pub returns-clause-pasts : goal.returns-clause-pasts
returns-clause-pasts c = λ n l below.
    c.apply.ensures.pasts n (rw (c.as_slice-3.ensures.value) (rw (← c.self.view_is) at l)) below
