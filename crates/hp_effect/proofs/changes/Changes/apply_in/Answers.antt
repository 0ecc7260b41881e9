use Rattle.hp_world.specs.Recorded.{history_in}
use Rattle.hp_effect.proofs.PutLemmas.{comes_to_terms}
use Rattle.hp_effect.proofs.changes.Changes.apply_in.Goals as goal

pub returns-clause-below : goal.returns-clause-below
returns-clause-below c = λ n s d.
    c.apply_in.ensures.below n s (rw (c.list.ensures, c.list-2.ensures, c.list-3.ensures, c.list-4.ensures) d)

pub returns-clause-terms : goal.returns-clause-terms
returns-clause-terms c =
    comes_to_terms c.apply_in.result c.args.self.now (history_in c.args.world.now) (history_in c.apply_in.new.self)
    (rw (c.list.ensures, c.list-2.ensures, c.list-3.ensures, c.list-4.ensures) at c.apply_in.ensures.ok)

pub returns-clause-entries : goal.returns-clause-entries
returns-clause-entries c = λ n l below. c.apply_in.ensures.entries n (rw (c.list-3.ensures) l) below

pub returns-clause-pasts : goal.returns-clause-pasts
returns-clause-pasts c = λ n l below. c.apply_in.ensures.pasts n (rw (c.list-3.ensures) l) below
