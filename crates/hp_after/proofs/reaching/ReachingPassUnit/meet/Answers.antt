use Rattle.std.proofs.Common.{refl, ap, ⊎_elim}
use Rattle.hp_passes.specs.Passing.{sight_of}
use Rattle.hp_after.proofs.TurnSteps.{meets_above, meets_at, meets_cut, meets_did, meets_fault}
use Rattle.hp_after.specs.Reach.{did_turn}
use Rattle.hp_after.proofs.reaching.ReachingPassUnit.meet.Goals as goal

pub returns-in-Before-clause-meets : goal.returns-in-Before-clause-meets
returns-in-Before-clause-meets g c = λ n at.
    meets_did _ _ _ _ _ c.path.result.now n _ c.path.ensures refl c.side_of.result _ (ap sight_of c.in-Did.is)
    c.side_of.ensures (λ k. ap (λ x. did_turn x k) c.in-Before.is) refl c.saturating_add-self.ensures

pub returns-in-Above-clause-meets : goal.returns-in-Above-clause-meets
returns-in-Above-clause-meets g c = λ n at.
    meets_did _ _ _ _ _ c.path.result.now n _ c.path.ensures refl c.side_of.result _ (ap sight_of c.in-Did.is)
    c.side_of.ensures
    (λ k. ⊎_elim (λ e. ap (λ x. did_turn x k) e) (λ e. ap (λ x. did_turn x k) e) c.in-Above.is) refl
    c.saturating_add-self.ensures

pub returns-in-Beyond-clause-meets : goal.returns-in-Beyond-clause-meets
returns-in-Beyond-clause-meets g c = λ n at.
    meets_did _ _ _ _ _ c.path.result.now n _ c.path.ensures refl c.side_of.result _ (ap sight_of c.in-Did.is)
    c.side_of.ensures (λ k. ap (λ x. did_turn x k) c.in-Beyond.is) refl c.saturating_add-self.ensures

pub returns-then-path-self-clause-meets : goal.returns-then-path-self-clause-meets
returns-then-path-self-clause-meets g c = λ n at.
    meets_above _ _ _ _ _ c.path-in-Plan.result.now n _ c.path-in-Plan.ensures refl refl (ap sight_of c.in-Plan.is)
    c.if-path-self.true refl

pub returns-else-path-self-clause-meets : goal.returns-else-path-self-clause-meets
returns-else-path-self-clause-meets g c = λ n at.
    meets_at _ _ _ _ _ c.path-in-Plan.result.now n _ c.path-in-Plan.ensures refl refl (ap sight_of c.in-Plan.is)
    c.if-path-self.false refl

pub returns-in-Cut-clause-meets : goal.returns-in-Cut-clause-meets
returns-in-Cut-clause-meets g c = λ n at.
    meets_cut _ _ _ _ (g.W.Walk.stands c.args.walk.now).path _ n _ refl refl refl (ap sight_of c.in-Cut.is) refl

pub returns-in-Fault-clause-meets : goal.returns-in-Fault-clause-meets
returns-in-Fault-clause-meets g c = λ n at.
    meets_fault _ _ _ _ (g.W.Walk.stands c.args.walk.now).path _ n _ refl refl refl c.in-Fault.fault
    (ap sight_of c.in-Fault.is) refl
