use Rattle.std.proofs.Common.{ℕ, subst, sym}
use Rattle.hp_syntax.specs.Applying.{ChangesOf}
use Rattle.hp_world.specs.Histories.{History}
use Rattle.hp_world.specs.Recorded.{Recorded, history_in}
use Rattle.hp_world.specs.Pasts.{PastsBelow}
use Rattle.hp_world.specs.Stages.{Stage, StageBelow}
use Rattle.hp_world.specs.Undoing.{history_of}
use Rattle.hp_world.proofs.AnswerLemmas.{applied_below}
use Rattle.hp_world.proofs.world.World.apply.Goals as goal

pub returns-clause-below : goal.returns-clause-below
returns-clause-below c = λ n s b.
    let changes : ChangesOf ℕ = record {
      unguard = c.args.unguard.now;
      delete = c.args.del.now;
      add = c.args.add.now;
      guard = c.args.guard.now;
    } in
    applied_below c.apply.result changes (history_of c.forget_parts.new.self) (history_of c.apply.new.self)
    c.apply.ensures.ok c.apply.ensures.err n
    (subst (λ (h : History Stage). StageBelow n h.now) (sym c.forget_parts.ensures.same)
    (subst (λ (w : Recorded). StageBelow n w.now) (sym c.self.view_is) s)) b

pub returns-clause-pasts : goal.returns-clause-pasts
returns-clause-pasts c = λ n l below.
    c.apply.ensures.pasts n l
    (subst (PastsBelow n) (sym c.forget_parts.ensures.same)
    (subst (λ (w : Recorded). PastsBelow n (history_in w)) (sym c.self.view_is) below))
