use Rattle.std.proofs.Common.{◌≡◌, ◌<◌, ◌≤◌, ◌-◌, length}
use Rattle.hp_unmet.specs.Halving.{IsBetween}
use Rattle.hp_unmet.specs.Trials.{InTrial, IsPrefix, tried}
use Rattle.hp_unmet.proofs.trial.Trial.first_missing.Given as goal

abbrev pub invariant-loop-between : goal.invariant-loop-between
invariant-loop-between l = record {
  held :
      InTrial l.fn.walk l.self
      (λ nest state o. IsBetween (tried l.self nest state o) (length l.self.asked.parts.now) l.between);
  prefix : IsPrefix l.self l.between.met;
  ordered : l.between.met.count ≤ l.between.unmet;
  within : l.between.unmet ≤ length l.self.asked.parts.now;
  some : 0 < l.step;
  same : l.walk ≡ l.fn.walk;
}

abbrev pub decreases-loop-between : goal.decreases-loop-between
decreases-loop-between l = l.between.unmet - l.between.met.count
