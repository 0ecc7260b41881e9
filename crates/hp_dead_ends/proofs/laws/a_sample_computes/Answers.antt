use Rattle.std.proofs.Common.{[], refl}
use Rattle.hp_syntax.specs.Networks.{candidates, firsts, part_at}
use Rattle.hp_syntax.specs.Walk.{children}
use Rattle.hp_dead_ends.specs.DeadEnds.{IsDeadEnd}
use Rattle.hp_dead_ends.specs.Samples.{root}
use Rattle.hp_dead_ends.proofs.laws.a_sample_computes.Goals as goal

root_is_one : IsDeadEnd [] 0 root
unfolding children candidates firsts part_at
root_is_one = record { tasks = refl; depth = λ e. cc; none = refl }

pub returns : goal.returns
returns c = record {
  until = refl;
  dead = refl;
  furthest = refl;
  more_steps = refl;
  root_alone = refl;
  depth_cut = refl;
  level_cut = refl;
  cut = refl;
  plan = refl;
  whole = refl;
  expansions = refl;
  small = refl;
  great = refl;
  dead_end = root_is_one;
  no_plan = λ h. let k = h.tasks in cc;
  no_cut = λ h. h.depth refl;
}
