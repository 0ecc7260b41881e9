use Rattle.std.proofs.Common.{◌≡◌, map}
use Rattle.std.specs.Prelude.{option_map}
use Rattle.hp_syntax.specs.GroundViews.{ground_of}
use Rattle.hp_syntax.specs.Views.{domain_of}
use Rattle.hp_unmet.specs.States.{InStateOf}
use Rattle.hp_blame.specs.Blames.{blame_by, blame_kept}
use Rattle.hp_blame.specs.Firsts.{first_in}
use Rattle.hp_blame.proofs.blames.find_blame.Given as goal

abbrev pub invariant-loop-task : goal.invariant-loop-task
invariant-loop-task l = record {
  so_far :
      InStateOf l.fn.walk (λ nest s. option_map blame_kept l.found
      ≡ first_in (blame_by (domain_of l.domain).rules l.fault nest s) (map ground_of l.yielded));
  same : l.walk ≡ l.fn.walk;
}
