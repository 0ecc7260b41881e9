use Rattle.std.proofs.Common.{◌≡◌, [], ◌∷◌, map, ap, sym, ◌∙◌}
use Rattle.std.specs.Option.{option_or}
use Rattle.std.specs.Prelude.{option_map}
use Rattle.std.proofs.lemmas.List.{map-append}
use Rattle.hp_syntax.specs.GroundViews.{ground_of}
use Rattle.hp_syntax.specs.Views.{domain_of}
use Rattle.hp_obstacles.proofs.NodeSteps.{in_same}
use Rattle.hp_blame.specs.Blames.{blame_by, blame_kept}
use Rattle.hp_blame.specs.Firsts.{first_in}
use Rattle.hp_blame.proofs.FirstLemmas.{first_more}
use Rattle.hp_blame.proofs.blames.find_blame.Goals as goal

pub loop-task-preserved : goal.loop-task-preserved
loop-task-preserved c =
    let rules = (domain_of c.args.domain.now).rules in
    let held = c.loop-task in
    let task = ground_of c.in-Some.task in
    record {
      so_far = λ n at.
          let by = blame_by rules c.args.fault c.args.walk.now.nest n.state in
          in_same c.args.walk.now held.walk
          (λ nest s. option_map blame_kept c.in_ok-found.found
          ≡ option_or (option_map blame_kept held.found) (blame_by rules c.args.fault nest s task))
          held.invariant.same c.in_ok-found.ensures.is n at
          ∙ (ap (λ o. option_or o (by task)) (held.invariant.so_far n at)
          ∙ (sym (first_more by task (map ground_of held.yielded))
          ∙ ap (first_in by) (sym (map-append ground_of held.yielded (c.in-Some.task ∷ [])))));
      same = c.in_ok-found.ensures.same ∙ held.invariant.same;
    }
