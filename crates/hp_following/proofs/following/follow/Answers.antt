use Rattle.std.proofs.Common.{map, refl}
use Rattle.hp_after.proofs.Arrivals.{tree_at}
use Rattle.hp_dead_ends.proofs.FindSteps.{reached_root}
use Rattle.hp_dead_ends.proofs.MeetSteps.{many_steps}
use Rattle.hp_following.proofs.Followed.{has_most, path_followed, walk_followed}
use Rattle.hp_syntax.specs.GroundViews.{ground_of}
use Rattle.hp_following.proofs.following.follow.Goals as goal

pub go_through-requires-clause-at : goal.go_through-requires-clause-at
go_through-requires-clause-at g c = tree_at (g.W.Walk.tree c.args.walk.now) _ c.requires.new

pub returns-in-Ok-clause-following : goal.returns-in-Ok-clause-following
returns-in-Ok-clause-following g c =
    let t = g.W.Walk.tree c.args.walk.now in
    let steps = many_steps (g.W.Walk.terms c.args.walk.now) c.plan.result.now _ t.root
    (reached_root t (g.W.Walk.stands c.args.walk.now) c.requires.at_root) c.plan.ensures.steps in
    walk_followed (map ground_of c.args.steps.now) t _ c.go_through.new.pass _ _ _ _ c.requires.new refl refl
    c.new.ensures.items steps c.in-Ok.ensures.passes

pub returns-in-Ok-clause-followed : goal.returns-in-Ok-clause-followed
returns-in-Ok-clause-followed g c =
    path_followed (map ground_of c.args.steps.now) (g.W.Walk.tree c.args.walk.now) c.go_through.new.pass.found
    (returns-in-Ok-clause-following g c)

pub returns-in-Ok-clause-most : goal.returns-in-Ok-clause-most
returns-in-Ok-clause-most g c =
    has_most (map ground_of c.args.steps.now) (g.W.Walk.tree c.args.walk.now) c.go_through.new.pass.found
    (returns-in-Ok-clause-following g c)
