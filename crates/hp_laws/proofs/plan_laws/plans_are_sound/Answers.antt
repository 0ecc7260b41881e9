use Rattle.hp_laws.proofs.Derived.{walk_is_derived, walk_depth, walk_is_finished}
use Rattle.hp_laws.proofs.Executed.{derived_executes}
use Rattle.hp_laws.proofs.plan_laws.plans_are_sound.Goals as goal

pub returns-clause-derived : goal.returns-clause-derived
returns-clause-derived c = walk_is_derived

pub returns-clause-depth : goal.returns-clause-depth
returns-clause-depth c = walk_depth

pub returns-clause-finished : goal.returns-clause-finished
returns-clause-finished c = walk_is_finished

pub returns-clause-executed : goal.returns-clause-executed
returns-clause-executed c = λ rules nest cs before after steps cost h. derived_executes rules nest h
