-- The questions of what keeps a task from being done, and an axiom from concluding an atom.
use Rattle.std.specs.Prelude.{List}
use Rattle.hp_syntax.specs.GroundViews.{ground_of}
use Rattle.hp_syntax.specs.Syntax.{Rule}
use Rattle.hp_syntax.specs.Terms.{Term}
use Rattle.hp_syntax.specs.Views.{domain_of}
use Rattle.hp_obstacles.specs.declared.axioms.AtomQuestion.{AtomQuestion}
use Rattle.hp_obstacles.specs.declared.obstacles.Question.{Question}
use Rattle.hp_obstacles.specs.Obstacles.{Wanted}

-- the rules of the domain
abbrev pub rules_asked : Question → List Rule
rules_asked q = (domain_of q.domain.now).rules

abbrev pub task_asked : Question → Term
task_asked q = ground_of q.task.now

-- those of the domain of a question of an atom, and the task for which the atom is asked for
abbrev pub rules_wanted : AtomQuestion → List Rule
rules_wanted q = (domain_of q.domain.now).rules

abbrev pub task_wanted : AtomQuestion → Term
task_wanted q = ground_of q.task.now

-- the atom
abbrev pub atom_wanted : AtomQuestion → Wanted
atom_wanted q = record { rule = q.asking.rule; branch = q.asking.branch; place = q.place }
