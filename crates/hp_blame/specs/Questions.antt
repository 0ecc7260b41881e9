-- The question of what was at fault in the rules for a task.
use Rattle.std.specs.Prelude.{List}
use Rattle.hp_syntax.specs.GroundPatterns.{atom_said}
use Rattle.hp_syntax.specs.Syntax.{Rule}
use Rattle.hp_syntax.specs.Terms.{Term}
use Rattle.hp_syntax.specs.Views.{atom_of, domain_of}
use Rattle.hp_blame.specs.declared.blames.Question.{Question}

-- the rules of the domain
abbrev pub rules_asked : Question → List Rule
rules_asked q = (domain_of q.domain.now).rules

abbrev pub task_asked : Question → Term
task_asked q = atom_said (atom_of q.task.now)
