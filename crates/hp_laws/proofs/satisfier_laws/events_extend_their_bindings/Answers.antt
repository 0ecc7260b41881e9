use Rattle.hp_laws.proofs.ExtendLemmas.{sat_extends, precondition_extends, atom_events_extend, goal_events_extend}
use Rattle.hp_laws.proofs.satisfier_laws.events_extend_their_bindings.Goals as goal

pub returns-clause-expressions : goal.returns-clause-expressions
returns-clause-expressions c = sat_extends

pub returns-clause-preconditions : goal.returns-clause-preconditions
returns-clause-preconditions c = precondition_extends

pub returns-clause-atoms : goal.returns-clause-atoms
returns-clause-atoms c = atom_events_extend

pub returns-clause-goals : goal.returns-clause-goals
returns-clause-goals c = λ axioms below s q e. goal_events_extend q e axioms below s
