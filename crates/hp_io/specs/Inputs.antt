-- The parts of a folder that are kept for each input.
use Rattle.hp_io.specs.declared.folder.Input.{Input}
use Rattle.hp_io.specs.declared.folder.Input.TheVariants.{Domain, Problem, Plan}

-- the part of this input
abbrev pub by_input : {A : Type 0} → Input → A → A → A → A
by_input Domain domain problem plan = domain
by_input Problem domain problem plan = problem
by_input Plan domain problem plan = plan
