-- A trial of a task starts from the bindings under which the head matches it.
use Rattle.std.proofs.Common.{option_map, sym, ap, ◌∙◌}
use Rattle.hp_unmet.specs.Trials.{conjunction_of}
use Rattle.hp_unmet.proofs.unmet.answer_in.Goals as goal

pub nodes_asked-requires-clause-asked : goal.nodes_asked-requires-clause-asked
nodes_asked-requires-clause-asked c = sym c.asked_in.ensures ∙ ap (option_map conjunction_of) c.in-Some.is

pub answer_with_values-requires-clause-can : goal.answer_with_values-requires-clause-can
answer_with_values-requires-clause-can c = record { stand = c.nodes_asked.ensures; start = c.requires.ground }
