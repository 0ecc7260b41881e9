-- A trial of a task asks by the nodes of the parts, which stand where the domain's rule asks for them.
use Rattle.std.proofs.Common.{option_map, sym, ap, ◌∙◌}
use Rattle.hp_unmet.specs.Trials.{conjunction_of}
use Rattle.hp_unmet.proofs.against.against_in.Goals as goal

pub nodes_asked-requires-clause-asked : goal.nodes_asked-requires-clause-asked
nodes_asked-requires-clause-asked c = sym c.asked_in.ensures ∙ ap (option_map conjunction_of) c.in-Some.is

pub against-requires-clause-can : goal.against-requires-clause-can
against-requires-clause-can c = record { stand = c.nodes_asked.ensures; start = c.requires.ground }
