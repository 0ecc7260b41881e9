use Rattle.std.proofs.lemmas.Option.{slice_get_within}
use Rattle.hp_eval.proofs.values.listed.Goals as goal

pub within_depth-requires : goal.within_depth-requires
within_depth-requires c = record {
  list =
      slice_get_within c.list_onto.new.cells c.in_ok-list.list _
      (c.in_ok-list.ensures.names c.requires.rest.0 c.requires.rest.1);
}
