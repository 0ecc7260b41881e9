use Rattle.std.proofs.Common.{◌≤◌}
use Rattle.hp_syntax.specs.GroundViews.{ground_of, grounds_of}
use Rattle.hp_syntax.specs.TermTexts.{terms_text}
use Rattle.hp_out.specs.Pages.{desk}
use Rattle.hp_out.proofs.GroundSteps.{rest_from, term_size, terms_size}
use Rattle.hp_out.proofs.PageSteps.{PutUpTo}
use Rattle.hp_out.proofs.grounds.+ground.Given as goal

abbrev pub decreases-push_ground : goal.decreases-push_ground
decreases-push_ground g l = term_size (ground_of l.term.now)

abbrev pub decreases-push_list : goal.decreases-push_list
decreases-push_list g l = terms_size (grounds_of l.parts.now)

abbrev pub decreases-push_others : goal.decreases-push_others
decreases-push_others g l = terms_size (grounds_of l.parts.now)

abbrev pub invariant-push_others-loop-part : goal.invariant-push_others-loop-part
invariant-push_others-loop-part g l = record {
  put :
      PutUpTo (rest_from l.parts l.part-index) (terms_text (grounds_of l.parts))
      (desk (g.K.Sink.bytes l.fn.sink) l.fn.page) (desk (g.K.Sink.bytes l.sink) l.page);
  later : g.K.Sink.faults l.fn.sink ≤ g.K.Sink.faults l.sink;
}
