use Rattle.std.proofs.Common.{◌≡◌, ◌++◌}
use Rattle.hp_out.proofs.GroundSteps.{rest_from, term_size, terms_size}
use Rattle.hp_syntax.specs.GroundViews.{ground_of, grounds_of}
use Rattle.hp_syntax.specs.TermTexts.{terms_text}
use Rattle.hp_doctor_tree.proofs.grounds.+ground.Given as goal

abbrev pub decreases-push_ground : goal.decreases-push_ground
decreases-push_ground l = term_size (ground_of l.term.now)

abbrev pub decreases-push_list : goal.decreases-push_list
decreases-push_list l = terms_size (grounds_of l.parts.now)

abbrev pub decreases-push_others : goal.decreases-push_others
decreases-push_others l = terms_size (grounds_of l.parts.now)

abbrev pub invariant-push_others-loop-part : goal.invariant-push_others-loop-part
invariant-push_others-loop-part l =
    l.out.items ++ rest_from l.parts l.part-index ≡ l.fn.out.items ++ terms_text (grounds_of l.parts)
