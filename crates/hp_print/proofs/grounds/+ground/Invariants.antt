use Rattle.std.proofs.Common.{◌≡◌, ◌++◌, drop}
use Rattle.hp_syntax.specs.GroundViews.{ground_of, grounds_of}
use Rattle.hp_syntax.specs.TermTexts.{terms_text}
use Rattle.hp_print.proofs.Sizes.{term_size, terms_size}
use Rattle.hp_print.proofs.grounds.+ground.Given as goal

abbrev pub decreases-push_ground : goal.decreases-push_ground
decreases-push_ground l = term_size (ground_of l.term.now)

abbrev pub decreases-push_list : goal.decreases-push_list
decreases-push_list l = terms_size (grounds_of l.parts.now)

abbrev pub decreases-push_more : goal.decreases-push_more
decreases-push_more l = terms_size (grounds_of l.parts.now)

abbrev pub invariant-push_more-loop-part : goal.invariant-push_more-loop-part
invariant-push_more-loop-part l =
    l.text.items ++ terms_text (grounds_of (drop l.part-index l.parts))
    ≡ l.fn.text.items ++ terms_text (grounds_of l.parts)
