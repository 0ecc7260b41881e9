use Rattle.std.proofs.Common.{◌≡◌, ◌++◌, drop}
use Rattle.hp_syntax.specs.Views.{pattern_of, patterns_of}
use Rattle.hp_syntax.specs.Written as written
use Rattle.hp_syntax.specs.Written.{rest_text}
use Rattle.hp_print.proofs.Sizes.{pattern_size, patterns_size}
use Rattle.hp_print.proofs.terms.+pattern.Given as goal

abbrev pub decreases-push_pattern : goal.decreases-push_pattern
decreases-push_pattern l = pattern_size (pattern_of l.pat.now)

abbrev pub decreases-push_list : goal.decreases-push_list
decreases-push_list l = patterns_size (patterns_of l.parts.now)

abbrev pub decreases-push_items : goal.decreases-push_items
decreases-push_items l = patterns_size (patterns_of l.parts.now)

abbrev pub invariant-push_items-loop-part : goal.invariant-push_items-loop-part
invariant-push_items-loop-part l =
    l.text.items ++ rest_text (written.items l.vars (patterns_of (drop l.part-index l.parts)) l.tail)
    ≡ l.fn.text.items ++ rest_text (written.items l.vars (patterns_of l.parts) l.tail)
