use Rattle.std.proofs.Common.{map, ap, ◌∙◌}
use Rattle.hp_syntax.specs.GroundViews.{ground_of}
use Rattle.hp_changes.proofs.TermSteps.{list_copied}
use Rattle.hp_changes.proofs.terms.+copied.Goals as goal

pub copy-returns-in_ok-own-in-List : goal.copy-returns-in_ok-own-in-List
copy-returns-in_ok-own-in-List t c =
    list_copied c.args.term.now c.in-List.parts c.in_ok-own-in-List.own c.in-List.is
    (c.in_ok-own-in-List.ensures ∙ ap (map ground_of) c.as_slice.ensures.value)
