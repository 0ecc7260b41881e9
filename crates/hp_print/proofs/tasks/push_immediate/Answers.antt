use Rattle.std.proofs.Common.{append_assoc, append-nil}
use Rattle.hp_syntax.specs.Written.{node_text}
use Rattle.hp_print.proofs.WrittenTexts.{written_as}
use Rattle.hp_print.proofs.tasks.push_immediate.Goals as goal

pub returns : goal.returns
unfolding node_text
returns c =
    let begun = rw c.bytes.ensures.same at c.in_ok-push_all.ensures in
    let written = rw (begun, c.as_slice.ensures.value) at c.push_items.ensures in
    written_as c.push_items.result _ _ _ written (simp (append_assoc, append-nil))
