use Rattle.std.proofs.Common.{sym, ◌∙◌}
use Rattle.hp_nodes.specs.Marks.{marked}
use Rattle.hp_nodes.proofs.AskingLemmas.{part_left, part_taken}
use Rattle.hp_nodes.proofs.asking.marked_parts.Goals as goal
use Rattle.hp_nodes.proofs.asking.marked_parts.Goals.{then-is_marked+in_ok-push, else-is_marked}

pub loop-part-preserved : goal.loop-part-preserved
loop-part-preserved c =
    let set = marked c.args.marks.now in
    let n = c.loop-part.part in
    let parts = c.loop-part.parts.items in
    let is = sym c.is_marked.ensures in
    elim c.if-is_marked.branch [
      | then-is_marked+in_ok-push w ↦
          rw w.parts-is
          (part_taken set n parts c.loop-part.invariant w.push.new.self.items (is ∙ w.if-is_marked.true)
          w.in_ok-push.ensures.items)
      | else-is_marked w ↦
          rw w.parts-is (part_left set n parts c.loop-part.invariant (is ∙ w.if-is_marked.false))
    ]
