use Rattle.std.proofs.Common.{vec_len, arith}
use Rattle.hp_nodes.proofs.MarkLemmas.{marked_in_room}
use Rattle.hp_nodes.proofs.marks.mark.Goals as goal

pub returns : goal.returns
returns c =
    let marks = c.args.marks.now in
    marked_in_room marks.items c.resize.new.self.items c.args.number c.max-length.result (vec_len marks) marks.ok.0
    (omega arith) (omega arith) c.in_ok-resize.ensures.items
