use Rattle.std.proofs.lemmas.Result.{on_ok_weaker}
use Rattle.hp_syntax.specs.Views.{patterns_of}
use Rattle.hp_nodes.specs.Asked.{all_variables, tail_variables}
use Rattle.hp_nodes.proofs.MarkLemmas.{marks_both}
use Rattle.hp_nodes.proofs.marks.mark_atom.Goals as goal

pub returns : goal.returns
returns c =
    let atom = c.args.atom.now in
    let args = rw c.as_slice.ensures.value at c.in_ok-mark_patterns.ensures in
    on_ok_weaker c.mark_tail.result
    (λ tail. marks_both (all_variables (patterns_of atom.args.items)) (tail_variables atom.tail) c.args.marks.now.items
    c.mark_patterns.new.marks.items c.mark_tail.new.marks.items args tail) c.mark_tail.ensures
