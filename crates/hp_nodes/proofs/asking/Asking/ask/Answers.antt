use Rattle.std.proofs.Common.{ap, ap₂, [], ◌∷◌}
use Rattle.std.proofs.lemmas.Result.{on_ok_weaker}
use Rattle.hp_syntax.specs.Views.{patterns_of}
use Rattle.hp_nodes.specs.Asked.{all_variables, known_arguments, tail_variables}
use Rattle.hp_nodes.specs.Marks.{marked}
use Rattle.hp_nodes.proofs.MarkLemmas.{marks_both}
use Rattle.hp_nodes.proofs.asking.Asking.ask.Goals as goal

pub returns-clause-known : goal.returns-clause-known
returns-clause-known c =
    let goal = c.args.goal.now in
    let told = rw c.as_slice.ensures.value at c.in_ok-ask_arguments.ensures.known in
    on_ok_weaker c.mark_tail.result
    (λ tail. ap₂ (λ k seen. record { head = k.head; sure = k.sure; seen = seen }) told
    (marks_both (all_variables (patterns_of goal.args.items)) (tail_variables goal.tail) c.args.self.now.seen.items
    c.ask_arguments.new.self.seen.items c.mark_tail.new.marks.items (ap (λ k. k.seen) told) tail)) c.mark_tail.ensures

pub returns-clause-asked : goal.returns-clause-asked
returns-clause-asked c =
    let arguments = patterns_of c.args.goal.now.args.items in
    let sure = marked c.args.self.now.sure.items in
    let seen = marked c.args.self.now.seen.items in
    on_ok_weaker c.mark_tail.result
    (λ tail. marks_both (0 ∷ []) (known_arguments sure seen 1 arguments) c.args.self.now.asked.items
    c.mark.new.marks.items
    c.ask_arguments.new.self.asked.items c.in_ok-mark.ensures
    (rw c.as_slice.ensures.value at c.in_ok-ask_arguments.ensures.asked)) c.mark_tail.ensures
