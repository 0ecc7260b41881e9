use Rattle.std.proofs.Common.{◌≡◌, ◌+◌, drop}
use Rattle.hp_syntax.specs.Views.{patterns_of}
use Rattle.hp_nodes.specs.Asked.{all_variables, also, known_arguments}
use Rattle.hp_nodes.specs.Marks.{marked}
use Rattle.hp_nodes.proofs.AskingLemmas.{left_to_ask}
use Rattle.hp_nodes.proofs.asking.Asking.ask_arguments.Given as goal

abbrev pub invariant-loop-number : goal.invariant-loop-number
invariant-loop-number l =
    let left = patterns_of (drop l.number l.arguments) in
    let all = patterns_of l.arguments in
    let before = l.fn.self in
    record {
      head : marked l.self.head.items ≡ marked before.head.items;
      sure : marked l.self.sure.items ≡ marked before.sure.items;
      seen : also (all_variables left) (marked l.self.seen.items)
          ≡ also (all_variables all) (marked before.seen.items);
      asked : also (left_to_ask l.may_serve (marked before.sure.items) (marked l.self.seen.items) (l.number + 1) left)
          (marked l.self.asked.items)
          ≡ also (known_arguments (marked before.sure.items) (marked before.seen.items) 1 all)
          (marked before.asked.items);
    }
