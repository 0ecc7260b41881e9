-- The index past all trees is that past those that are left, from where the first of them end.
use Rattle.std.proofs.Common.{◌≡◌, ◌-◌}
use Rattle.hp_code.specs.Codes.{code_of}
use Rattle.hp_choice.specs.Asking as plain
use Rattle.hp_unmet.proofs.nodes.past.Given as goal

abbrev pub invariant-loop : goal.invariant-loop
invariant-loop l =
    let nodes = (code_of l.code).nodes in
    plain.past nodes l.fn.node l.fn.count ≡ plain.past nodes l.next (l.fn.count - l.counter)
