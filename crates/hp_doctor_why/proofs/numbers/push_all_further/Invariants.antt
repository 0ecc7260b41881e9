use Rattle.std.proofs.Common.{◌≡◌, ◌++◌, drop}
use Rattle.std.specs.List.{flat_map}
use Rattle.std.specs.Prelude.{codes, decimal}
use Rattle.hp_doctor_why.proofs.numbers.push_all_further.Given as goal

abbrev pub invariant-loop-number : goal.invariant-loop-number
invariant-loop-number l =
    l.out.items ++ flat_map (λ n. codes "." ++ decimal n) (drop l.number-index l.further)
    ≡ l.fn.out.items ++ flat_map (λ n. codes "." ++ decimal n) l.further
