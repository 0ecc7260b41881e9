use Rattle.std.proofs.Common.{◌≡◌, ◌++◌, drop}
use Rattle.std.specs.List.{flat_map}
use Rattle.hp_print.proofs.words.push_all.Given as goal

abbrev pub invariant-loop-part : goal.invariant-loop-part
invariant-loop-part l =
    l.text.items ++ flat_map (λ t. t.now) (drop l.part-index l.texts)
    ≡ l.fn.text.items ++ flat_map (λ t. t.now) l.texts
