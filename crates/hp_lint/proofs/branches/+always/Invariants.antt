use Rattle.std.proofs.Common.{◌≡◌, drop}
use Rattle.hp_syntax.specs.Views.{expressions_of}
use Rattle.hp_lint.specs.Branches.{all_always, any_always}
use Rattle.hp_lint.proofs.branches.+always.Given as goal

abbrev pub invariant-all_always-loop-part : goal.invariant-all_always-loop-part
invariant-all_always-loop-part l =
    all_always (expressions_of (drop l.part-index l.parts)) ≡ all_always (expressions_of l.parts)

abbrev pub invariant-any_always-loop-part : goal.invariant-any_always-loop-part
invariant-any_always-loop-part l =
    any_always (expressions_of (drop l.part-index l.parts)) ≡ any_always (expressions_of l.parts)
