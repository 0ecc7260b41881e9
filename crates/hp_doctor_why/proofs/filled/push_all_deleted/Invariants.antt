use Rattle.std.proofs.Common.{◌≡◌, ◌++◌, drop, map}
use Rattle.std.specs.List.{flat_map}
use Rattle.hp_syntax.specs.GroundViews.{ground_of}
use Rattle.hp_syntax.specs.Views.{effect_of}
use Rattle.hp_doctor_why.specs.Filled.{deleted_text}
use Rattle.hp_doctor_why.proofs.filled.push_all_deleted.Given as goal

abbrev pub invariant-loop-effect : goal.invariant-loop-effect
invariant-loop-effect l =
    let text = deleted_text l.names (map ground_of l.guards) in
    l.out.items ++ flat_map text (map effect_of (drop l.effect-index l.effects))
    ≡ l.fn.out.items ++ flat_map text (map effect_of l.effects)
