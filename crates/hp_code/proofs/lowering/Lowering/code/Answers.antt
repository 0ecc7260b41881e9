use Rattle.std.proofs.Common.{map, ap, sym, ◌∙◌}
use Rattle.hp_nodes.specs.NodeViews.{laid_of}
use Rattle.hp_nodes.specs.Trees.{roots}
use Rattle.hp_tables.specs.Tables.{places_in}
use Rattle.hp_code.specs.CodeViews.{concluded_in}
use Rattle.hp_code.specs.Lowerings.{so_far}
use Rattle.hp_code.proofs.CodeLemmas.{code_keeps, code_trees}
use Rattle.hp_code.proofs.lowering.Lowering.code.Goals as goal

pub invariant_of-result : goal.invariant_of-result
invariant_of-result c =
    let own = c.args.self in
    let can = c.requires in
    record {
      kept = code_keeps can.rules (so_far own) can.holds.code can.numbered can.checked;
      rules_are = can.holds.places ∙ ap (roots 0) (sym (code_trees can.rules (so_far own) can.holds.code));
      concluded_are =
          c.in_ok-concluded.ensures
          ∙ ap (λ ns. concluded_in (places_in own.axiom_rules) (map laid_of ns)) c.as_slice.ensures.value;
    }
