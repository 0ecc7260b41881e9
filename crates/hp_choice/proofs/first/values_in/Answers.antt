use Rattle.std.proofs.Common.{arith}
use Rattle.std.proofs.lemmas.Grind.{common_steps}
use Rattle.hp_eval.specs.Slotted.{bindings_of}
use Rattle.hp_choice.proofs.FirstSteps.{value_added}
use Rattle.hp_choice.proofs.first.values_in.Goals as goal

pub loop-variable-preserved : goal.loop-variable-preserved
loop-variable-preserved c =
    let l = c.loop-variable in
    record {
      room = grind (arith, common_steps);
      so_far =
          value_added (bindings_of c.args.cells.now c.args.slots.now) l.variable l.values.items
          c.push_reserved.new.self.items c.in_ok-value.value l.invariant.so_far c.in_ok-value.ensures
          c.push_reserved.ensures.items;
    }
