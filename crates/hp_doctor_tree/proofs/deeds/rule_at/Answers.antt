use Rattle.std.proofs.Common.{map, ap, slice_get, ◌∙◌}
use Rattle.hp_syntax.specs.Views.{rule_of}
use Rattle.hp_doctor_tree.proofs.DeedSteps.{item_at}
use Rattle.hp_doctor_tree.proofs.deeds.rule_at.Goals as goal

pub returns : goal.returns
returns c =
    item_at rule_of c.deref.result.now c.args.number c.get.result c.get.ensures.lookup
    ∙ ap (λ rs. slice_get (map rule_of rs) c.args.number) c.deref.ensures.value
