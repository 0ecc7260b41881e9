use Rattle.std.proofs.Common.{map, ap, slice_get, ◌∙◌}
use Rattle.hp_syntax.specs.Views.{branch_of}
use Rattle.hp_doctor_tree.proofs.DeedSteps.{item_at}
use Rattle.hp_doctor_tree.proofs.deeds.branch_at.Goals as goal

pub returns : goal.returns
returns c =
    item_at branch_of c.deref.result.now c.args.number c.get.result c.get.ensures.lookup
    ∙ ap (λ bs. slice_get (map branch_of bs) c.args.number) c.deref.ensures.value
