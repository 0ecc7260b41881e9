use Rattle.std.proofs.Common.{refl}
use Rattle.hp_io.specs.declared.folder.Input.TheVariants as inputs
use Rattle.hp_out.specs.declared.refusal.Refusal.TheVariants.{Read}
use Rattle.hp_doctor_derive.proofs.plans.unread.Goals as goal

pub returns : goal.returns
returns c = record { other = Read inputs.Plan; as_it_is = refl; without = refl }
