-- Why a check refuses.
use Rattle.std.specs.Prelude.{◌≡◌, Option, Some}
use Rattle.hp_syntax.specs.declared.check.CheckFault.{CheckFault}
use Rattle.hp_check.specs.declared.CheckRefusal.{CheckRefusal}
use Rattle.hp_check.specs.declared.CheckRefusal.TheVariants.{Fault, NoMemory}

-- the fault that is told is the first one; without memory nothing is known
abbrev pub Stops : Option CheckFault → CheckRefusal → Type 0
Stops first (Fault f) = first ≡ Some f
Stops first NoMemory = Unit {0}
