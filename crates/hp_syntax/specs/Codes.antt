-- The numbers by which a program ends.
use Rattle.std.specs.Prelude.{ℕ}
use Rattle.hp_syntax.specs.declared.status.Status.{Status}
use Rattle.hp_syntax.specs.declared.status.Status.TheVariants.{Done, NoMemory, Usage, ReadFault, DomainRefused, ProblemRefused, RunFault, WriteFault, PlanRefused, NoSuchPath, NoPlan, CutShort}

abbrev pub code_of : Status → ℕ
code_of Done = 0
code_of NoMemory = 1
code_of Usage = 2
code_of ReadFault = 3
code_of DomainRefused = 4
code_of ProblemRefused = 5
code_of RunFault = 6
code_of WriteFault = 7
code_of PlanRefused = 8
code_of NoSuchPath = 9
code_of NoPlan = 10
code_of CutShort = 11
