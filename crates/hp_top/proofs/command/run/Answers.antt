use Rattle.std.proofs.Common.{inl, inr}
use Rattle.hp_top.proofs.RunSteps.{ends_well, ends_usage, ends_write, ends_read, ends_prefix, ends_proper}
use Rattle.hp_top.proofs.command.run.Goals as goal

pub returns-clause-exact : goal.returns-clause-exact
returns-clause-exact g c = λ files before told old memory read write.
    ends_well _ _ _ files before old memory write _ c.serve.ensures.ends told (inl read)

pub returns-clause-complete : goal.returns-clause-complete
returns-clause-complete g c = λ files before told old inputs sink memory.
    ends_well _ _ _ files before old memory (λ e. sink (ends_write _ _ _ _ c.serve.ensures.ends e)) _
    c.serve.ensures.ends told (inr inputs)

pub returns-clause-usage : goal.returns-clause-usage
returns-clause-usage g c = λ e. ends_usage _ _ _ _ c.serve.ensures.ends e

pub returns-clause-read : goal.returns-clause-read
returns-clause-read g c = λ e. ends_read _ _ _ _ c.serve.ensures.ends e

pub returns-clause-write : goal.returns-clause-write
returns-clause-write g c = λ e. ends_write _ _ _ _ c.serve.ensures.ends e

pub returns-clause-prefix : goal.returns-clause-prefix
returns-clause-prefix g c = λ files told e.
    ends_prefix _ _ _ _ files told (c.every_run_has_an_outcome.ensures _ files) c.serve.ensures.ends e

pub returns-clause-proper_prefix : goal.returns-clause-proper_prefix
returns-clause-proper_prefix g c = λ files told e.
    ends_proper _ _ _ _ files told (c.every_run_has_an_outcome.ensures _ files) c.serve.ensures.ends e

pub returns-clause-refused : goal.returns-clause-refused
returns-clause-refused g c = c.serve.ensures.untouched
