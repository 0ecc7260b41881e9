use Rattle.std.proofs.Common.{arith, inl}
use Rattle.hp_top.proofs.loading.file_prefix.Goals as goal

pub returns-in-Ok-clause-later : goal.returns-in-Ok-clause-later
returns-in-Ok-clause-later g c = λ w. omega (arith, c.begin.ensures.later w, c.read_rest.ensures.later w)

-- an input that isn't begun is as it was
pub returns-in-Err-Failed-clause-touched : goal.returns-in-Err-Failed-clause-touched
returns-in-Err-Failed-clause-touched g c =
    inl (record { begun = c.in-Err-Failed.ensures.err.1; rest = c.in-Err-Failed.ensures.err.0 })

pub returns-in-Err-NoMemory-clause-touched : goal.returns-in-Err-NoMemory-clause-touched
returns-in-Err-NoMemory-clause-touched g c =
    inl (record { begun = c.in-Err-NoMemory.ensures.err.1; rest = c.in-Err-NoMemory.ensures.err.0 })
