use Rattle.std.proofs.Common.{arith, rules}
use Rattle.hp_io.proofs.FileLemmas.{first_found}
use Rattle.hp_io.proofs.mem_folder.MemFolderFolder.begin.Goals as goal

pub returns-clause-fails : goal.returns-clause-fails
returns-clause-fails c =
    let found = first_found _ _ _ c.in-Some.ensures.found in
    let same = c.as_slice.ensures.value in
    grind (arith, found)

pub returns-clause-rest : goal.returns-clause-rest
returns-clause-rest c =
    let found = first_found _ _ _ c.in-Some.ensures.found in
    let same = c.as_slice.ensures.value in
    grind (arith, found)

pub returns-in_default-clause-fails : goal.returns-in_default-clause-fails
returns-in_default-clause-fails c = search rules
