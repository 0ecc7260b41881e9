use Rattle.hp_out.proofs.PagedSteps.{written_and_left}
use Rattle.hp_out.proofs.paged.Paged.flush.Goals as goal

-- what is written and what is left are what stood on the page
pub returns-in_err-write_rest-clause-same : goal.returns-in_err-write_rest-clause-same
returns-in_err-write_rest-clause-same g c =
    written_and_left _ _ _ _ _ (rw c.as_slice.ensures.value at c.write_rest.ensures.wrote)
