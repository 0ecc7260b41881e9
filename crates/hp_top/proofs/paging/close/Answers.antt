use Rattle.std.proofs.Common.{◌≡◌, drop, subst}
use Rattle.std.specs.Prelude.{Err}
use Rattle.hp_telling.specs.declared.halt.Halt.TheVariants.{NoMemory, Failed}
use Rattle.hp_top.proofs.PagingSteps.{failed_behind, unwritten_behind, wanting_behind, written_behind}
use Rattle.hp_top.proofs.paging.close.Goals as goal

-- writing to the page failed
pub returns-in-Err-Failed-clause-tells : goal.returns-in-Err-Failed-clause-tells
returns-in-Err-Failed-clause-tells g c = λ a f later told.
    let halt : c.in-Err-Failed.field-0 ≡ Failed = rw c.in-Err-Failed.is at c.in-Err-Failed.field-0-is in
    failed_behind c.args.told a f _ _ _ _ (subst (λ h. c.args.told ≡ Err h) halt c.in-Err-Failed.is)
    c.args.paged.now.grown told

-- memory was wanting, and of the page something was written or nothing
pub returns-in-Err-NoMemory-clause-tells : goal.returns-in-Err-NoMemory-clause-tells
returns-in-Err-NoMemory-clause-tells g c = λ a f later told.
    let halt : c.in-Err-NoMemory.field-0 ≡ NoMemory = rw c.in-Err-NoMemory.is at c.in-Err-NoMemory.field-0-is in
    let old = c.args.paged.now in
    let new = c.flush.new.self in
    wanting_behind c.args.told a f (g.K.Sink.faults old.sink) (g.K.Sink.faults new.sink) g.O.Origin.taken
    (g.K.Sink.bytes old.sink) (g.K.Sink.bytes new.sink) (drop old.done old.page.items) (drop new.done new.page.items)
    (subst (λ h. c.args.told ≡ Err h) halt c.in-Err-NoMemory.is) new.grown c.flush.ensures.same told

pub returns-in-Ok-flush-clause-tells : goal.returns-in-Ok-flush-clause-tells
returns-in-Ok-flush-clause-tells g c = λ a f later told.
    written_behind c.args.told c.in-Ok.status a f _ _ _ _ _ _ _ c.in-Ok.is c.in-Ok-flush.ensures.empty
    c.flush-in-Ok.ensures.same told

-- all was told, and the page couldn't be written
pub returns-in-Err-clause-tells : goal.returns-in-Err-clause-tells
returns-in-Err-clause-tells g c = λ a f later told.
    unwritten_behind c.args.told c.in-Ok.status a f _ _ _ _ _ _ _ c.in-Ok.is c.in-Err.ensures.left later
    c.in-Err.ensures.cause c.flush-in-Ok.new.self.grown c.flush-in-Ok.ensures.same told
