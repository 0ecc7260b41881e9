use Rattle.std.proofs.Common.{◌≤◌, ◌∙◌, ap, drop, map, subst}
use Rattle.hp_out.specs.Paged.{laid}
use Rattle.hp_out.proofs.PagedSteps.{laid_nothing}
use Rattle.hp_syntax.specs.Views.{pair_of}
use Rattle.hp_top.specs.Engines.{told_of_pairs}
use Rattle.hp_top.proofs.PagingSteps.{told_back, told_from}
use Rattle.hp_top.proofs.paging.tell_before.Goals as goal

pub returns-clause-tells : goal.returns-clause-tells
returns-clause-tells g c = λ rules by.
    let faults = g.K.Sink.faults in
    let bytes = g.K.Sink.bytes in
    let taken = g.O.Origin.taken in
    let w = c.args.task.wanted in
    let a = told_of_pairs w rules (map pair_of c.args.task.pairs.now) in
    let new = c.new-paged.result in
    let told = c.tell_pairs-told.new.out in
    let same = c.new-paged.ensures.same in
    let start = laid (bytes new.sink) (drop new.done new.page.items) in
    let end = laid (bytes told.sink) (drop told.done told.page.items) in
    let later : faults c.args.sink ≤ faults told.sink =
    subst (λ n. n ≤ faults told.sink) (ap faults same) c.tell_pairs-told.ensures.later in
    told_back faults bytes a c.close-status.result (faults c.args.sink) taken (bytes c.args.sink)
    c.close-status.new.paged.sink c.into_sink.result c.requires.taken c.into_sink.ensures
    (c.close-status.ensures.tells a (faults c.args.sink) later
    (told_from c.tell_pairs-told.result a (faults new.sink) (faults c.args.sink) (faults told.sink) start taken end
    (ap faults same)
    (laid_nothing (drop new.done new.page.items) (bytes new.sink) c.new-paged.ensures.empty ∙ ap bytes same
    ∙ c.requires.taken)
    (c.tell_pairs-told.ensures.told rules by)))
