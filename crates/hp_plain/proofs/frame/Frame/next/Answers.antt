use Rattle.std.proofs.Common.{length, sym, subst, Some}
use Rattle.hp_plain.specs.Agendas.{rules_of}
use Rattle.hp_plain.specs.Frames.{left_of, TakesSuccessor}
use Rattle.hp_plain.proofs.FrameSteps.{takes_end}
use Rattle.hp_eval.proofs.GrowthLemmas.{grows_self}
use Rattle.hp_plain.proofs.frame.Frame.next.Goals as goal

pub returns-in-Some-clause-takes : goal.returns-in-Some-clause-takes
returns-in-Some-clause-takes c =
    let terms = c.args.cells.now in
    let context = c.args.context.now in
    let f = c.args.self.now in
    let told = c.at_end.ensures in
    subst (λ g. TakesSuccessor terms (Some c.at_end.result) (left_of (rules_of context) context.nest terms f)
    (left_of (rules_of context) context.nest terms g)) (sym told.frame)
    (takes_end (rules_of context) context.nest terms f c.at_end.result (told.takes terms) (told.fits (length terms)))

pub returns-in-Some-clause-cells : goal.returns-in-Some-clause-cells
returns-in-Some-clause-cells c = grows_self c.args.cells.now
