use Rattle.std.proofs.Common.{length, sym, ◌∙◌, arith}
use Rattle.hp_choice.specs.Starting.{levels_from}
use Rattle.hp_unmet.specs.Trials.{conjunction_of, rules_tried, tried}
use Rattle.hp_unmet.proofs.AnswerLemmas.{not_met}
use Rattle.hp_unmet.proofs.FoundLemmas.{keeps}
use Rattle.hp_unmet.proofs.HalvingSteps.{between_lower}
use Rattle.hp_unmet.proofs.trial.Trial.nearer.Goals as goal

pub returns-else-is_met-clause-held : goal.returns-else-is_met-clause-held
returns-else-is_met-clause-held c = λ n at o starts.
    let s = c.args.self.now in
    let middle = c.more-middle.result in
    let nest = levels_from c.args.walk.now.nest s.start in
    let found = tried s nest n.state o in
    let some = c.step_from-more.ensures.some in
    let apart = c.step_from-more.ensures.below in
    let count = c.more-middle.ensures.count in
    between_lower found (length s.asked.parts.now) c.args.between middle (c.requires.held n at o starts)
    (keeps (rules_tried s) nest n.state (conjunction_of s.asked) o)
    (not_met (found middle.count) (sym c.if-is_met.false ∙ c.in_ok-is_met.ensures.met n at o starts))
    (omega arith) (omega arith)
