use Rattle.std.proofs.Common.{◌∙◌, ap, sym}
use Rattle.hp_syntax.specs.Report.{state_text}
use Rattle.hp_world.specs.Stages.{state_of, guards_of}
use Rattle.hp_out.proofs.PageSteps.{empty_put, puts_same}
use Rattle.hp_out.proofs.PathSteps.{is_asked, not_asked}
use Rattle.hp_out.proofs.ReportSteps.{for_one, for_two}
use Rattle.hp_out.proofs.plans.push_asked_state.Goals as goal

pub returns-then-not-states-clause-puts : goal.returns-then-not-states-clause-puts
returns-then-not-states-clause-puts g c =
    for_one _ _ _ c.world-world.ensures.state
    (λ n s. empty_put _ _ (not_asked c.args.states (state_text n) c.if-not-states.true))

pub returns-clause-puts : goal.returns-clause-puts
returns-clause-puts g c =
    for_two _ _ _ _ c.world-world.ensures.state c.world-world.ensures.guards
    (λ n s k.
    puts_same c.push_state.result _ _ _ _ (is_asked c.args.states (state_text n) c.if-not-states.false)
    (c.push_state.ensures.puts n (sym s ∙ ap (λ ts. state_of ts c.world-world.result.now.now) (sym c.cells.ensures))
    (sym k ∙ ap (λ ts. guards_of ts c.world-world.result.now.now) (sym c.cells.ensures))))
