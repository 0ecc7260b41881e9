use Rattle.std.proofs.Common.{◌≡◌, true, is_some, sym, ◌∙◌, ap, subst}
use Rattle.hp_choice.specs.declared.choice.Choice.{Choice}
use Rattle.hp_suspended.specs.SceneViews.{code_in}
use Rattle.hp_agenda.specs.Queues.{rule_of}
use Rattle.hp_search.specs.Led.{IsLedAt}
use Rattle.hp_search.specs.Planned.{planned}
use Rattle.hp_search.proofs.LedLemmas.{gave_rule, is_led_at, last_there, open_there}
use Rattle.hp_search.proofs.PathFrames.{child_there}
use Rattle.hp_search.proofs.search.Search.decomposition_at.Goals as goal

pub place_of_rule-requires : goal.place_of_rule-requires
place_of_rule-requires c =
    let s = c.args.self.now in
    let f = c.frame_at-above.result.now in
    subst (λ (x : Choice). is_some (rule_of (code_in s.site.scene) x.rule) ≡ true) (sym c.deref-choice.ensures)
    (gave_rule s f (child_there s c.requires.search c.args.level f c.frame_at-above.ensures).mark
    (last_there s c.requires.search c.args.level f c.frame_at-above.ensures) c.in-Some.choice c.in-Some.is)

pub unreachable-requires : goal.unreachable-requires
unreachable-requires c =
    let s = c.args.self.now in
    let f = c.frame_at-above.result.now in
    open_there s f (child_there s c.requires.search c.args.level f c.frame_at-above.ensures).mark
    (last_there s c.requires.search c.args.level f c.frame_at-above.ensures) c.in-None.is

pub returns : goal.returns
returns c = λ live.
    let s = c.args.self.now in
    let f = c.frame_at-above.result.now in
    let is = c.deref-choice.ensures in
    let place = c.place_of_rule.result in
    subst (λ (x : Choice). IsLedAt (planned s live) c.args.level
    (record { candidate = f.agenda.queue.at; task = x.task; rule = place; branch = x.branch })) (sym is)
    (is_led_at s c.requires.search c.args.level f c.frame_at-above.ensures c.in-Some.choice c.in-Some.is live place
    (c.place_of_rule.ensures ∙ ap (λ (x : Choice). rule_of (code_in s.site.scene) x.rule) is))
