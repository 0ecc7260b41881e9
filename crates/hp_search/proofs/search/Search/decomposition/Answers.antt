use Rattle.std.proofs.Common.{◌≡◌, ◌-◌, true, length, is_some, Some, None, sym, ◌∙◌, ap, subst}
use Rattle.std.specs.Prelude.{option_copied, slice_get}
use Rattle.hp_choice.specs.declared.choice.Choice.{Choice}
use Rattle.hp_suspended.specs.SceneViews.{code_in}
use Rattle.hp_agenda.specs.Queues.{rule_of}
use Rattle.hp_search.specs.Led.{IsLed}
use Rattle.hp_search.specs.Planned.{planned}
use Rattle.hp_search.proofs.LedLemmas.{gave_rule, is_led, last_none, last_split, none_led, open_last, open_there}
use Rattle.hp_search.proofs.search.Search.decomposition.Goals as goal

pub place_of_rule-requires : goal.place_of_rule-requires
place_of_rule-requires c =
    let s = c.args.self.now in
    let f = c.in-Some.parent.now in
    let there : slice_get s.above.items (length s.above.items - 1) ≡ Some f =
    ap (λ xs. slice_get xs (length xs - 1)) (sym c.as_slice.ensures.value)
    ∙ (sym c.last.ensures.value ∙ ap option_copied c.in-Some.is) in
    let split = last_split s.above.items f there in
    subst (λ (x : Choice). is_some (rule_of (code_in s.site.scene) x.rule) ≡ true) (sym c.deref-choice.ensures)
    (gave_rule s f s.top.mark (open_last s c.requires f split.0 split.1) c.in-Some-open.choice c.in-Some-open.is)

pub returns-in-Some-open : goal.returns-in-Some-open
returns-in-Some-open c = λ live.
    let s = c.args.self.now in
    let f = c.in-Some.parent.now in
    let there : slice_get s.above.items (length s.above.items - 1) ≡ Some f =
    ap (λ xs. slice_get xs (length xs - 1)) (sym c.as_slice.ensures.value)
    ∙ (sym c.last.ensures.value ∙ ap option_copied c.in-Some.is) in
    let split = last_split s.above.items f there in
    let is = c.deref-choice.ensures in
    let place = c.place_of_rule.result in
    subst (λ (x : Choice). IsLed (planned s live)
    (record { candidate = f.agenda.queue.at; task = x.task; rule = place; branch = x.branch })) (sym is)
    (is_led s c.requires f split.0 split.1 c.in-Some-open.choice c.in-Some-open.is live place
    (c.place_of_rule.ensures ∙ ap (λ (x : Choice). rule_of (code_in s.site.scene) x.rule) is))

pub returns-in-None-open : goal.returns-in-None-open
returns-in-None-open c = λ live.
    let s = c.args.self.now in
    let f = c.in-Some.parent.now in
    let there : slice_get s.above.items (length s.above.items - 1) ≡ Some f =
    ap (λ xs. slice_get xs (length xs - 1)) (sym c.as_slice.ensures.value)
    ∙ (sym c.last.ensures.value ∙ ap option_copied c.in-Some.is) in
    let split = last_split s.above.items f there in
    absurd (open_there s f s.top.mark (open_last s c.requires f split.0 split.1) c.in-None-open.is)

pub returns-in-None : goal.returns-in-None
returns-in-None c = λ live.
    let s = c.args.self.now in
    let none : slice_get s.above.items (length s.above.items - 1) ≡ None =
    ap (λ xs. slice_get xs (length xs - 1)) (sym c.as_slice.ensures.value)
    ∙ (sym c.last.ensures.value ∙ ap option_copied c.in-None.is) in
    none_led s live (last_none s.above.items none)
