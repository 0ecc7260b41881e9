use Rattle.std.proofs.Common.{◌≡◌, [], map, refl, ◌∙◌}
use Rattle.std.proofs.lemmas.Option.{MatchOption-at_some}
use Rattle.hp_syntax.specs.Grammar as grammar
use Rattle.hp_syntax.specs.Steps.{each}
use Rattle.hp_syntax.specs.Text.{Opening, Closing}
use Rattle.hp_syntax.specs.Views.{rule_of}
use Rattle.hp_text.specs.Stepping.{place_of, text_of}
use Rattle.hp_forms.proofs.StepwiseSteps.{bracket_in, node_in, gap_in, form_in, read_in, domain_read}
use Rattle.hp_forms.proofs.stepwise.domain.Goals as goal

pub returns-then-is_at_end : goal.returns-then-is_at_end
returns-then-is_at_end c =
    let text = c.args.bytes.now in
    let at_first : text_of c.in-Some.reader ≡ text = c.in-Some.ensures.text in
    let at_word : text_of c.enter.new.self ≡ text = c.if-not-enter.ensures.text ∙ at_first in
    let at_name : text_of c.passes_word.new.reader ≡ text = c.in_ok-passes_word.ensures.text ∙ at_word in
    let at_list : text_of c.next_name.new.reader ≡ text = c.in_ok-name.ensures.text ∙ at_name in
    let in_list : text_of c.enter-2.new.self ≡ text = c.if-not-enter-2.ensures.text ∙ at_list in
    let in_end : text_of c.rules.new.reader ≡ text = c.in_ok-rules.ensures.text ∙ in_list in
    let at_end : text_of c.leave.new.self ≡ text = c.if-leave.ensures.text ∙ in_end in
    let behind : text_of c.leave-then-leave.new.self ≡ text = c.if-leave-2.ensures.text ∙ at_end in
    let worded = c.in_ok-passes_word.ensures.passes c.if-not-branch.false in
    let named = MatchOption-at_some _ _ (c.in-Some-2.name, c.in-Some-2.field-0-1) c.in-Some-2.is c.in_ok-name.ensures.name in
    let ruled = MatchOption-at_some _ _ c.in-Some-3.rules c.in-Some-3.is c.in_ok-rules.ensures.rules in
    domain_read text (rw (← at_first) c.in-Some.ensures.placed.clear) (place_of c.enter.new.self)
    (place_of c.passes_word.new.reader) (place_of c.next_name.new.reader) (place_of c.enter-2.new.self)
    (place_of c.rules.new.reader)
    (rw (← c.in-Some.ensures.first) (bracket_in Opening text _ (place_of c.in-Some.reader) _ at_first (c.if-not-enter.ensures.enters refl)))
    (place_of c.leave.new.self) (place_of c.leave-then-leave.new.self) worded.0 c.in-Some-2.name
    (map rule_of c.in-Some-3.rules.items) (node_in text _ _ _ worded.0 at_word worded.1) worded.2
    (read_in grammar.name text _ _ _ [] [] _ at_name named.0)
    (bracket_in Opening text _ _ _ at_list (c.if-not-enter-2.ensures.enters refl))
    (form_in (each grammar.rule) text _ _ _ [] [] _ in_list ruled)
    (bracket_in Closing text _ _ _ in_end (c.if-leave.ensures.leaves refl))
    (bracket_in Closing text _ _ _ at_end (c.if-leave-2.ensures.leaves refl))
    (gap_in text _ _ behind (c.if-is_at_end.ensures.gap refl))
