use Rattle.std.proofs.Common.{◌≡◌, [], map, refl, ◌∙◌}
use Rattle.std.proofs.lemmas.Option.{MatchOption-at_some}
use Rattle.hp_syntax.specs.Grammar as grammar
use Rattle.hp_syntax.specs.Text.{Opening, Closing}
use Rattle.hp_syntax.specs.Views.{pair_of}
use Rattle.hp_text.specs.Stepping.{place_of, text_of}
use Rattle.hp_forms.specs.Stepwise.{PassesAs}
use Rattle.hp_forms.proofs.StepwiseSteps.{bracket_in, node_in, gap_in, form_in, read_in, problem_read}
use Rattle.hp_forms.proofs.stepwise.problem.Goals as goal

pub returns : goal.returns
returns c =
    let text = c.args.bytes.now in
    let at_first : text_of c.in-Some.reader ≡ text = c.in-Some.ensures.text in
    let at_word : text_of c.enter.new.self ≡ text = c.if-not-enter.ensures.text ∙ at_first in
    let at_own : text_of c.passes_word.new.reader ≡ text = c.in_ok-passes_word.ensures.text ∙ at_word in
    let at_domain : text_of c.next_name.new.reader ≡ text = c.in_ok-name.ensures.text ∙ at_own in
    let at_pairs : text_of c.next_name-2.new.reader ≡ text = c.in_ok-domain.ensures.text ∙ at_domain in
    let behind : text_of c.pairs.new.reader ≡ text = c.in_ok-pairs.ensures.text ∙ at_pairs in
    let worded = c.in_ok-passes_word.ensures.passes c.if-not-branch.false in
    let named = MatchOption-at_some _ _ (c.in-Some-2.name, c.in-Some-2.field-0-1) c.in-Some-2.is c.in_ok-name.ensures.name in
    let of =
    MatchOption-at_some _ _ (c.in-Some-3.domain, c.in-Some-3.domain_span) c.in-Some-3.is c.in_ok-domain.ensures.name in
    let paired = MatchOption-at_some _ _ c.in-Some-4.pairs c.in-Some-4.is c.in_ok-pairs.ensures.pairs in
    let own : PassesAs grammar.name text (place_of c.next_name.new.reader) (place_of c.next_name-2.new.reader) [] []
    c.in-Some-3.domain =
    record { node = of.0.node; passes = node_in text _ _ _ of.0.node at_domain of.0.passes; read = of.0.read } in
    rw (← of.1, c.in_ok-all_names.ensures)
    (problem_read text (rw (← at_first) c.in-Some.ensures.placed.clear) (place_of c.enter.new.self)
    (place_of c.passes_word.new.reader) (place_of c.next_name.new.reader) (place_of c.next_name-2.new.reader) paired.0
    (rw (← c.in-Some.ensures.first) (bracket_in Opening text _ (place_of c.in-Some.reader) _ at_first
    (c.if-not-enter.ensures.enters refl)))
    (place_of c.pairs.new.reader) worded.0 c.in-Some-2.name c.in-Some-3.domain (map pair_of c.in-Some-4.pairs.items)
    c.pairs.new.scope.names.keys (node_in text _ _ _ worded.0 at_word worded.1) worded.2
    (read_in grammar.name text _ _ _ [] [] _ at_own named.0) own
    (λ end. rw (← c.new-scope.ensures) (form_in (grammar.pairs end _) text _ _ _ _ _ _ at_pairs (paired.1 end)))
    (bracket_in Closing text _ _ _ at_pairs paired.2)
    (gap_in text _ _ behind (c.if-not-is_at_end.ensures.gap refl)))
