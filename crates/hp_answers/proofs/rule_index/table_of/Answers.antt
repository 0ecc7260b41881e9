use Rattle.std.proofs.Common.{map}
use Rattle.hp_syntax.specs.Views.{rule_of}
use Rattle.hp_tables.specs.Tables.{places_in}
use Rattle.hp_answers.specs.RuleIndexes.{places_from}
use Rattle.hp_answers.proofs.RuleIndexLemmas.{place_more, place_all}
use Rattle.hp_answers.proofs.rule_index.table_of.Goals as goal

pub loop-place-preserved : goal.loop-place-preserved
loop-place-preserved c =
    λ name.
    let rules = c.args.rules.now in
    let whole = places_from c.args.kind name 0 (map rule_of rules) in
    place_more c.args.kind name rules c.loop-place.place (places_in c.loop-place.table name) whole
    (c.loop-place.invariant name) c.index-rules-place.result (places_in c.add_rule.new.self name)
    c.loop-place-test.true c.index-rules-place.is (c.in_ok-add_rule.ensures name)

pub returns : goal.returns
returns c =
    λ name.
    let rules = c.args.rules.now in
    let whole = places_from c.args.kind name 0 (map rule_of rules) in
    place_all c.args.kind name rules c.loop-place.place (places_in c.loop-place.table name) whole
    (c.loop-place.invariant name) c.loop-place-test.false
