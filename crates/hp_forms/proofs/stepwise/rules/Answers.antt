use Rattle.std.proofs.Common.{[], map, refl, ◌∙◌}
use Rattle.std.proofs.lemmas.List.{map-append}
use Rattle.std.proofs.lemmas.Option.{MatchOption-at_some, MatchOption-at_none}
use Rattle.hp_syntax.specs.Grammar as grammar
use Rattle.hp_syntax.specs.Views.{rule_of}
use Rattle.hp_text.specs.Nodes.{node_of}
use Rattle.hp_text.specs.Stepping.{place_of, text_of}
use Rattle.hp_forms.proofs.StepwiseSteps.{no_items, item_more, items_read, node_read, read_of, less_left}
use Rattle.hp_forms.proofs.stepwise.rules.Goals as goal

pub loop-scope-init : goal.loop-scope-init
loop-scope-init c = record {
  placed = c.requires;
  text = refl;
  items =
      rw c.new-rules.ensures.items
      (no_items grammar.rule (text_of c.args.reader.now) (place_of c.args.reader.now) []);
}

pub returns-in_default-clause-rules : goal.returns-in_default-clause-rules
returns-in_default-clause-rules c =
    rw (MatchOption-at_none _ _ c.in_default.is c.in_ok-node.ensures.stays)
    (items_read grammar.rule (text_of c.args.reader.now) (place_of c.args.reader.now) (place_of c.loop-scope.reader)
    [] [] (map rule_of c.loop-scope.rules.items) c.loop-scope.invariant.items)

pub loop-scope-smaller : goal.loop-scope-smaller
loop-scope-smaller c =
    let passes = MatchOption-at_some _ _ c.in-Some.node c.in-Some.is c.in_ok-node.ensures.passes in
    less_left (text_of c.loop-scope.reader) (text_of c.next.new.self) (text_of c.loop-scope.reader) (place_of c.loop-scope.reader)
    (place_of c.next.new.self) c.in_ok-node.ensures.text refl passes.grows
    c.in_ok-node.ensures.placed.between.within

pub loop-scope-preserved : goal.loop-scope-preserved
loop-scope-preserved c =
    let formed = MatchOption-at_some _ _ c.in-Some-2.next c.in-Some-2.is c.in_ok-next.ensures in
    let passes = MatchOption-at_some _ _ c.in-Some.node c.in-Some.is c.in_ok-node.ensures.passes in
    let read = read_of rule_of c.rule.result (grammar.rule (node_of c.in-Some.node)) [] [] c.in-Some-2.next formed
    (c.rule.ensures []) in
    record {
      placed = c.in_ok-node.ensures.placed;
      text = c.in_ok-node.ensures.text ∙ c.loop-scope.invariant.text;
      items =
          rw (c.in_ok-push.ensures.items, map-append)
          (item_more grammar.rule (text_of c.args.reader.now) (place_of c.args.reader.now) (place_of c.loop-scope.reader)
          (place_of c.next.new.self) [] [] [] (map rule_of c.loop-scope.rules.items)
          (rule_of c.in-Some-2.next) c.loop-scope.invariant.items
          (node_read grammar.rule (text_of c.args.reader.now) (text_of c.loop-scope.reader) (place_of c.loop-scope.reader)
          (place_of c.next.new.self) [] [] (rule_of c.in-Some-2.next) (node_of c.in-Some.node)
          c.loop-scope.invariant.text passes read));
    }
