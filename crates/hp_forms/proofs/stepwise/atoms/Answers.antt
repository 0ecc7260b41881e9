use Rattle.std.proofs.Common.{map, refl, ◌∙◌}
use Rattle.std.proofs.lemmas.List.{map-append}
use Rattle.std.proofs.lemmas.Option.{MatchOption-at_some, MatchOption-at_none}
use Rattle.hp_syntax.specs.Grammar as grammar
use Rattle.hp_syntax.specs.Views.{atom_of}
use Rattle.hp_text.specs.Nodes.{node_of}
use Rattle.hp_text.specs.Stepping.{place_of, text_of}
use Rattle.hp_forms.proofs.StepwiseSteps.{no_items, item_more, items_read, node_read, read_of, less_left}
use Rattle.hp_forms.proofs.stepwise.atoms.Goals as goal

pub loop-atoms-init : goal.loop-atoms-init
loop-atoms-init c = record {
  placed = c.requires;
  text = refl;
  items =
      rw c.new-atoms.ensures.items
      (no_items (grammar.atom grammar.InProblem) (text_of c.args.reader.now) (place_of c.args.reader.now) c.args.scope.now.names.keys);
}

pub returns-in_default-clause-atoms : goal.returns-in_default-clause-atoms
returns-in_default-clause-atoms c =
    rw (MatchOption-at_none _ _ c.in_default.is c.in_ok-node.ensures.stays)
    (items_read (grammar.atom grammar.InProblem) (text_of c.args.reader.now) (place_of c.args.reader.now) (place_of c.loop-atoms.reader)
    c.args.scope.now.names.keys c.loop-atoms.scope.names.keys (map atom_of c.loop-atoms.atoms.items) c.loop-atoms.invariant.items)

pub loop-atoms-smaller : goal.loop-atoms-smaller
loop-atoms-smaller c =
    let passes = MatchOption-at_some _ _ c.in-Some.node c.in-Some.is c.in_ok-node.ensures.passes in
    less_left (text_of c.loop-atoms.reader) (text_of c.next.new.self) (text_of c.loop-atoms.reader) (place_of c.loop-atoms.reader)
    (place_of c.next.new.self) c.in_ok-node.ensures.text refl passes.grows
    c.in_ok-node.ensures.placed.between.within

pub loop-atoms-preserved : goal.loop-atoms-preserved
loop-atoms-preserved c =
    let formed = MatchOption-at_some _ _ c.in-Some-2.next c.in-Some-2.is c.in_ok-next.ensures in
    let passes = MatchOption-at_some _ _ c.in-Some.node c.in-Some.is c.in_ok-node.ensures.passes in
    let read = read_of atom_of c.atom.result ((grammar.atom grammar.InProblem) (node_of c.in-Some.node)) c.loop-atoms.scope.names.keys c.atom.new.scope.names.keys c.in-Some-2.next formed
    c.atom.ensures in
    record {
      placed = c.in_ok-node.ensures.placed;
      text = c.in_ok-node.ensures.text ∙ c.loop-atoms.invariant.text;
      items =
          rw (c.in_ok-push.ensures.items, map-append)
          (item_more (grammar.atom grammar.InProblem) (text_of c.args.reader.now) (place_of c.args.reader.now) (place_of c.loop-atoms.reader)
          (place_of c.next.new.self) c.args.scope.now.names.keys c.loop-atoms.scope.names.keys c.atom.new.scope.names.keys (map atom_of c.loop-atoms.atoms.items)
          (atom_of c.in-Some-2.next) c.loop-atoms.invariant.items
          (node_read (grammar.atom grammar.InProblem) (text_of c.args.reader.now) (text_of c.loop-atoms.reader) (place_of c.loop-atoms.reader)
          (place_of c.next.new.self) c.loop-atoms.scope.names.keys c.atom.new.scope.names.keys (atom_of c.in-Some-2.next) (node_of c.in-Some.node)
          c.loop-atoms.invariant.text passes read));
    }
