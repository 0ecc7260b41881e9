use Rattle.std.proofs.Common.{◌+◌, drop, map, refl, subst}
use Rattle.std.proofs.lemmas.Result.{err_from_is_err_and}
use Rattle.hp_eval.specs.Slotted.{bindings_of}
use Rattle.hp_eval.proofs.GrowthLemmas.{grows_self, grows_on, bindings_stay, below_grows}
use Rattle.hp_nodes.specs.NodeViews.{laid_of}
use Rattle.hp_world.specs.Stages.{changes_of}
use Rattle.hp_effect.specs.Gathering.{HasPut, StopsHere}
use Rattle.hp_effect.proofs.GatheringLemmas.{along_none, along_more, along_stops}
use Rattle.hp_operator.specs.Changed.{node_going, nodes_going}
use Rattle.hp_operator.proofs.ChangedLemmas.{nodes_left}
use Rattle.hp_operator.proofs.changed.ChangedPutAtoms.put_all.Goals as goal

pub loop-node-init : goal.loop-node-init
loop-node-init c =
    let old = c.args.cells.now in
    let changes = c.args.changes.now in
    let whole = nodes_going (bindings_of old c.args.slots.now) (map laid_of c.args.self.now.nodes.now) in
    record {
      grows = grows_self old;
      along = along_none c.args.side whole (changes_of old changes) old changes refl c.requires.below;
    }

pub put_changed-requires-clause-slots : goal.put_changed-requires-clause-slots
put_changed-requires-clause-slots c =
    below_grows c.args.cells.now c.loop-node.cells c.loop-node.invariant.grows c.args.slots.now c.requires.slots

pub put_changed-requires-clause-below : goal.put_changed-requires-clause-below
put_changed-requires-clause-below c = c.loop-node.invariant.along.below

pub loop-node-preserved : goal.loop-node-preserved
loop-node-preserved c =
    let old = c.args.cells.now in
    let now = c.loop-node.cells in
    let new = c.put_changed.new.cells in
    let before = c.loop-node.changes in
    let after = c.put_changed.new.changes in
    let grows = c.loop-node.invariant.grows in
    let nodes = c.args.self.now.nodes.now in
    let i = c.loop-node.node-index in
    let n = c.node-item.result in
    let e = bindings_of old c.args.slots.now in
    let put =
    subst (λ b. HasPut c.args.side (node_going b (laid_of n)) new (changes_of now before) after)
    (bindings_stay old now grows c.args.slots.now c.requires.slots) c.in_ok-put_changed.ensures.puts in
    record {
      grows = grows_on old now new grows c.put_changed.ensures.cells;
      along =
          along_more c.args.side (nodes_going e (map laid_of nodes)) (changes_of old c.args.changes.now) now new before
          after (node_going e (laid_of n)) (nodes_going e (map laid_of (drop i nodes)))
          (nodes_going e (map laid_of (drop (i + 1) nodes)))
          (nodes_left nodes i e n c.loop-node-test.true c.node-item.is) c.loop-node.invariant.along put;
    }

pub returns-in_err-put_changed-clause-puts : goal.returns-in_err-put_changed-clause-puts
returns-in_err-put_changed-clause-puts c =
    let old = c.args.cells.now in
    let now = c.loop-node.cells in
    let nodes = c.args.self.now.nodes.now in
    let i = c.loop-node.node-index in
    let n = c.node-item.result in
    let e = bindings_of old c.args.slots.now in
    let obstacle = c.in_err-put_changed.field-0.0 in
    let stops =
    subst (λ b. StopsHere obstacle (node_going b (laid_of n)))
    (bindings_stay old now c.loop-node.invariant.grows c.args.slots.now c.requires.slots)
    c.in_err-put_changed.ensures.puts in
    let p = err_from_is_err_and c.from_residual.result c.from_residual.ensures.1 in
    rw (p.1, p.2) (along_stops c.args.side (nodes_going e (map laid_of nodes)) (changes_of old c.args.changes.now) now
    c.loop-node.changes (node_going e (laid_of n)) (nodes_going e (map laid_of (drop i nodes)))
    (nodes_going e (map laid_of (drop (i + 1) nodes))) obstacle
    (nodes_left nodes i e n c.loop-node-test.true c.node-item.is) c.loop-node.invariant.along stops)

pub returns-in_err-put_changed-clause-cells : goal.returns-in_err-put_changed-clause-cells
returns-in_err-put_changed-clause-cells c =
    grows_on c.args.cells.now c.loop-node.cells c.put_changed.new.cells c.loop-node.invariant.grows
    c.put_changed.ensures.cells

pub returns-clause-cells : goal.returns-clause-cells
returns-clause-cells c = c.loop-node.invariant.grows
