use Rattle.std.proofs.Common.{◌≡◌, ◌||◌, ◌+◌, drop, map, true, false, sym, ap, ◌∙◌}
use Rattle.hp_nodes.specs.NodeViews.{laid_of}
use Rattle.hp_operator.specs.Changed.{any_adds, is_add}
use Rattle.hp_operator.proofs.ChangedLemmas.{adds_left}
use Rattle.hp_operator.proofs.bodies.some_add.Goals as goal

pub returns-then-adds : goal.returns-then-adds
returns-then-adds c =
    let nodes = c.args.nodes.now in
    let i = c.loop-node.node-index in
    let step = adds_left nodes i c.node-item.result c.loop-node-test.true c.node-item.is in
    let is : true ≡ is_add (laid_of c.node-item.result) = c.if-adds.ensures in
    sym (c.loop-node.invariant ∙ step ∙ ap (λ b. b || any_adds (map laid_of (drop (i + 1) nodes))) (sym is))

pub loop-node-preserved : goal.loop-node-preserved
loop-node-preserved c =
    let nodes = c.args.nodes.now in
    let i = c.loop-node.node-index in
    let step = adds_left nodes i c.node-item.result c.loop-node-test.true c.node-item.is in
    let isnt : false ≡ is_add (laid_of c.node-item.result) = sym (sym c.adds.ensures ∙ c.if-adds.false) in
    c.loop-node.invariant ∙ step ∙ ap (λ b. b || any_adds (map laid_of (drop (i + 1) nodes))) (sym isnt)
