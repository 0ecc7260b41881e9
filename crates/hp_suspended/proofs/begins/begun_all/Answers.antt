use Rattle.std.proofs.Common.{◌≡◌, ◌+◌, ◌<◌, sym, subst, arith}
use Rattle.hp_nodes.specs.NodeViews.{laid_of}
use Rattle.hp_nodes.specs.Trees.{And}
use Rattle.hp_eval.specs.declared.event.Event.TheVariants as events
use Rattle.hp_suspended.specs.Beginning.{BeginsAt}
use Rattle.hp_suspended.specs.SceneViews.{code_in}
use Rattle.hp_suspended.proofs.NodeBegins.{all_ascends, begins_all, begins_empty, conj_made, does_there, first_within}
use Rattle.hp_suspended.proofs.Shapes.{view_one}
use Rattle.hp_suspended.proofs.begins.begun_all.Goals as goal

pub returns-then-node-end : goal.returns-then-node-end
returns-then-node-end c =
    let s = c.args.scene.now in
    let l = laid_of c.node_at.result.now in
    let there = c.node_at.ensures.is in
    let op : l.op ≡ And = does_there (code_in s) c.args.node And c.requires.and l there in
    record {
      begins =
          subst (BeginsAt s c.args.mark c.args.nest c.args.node) (sym (view_one c.args.mark events.Sat))
          (begins_empty s s.code.now.kept c.args.mark c.args.nest c.args.node c.requires.node l there op
          (omega (arith, c.if-node-end.true)));
    }

pub node_at-requires-2 : goal.node_at-requires-2
node_at-requires-2 c =
    let s = c.args.scene.now in
    let l = laid_of c.node_at.result.now in
    let there = c.node_at.ensures.is in
    let op : l.op ≡ And = does_there (code_in s) c.args.node And c.requires.and l there in
    let up = all_ascends s s.code.now.kept c.args.mark c.args.nest c.args.node c.requires.node l there op in
    first_within s s.code.now.kept c.args.mark c.args.nest c.args.node c.requires.node l there op
    (omega (arith, up, c.if-node-end.false))

pub returns : goal.returns
returns c =
    let s = c.args.scene.now in
    let l = laid_of c.node_at.result.now in
    let there = c.node_at.ensures.is in
    let op : l.op ≡ And = does_there (code_in s) c.args.node And c.requires.and l there in
    let y = laid_of c.node_at-2.result.now in
    let up = all_ascends s s.code.now.kept c.args.mark c.args.nest c.args.node c.requires.node l there op in
    let less : c.args.node + 1 < l.to = omega (arith, up, c.if-node-end.false) in
    record {
      begins =
          subst (BeginsAt s c.args.mark c.args.nest c.args.node)
          (sym (conj_made c.args.mark c.args.nest y.to l.to (c.args.node + 1) c.new-2.result c.in_ok-here.here
          c.new-2.ensures.items c.in_ok-here.ensures.ok))
          (begins_all s s.code.now.kept c.args.mark c.args.nest c.args.node c.requires.node l there op less y
          c.node_at-2.ensures.is);
    }
