use Rattle.std.proofs.Common.{◌≡◌, ◌+◌, sym, subst}
use Rattle.hp_nodes.specs.NodeViews.{laid_of}
use Rattle.hp_nodes.specs.Trees.{Or}
use Rattle.hp_suspended.specs.Beginning.{BeginsAt}
use Rattle.hp_suspended.specs.SceneViews.{code_in}
use Rattle.hp_suspended.proofs.NodeBegins.{begins_any, disj_made, does_there}
use Rattle.hp_suspended.proofs.begins.begun_any.Goals as goal

pub returns : goal.returns
returns c =
    let s = c.args.scene.now in
    let l = laid_of c.node_at.result.now in
    let there = c.node_at.ensures.is in
    let op : l.op ≡ Or = does_there (code_in s) c.args.node Or c.requires.or l there in
    record {
      begins =
          subst (BeginsAt s c.args.mark c.args.nest c.args.node)
          (sym (disj_made c.args.mark c.args.nest (c.args.node + 1) l.to c.in_ok-here.here c.in_ok-here.ensures.ok))
          (begins_any s s.code.now.kept c.args.mark c.args.nest c.args.node c.requires.node l there op);
    }
