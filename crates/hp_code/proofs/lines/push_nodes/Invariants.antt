use Rattle.std.proofs.Common.{◌≡◌, ◌++◌, [], drop}
use Rattle.hp_code.specs.Codes.{code_of}
use Rattle.hp_code.specs.CodeViews.{vars_at}
use Rattle.hp_code.specs.Listing.{node_lines}
use Rattle.hp_code.proofs.lines.push_nodes.Given as goal

abbrev pub invariant-loop-index : goal.invariant-loop-index
invariant-loop-index l =
    let code = code_of l.code in
    l.text.items ++ node_lines (vars_at code) l.index l.vars (drop l.index code.nodes)
    ≡ l.fn.text.items ++ node_lines (vars_at code) 0 [] code.nodes
