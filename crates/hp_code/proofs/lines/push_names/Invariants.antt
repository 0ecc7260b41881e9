use Rattle.std.proofs.Common.{◌≡◌, ◌++◌, drop}
use Rattle.hp_code.specs.Codes.{code_of}
use Rattle.hp_code.specs.Listing.{name_lines, table_of}
use Rattle.hp_code.proofs.lines.push_names.Given as goal

abbrev pub invariant-loop-index : goal.invariant-loop-index
invariant-loop-index l =
    let code = code_of l.code in
    l.text.items ++ name_lines l.kind (table_of code l.kind) l.index (drop l.index code.nodes)
    ≡ l.fn.text.items ++ name_lines l.kind (table_of code l.kind) 0 code.nodes
