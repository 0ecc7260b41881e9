use Rattle.std.proofs.Common.{◌≡◌, ◌≤◌, List, [], ◌∷◌, length, get_or, Err, ap, sym, ◌∙◌, arith}
use Rattle.hp_syntax.specs.declared.form.What.TheVariants as wants
use Rattle.hp_syntax.specs.Steps.{Expected, Names, ended}
use Rattle.hp_text.specs.declared.forest.Node.{Node}
use Rattle.hp_text.specs.NodeLaws.{node_of-span}
use Rattle.hp_text.specs.Nodes.{nodes_of}
use Rattle.hp_terms.proofs.nodes.ended.Goals as goal

-- nodes that are left over are refused at the span of the first
left_over : (nodes : List Node) (first : Node) (names : Names) → 1 ≤ length nodes → first ≡ get_or nodes 0 first
    → ended (nodes_of nodes) names ≡ Err (Expected wants.End first.span)
left_over [] first names some same = absurd (omega (arith, some))
left_over (n ∷ ns) first names some same =
    ap (λ s. Err (Expected wants.End s)) (node_of-span n ∙ ap (λ m. m.span) (sym same))

pub returns-in-len1-up : goal.returns-in-len1-up
returns-in-len1-up c =
    λ names.
    rw c.expected.ensures
    (left_over c.args.nodes.now c.first-item.result names c.in-len1-up.len_at_least c.first-item.is)
