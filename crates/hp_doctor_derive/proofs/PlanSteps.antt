-- Where the steps of a plan stand.
use Rattle.std.proofs.Common.{◌≡◌, ℕ, zero, suc, List, [], ◌∷◌, map, slice_get, Option, Some, None, option_map, refl, ap, sym, subst, ◌∙◌}
use Rattle.std.specs.Borrow.{Bor}
use Rattle.std.specs.Slice.{IsItemAt}
use Rattle.hp_doctor_derive.specs.Plans.{span_in}
use Rattle.hp_doctor_tree.proofs.DeedSteps.{item_at}
use Rattle.hp_text.specs.declared.forest.Forest.{Forest}
use Rattle.hp_text.specs.declared.forest.Node.{Node}
use Rattle.hp_text.specs.NodeLaws.{node_of-span}
use Rattle.hp_text.specs.Nodes.{forest_of, node_of, nodes_of}

-- the node at a place stands where that of the forest does
span_there : (ns : List Node) (i : ℕ) → slice_get (map (λ (n : Node). n.span) ns) i ≡ span_in i (nodes_of ns)
span_there [] i = refl
span_there (n ∷ ns) zero = ap Some (sym (node_of-span n))
span_there (n ∷ ns) (suc i) = span_there ns i

-- so what is lent at a place, if a node is there, stands there
pub span_given : (f : Forest) (i : ℕ) (ns : List Node) → ns ≡ f.nodes.items → (r : Option (Bor Node))
    → IsItemAt ns i r → option_map (λ (b : Bor Node). b.now.span) r ≡ span_in i (forest_of f)
span_given f i ns e r h =
    item_at (λ (n : Node). n.span) ns i r h ∙ (span_there ns i ∙ ap (λ us. span_in i (nodes_of us)) e)
