use Rattle.std.proofs.Common.{◌≡◌, ◌-◌, ◌≤◌, List, [], ◌∷◌, length, get_or, take, drop, ℤ, ◌⊎◌, inl, inr, Some, None, ap, sym, ◌∙◌, arith}
use Rattle.std.specs.Prelude.{Vec}
use Rattle.std.specs.Global.{Global}
use Rattle.std.proofs.lemmas.Grind.{common_steps}
use Rattle.hp_syntax.specs.declared.name.Name.{Name}
use Rattle.hp_syntax.specs.Forest as plain
use Rattle.hp_syntax.specs.Steps as steps
use Rattle.hp_text.specs.declared.forest.Node.{Node}
use Rattle.hp_text.specs.declared.forest.NodeKind.TheVariants as kinds
use Rattle.hp_text.specs.NodeLaws.{node_of-name, node_of-number, node_of-list}
use Rattle.hp_text.specs.Nodes.{node_of, nodes_of}
use Rattle.hp_terms.proofs.terms.begun.Goals as goal

-- a list begins as its first item says
begun_by : (n : Node) (nodes : Vec Node Global) (x : Node) (xs : List Node) (m : plain.Node) → n.kind ≡ kinds.List nodes
    → x ∷ xs ≡ nodes.items → node_of x ≡ m
    → steps.begun (plain.Group n.span (plain.Grow m (nodes_of xs))) ≡ steps.begun (node_of n)
begun_by n nodes x xs m h e stands =
    sym (ap (λ y. steps.begun (plain.Group n.span (plain.Grow y (nodes_of xs)))) stands)
    ∙ ap (λ ys. steps.begun (plain.Group n.span (nodes_of ys))) e
    ∙ sym (ap steps.begun (node_of-list n nodes h))

module _ (n : Node) (nodes : Vec Node Global) (first : Node) (is_list : n.kind ≡ kinds.List nodes) where
  -- a list whose first item is a name begins with that name, before the other items
  begun_with : (name : Name) (items : List Node) → items ≡ nodes.items → 1 ≤ length items → first ≡ get_or items 0 first
      → first.kind ≡ kinds.Name name
      → Some (name, nodes_of (take (length items - 1) (drop 1 items))) ≡ steps.begun (node_of n)
  begun_with name [] e least at named = absurd (omega arith)
  begun_with name (x ∷ xs) e least at named =
      let others : take (length (x ∷ xs) - 1) (drop 1 (x ∷ xs)) ≡ xs = grind (arith, common_steps) in
      ap (λ ys. Some (name, nodes_of ys)) others
      ∙ begun_by n nodes x xs _ is_list e (node_of-name x name (ap (λ y. y.kind) (sym at) ∙ named))

  -- a list whose first item is no name begins with none
  begun_without : (items : List Node) → items ≡ nodes.items → 1 ≤ length items → first ≡ get_or items 0 first
      → ((z : ℤ) × (first.kind ≡ kinds.Num z)) ⊎ ((parts : Vec Node Global) × (first.kind ≡ kinds.List parts))
      → None ≡ steps.begun (node_of n)
  begun_without [] e least at other = absurd (omega arith)
  begun_without (x ∷ xs) e least at (inl number) =
      begun_by n nodes x xs _ is_list e (node_of-number x number.0 (ap (λ y. y.kind) (sym at) ∙ number.1))
  begun_without (x ∷ xs) e least at (inr group) =
      begun_by n nodes x xs _ is_list e (node_of-list x group.0 (ap (λ y. y.kind) (sym at) ∙ group.1))

pub returns-in-Name : goal.returns-in-Name
returns-in-Name c =
    begun_with c.args.node.now c.in-List.nodes c.first-item.result c.in-List.is c.in-Name.name c.as_slice.result.now
    c.as_slice.ensures.value c.in-len1-up.len_at_least c.first-item.is c.in-Name.is

pub returns-in-Num : goal.returns-in-Num
returns-in-Num c =
    begun_without c.args.node.now c.in-List.nodes c.first-item.result c.in-List.is c.as_slice.result.now
    c.as_slice.ensures.value c.in-len1-up.len_at_least c.first-item.is c.in-Num.is
