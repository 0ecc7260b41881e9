-- The views of nodes, variant by variant.
use Rattle.std.specs.Prelude.{◌≡◌, ℤ, Vec, Some}
use Rattle.std.specs.Global.{Global}
use Rattle.std.proofs.Common.{ap, sym, refl, ◌∙◌}
use Rattle.hp_syntax.specs.declared.pattern.Span.{Span}
use Rattle.hp_syntax.specs.declared.name.Name.{Name}
use Rattle.hp_syntax.specs.Forest as plain
use Rattle.hp_text.specs.declared.forest.Node.{Node}
use Rattle.hp_text.specs.declared.forest.NodeKind.{NodeKind, out-NodeKind}
use Rattle.hp_text.specs.declared.forest.NodeKind.TheVariants as kinds
use Rattle.hp_text.specs.declared.forest.NodeKind.TheVariants.{outs-Name, outs-Num, outs-List}
use Rattle.hp_text.specs.declared.forest.NodeKind.TheFolds.{fold-NodeKind, fold_out-Node, fold_out-NodeKind, map-NodeKind}
use Rattle.hp_text.specs.declared.forest.NodeKind.TheOpen.{NodeKind-F, Name as AName, Num as ANum, List as AList}
use Rattle.hp_text.specs.Nodes.{kind_step, node_step, node_of, nodes_of, parts_of}

kind_of : NodeKind → Span → plain.Node
kind_of = fold-NodeKind (Span → plain.Node) plain.Node kind_step node_step

stepped : NodeKind-F NodeKind Node → Span → plain.Node
unfolding kind_of
stepped x = kind_step (map-NodeKind NodeKind Node (Span → plain.Node) plain.Node kind_of node_of x)

by_kind : (n : Node) (x : NodeKind-F NodeKind Node) → out-NodeKind n.kind ≡ x → node_of n ≡ stepped x n.span
unfolding kind_of stepped
by_kind n x h =
    fold_out-Node (Span → plain.Node) plain.Node kind_step node_step n
    ∙ ap (λ k. k n.span) (fold_out-NodeKind (Span → plain.Node) plain.Node kind_step node_step n.kind
    ∙ ap (λ y. kind_step (map-NodeKind NodeKind Node (Span → plain.Node) plain.Node kind_of node_of y)) h)

-- a name is a word
pub node_of-name : (n : Node) (name : Name) → n.kind ≡ kinds.Name name → node_of n ≡ plain.Word n.span name
unfolding stepped
node_of-name n name h = by_kind n _ (ap out-NodeKind h ∙ outs-Name name)

-- a number is a numeral
pub node_of-number : (n : Node) (z : ℤ) → n.kind ≡ kinds.Num z → node_of n ≡ plain.Numeral n.span z
unfolding stepped
node_of-number n z h = by_kind n _ (ap out-NodeKind h ∙ outs-Num z)

-- a list is a group of what its nodes stand for
pub node_of-list : (n : Node) (nodes : Vec Node Global) → n.kind ≡ kinds.List nodes
    → node_of n ≡ plain.Group n.span (nodes_of nodes.items)
unfolding stepped
node_of-list n nodes h = by_kind n _ (ap out-NodeKind h ∙ outs-List nodes)

stepped-span : (x : NodeKind-F NodeKind Node) (s : Span) → plain.span_of (stepped x s) ≡ s
unfolding stepped
stepped-span (AName name) s = refl
stepped-span (ANum z) s = refl
stepped-span (AList nodes) s = refl

-- a node has the span of what it stands for
pub node_of-span : (n : Node) → plain.span_of (node_of n) ≡ n.span
node_of-span n = ap plain.span_of (by_kind n (out-NodeKind n.kind) refl) ∙ stepped-span (out-NodeKind n.kind) n.span

stepped-parts : (x : NodeKind-F NodeKind Node) (s : Span) (f : plain.Forest) → parts_of (stepped x s) ≡ Some f
    → stepped x s ≡ plain.Group s f
unfolding stepped
stepped-parts (AName name) s f h = cc
stepped-parts (ANum z) s f h = cc
stepped-parts (AList nodes) s f h = cc

-- a node with parts is a group of them
pub node_of-parts : (n : Node) (f : plain.Forest) → parts_of (node_of n) ≡ Some f → node_of n ≡ plain.Group n.span f
node_of-parts n f h =
    let seen = by_kind n (out-NodeKind n.kind) refl in
    seen ∙ stepped-parts (out-NodeKind n.kind) n.span f (ap parts_of (sym seen) ∙ h)
