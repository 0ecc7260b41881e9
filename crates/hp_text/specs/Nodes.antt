-- The plain forest that a forest in memory stands for.
use Rattle.std.specs.Prelude.{List, [], ◌∷◌, Option, Some, None, map}
use Rattle.hp_syntax.specs.declared.pattern.Span.{Span}
use Rattle.hp_syntax.specs.Forest as plain
use Rattle.hp_text.specs.declared.forest.Forest.{Forest}
use Rattle.hp_text.specs.declared.forest.Node.{Node}
use Rattle.hp_text.specs.declared.forest.NodeKind.TheOpen.{NodeKind-F, Node-F, Name, Num, List as Listing}
use Rattle.hp_text.specs.declared.forest.NodeKind.TheFolds.{fold-Node}

abbrev pub grown : List plain.Node → plain.Forest
grown [] = plain.Bare
grown (n ∷ ns) = plain.Grow n (grown ns)

-- a name, a number or a list, with its span
abbrev pub kind_step : NodeKind-F (Span → plain.Node) plain.Node → Span → plain.Node
kind_step (Name name) s = plain.Word s name
kind_step (Num n) s = plain.Numeral s n
kind_step (Listing nodes) s = plain.Group s (grown nodes.items)

abbrev pub node_step : Node-F (Span → plain.Node) plain.Node → plain.Node
node_step n = n.kind n.span

-- the plain node that a node stands for
abbrev pub node_of : Node → plain.Node
node_of = fold-Node (Span → plain.Node) plain.Node kind_step node_step

abbrev pub nodes_of : List Node → plain.Forest
nodes_of ns = grown (map node_of ns)

abbrev pub forest_of : Forest → plain.Forest
forest_of f = nodes_of f.nodes.items

-- the parts of a list
abbrev pub parts_of : plain.Node → Option plain.Forest
parts_of (plain.Word s name) = None
parts_of (plain.Numeral s n) = None
parts_of (plain.Group s parts) = Some parts
