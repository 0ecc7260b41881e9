-- The atoms that nodes delete or add.
use Rattle.std.specs.Prelude.{Bool, true, false, ◌||◌, List, [], ◌∷◌}
use Rattle.hp_syntax.specs.Changes.{Gathered, Going, atom_values}
use Rattle.hp_syntax.specs.Syntax.{Atom}
use Rattle.hp_syntax.specs.Values.{Bindings}
use Rattle.hp_nodes.specs.Trees.{Laid, Operation, Delete, Add}
use Rattle.hp_effect.specs.Gathering.{only_atoms}

-- the atom that an operation deletes or adds, if it does, before others
abbrev pub with_changed : Operation → List Atom → List Atom
with_changed (Delete a) as' = a ∷ as'
with_changed (Add a) as' = a ∷ as'
with_changed _ as' = as'

-- the atoms of nodes, in order
abbrev pub changed_atoms : List Laid → List Atom
changed_atoms [] = []
changed_atoms (l ∷ ls) = with_changed l.op (changed_atoms ls)

abbrev pub adds_by : Operation → Bool
adds_by (Add a) = true
adds_by _ = false

-- whether a node adds an atom
abbrev pub is_add : Laid → Bool
is_add l = adds_by l.op

-- whether one of some nodes does
abbrev pub any_adds : List Laid → Bool
any_adds [] = false
any_adds (l ∷ ls) = is_add l || any_adds ls

-- the values of the atom that a node deletes or adds, if it does
abbrev pub node_going : Bindings → Laid → Going Gathered
node_going e l = only_atoms (atom_values (with_changed l.op []) e)

-- those of nodes
abbrev pub nodes_going : Bindings → List Laid → Going Gathered
nodes_going e ls = only_atoms (atom_values (changed_atoms ls) e)
