-- The atoms that nodes delete or add, one after another.
use Rattle.std.proofs.Common.{◌≡◌, ℕ, ◌+◌, ◌<◌, Bool, true, ◌||◌, List, [], ◌∷◌, map, length, drop, get_or, Result, Ok, Err, refl, sym, ◌∙◌, ap}
use Rattle.hp_syntax.specs.declared.fault.RunFault.{RunFault}
use Rattle.hp_syntax.specs.Changes.{Going, Went, CutShort, Failed, and_go, go_on, atom_values}
use Rattle.hp_syntax.specs.Syntax.{Atom}
use Rattle.hp_syntax.specs.Terms.{Term}
use Rattle.hp_syntax.specs.Values.{Bindings, atom_value}
use Rattle.hp_nodes.specs.declared.node.CodeNode.{CodeNode}
use Rattle.hp_nodes.specs.NodeViews.{laid_of}
use Rattle.hp_nodes.specs.Trees.{Operation, Delete, Add}
use Rattle.hp_eval.proofs.Loops.{left_more}
use Rattle.hp_effect.specs.Gathering.{both, of_atom, only_atoms}
use Rattle.hp_operator.specs.Changed.{any_adds, is_add, node_going, nodes_going, with_changed}

-- an atom is valued before others
atom_step : (r : Result Term RunFault) (w : Going (List Term))
    → only_atoms (and_go (go_on r) (λ t. and_go w (λ ts. Went (t ∷ ts))))
    ≡ both (only_atoms (and_go (go_on r) (λ t. and_go (Went []) (λ ts. Went (t ∷ ts))))) (only_atoms w)
atom_step (Ok t) (Went ts) = refl
atom_step (Ok t) CutShort = refl
atom_step (Ok t) (Failed f) = refl
atom_step (Err f) w = refl

-- without an atom the others alone are valued
none_step : (w : Going (List Term)) → only_atoms w ≡ both (only_atoms (Went [])) (only_atoms w)
none_step (Went ts) = refl
none_step CutShort = refl
none_step (Failed f) = refl

op_step : (op : Operation) (as' : List Atom) (e : Bindings) → only_atoms (atom_values (with_changed op as') e)
    ≡ both (only_atoms (atom_values (with_changed op []) e)) (only_atoms (atom_values as' e))
op_step (Delete a) as' e = atom_step (atom_value a e) (atom_values as' e)
op_step (Add a) as' e = atom_step (atom_value a e) (atom_values as' e)
op_step _ as' e = none_step (atom_values as' e)

-- an atom by itself is the one of an operation that deletes or adds it
pub one_step : (a : Atom) (e : Bindings) → of_atom (atom_value a e) ≡ only_atoms (atom_values (a ∷ []) e)
one_step a e = by (atom_value a e)
  where
    by : (r : Result Term RunFault)
        → of_atom r ≡ only_atoms (and_go (go_on r) (λ t. and_go (Went []) (λ ts. Went (t ∷ ts))))
    by (Ok t) = refl
    by (Err f) = refl

-- the next node's atom is valued before those of the others
pub nodes_left : (ns : List CodeNode) (i : ℕ) (e : Bindings) (n : CodeNode) → i < length ns → n ≡ get_or ns i n
    → nodes_going e (map laid_of (drop i ns))
    ≡ both (node_going e (laid_of n)) (nodes_going e (map laid_of (drop (i + 1) ns)))
nodes_left ns i e n l is =
    ap (λ (xs : List CodeNode). nodes_going e (map laid_of xs)) (left_more ns i n l is)
    ∙ op_step (laid_of n).op _ e

-- whether one of the nodes that are left adds an atom is whether the next one does, or another
pub adds_left : (ns : List CodeNode) (i : ℕ) (n : CodeNode) → i < length ns → n ≡ get_or ns i n
    → any_adds (map laid_of (drop i ns)) ≡ is_add (laid_of n) || any_adds (map laid_of (drop (i + 1) ns))
adds_left ns i n l is = ap (λ (xs : List CodeNode). any_adds (map laid_of xs)) (left_more ns i n l is)
