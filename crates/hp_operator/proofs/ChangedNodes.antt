-- Nodes between two indices that are those of changes: the atoms that they delete or add are those that are read.
use Rattle.std.proofs.Common.{◌≡◌, ℕ, suc, ◌+◌, ◌-◌, ◌<◌, ◌≤◌, Bool, true, false, ◌||◌, List, [], ◌∷◌, map, length, take, drop, slice_get, Option, Some, None, refl, sym, ◌∙◌, ap, ap₂, subst, arith}
use Rattle.std.proofs.lemmas.Option.{same_Some}
use Rattle.hp_syntax.specs.declared.pattern.Span.{Span}
use Rattle.hp_syntax.specs.Syntax.{Atom}
use Rattle.hp_nodes.specs.Trees.{Laid, Operation, Delete, Add, Tree, Trees, Node, NoTree, More, all_laid, sizes, tree_at, trees, trees_between}
use Rattle.hp_code.specs.Sources.{SidedAtom, change_read, changes_read, made_of, some_adds}
use Rattle.hp_code.proofs.NodeLemmas.{drop_there, node_there}
use Rattle.hp_suspended.proofs.NodeRanges.{below_ends, stands_first}
use Rattle.hp_operator.specs.Changed.{any_adds, adds_by, changed_atoms, with_changed}

abbrev pub between : List Laid → ℕ → ℕ → List Laid
between nodes k end = take (end - k) (drop k nodes)

-- the node at the first index stands first between two
pub between_first : (nodes : List Laid) (k end : ℕ) (n : Laid) → k < end → slice_get nodes k ≡ Some n
    → between nodes k end ≡ n ∷ between nodes (suc k) end
between_first nodes k end n less there =
    let more : end - k ≡ suc (end - suc k) = omega arith in
    ap₂ (λ m (ls : List Laid). take m ls) more (drop_there nodes k n there)

-- between an index and itself are none
between_none : (nodes : List Laid) (k end : ℕ) → end ≤ k → between nodes k end ≡ []
between_none nodes k end h =
    let none : end - k ≡ 0 = omega arith in
    ap (λ m. take m (drop k nodes)) none

-- what a change does, and that nothing stands below it
record IsChange (op : Operation) (ts : Trees) (a : SidedAtom) : Type 0 where
  below : ts ≡ NoTree
  adds : adds_by op ≡ a.adds
  atoms : (as' : List Atom) → with_changed op as' ≡ a.atom ∷ as'

change_is : (op : Operation) (s : Span) (ts : Trees) (a : SidedAtom) → change_read (Node op s ts) ≡ Some a
    → IsChange op ts a
change_is (Delete x) s NoTree a e =
    let same : record { adds = false; atom = x } ≡ a = cc in
    record {
      below = refl;
      adds = ap (λ (b : SidedAtom). b.adds) same;
      atoms = λ as'. ap (λ (b : SidedAtom). b.atom ∷ as') same;
    }
change_is (Delete x) s (More t ts) a e = absurd cc
change_is (Add x) s NoTree a e =
    let same : record { adds = true; atom = x } ≡ a = cc in
    record {
      below = refl;
      adds = ap (λ (b : SidedAtom). b.adds) same;
      atoms = λ as'. ap (λ (b : SidedAtom). b.atom ∷ as') same;
    }
change_is (Add x) s (More t ts) a e = absurd cc
change_is _ s ts a e = absurd cc

-- changes that are read one after another
record BothRead (t : Tree) (ts : Trees) (as' : List SidedAtom) : Type 0 where
  first : SidedAtom
  rest : List SidedAtom
  first_read : change_read t ≡ Some first
  rest_read : changes_read ts ≡ Some rest
  is : first ∷ rest ≡ as'

both_read : (x : Option SidedAtom) (y : Option (List SidedAtom)) (as' : List SidedAtom) (t : Tree) (ts : Trees)
    → change_read t ≡ x → changes_read ts ≡ y → made_of (λ a bs. a ∷ bs) x y ≡ Some as' → BothRead t ts as'
both_read None y as' t ts h k e = absurd cc
both_read (Some a) None as' t ts h k e = absurd cc
both_read (Some a) (Some bs) as' t ts h k e =
    record { first = a; rest = bs; first_read = h; rest_read = k; is = cc }

-- the nodes of changes delete and add the atoms that are read of them
pub record AreChanged (nodes : List Laid) (k end : ℕ) (as' : List SidedAtom) : Type 0 where
  pub adds : any_adds (between nodes k end) ≡ some_adds as'
  pub atoms : changed_atoms (between nodes k end) ≡ map (λ a. a.atom) as'

module _ (nodes : List Laid) (down : nodes ≡ all_laid 0 (trees 0 nodes)) (end : ℕ) (within : end ≤ length nodes) where
  pub are_changed : (ts : Trees) (k : ℕ) (as' : List SidedAtom) → k + sizes (trees_between nodes k end) ≡ end
      → trees_between nodes k end ≡ ts → changes_read ts ≡ Some as' → AreChanged nodes k end as'
  unfolding sizes
  are_changed NoTree k as' whole is read =
      let none : end ≤ k = let long = ap sizes is in omega (arith, whole, long) in
      let empty = between_none nodes k end none in
      let same : [] ≡ as' = cc in
      record {
        adds = ap any_adds empty ∙ ap some_adds same;
        atoms = ap changed_atoms empty ∙ ap (map (λ a. a.atom)) same;
      }
  are_changed (More t us) k as' whole is read =
      let f = stands_first nodes down k end t us whole within is in
      let b = both_read (change_read t) (changes_read us) as' t us refl refl read in
      let tree = same_Some (Node f.node.op f.node.span (trees_between nodes (suc k) f.node.to)) t
      (sym (node_there nodes k f.node f.there) ∙ f.tree) in
      let d = change_is f.node.op f.node.span (trees_between nodes (suc k) f.node.to) b.first
      (ap change_read tree ∙ b.first_read) in
      let next : f.node.to ≡ suc k =
      let ends = below_ends nodes down k f.node f.there in let long = ap sizes d.below in omega (arith, ends, long) in
      let rest = are_changed us (suc k) b.rest
      (subst (λ m. m + sizes (trees_between nodes m end) ≡ end) next f.whole)
      (subst (λ m. trees_between nodes m end ≡ us) next f.others) b.rest_read in
      let step = between_first nodes k end f.node f.less f.there in
      record {
        adds =
            ap any_adds step ∙ ap₂ ◌||◌ d.adds rest.adds ∙ ap some_adds b.is;
        atoms =
            ap changed_atoms step ∙ d.atoms _ ∙ ap (λ as''. b.first.atom ∷ as'') rest.atoms
            ∙ ap (map (λ a. a.atom)) b.is;
      }
