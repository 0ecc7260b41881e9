-- What leads from each node of a tree to its children leads on to all that lies below it.
use Rattle.std.proofs.Common.{◌≡◌, ℕ, zero, suc, Bool, true, false, ◌==◌, cond, List, [], ◌∷◌, ◌++◌, Option, Some, None, get_or, refl, sym, ap, ◌∙◌, subst, arith}
use Rattle.std.specs.Prelude.{Contains}
use Rattle.std.specs.List.{AllPairs}
use Rattle.std.specs.Option.{option_and_then}
use Rattle.std.proofs.lemmas.Bool.{false≢true, and_parts}
use Rattle.hp_laws.proofs.JoinLemmas.{contains_first, contains_later}
use Rattle.hp_laws.proofs.PathLemmas.{visits_in_tree}
use Rattle.hp_syntax.specs.Networks.{is_empty}
use Rattle.hp_syntax.specs.Syntax.{Rule}
use Rattle.hp_syntax.specs.Walk.{Node, Child, DidChild, CutChild, FaultChild, Visit, begins, children, did_at, node_at, visits}

-- a relation that holds between a node and itself, from one to the next but one, and from a node to each child
module _ (rules : List Rule) (nest : ℕ) (R : Node → Node → Type 0) (self : (n : Node) → R n n)
    (both : (a b c : Node) → R a b → R b c → R a c)
    (child : (n m : Node) → Contains (children rules nest n) (DidChild m) → R n m) where
  -- the child that a number names is one of the children
  named_child : (cs : List Child) (i : ℕ) (m : Node) → did_at cs i ≡ Some m → Contains cs (DidChild m)
  named_child [] i m e = let k : None ≡ Some m = e in absurd (cc)
  named_child (DidChild x ∷ cs) zero m e =
      let k : Some x ≡ Some m = e in
      let same : x ≡ m = cc in
      subst (λ y. Contains (DidChild x ∷ cs) (DidChild y)) same (contains_first (DidChild x) cs)
  named_child (DidChild x ∷ cs) (suc i) m e =
      contains_later (DidChild x) (DidChild m) cs (named_child cs i m e)
  named_child (CutChild ∷ cs) i m e = contains_later CutChild (DidChild m) cs (named_child cs i m e)
  named_child (FaultChild f ∷ cs) i m e = contains_later (FaultChild f) (DidChild m) cs (named_child cs i m e)

  -- a path that leads on goes through a child
  through : (b c : Bool) (o : Option Node) (q : List ℕ) (w : Node)
      → cond b None (cond c None (option_and_then (λ x. node_at rules nest x q) o)) ≡ Some w
      → (x : Node) × (o ≡ Some x) × (node_at rules nest x q ≡ Some w)
  through true c o q w e = let k : None ≡ Some w = e in absurd (cc)
  through false true o q w e = let k : None ≡ Some w = e in absurd (cc)
  through false false None q w e = let k : None ≡ Some w = e in absurd (cc)
  through false false (Some x) q w e = (x, refl, e)

  first_child : (n : Node) (i : ℕ) (q : List ℕ) (w : Node) → node_at rules nest n (i ∷ q) ≡ Some w
      → (x : Node) × (did_at (children rules nest n) i ≡ Some x) × (node_at rules nest x q ≡ Some w)
  unfolding node_at
  first_child n i q w e = through (is_empty n.network) (n.depth == 0) (did_at (children rules nest n) i) q w e

  -- the empty path stays at the node
  stays : (n w : Node) → node_at rules nest n [] ≡ Some w → n ≡ w
  unfolding node_at
  stays n w e = let k : Some n ≡ Some w = e in cc

  -- it holds from a node to what a path leads to
  path_down : (q : List ℕ) (n w : Node) → node_at rules nest n q ≡ Some w → R n w
  path_down [] n w e = subst (R n) (stays n w e) (self n)
  path_down (i ∷ q) n w e =
      let x = first_child n i q w e in
      both n x.0 w (child n x.0 (named_child (children rules nest n) i x.0 x.1)) (path_down q x.0 w x.2)

  -- and from what a path leads to, to what one leads to that goes on after its end
  path_on : (p r : List ℕ) (n v w : Node) → node_at rules nest n p ≡ Some v → node_at rules nest n (p ++ r) ≡ Some w
      → R v w
  path_on [] r n v w e f = path_down r v w (subst (λ x. node_at rules nest x r ≡ Some w) (stays n v e) f)
  path_on (i ∷ p) r n v w e f =
      let x = first_child n i p v e in
      let y = first_child n i (p ++ r) w f in
      let k : Some x.0 ≡ Some y.0 = sym x.1 ∙ y.1 in
      let same : y.0 ≡ x.0 = cc in
      path_on p r x.0 v w x.2 (subst (λ z. node_at rules nest z (p ++ r) ≡ Some w) same y.2)

  -- a visit of a node that its path reaches
  abbrev IsReachedFrom : Node → Visit → Type 0
  IsReachedFrom root v = node_at rules nest root v.path ≡ Some v.node

  visit_down : (root : Node) (v w : Visit) → IsReachedFrom root v → IsReachedFrom root w
      → begins v.path w.path ≡ true → R v.node w.node
  visit_down root v w e f h =
      let r = rest_of v.path w.path h in
      path_on v.path r.0 root v.node w.node e (subst (λ q. node_at rules nest root q ≡ Some w.node) r.1 f)
    where
      equal : (i j : ℕ) → (i == j) ≡ true → i ≡ j
      equal i j h = grind arith

      rest_of : (p q : List ℕ) → begins p q ≡ true → (r : List ℕ) × (q ≡ p ++ r)
      rest_of [] q h = (q, refl)
      rest_of (i ∷ p) [] h = absurd (false≢true h)
      rest_of (i ∷ p) (j ∷ q) h =
          let both = and_parts (i == j) (begins p q) h in
          let r = rest_of p q both.1 in
          let same : i ≡ j = equal i j both.0 in
          (r.0, ap (λ k. k ∷ q) (sym same) ∙ ap (λ l. i ∷ l) r.1)

  -- so it holds from each visit to all at or below its path
  pub visits_down : (root : Node) → AllPairs (λ v w. begins v.path w.path ≡ true → R v.node w.node)
      (visits rules nest root [])
  visits_down root = λ i j d l m.
      let vs = visits rules nest root [] in
      let reached = visits_in_tree rules nest root in
      visit_down root (get_or vs i d) (get_or vs j d) (reached i d (omega arith)) (reached j d m)
