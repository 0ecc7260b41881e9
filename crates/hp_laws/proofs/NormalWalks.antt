-- The networks of a walk are in normal form, and their focus is a place in them.
use Rattle.std.proofs.Common.{◌≡◌, ◌≢◌, ℕ, true, false, List, [], Option, Some, None, sym, ap, subst}
use Rattle.std.specs.Prelude.{Contains}
use Rattle.std.specs.List.{All}
use Rattle.std.proofs.lemmas.Bool.{cond_both}
use Rattle.std.proofs.lemmas.List.Elements.{All-weaker}
use Rattle.hp_syntax.specs.Syntax.{Rule, Pair}
use Rattle.hp_syntax.specs.Networks.{Network, Empty, Task, Place, is_empty, normal, part_at, with_part, finish, expand}
use Rattle.hp_syntax.specs.GroundPatterns.{network_said}
use Rattle.hp_syntax.specs.Walk.{Node, DidChild, children, numbered_children, is_fault_here, root, visits, walk}
use Rattle.hp_laws.specs.Derivations.{Choosing, Leads, ByStep, BySubtasks}
use Rattle.hp_laws.specs.TreeLaws.{IsNormal}
use Rattle.hp_laws.proofs.NetworkLemmas.{normal_in_form, form_from_normal, normal_from_form, normal-normal, part_at-with_part, with_part_in_form}
use Rattle.hp_laws.proofs.ChildLemmas.{did_leads}
use Rattle.hp_laws.proofs.DepthLemmas.{contained_child}
use Rattle.hp_laws.proofs.VisitLemmas.{all_visits}
use Rattle.hp_laws.proofs.HearingLemmas.{all_up_to}

-- a network and a focus in it, as they are left once a task is done or decomposed
abbrev IsNormalPair : Network × Option Place → Type 0
IsNormalPair x = IsNormal x.0 x.1

-- the network of a node is in normal form, and its focus is a place in it
abbrev IsNormalAt : Node → Type 0
IsNormalAt n = IsNormal n.network n.focus

-- a network that isn't empty is none that is
differs : (n : Network) → is_empty n ≡ false → n ≢ Empty
differs n e f = let g : is_empty n ≡ true = ap is_empty f in absurd cc

-- a network in normal form without a focus is normal
unfocused : (n : Network) → IsNormal (normal n) None
unfocused n = record { form = normal-normal n; place = tt }

-- the network that is left once a task is done is normal
pub finish_normal : (net : Network) (p : Place) → IsNormalPair (finish net p)
unfolding finish
finish_normal net p = unfocused (with_part net p Empty)

-- the network that is left once a task is decomposed is normal
pub expand_normal : (net : Network) (p : Place) (n sub : Network) → normal net ≡ net → part_at net p ≡ Some n
    → IsNormalPair (expand net p (normal sub))
unfolding expand
expand_normal net p n sub e f =
    cond_both (is_empty (normal sub)) (finish net p) (with_part net p (normal sub), Some p) IsNormalPair
    (λ h. finish_normal net p)
    (λ h. record {
      form =
          normal_from_form (with_part net p (normal sub))
          (with_part_in_form net p (normal sub) (form_from_normal net e) (normal_in_form sub) h);
      place = (normal sub, part_at-with_part net p n (normal sub) f, differs (normal sub) h);
    })

module _ (rules : List Rule) (nest : ℕ) where
  -- a choice leads from a normal node to a normal one
  leads_normal : (c : Choosing) (n m : Node) → Leads rules nest c n m → IsNormalAt n → IsNormalAt m
  leads_normal c n m (ByStep s t cost f q) h =
      subst IsNormalAt (sym q) (subst (λ x. IsNormal x.network x.focus) (sym f.then') (finish_normal n.network f.place))
  leads_normal c n m (BySubtasks s f q) h =
      subst IsNormalAt (sym q)
      (subst (λ x. IsNormal x.network x.focus) (sym f.then')
      (expand_normal n.network f.place (Task f.task f.next.immediate) f.subtasks h.form f.next.there))

  -- a normal node has normal children
  child_normal : (n m : Node) (i : ℕ) → Contains (numbered_children 0 (children rules nest n)) (i, DidChild m)
      → IsNormalAt n → IsNormalAt m
  child_normal n m i c =
      let l = did_leads rules nest n m (contained_child 0 i (DidChild m) (children rules nest n) c) in
      leads_normal l.0 n m l.1

  -- below a normal node all visits are at normal nodes
  pub visits_normal : (n : Node) (p : List ℕ) → IsNormalAt n → All (λ v. IsNormalAt v.node) (visits rules nest n p)
  visits_normal n p h =
      All-weaker (λ v. IsNormalAt n → IsNormalAt v.node) (λ v. IsNormalAt v.node) (λ v f. f h)
      (visits rules nest n p)
      (all_visits rules nest (λ n p v. IsNormalAt n → IsNormalAt v.node) (λ n p x h. h)
      (λ n m p i v c e f h. f (child_normal n m i c h)) n p)

  -- all visits of a walk are at normal nodes
  pub walk_normal : (pair : Pair) (d : ℕ) → All (λ v. IsNormalAt v.node) (walk rules nest pair d)
  unfolding walk root
  walk_normal pair d =
      all_up_to (λ v. is_fault_here v.sight) (λ v. IsNormalAt v.node) (visits rules nest (root pair d) [])
      (visits_normal (root pair d) [] (unfocused (network_said pair.tasks)))
