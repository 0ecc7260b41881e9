-- Steps in a tree, which only grow on the way down.
use Rattle.std.proofs.Common.{ℕ, List, [], ◌∷◌, ◌++◌, sym, ap, ◌∙◌, append_assoc}
use Rattle.std.specs.Prelude.{Contains}
use Rattle.std.proofs.lemmas.List.{append-nil}
use Rattle.hp_best.proofs.DownLemmas.{visits_down}
use Rattle.hp_laws.proofs.ChildLemmas.{did_leads}
use Rattle.hp_laws.specs.Derivations.{Choosing, Leads, ByStep, BySubtasks}
use Rattle.hp_laws.specs.TreeLaws.{IsPrefix}
use Rattle.hp_syntax.specs.Syntax.{Rule}
use Rattle.hp_syntax.specs.Terms.{Term}
use Rattle.hp_syntax.specs.Walk.{Node, DidChild, children, visits}
use Rattle.hp_verify.specs.Kept.{StepsGrow}

-- a list begins itself
prefix_self : (xs : List Term) → IsPrefix xs xs
prefix_self xs = ([], append-nil xs)

-- what begins a beginning of a list begins it
prefix_both : (xs ys zs : List Term) → IsPrefix xs ys → IsPrefix ys zs → IsPrefix xs zs
prefix_both xs ys zs (r, e) (s, f) = (r ++ s, sym (append_assoc xs r s) ∙ (ap (λ ws. ws ++ s) e ∙ f))

module _ (rules : List Rule) (nest : ℕ) where
  -- a choice leads to a node with the same steps, or one more
  leads_grow : (c : Choosing) (n m : Node) → Leads rules nest c n m → IsPrefix n.steps m.steps
  leads_grow c n m (ByStep s t k f q) = (t ∷ [], sym (ap (λ (x : Node). x.steps) q))
  leads_grow c n m (BySubtasks s f q) = ([], append-nil n.steps ∙ sym (ap (λ (x : Node). x.steps) q))

  -- so the steps of a node begin those of each child
  pub child_grows : (n m : Node) → Contains (children rules nest n) (DidChild m) → IsPrefix n.steps m.steps
  child_grows n m h = let k = did_leads rules nest n m h in leads_grow k.0 n m k.1

  -- so steps only grow
  pub steps_grow : (root : Node) → StepsGrow (visits rules nest root [])
  steps_grow root =
      visits_down rules nest (λ n m. IsPrefix n.steps m.steps) (λ n. prefix_self n.steps)
      (λ a b c h k. prefix_both a.steps b.steps c.steps h k) child_grows root
