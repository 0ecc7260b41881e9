-- The rules that are relevant to a task.
use Rattle.std.proofs.Common.{◌≡◌, ℕ, ◌≤◌, Bool, true, false, cond, not, List, [], ◌∷◌, ◌++◌, length, Option, None, Some, refl, sym, ◌∙◌, ap, arith}
use Rattle.std.specs.Prelude.{filter, flat_map}
use Rattle.std.proofs.lemmas.List.Filters.{length-filter_both}
use Rattle.hp_syntax.specs.Syntax.{Rule, Does, Refines, Concludes, Atom}
use Rattle.hp_syntax.specs.Terms.{Term, Terms, Symbol, Number, Listed, NoTerm, More}
use Rattle.hp_syntax.specs.Values.{Bindings, unbound}
use Rattle.hp_syntax.specs.Matching.{match_parts, match_atom}
use Rattle.hp_syntax.specs.Networks.{Network, Empty, Task, Ordered, Unordered, Place}
use Rattle.hp_syntax.specs.Walk.{Node, operator_children, method_children, rule_children}
use Rattle.hp_laws.specs.RulesByName.{task_head, is_name, task_name, relevant, relevant_to}

-- no more rules are relevant to a task of a name than there are
named_few : (name : Option (List ℕ)) (rules : List Rule) → length (relevant name rules) ≤ length rules
named_few None rules = omega arith
named_few (Some name) rules =
    let is_own : Rule → Bool = λ r. is_name name (task_head r) in
    omega (arith, length-filter_both is_own (λ r. not (is_own r)) (λ r. refl) rules)

-- no more are relevant to a part of a network
pub relevant_few : (part : Option Network) (rules : List Rule) → length (relevant_to part rules) ≤ length rules
relevant_few None rules = omega arith
relevant_few (Some Empty) rules = omega arith
relevant_few (Some (Task t i)) rules = named_few (task_name t) rules
relevant_few (Some (Ordered ns)) rules = omega arith
relevant_few (Some (Unordered ns)) rules = omega arith

-- ---- what others give

module _ {X Y : Type 0} (f : X → List Y) where
  kept_give : (x : X) (keeps : Bool) (kept xs : List X) → (keeps ≡ false → f x ≡ [])
      → flat_map f kept ≡ flat_map f xs → flat_map f (cond keeps (x ∷ kept) kept) ≡ flat_map f (x ∷ xs)
  kept_give x true kept xs none later = ap (λ ys. f x ++ ys) later
  kept_give x false kept xs none later = later ∙ ap (λ ys. ys ++ flat_map f xs) (sym (none refl))

  -- where the elements that a filter leaves out give nothing, the others give the same
  filter_gives : (keeps : X → Bool) → ((x : X) → keeps x ≡ false → f x ≡ []) → (xs : List X)
      → flat_map f (filter keeps xs) ≡ flat_map f xs
  filter_gives keeps none [] = refl
  filter_gives keeps none (x ∷ xs) =
      kept_give x (keeps x) (filter keeps xs) xs (none x) (filter_gives keeps none xs)

module _ (all : List Rule) (nest : ℕ) (n : Node) (p : Place) where
  -- a rule whose head has another name gives a task no children
  other_gives_none : (name : List ℕ) (ts : Terms) (r : Rule) → is_name name (task_head r) ≡ false
      → rule_children all nest n p (Listed (More (Symbol name) ts)) r ≡ []
  other_gives_none name ts (Does o) e =
      ap (λ same. operator_children all nest n p (Listed (More (Symbol name) ts)) o
      (cond same (match_parts o.head.args o.head.tail ts (unbound (length o.vars))) None)) e
  other_gives_none name ts (Refines m) e =
      ap (λ same. method_children all nest n p m
      (cond same (match_parts m.head.args m.head.tail ts (unbound (length m.vars))) None)) e
  other_gives_none name ts (Concludes x) e = refl

  -- where no head matches a task, no rule gives it children
  unmatched_give : (t : Term) → ((a : Atom) (b : Bindings) → match_atom a t b ≡ None) → (rs : List Rule)
      → [] ≡ flat_map (rule_children all nest n p t) rs
  unmatched_give t h [] = refl
  unmatched_give t h (Does o ∷ rs) =
      unmatched_give t h rs
      ∙ ap (λ b. operator_children all nest n p t o b ++ flat_map (rule_children all nest n p t) rs)
      (sym (h o.head (unbound (length o.vars))))
  unmatched_give t h (Refines m ∷ rs) =
      unmatched_give t h rs
      ∙ ap (λ b. method_children all nest n p m b ++ flat_map (rule_children all nest n p t) rs)
      (sym (h m.head (unbound (length m.vars))))
  unmatched_give t h (Concludes x ∷ rs) = unmatched_give t h rs

  -- the rules that are relevant to a task give all its children
  pub relevant_give : (t : Term) (rs : List Rule)
      → flat_map (rule_children all nest n p t) (relevant (task_name t) rs)
      ≡ flat_map (rule_children all nest n p t) rs
  relevant_give (Symbol name) rs = unmatched_give (Symbol name) (λ a b. refl) rs
  relevant_give (Number m) rs = unmatched_give (Number m) (λ a b. refl) rs
  relevant_give (Listed NoTerm) rs = unmatched_give (Listed NoTerm) (λ a b. refl) rs
  relevant_give (Listed (More (Symbol name) ts)) rs =
      filter_gives (rule_children all nest n p (Listed (More (Symbol name) ts)))
      (λ r. is_name name (task_head r)) (other_gives_none name ts) rs
  relevant_give (Listed (More (Number m) ts)) rs = unmatched_give (Listed (More (Number m) ts)) (λ a b. refl) rs
  relevant_give (Listed (More (Listed us) ts)) rs =
      unmatched_give (Listed (More (Listed us) ts)) (λ a b. refl) rs
