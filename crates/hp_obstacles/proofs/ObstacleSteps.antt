-- A domain's own code serves for each of its rules, and what keeps rules from doing a task is added in order.
use Rattle.std.proofs.Common.{◌≡◌, ℕ, zero, suc, ◌+◌, ◌-◌, ◌<◌, ◌≤◌, Bool, true, false, cond, List, [], ◌∷◌, ◌++◌, length, take, get_or, map, Option, Some, None, refl, sym, ap, ap₂, ◌∙◌, subst, arith, add-one, append-nil, append_assoc}
use Rattle.std.specs.Prelude.{slice_get, option_map}
use Rattle.std.proofs.lemmas.List.{length-map, length-take-le, map-append, take_more}
use Rattle.hp_links.proofs.ListSteps.{some_read}
use Rattle.hp_syntax.specs.declared.pattern.Ground.{Ground}
use Rattle.hp_syntax.specs.declared.domain.Rule as public_rule
use Rattle.hp_syntax.specs.Events.{State}
use Rattle.hp_syntax.specs.GroundViews.{ground_of, grounds_of}
use Rattle.hp_syntax.specs.Syntax.{Rule}
use Rattle.hp_syntax.specs.Terms.{Term, Listed}
use Rattle.hp_syntax.specs.Values.{Bindings}
use Rattle.hp_syntax.specs.Views.{rule_of}
use Rattle.hp_nodes.specs.Trees.{roots}
use Rattle.hp_code.specs.CodeViews.{CodeView, IsCodeOf, rule_nodes}
use Rattle.hp_code.proofs.CodeLemmas.{code_trees, length-rule_nodes}
use Rattle.hp_unmet.specs.declared.unmet.Unmet.{Unmet}
use Rattle.hp_unmet.specs.Conjunctions.{first_unmet, values_met}
use Rattle.hp_unmet.specs.PartNodes.{AsksAlike, ServesFor}
use Rattle.hp_unmet.specs.Clauses.{clause_unmet, clause_values}
use Rattle.hp_obstacles.specs.declared.axioms.Unconcluded as kept
use Rattle.hp_obstacles.specs.declared.obstacles.Obstacle as made
use Rattle.hp_obstacles.specs.Facts.{Facts}
use Rattle.hp_obstacles.specs.Obstacles.{Obstacle, Unconcluded, Wanted, at_branches, at_clauses, against_unmet, axioms_unmet, facts_unmet, is_part, obstacle, obstacle_by, obstacle_of, of_rules, symbol_name, task_name, unconcluded, unconcluded_by, unconcluded_of}

-- ---- the node of a rule

-- a rule asks for what it asks for itself
alike : (r : Rule) → AsksAlike r r
alike r = record { head = refl; vars = refl; preconditions = λ branch. refl }

module _ (rules : List Rule) (c : CodeView) (of : IsCodeOf rules c) (rule : ℕ) (there : rule < length rules) where
  -- a code has a node for each of its rules
  pub node_there : (node : ℕ) × (slice_get (rule_nodes c) rule ≡ Some node)
  node_there =
      let many : length (rule_nodes c) ≡ length rules = ap (λ ts. length (roots 0 ts)) (code_trees rules c of)
      ∙ length-rule_nodes 0 rules in
      some_read (rule_nodes c) rule (subst (λ n. rule < n) (sym many) there)

  -- and the node serves for the rule of its place
  pub serves : (node : ℕ) → slice_get (rule_nodes c) rule ≡ Some node → ServesFor rules rule c node
  serves node at =
      let own : (r : Rule) × (slice_get rules rule ≡ Some r) = some_read rules rule there in
      record {
        others = rules;
        code = of;
        axioms = refl;
        place = rule;
        node_at = at;
        own = own.0;
        own_at = own.1;
        other = own.0;
        other_at = own.1;
        alike = alike own.0;
      }

-- ---- one branch

-- what is made of what is made of a thing
pub mapped_twice : {A B C : Type 0} (f : A → B) (g : B → C) (o : Option A)
    → option_map (λ a. g (f a)) o ≡ option_map g (option_map f o)
mapped_twice f g None = refl
mapped_twice f g (Some a) = refl

module _ (rules : List Rule) (nest : ℕ) (s : State) (t : Term) (rule branch : ℕ) where
  abbrev with_parts : Unmet → Bindings → Option Bindings → Option Facts → List Unconcluded → Obstacle
  with_parts u vs as' fs xs = record {
    rule = rule;
    branch = branch;
    unmet = u;
    values = vs;
    against = as';
    facts = fs;
    axioms = xs;
  }

  -- what is unmet, with the values by what is met, what makes it false, the facts of the name that it asks for and the
  -- axioms of that name, is the obstacle
  pub obstacle_is : (u : Unmet) (vs : Bindings) (as' : Option Bindings) (fs : Option Facts) (xs : List Unconcluded)
      → u ≡ first_unmet rules nest s t rule branch → vs ≡ values_met rules nest s t rule branch u
      → as' ≡ against_unmet rules nest s t rule branch u
      → fs ≡ facts_unmet rules s rule branch u → xs ≡ axioms_unmet rules nest s t rule branch u
      → with_parts u vs as' fs xs ≡ obstacle rules nest s t rule branch
  obstacle_is u vs as' fs xs e v a f g =
      ap₂ (λ y z. with_parts u y as' z xs) v f
      ∙ ap₂ (λ y z. with_parts u (values_met rules nest s t rule branch u) y (facts_unmet rules s rule branch u) z) a g
      ∙ ap (obstacle_by rules nest s t rule branch) e

-- ---- one branch more

module _ (rules : List Rule) (nest : ℕ) (s : State) (t : Term) (rule : ℕ) where
  branches_more : (branch n : ℕ)
      → at_branches rules nest s t rule branch (suc n)
      ≡ at_branches rules nest s t rule branch n ++ obstacle rules nest s t rule (branch + n) ∷ []
  branches_more branch zero =
      let same : branch ≡ branch + 0 = omega arith in
      ap (λ k. obstacle rules nest s t rule k ∷ []) same
  branches_more branch (suc n) =
      let same : (branch + 1) + n ≡ branch + suc n = omega arith in
      ap (λ os. obstacle rules nest s t rule branch ∷ os)
      (branches_more (branch + 1) n
      ∙ ap (λ k. at_branches rules nest s t rule (branch + 1) n ++ obstacle rules nest s t rule k ∷ []) same)

  pub branch_added : (old now pushed : List made.Obstacle) (o : made.Obstacle) (branch : ℕ) → pushed ≡ now ++ o ∷ []
      → map obstacle_of now ≡ map obstacle_of old ++ at_branches rules nest s t rule 0 branch
      → obstacle_of o ≡ obstacle rules nest s t rule branch
      → map obstacle_of pushed ≡ map obstacle_of old ++ at_branches rules nest s t rule 0 (branch + 1)
  branch_added old now pushed o branch e so_far is =
      let same : branch ≡ 0 + branch = omega arith in
      let more : at_branches rules nest s t rule 0 (branch + 1)
      ≡ at_branches rules nest s t rule 0 branch ++ obstacle rules nest s t rule branch ∷ [] =
      ap (at_branches rules nest s t rule 0) (add-one branch)
      ∙ (branches_more 0 branch
      ∙ ap (λ k. at_branches rules nest s t rule 0 branch ++ obstacle rules nest s t rule k ∷ []) (sym same)) in
      ap (map obstacle_of) e
      ∙ (map-append obstacle_of now (o ∷ [])
      ∙ (ap₂ (λ xs x. xs ++ x ∷ []) so_far is
      ∙ (append_assoc (map obstacle_of old) (at_branches rules nest s t rule 0 branch)
      (obstacle rules nest s t rule branch ∷ [])
      ∙ ap (λ os. map obstacle_of old ++ os) (sym more))))

-- ---- one rule more

module _ {A : Type 0} (f : ℕ → Rule → List A) where
  rules_more : (rule : ℕ) (rs : List Rule) (r : Rule)
      → of_rules f rule (rs ++ r ∷ []) ≡ of_rules f rule rs ++ f (rule + length rs) r
  rules_more rule [] r =
      let same : rule ≡ rule + 0 = omega arith in
      append-nil (f rule r) ∙ ap (λ k. f k r) same
  rules_more rule (x ∷ rs) r =
      let same : (rule + 1) + length rs ≡ rule + length (x ∷ rs) = omega arith in
      ap (λ os. f rule x ++ os)
      (rules_more (rule + 1) rs r ∙ ap (λ k. of_rules f (rule + 1) rs ++ f k r) same)
      ∙ sym (append_assoc (f rule x) (of_rules f (rule + 1) rs) (f (rule + length (x ∷ rs)) r))

  -- what is said of the rules up to one, and of that one, is what is said of those up to the next one
  pub rule_added : (rs : List public_rule.Rule) (i : ℕ) (r : public_rule.Rule) (old new : List A) → i < length rs
      → r ≡ get_or rs i r → old ≡ of_rules f 0 (map rule_of (take i rs)) → new ≡ old ++ f i (rule_of r)
      → new ≡ of_rules f 0 (map rule_of (take (i + 1) rs))
  rule_added rs i r old new l is so_far e =
      let before = map rule_of (take i rs) in
      let many : 0 + length before ≡ i =
      omega (arith, length-map (take i rs) rule_of, length-take-le i rs (omega arith)) in
      let one : map rule_of (take (i + 1) rs) ≡ before ++ rule_of r ∷ [] =
      ap (map rule_of) (take_more rs i r l ∙ ap (λ x. take i rs ++ x ∷ []) (sym is))
      ∙ map-append rule_of (take i rs) (r ∷ []) in
      e
      ∙ (ap (λ os. os ++ f i (rule_of r)) so_far
      ∙ (ap (λ k. of_rules f 0 before ++ f k (rule_of r)) (sym many)
      ∙ (sym (rules_more 0 before (rule_of r)) ∙ ap (of_rules f 0) (sym one))))

-- ---- one branch of an axiom more

module _ (rules : List Rule) (nest : ℕ) (s : State) (t : Term) (w : Wanted) (rule branch : ℕ) where
  abbrev with_answer : Unmet → Bindings → Option Facts → Unconcluded
  with_answer u vs fs = record { rule = rule; branch = branch; unmet = u; values = vs; facts = fs }

  -- what is unmet of a branch, with the values by what is met and the facts of the name that it asks for, keeps it from
  -- concluding
  pub unconcluded_is : (u : Unmet) (vs : Bindings) (fs : Option Facts)
      → u ≡ clause_unmet rules nest s t w.rule w.branch w.place rule branch
      → vs ≡ clause_values rules nest s t w.rule w.branch w.place rule branch u
      → fs ≡ facts_unmet rules s rule branch u → with_answer u vs fs ≡ unconcluded rules nest s t w rule branch
  unconcluded_is u vs fs e v f =
      ap₂ (with_answer u) v f ∙ ap (unconcluded_by rules nest s t w rule branch) e

module _ (rules : List Rule) (nest : ℕ) (s : State) (t : Term) (w : Wanted) (rule count : ℕ) where
  abbrev from : ℕ → ℕ → List Unconcluded
  from = at_clauses rules nest s t w rule

  -- those that are left from a branch on, where more are looked at
  abbrev pub clauses_left : Bool → ℕ → List Unconcluded
  clauses_left more branch = cond more (from branch (count - branch)) []

  -- at a branch that is looked at, those that are left are what keeps it, and those behind it
  pub clause_added : (now pushed : List kept.Unconcluded) (x : kept.Unconcluded) (branch : ℕ) (more : Bool)
      (whole : List Unconcluded) → branch < count → pushed ≡ now ++ x ∷ [] → more ≡ is_part x.unmet
      → unconcluded_of x ≡ unconcluded rules nest s t w rule branch
      → map unconcluded_of now ++ clauses_left true branch ≡ whole
      → map unconcluded_of pushed ++ clauses_left more (branch + 1) ≡ whole
  clause_added now pushed x branch more whole l e m is so_far =
      let left = count - (branch + 1) in
      let rest = from (branch + 1) left in
      let one : count - branch ≡ suc left = omega (arith, l) in
      ap₂ (λ xs k. xs ++ cond k rest []) (ap (map unconcluded_of) e ∙ map-append unconcluded_of now (x ∷ [])) m
      ∙ append_assoc (map unconcluded_of now) (unconcluded_of x ∷ []) (cond (is_part x.unmet) rest [])
      ∙ ap (λ y. map unconcluded_of now ++ y ∷ cond (is_part y.unmet) rest []) is
      ∙ ap (λ n. map unconcluded_of now ++ from branch n) (sym one)
      ∙ so_far

  -- where no more are looked at, none is left
  pub none_left : (more : Bool) (branch : ℕ) → (more ≡ true → count ≤ branch) → clauses_left more branch ≡ []
  none_left false branch h = refl
  none_left true branch h =
      let over = h refl in
      let none : count - branch ≡ 0 = omega (arith, over) in
      ap (from branch) none

-- ---- the name of a task

-- a list that begins with a symbol has its name
pub name_listed : (gs : List Ground) (g : Ground) → 1 ≤ length gs → g ≡ get_or gs 0 g
    → symbol_name (ground_of g) ≡ task_name (Listed (grounds_of gs))
name_listed [] g l at = absurd (omega arith)
name_listed (x ∷ gs) g l at = ap (λ y. symbol_name (ground_of y)) at

pub no_name_listed : (gs : List Ground) → length gs < 1 → None ≡ task_name (Listed (grounds_of gs))
no_name_listed [] l = refl
no_name_listed (x ∷ gs) l = absurd (omega arith)
