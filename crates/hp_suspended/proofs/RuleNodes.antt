-- The node of a rule reads back as the rule. (On codes alone: it can stand beside the laws of codes.)
use Rattle.std.proofs.Common.{◌≡◌, ℕ, zero, suc, ◌+◌, ◌≤◌, ◌==◌, Bool, true, false, cond, List, [], ◌∷◌, length, map, drop, slice_get, Option, Some, None, option_map, refl, ap, sym, subst, ◌∙◌}
use Rattle.std.specs.List.{All}
use Rattle.std.proofs.lemmas.Bool.{eqb-true}
use Rattle.std.proofs.lemmas.Option.{same_Some}
use Rattle.std.proofs.lemmas.List.{drop-drop, length-map}
use Rattle.std.proofs.lemmas.List.Elements.{All-head, All-tail}
use Rattle.std.proofs.Math.Seq.{drop-append_seam}
use Rattle.hp_syntax.specs.declared.limits.TheConstants.{MOST_VARIABLES}
use Rattle.hp_syntax.specs.declared.pattern.Span.{Span}
use Rattle.hp_syntax.specs.Checks.{rule_faults}
use Rattle.hp_syntax.specs.Syntax.{Atom, Axiom, Clause, Method, Operator, Rule, Does, Refines, Concludes}
use Rattle.hp_syntax.proofs.CheckLemmas.{none_found}
use Rattle.hp_laws.specs.RulesByName.{concluding}
use Rattle.hp_laws.proofs.FaultLemmas.{each_empty, faultless_has_few}
use Rattle.hp_code.specs.CodeViews.{CodeView, IsCode, beside, rule_nodes, rules_in, vars_at}
use Rattle.hp_code.specs.Sources.{made_of, body_read, branches_read, clauses_read, precondition_read, rule_read, rules_read}
use Rattle.hp_nodes.specs.Trees.{Laid, Operation, OperatorOf, MethodOf, AxiomOf, Tree, Trees, Node, NoTree, More, size, laid, all_laid, roots, first_tree, trees, tree_at}
use Rattle.hp_code.proofs.CodeLemmas.{axioms_found, code_read, vars_found}
use Rattle.hp_code.proofs.NodeLemmas.{laid_by_ends, length-laid}
use Rattle.hp_nodes.proofs.TreeLemmas.{laid_back}
use Rattle.hp_suspended.proofs.NodeRanges.{head_same, tail_same}

-- behind a tree stand the others
behind_tree : (nodes : List Laid) (k : ℕ) (t : Tree) (ts : Trees) → drop k nodes ≡ all_laid k (More t ts)
    → drop (k + size t) nodes ≡ all_laid (k + size t) ts
unfolding all_laid
behind_tree nodes k t ts e =
    let far : k + size t ≡ k + length (laid k t) = ap (λ n. k + n) (sym (length-laid k t)) in
    ap (λ j. drop j nodes) far ∙ sym (drop-drop (length (laid k t)) k nodes)
    ∙ ap (drop (length (laid k t))) e ∙ drop-append_seam (laid k t) (all_laid (k + size t) ts)

-- a rule's node and the names of its variables read back as the rule
pub record ReadAt (nodes : List Laid) (i : ℕ) (r : Rule) : Type 0 where
  pub vars : List (List ℕ)
  pub tree : Tree
  pub at' : tree_at nodes i ≡ Some tree
  pub is : rule_read vars tree ≡ Some r

module _ (nodes : List Laid) (i : ℕ) (r : Rule) where
  -- a first rule, at the first node, or one of the others
  first_or : (k : ℕ) (vars : List (List ℕ)) (t : Tree) (ts : Trees) (is : List ℕ) (q : Rule) (qs : List Rule)
      → drop k nodes ≡ all_laid k (More t ts) → rule_read vars t ≡ Some q
      → (beside i is qs ≡ Some r → ReadAt nodes i r) → (b : Bool) → (k == i) ≡ b
      → cond b (Some q) (beside i is qs) ≡ Some r → ReadAt nodes i r
  first_or k vars t ts is q qs down read later true here e =
      let same : k ≡ i = eqb-true k i here in
      let tree : tree_at nodes k ≡ Some t =
      ap (λ ns. first_tree (trees k ns)) down ∙ ap first_tree (laid_back k (More t ts)) in
      record {
        vars = vars;
        tree = t;
        at' = subst (λ j. tree_at nodes j ≡ Some t) same tree;
        is = read ∙ e;
      }
  first_or k vars t ts is q qs down read later false here e = later e

  -- what is read of a first tree and others
  read_or : (k : ℕ) (vars : List (List ℕ)) (t : Tree) (ts : Trees) (is : List ℕ) (rules : List Rule)
      → drop k nodes ≡ all_laid k (More t ts) → (x : Option Rule) (y : Option (List Rule)) → rule_read vars t ≡ x
      → ((qs : List Rule) → y ≡ Some qs → beside i is qs ≡ Some r → ReadAt nodes i r)
      → made_of (λ q qs. q ∷ qs) x y ≡ Some rules → beside i (k ∷ is) rules ≡ Some r → ReadAt nodes i r
  read_or k vars t ts is rules down None y read later e found = absurd cc
  read_or k vars t ts is rules down (Some q) None read later e found = absurd cc
  read_or k vars t ts is rules down (Some q) (Some qs) read later e found =
      first_or k vars t ts is q qs down read (later qs refl) (k == i) refl
      (ap (beside i (k ∷ is)) (same_Some (q ∷ qs) rules e) ∙ found)

  -- beside the index of a first node of trees stands the rule that its tree reads back as
  pub read_at : (k : ℕ) (all : List (List (List ℕ))) (ts : Trees) (rules : List Rule) → drop k nodes ≡ all_laid k ts
      → rules_read all ts ≡ Some rules → beside i (roots k ts) rules ≡ Some r → ReadAt nodes i r
  read_at k [] NoTree rules down e found = absurd cc
  read_at k [] (More t ts) rules down e found = absurd cc
  read_at k (vars ∷ all) NoTree rules down e found = absurd cc
  read_at k (vars ∷ all) (More t ts) rules down e found =
      read_or k vars t ts (roots (k + size t) ts) rules down (rule_read vars t) (rules_read all ts) refl
      (λ qs. read_at (k + size t) all ts qs (behind_tree nodes k t ts down))
      e found

-- the node of a rule of a code reads back as the rule
pub rule_at : (c : CodeView) → IsCode c → (i : ℕ) (r : Rule) → beside i (rule_nodes c) (rules_in c) ≡ Some r
    → ReadAt c.nodes i r
rule_at c is i r found =
    read_at c.nodes i r 0 c.vars (trees 0 c.nodes) (rules_in c) (laid_by_ends c.nodes is.ends) (code_read c is) found

-- ---- axioms

-- what a tree says that reads back as an axiom
pub record AxiomTree (vars : List (List ℕ)) (op : Operation) (ts : Trees) (x : Axiom) : Type 0 where
  pub op_is : op ≡ AxiomOf x.head
  pub vars_are : x.vars ≡ vars
  pub clauses : clauses_read ts ≡ Some x.clauses

-- an operator is no axiom
no_operator : {A B : Type 0} (f : A → B → Operator) (a : Option A) (b : Option B) (x : Axiom)
    → made_of (λ y z. Does (f y z)) a b ≡ Some (Concludes x) → ⊥
no_operator f None b x e = cc
no_operator f (Some a) None x e = cc
no_operator f (Some a) (Some b) x e = cc

-- nor is a method
no_method : {A : Type 0} (f : A → Method) (a : Option A) (x : Axiom)
    → option_map (λ y. Refines (f y)) a ≡ Some (Concludes x) → ⊥
no_method f None x e = cc
no_method f (Some a) x e = cc

-- the axiom of a rule
axiom_same : (x y : Axiom) → Some (Concludes x) ≡ Some (Concludes y) → x ≡ y
axiom_same x y e = cc

axiom_read : (vars : List (List ℕ)) (head : Atom) (s : Span) (ts : Trees) (y : Option (List Clause)) (x : Axiom)
    → clauses_read ts ≡ y
    → option_map (λ cs. Concludes (record { span = s; vars = vars; head = head; clauses = cs })) y
    ≡ Some (Concludes x)
    → AxiomTree vars (AxiomOf head) ts x
axiom_read vars head s ts None x read e = absurd cc
axiom_read vars head s ts (Some cs) x read e =
    let own : Axiom = record { span = s; vars = vars; head = head; clauses = cs } in
    let same = axiom_same own x e in
    record {
      op_is = ap (λ a. AxiomOf a.head) same;
      vars_are = sym (ap (λ a. a.vars) same);
      clauses = read ∙ ap (λ a. Some a.clauses) same;
    }

-- a tree that reads back as an axiom has its head, its names and its branches
pub axiom_tree : (vars : List (List ℕ)) (op : Operation) (s : Span) (ts : Trees) (x : Axiom)
    → rule_read vars (Node op s ts) ≡ Some (Concludes x) → AxiomTree vars op ts x
axiom_tree vars (OperatorOf head) s NoTree x e = absurd cc
axiom_tree vars (OperatorOf head) s (More t ts) x e =
    absurd (no_operator _ (precondition_read t) (body_read ts) x e)
axiom_tree vars (MethodOf head) s ts x e = absurd (no_method _ (branches_read ts) x e)
axiom_tree vars (AxiomOf head) s ts x e = axiom_read vars head s ts (clauses_read ts) x refl e
axiom_tree vars _ s ts x e = absurd cc

-- ---- axioms by number

-- the axiom that a number finds
pub record Numbered (f : ℕ → Option Rule) (xs : List Axiom) (k i : ℕ) : Type 0 where
  pub own : Axiom
  pub is : slice_get xs k ≡ Some own
  pub found : f i ≡ Some (Concludes own)

-- where axioms are found at indices, the index of a number finds the axiom of that number
numbered : (f : ℕ → Option Rule) (is : List ℕ) (xs : List Axiom) (k i : ℕ) → map f is ≡ map Some (map Concludes xs)
    → slice_get is k ≡ Some i → Numbered f xs k i
numbered f [] xs k i e at' = absurd cc
numbered f (j ∷ is) [] k i e at' = absurd cc
numbered f (j ∷ is) (x ∷ xs) zero i e at' =
    let first = head_same (f j) (Some (Concludes x)) (map f is) (map Some (map Concludes xs)) e in
    record { own = x; is = refl; found = sym (ap f (same_Some j i at')) ∙ first }
numbered f (j ∷ is) (x ∷ xs) (suc k) i e at' =
    let others = tail_same (f j) (Some (Concludes x)) (map f is) (map Some (map Concludes xs)) e in
    let later = numbered f is xs k i others at' in
    record { own = later.own; is = later.is; found = later.found }

-- what holds of all things holds of the one beside an index
beside_all : {A : Type 0} (P : A → Type 0) (i : ℕ) (is : List ℕ) (xs : List A) (x : A) → All P xs
    → beside i is xs ≡ Some x → P x
beside_all P i [] xs x all e = absurd cc
beside_all P i (n ∷ is) [] x all e = absurd cc
beside_all P i (n ∷ is) (y ∷ xs) x all e =
    either (n == i) (All-head P y xs all) (beside_all P i is xs x (All-tail P y xs all)) e
  where
    either : (b : Bool) → P y → (beside i is xs ≡ Some x → P x) → cond b (Some y) (beside i is xs) ≡ Some x → P x
    either true here later g = subst P (same_Some y x g) here
    either false here later g = later g

-- the node of a number under a name is that of the axiom of that number
pub axiom_numbered : (c : CodeView) → IsCode c → (name : List ℕ) (k i : ℕ) → slice_get (c.axiom_rules name) k ≡ Some i
    → Numbered (λ j. beside j (rule_nodes c) (rules_in c)) (concluding name (rules_in c)) k i
axiom_numbered c is name k i at' =
    numbered (λ j. beside j (rule_nodes c) (rules_in c)) (c.axiom_rules name) (concluding name (rules_in c)) k i
    (axioms_found c is name) at'

-- a code has as many nodes for a name as axioms that conclude it
pub length-axiom_rules : (c : CodeView) → IsCode c → (name : List ℕ)
    → length (c.axiom_rules name) ≡ length (concluding name (rules_in c))
length-axiom_rules c is name =
    sym (length-map (c.axiom_rules name) (λ i. beside i (rule_nodes c) (rules_in c)))
    ∙ ap length (axioms_found c is name) ∙ length-map (map Concludes (concluding name (rules_in c))) Some
    ∙ length-map (concluding name (rules_in c)) Concludes

-- an axiom of a code has few variables
pub few_variables : (c : CodeView) → IsCode c → (i : ℕ) (x : Axiom)
    → beside i (rule_nodes c) (rules_in c) ≡ Some (Concludes x) → length (vars_at c i) ≤ MOST_VARIABLES
few_variables c is i x found =
    let faultless = each_empty rule_faults (rules_in c) (none_found _ is.faultless) in
    let own = beside_all (λ r. rule_faults r ≡ []) i (rule_nodes c) (rules_in c) (Concludes x) faultless found in
    subst (λ vs. length vs ≤ MOST_VARIABLES) (sym (vars_found c is i (Concludes x) found))
    (faultless_has_few (Concludes x) own)
