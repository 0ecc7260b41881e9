-- What rules are compiled to is a code, and a code's tables find its rules.
use Rattle.std.proofs.Common.{◌≡◌, ℕ, suc, ◌+◌, ◌≤◌, ◌==◌, Bool, true, false, cond, List, [], ◌∷◌, map, length, Option, Some, None, is_some, refl, ap, ap₂, sym, ◌∙◌, subst, arith}
use Rattle.std.specs.Prelude.{filter, flat_map}
use Rattle.std.specs.List.{All}
use Rattle.std.proofs.lemmas.Bool.{eq-eqb, ne_eqb}
use Rattle.std.proofs.lemmas.List.Elements.{All-cons, All-head, All-nil, All-tail}
use Rattle.hp_syntax.specs.Syntax.{Axiom, Rule, Does, Refines, Concludes}
use Rattle.hp_syntax.specs.Numbered.{IsNumberedRule}
use Rattle.hp_syntax.specs.Checks.{first_of, rule_faults}
use Rattle.hp_laws.specs.RulesByName.{is_name, axiom_head, relevant, concluding}
use Rattle.hp_tables.specs.declared.Kind.{Kind}
use Rattle.hp_tables.specs.declared.Kind.TheVariants as kinds
use Rattle.hp_tables.specs.Tables.{name_as, places_of}
use Rattle.hp_nodes.specs.Compiled.{rule_tree, rule_trees, vars_of}
use Rattle.hp_nodes.specs.Trees.{Trees, NoTree, More, size, roots, trees, all_laid}
use Rattle.hp_nodes.proofs.TreeLemmas.{laid_back}
use Rattle.hp_code.specs.CodeViews.{CodeView, IsCodeOf, IsCode, beside, ends, or_empty, rule_nodes, rules_in, rules_of, vars_at}
use Rattle.hp_code.specs.Lowered.{lowered_rule, lowered_rules}
use Rattle.hp_code.specs.Sources.{made_of, rule_read, rules_read}
use Rattle.hp_code.proofs.CheckedLemmas.{rules_checked, rules_numbered}
use Rattle.hp_code.proofs.NodeLemmas.{positive}
use Rattle.hp_code.proofs.SourceLemmas.{rules_back}

-- ---- rules of a name

-- a lowered rule has the name of the rule
name_lowered : (kind : Kind) (r : Rule) → name_as kind (lowered_rule r) ≡ name_as kind r
name_lowered kinds.Task (Does o) = refl
name_lowered kinds.Task (Refines m) = refl
name_lowered kinds.Task (Concludes x) = refl
name_lowered kinds.Axiom (Does o) = refl
name_lowered kinds.Axiom (Refines m) = refl
name_lowered kinds.Axiom (Concludes x) = refl

-- lowered rules have the places of the rules under each name
places_lowered : (kind : Kind) (name : List ℕ) (is : List ℕ) (rs : List Rule)
    → places_of kind name is (lowered_rules rs) ≡ places_of kind name is rs
places_lowered kind name [] rs = refl
places_lowered kind name (i ∷ is) [] = refl
places_lowered kind name (i ∷ is) (r ∷ rs) =
    ap (λ o. cond (is_name name o) (i ∷ places_of kind name is (lowered_rules rs))
    (places_of kind name is (lowered_rules rs))) (name_lowered kind r)
    ∙ ap (λ js. cond (is_name name (name_as kind r)) (i ∷ js) js) (places_lowered kind name is rs)

-- lowered rules have the variables of the rules
vars_lowered : (rs : List Rule) → map vars_of (lowered_rules rs) ≡ map vars_of rs
vars_lowered [] = refl
vars_lowered (Does o ∷ rs) = ap (λ xs. o.vars ∷ xs) (vars_lowered rs)
vars_lowered (Refines m ∷ rs) = ap (λ xs. m.vars ∷ xs) (vars_lowered rs)
vars_lowered (Concludes x ∷ rs) = ap (λ xs. x.vars ∷ xs) (vars_lowered rs)

module _ (rules : List Rule) (c : CodeView) (of : IsCodeOf rules c) where
  -- the nodes of a code of rules read back as the trees of the rules
  pub code_trees : trees 0 c.nodes ≡ rule_trees rules
  code_trees = ap (trees 0) of.nodes ∙ laid_back 0 (rule_trees rules)

  -- and as the rules, lowered
  pub code_reads : rules_of c ≡ Some (lowered_rules rules)
  code_reads = ap₂ rules_read of.vars code_trees ∙ rules_back rules

  -- and these are the rules in it
  code_rules : rules_in c ≡ lowered_rules rules
  code_rules = ap or_empty code_reads

  -- where its rules are numbered and the checks find nothing in them, a code of rules keeps what a code keeps
  pub code_keeps : All IsNumberedRule rules → first_of (flat_map rule_faults rules) ≡ None → IsCode c
  code_keeps numbered faultless = record {
    reads = ap is_some code_reads;
    ends = ap ends (of.nodes ∙ ap (all_laid 0) (sym code_trees));
    vars = of.vars ∙ sym (vars_lowered rules) ∙ ap (map vars_of) (sym code_rules);
    numbered = subst (All IsNumberedRule) (sym code_rules) (rules_numbered rules numbered);
    faultless =
        ap (λ rs. first_of (flat_map rule_faults rs)) code_rules ∙ ap first_of (rules_checked rules) ∙ faultless;
    task_rules =
        λ name.
        of.task_rules name ∙ sym (places_lowered kinds.Task name (roots 0 (rule_trees rules)) rules)
        ∙ ap₂ (λ ts rs. places_of kinds.Task name (roots 0 ts) rs) (sym code_trees) (sym code_rules);
    axiom_rules =
        λ name.
        of.axiom_rules name ∙ sym (places_lowered kinds.Axiom name (roots 0 (rule_trees rules)) rules)
        ∙ ap₂ (λ ts rs. places_of kinds.Axiom name (roots 0 ts) rs) (sym code_trees) (sym code_rules);
  }

-- ---- places that ascend

-- numbers ascend, the first of them not below this one
abbrev pub AscendFrom : ℕ → List ℕ → Type 0
AscendFrom k [] = Unit {0}
AscendFrom k (n ∷ ns) = (k ≤ n) × AscendFrom (suc n) ns

-- numbers that ascend from one ascend from each smaller one
ascend_lower : (j k : ℕ) (ns : List ℕ) → j ≤ k → AscendFrom k ns → AscendFrom j ns
ascend_lower j k [] l a = tt
ascend_lower j k (n ∷ ns) l a = (omega (arith, l, a.0), a.1)

-- the indices of the first nodes of trees ascend
pub roots_ascend : (i : ℕ) (ts : Trees) → AscendFrom i (roots i ts)
roots_ascend i NoTree = tt
roots_ascend i (More t ts) =
    let more : suc i ≤ i + size t = omega (arith, positive t) in
    (omega arith, ascend_lower (suc i) (i + size t) (roots (i + size t) ts) more (roots_ascend (i + size t) ts))

-- numbers that are all above one are all at least each smaller one
all_lower : (j k : ℕ) → j ≤ k → (ms : List ℕ) → All (λ i. k ≤ i) ms → All (λ i. j ≤ i) ms
all_lower j k l [] h = All-nil (λ i. j ≤ i)
all_lower j k l (m ∷ ms) h =
    All-cons (λ i. j ≤ i) m ms (omega (arith, l, All-head (λ i. k ≤ i) m ms h))
    (all_lower j k l ms (All-tail (λ i. k ≤ i) m ms h))

-- all numbers that ascend from one are at least that
ascend_above : (k : ℕ) (ns : List ℕ) → AscendFrom k ns → All (λ i. k ≤ i) ns
ascend_above k [] a = All-nil (λ i. k ≤ i)
ascend_above k (n ∷ ns) a =
    All-cons (λ i. k ≤ i) n ns a.0
    (all_lower k (suc n) (omega (arith, a.0)) ns (ascend_above (suc n) ns a.1))

-- a fact of an element and others is one of both, and of the others alone
either_holds : {A : Type 0} (P : A → Type 0) (b : Bool) (x : A) (xs : List A) → P x → All P xs
    → All P (cond b (x ∷ xs) xs)
either_holds P true x xs h a = All-cons P x xs h a
either_holds P false x xs h a = a

-- a fact of all places is one of those under a name
places_all : (P : ℕ → Type 0) (kind : Kind) (name : List ℕ) (is : List ℕ) (rs : List Rule) → All P is
    → All P (places_of kind name is rs)
places_all P kind name [] rs a = a
places_all P kind name (i ∷ is) [] a = All-nil P
places_all P kind name (i ∷ is) (r ∷ rs) a =
    either_holds P (is_name name (name_as kind r)) i (places_of kind name is rs) (All-head P i is a)
    (places_all P kind name is rs (All-tail P i is a))

module _ {A : Type 0} (n : ℕ) (ns : List ℕ) (x : A) (xs : List A) where
  -- beside the first of places stands the first of the things
  pub beside_first : beside n (n ∷ ns) (x ∷ xs) ≡ Some x
  beside_first = ap (λ b. cond b (Some x) (beside n ns xs)) (eq-eqb n n refl)

  -- and beside a greater one what stands beside it among the others
  pub beside_later : (i : ℕ) → suc n ≤ i → beside i (n ∷ ns) (x ∷ xs) ≡ beside i ns xs
  beside_later i l = ap (λ b. cond b (Some x) (beside i ns xs)) (ne_eqb n i (λ e. absurd (omega (arith, l, e))))

  -- so it does at many
  all_later : (is : List ℕ) → All (λ i. suc n ≤ i) is
      → map (λ i. beside i (n ∷ ns) (x ∷ xs)) is ≡ map (λ i. beside i ns xs) is
  all_later [] a = refl
  all_later (i ∷ is) a =
      ap₂ ◌∷◌ (beside_later i (All-head (λ i. suc n ≤ i) i is a))
      (all_later is (All-tail (λ i. suc n ≤ i) i is a))

-- ---- finding rules

-- as many places as rules
abbrev AreAsMany : List ℕ → List Rule → Type 0
AreAsMany is rs = length is ≡ length rs

-- there are as many nodes of rules as rules
pub length-rule_nodes : (i : ℕ) (rs : List Rule) → length (roots i (rule_trees rs)) ≡ length rs
length-rule_nodes i [] = refl
length-rule_nodes i (r ∷ rs) = ap suc (length-rule_nodes (i + size (rule_tree r)) rs)

-- a rule and others, or the others alone, are found at its place and theirs, or at theirs alone
found_either : (b : Bool) (i : ℕ) (is : List ℕ) (r : Rule) (rs : List Rule) (places : List ℕ) (own : List Rule)
    → map (λ j. beside j (i ∷ is) (r ∷ rs)) places ≡ map Some own
    → map (λ j. beside j (i ∷ is) (r ∷ rs)) (cond b (i ∷ places) places) ≡ map Some (cond b (r ∷ own) own)
found_either true i is r rs places own later = ap₂ ◌∷◌ (beside_first i is r rs) later
found_either false i is r rs places own later = later

-- at the places under a name, where places ascend, stand the rules that have it
found : (kind : Kind) (name : List ℕ) (k : ℕ) (is : List ℕ) (rs : List Rule) → AscendFrom k is → AreAsMany is rs
    → map (λ i. beside i is rs) (places_of kind name is rs)
    ≡ map Some (filter (λ r. is_name name (name_as kind r)) rs)
found kind name k [] [] a m = refl
found kind name k [] (r ∷ rs) a m = absurd (omega (arith, m))
found kind name k (i ∷ is) [] a m = refl
found kind name k (i ∷ is) (r ∷ rs) a m =
    let places = places_of kind name is rs in
    found_either (is_name name (name_as kind r)) i is r rs places (filter (λ q. is_name name (name_as kind q)) rs)
    (all_later i is r rs places (places_all (λ j. suc i ≤ j) kind name is rs (ascend_above (suc i) is a.1))
    ∙ found kind name (suc i) is rs a.1 (omega (arith, m)))

-- ---- what is read

-- what is made of two things that are there
record Made {A B C : Type 0} (f : A → B → C) (x : Option A) (y : Option B) (z : C) : Type 0 where
  first : A
  second : B
  is_first : x ≡ Some first
  is_second : y ≡ Some second
  is : z ≡ f first second

-- where something is made of two things, both are there
made : {A B C : Type 0} (f : A → B → C) (x : Option A) (y : Option B) (z : C) → made_of f x y ≡ Some z → Made f x y z
made f None y z e = absurd cc
made f (Some a) None z e = absurd cc
made f (Some a) (Some b) z e = record { first = a; second = b; is_first = refl; is_second = refl; is = cc }

-- as many rules are read as there are trees
read_many : (i : ℕ) (all : List (List (List ℕ))) (ts : Trees) (rules : List Rule) → rules_read all ts ≡ Some rules
    → AreAsMany (roots i ts) rules
read_many i [] NoTree [] e = refl
read_many i [] NoTree (r ∷ rs) e = absurd cc
read_many i [] (More t ts) rules e = absurd cc
read_many i (vars ∷ all) NoTree rules e = absurd cc
read_many i (vars ∷ all) (More t ts) rules e =
    let m = made (λ r rs. r ∷ rs) (rule_read vars t) (rules_read all ts) rules e in
    ap suc (read_many (i + size t) all ts m.second m.is_second) ∙ sym (ap length m.is)

-- an axiom and others, or the others alone
concludes_either : (b : Bool) (x : Axiom) (own : List Rule) (others : List Axiom) → own ≡ map Concludes others
    → cond b (Concludes x ∷ own) own ≡ map Concludes (cond b (x ∷ others) others)
concludes_either true x own others e = ap (λ ys. Concludes x ∷ ys) e
concludes_either false x own others e = e

-- filtering for axioms gives those that conclude a name
axioms_filtered : (name : List ℕ) (rs : List Rule)
    → filter (λ r. is_name name (axiom_head r)) rs ≡ map Concludes (concluding name rs)
axioms_filtered name [] = refl
axioms_filtered name (Does o ∷ rs) = axioms_filtered name rs
axioms_filtered name (Refines m ∷ rs) = axioms_filtered name rs
axioms_filtered name (Concludes x ∷ rs) =
    concludes_either (is_name name (axiom_head (Concludes x))) x (filter (λ r. is_name name (axiom_head r)) rs)
    (concluding name rs) (axioms_filtered name rs)

-- something that is there is read as the rules in it
there : {A : Type 0} (o : Option (List A)) → is_some o ≡ true → o ≡ Some (or_empty o)
there None e = absurd cc
there (Some xs) e = refl

-- the nodes of a code read back as the rules in it
pub code_read : (c : CodeView) → IsCode c → rules_of c ≡ Some (rules_in c)
code_read c is = there (rules_of c) is.reads

module _ (c : CodeView) (is : IsCode c) (name : List ℕ) where
  -- at the nodes that a code has for a name stand the rules that are relevant to tasks of that name
  pub tasks_found : map (λ i. beside i (rule_nodes c) (rules_in c)) (c.task_rules name)
      ≡ map Some (relevant (Some name) (rules_in c))
  tasks_found =
      ap (map (λ i. beside i (rule_nodes c) (rules_in c))) (is.task_rules name)
      ∙ found kinds.Task name 0 (rule_nodes c) (rules_in c) (roots_ascend 0 (trees 0 c.nodes))
      (read_many 0 c.vars (trees 0 c.nodes) (rules_in c) (code_read c is))

  -- and the axioms that conclude it
  pub axioms_found : map (λ i. beside i (rule_nodes c) (rules_in c)) (c.axiom_rules name)
      ≡ map Some (map Concludes (concluding name (rules_in c)))
  axioms_found =
      ap (map (λ i. beside i (rule_nodes c) (rules_in c))) (is.axiom_rules name)
      ∙ found kinds.Axiom name 0 (rule_nodes c) (rules_in c) (roots_ascend 0 (trees 0 c.nodes))
      (read_many 0 c.vars (trees 0 c.nodes) (rules_in c) (code_read c is))
      ∙ ap (map Some) (axioms_filtered name (rules_in c))

-- ---- names of variables

-- beside the place of a thing stands what is made of it
beside_mapped : {A B : Type 0} (f : A → B) (i : ℕ) (is : List ℕ) (xs : List A) (x : A) → beside i is xs ≡ Some x
    → beside i is (map f xs) ≡ Some (f x)
beside_mapped f i [] xs x e = absurd cc
beside_mapped f i (n ∷ ns) [] x e = absurd cc
beside_mapped f i (n ∷ ns) (y ∷ xs) x e = either (n == i) (beside_mapped f i ns xs x) e
  where
    either : (b : Bool) → (beside i ns xs ≡ Some x → beside i ns (map f xs) ≡ Some (f x))
        → cond b (Some y) (beside i ns xs) ≡ Some x → cond b (Some (f y)) (beside i ns (map f xs)) ≡ Some (f x)
    either true later g = cc
    either false later g = later g

-- the names at the node of a rule are those of the rule's variables
pub vars_found : (c : CodeView) (is : IsCode c) (i : ℕ) (r : Rule) → beside i (rule_nodes c) (rules_in c) ≡ Some r
    → vars_at c i ≡ vars_of r
vars_found c is i r e =
    ap (λ all. or_empty (beside i (rule_nodes c) all)) is.vars
    ∙ ap or_empty (beside_mapped vars_of i (rule_nodes c) (rules_in c) r e)
