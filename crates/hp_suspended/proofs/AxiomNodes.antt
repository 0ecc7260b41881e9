-- The events of a goal by the axioms of its name, from the one of a number on, by the nodes of axioms.
use Rattle.std.proofs.Common.{◌≡◌, ℕ, zero, suc, ◌+◌, ◌-◌, ◌<◌, ◌≤◌, List, [], ◌∷◌, ◌++◌, length, drop, slice_get, Some, None, is_some, option_and_then, ap, sym, subst, ◌∙◌, arith}
use Rattle.std.specs.Prelude.{flat_map}
use Rattle.std.proofs.lemmas.List.{drop_all}
use Rattle.std.proofs.lemmas.Option.{same_Some}
use Rattle.hp_syntax.specs.declared.limits.TheConstants.{MOST_VARIABLES}
use Rattle.hp_syntax.specs.Syntax.{Atom, Axiom, Concludes}
use Rattle.hp_syntax.specs.Values.{Bindings, unbound}
use Rattle.hp_syntax.specs.Goals.{Goal, start_goal}
use Rattle.hp_syntax.specs.Events.{Below, State, Cut, axiom_events, branch_events, concluded, sat, started_events, through}
use Rattle.hp_laws.specs.RulesByName.{concluding}
use Rattle.hp_code.specs.CodeViews.{CodeView, IsCode, rules_in, vars_at}
use Rattle.hp_code.specs.Sources.{clauses_read, rule_read}
use Rattle.hp_nodes.specs.Trees.{Laid, AxiomOf, Node, trees_between}
use Rattle.hp_code.proofs.CodeLemmas.{vars_found}
use Rattle.hp_code.proofs.NodeLemmas.{drop_there, node_there}
use Rattle.hp_suspended.specs.Nodes.{clauses_in, head_at, head_read}
use Rattle.hp_suspended.specs.Settings.{Setting, axioms_in, state_in, below_at, clause_events, first_between, axioms_from}
use Rattle.hp_suspended.specs.Fitting.{AreClausesIn, IsAxiomAt}
use Rattle.hp_suspended.proofs.NodeRanges.{below_ends, ends_within, node_of_tree}
use Rattle.hp_suspended.proofs.RangeLemmas.{code_laid}
use Rattle.hp_suspended.proofs.RuleNodes.{ReadAt, axiom_numbered, axiom_tree, few_variables, length-axiom_rules, rule_at}

-- where a level is left, an axiom's branches are looked at one level down
below_left : (axioms : List Axiom) (n : ℕ) (s : State) → 0 < n → below_at axioms n s ≡ Some (sat axioms (n - 1) s)
below_left axioms zero s l = absurd (omega (arith, l))
below_left axioms (suc n) s l =
    let same : n ≡ suc n - 1 = omega arith in ap (λ m. Some (sat axioms m s)) same

-- ---- axioms of a goal's name

-- an axiom at a node, as a goal meets it
pub record AxiomAt (w : Setting) (n k : ℕ) (q : Goal) (i : ℕ) (l : Laid) (h : Atom) : Type 0 where
  pub head : head_at w.code i ≡ Some h
  pub is : IsAxiomAt w.code i
  pub branches : AreClausesIn w.code (i + 1) l.to
  pub few : length (vars_at w.code i) ≤ MOST_VARIABLES
  pub passed : (e : Bindings) → start_goal h q (unbound (length (vars_at w.code i))) ≡ None
      → axioms_from w n k q e ≡ axioms_from w n (k + 1) q e
  pub cut : n ≡ 0 → (e b : Bindings) → start_goal h q (unbound (length (vars_at w.code i))) ≡ Some b
      → axioms_from w n k q e ≡ through (Cut ∷ []) (λ d. concluded h d q e) ++ axioms_from w n (k + 1) q e
  pub started : 0 < n → (e b : Bindings) → start_goal h q (unbound (length (vars_at w.code i))) ≡ Some b
      → axioms_from w n k q e
      ≡ through (first_between w (n - 1) (i + 1) l.to b) (λ d. concluded h d q e) ++ axioms_from w n (k + 1) q e

-- the axiom of a number, at its node
pub record AxiomFound (w : Setting) (n k : ℕ) (q : Goal) (i : ℕ) : Type 0 where
  pub node : Laid
  pub there : slice_get w.code.nodes i ≡ Some node
  pub head : Atom
  pub op : node.op ≡ AxiomOf head
  pub facts : AxiomAt w n k q i node head

module _ (w : Setting) (n k : ℕ) (q : Goal) (code : IsCode w.code) where
  -- the axioms of the goal's name
  abbrev own_axioms : List Axiom
  own_axioms = concluding q.name (rules_in w.code)

  -- the events of an expression one level down
  abbrev lower : Below
  lower = below_at (axioms_in w) n (state_in w)

  -- behind the last axiom of its name a goal meets nothing
  pub axioms_ended : length (w.code.axiom_rules q.name) ≤ k → (e : Bindings) → axioms_from w n k q e ≡ []
  unfolding axioms_from
  axioms_ended over e =
      let many = length-axiom_rules w.code code q.name in
      ap (flat_map (λ x. axiom_events lower x q e)) (drop_all k own_axioms (omega (arith, over, many)))

  -- a goal meets an axiom of its name before the later ones
  axioms_step : (x : Axiom) → slice_get own_axioms k ≡ Some x → (e : Bindings)
      → axioms_from w n k q e ≡ axiom_events lower x q e ++ axioms_from w n (k + 1) q e
  unfolding axioms_from
  axioms_step x at' e =
      let next : suc k ≡ k + 1 = omega arith in
      ap (flat_map (λ y. axiom_events lower y q e)) (drop_there own_axioms k x at')
      ∙ ap (λ j. axiom_events lower x q e ++ flat_map (λ y. axiom_events lower y q e) (drop j own_axioms)) next

  module _ (i : ℕ) (l : Laid) (x : Axiom) (at' : slice_get own_axioms k ≡ Some x)
      (vars : vars_at w.code i ≡ x.vars) (clauses : clauses_in w.code (i + 1) l.to ≡ Some x.clauses) where
    -- its head starts from so many variables
    start_same : start_goal x.head q (unbound (length x.vars))
        ≡ start_goal x.head q (unbound (length (vars_at w.code i)))
    start_same = ap (λ vs. start_goal x.head q (unbound (length vs))) (sym vars)

    -- where its head doesn't start, the later ones are met
    step_passed : (e : Bindings) → start_goal x.head q (unbound (length (vars_at w.code i))) ≡ None
        → axioms_from w n k q e ≡ axioms_from w n (k + 1) q e
    step_passed e none =
        axioms_step x at' e
        ∙ ap (λ o. started_events lower x o q e ++ axioms_from w n (k + 1) q e) (start_same ∙ none)

    -- where it starts, what its branches conclude is met before them
    step_started : (e b : Bindings) → start_goal x.head q (unbound (length (vars_at w.code i))) ≡ Some b
        → axioms_from w n k q e
        ≡ through (branch_events lower x b) (λ d. concluded x.head d q e) ++ axioms_from w n (k + 1) q e
    step_started e b some =
        axioms_step x at' e
        ∙ ap (λ o. started_events lower x o q e ++ axioms_from w n (k + 1) q e) (start_same ∙ some)

    -- where no level is left its branches are a cut
    branches_cut : n ≡ 0 → (b : Bindings) → branch_events lower x b ≡ Cut ∷ []
    branches_cut none b = ap (λ m. branch_events (below_at (axioms_in w) m (state_in w)) x b) none

    -- where one is left they are those of the nodes behind it
    branches_met : 0 < n → (b : Bindings) → branch_events lower x b ≡ first_between w (n - 1) (i + 1) l.to b
    unfolding first_between
    branches_met left b =
        ap (λ o. branch_events o x b) (below_left (axioms_in w) n (state_in w) left)
        ∙ sym (ap (λ o. clause_events w (n - 1) o b) clauses)

    -- which is all that a goal meets of it
    facts_of : AreClausesIn w.code (i + 1) l.to → head_at w.code i ≡ Some x.head
        → length (vars_at w.code i) ≤ MOST_VARIABLES → AxiomAt w n k q i l x.head
    facts_of branches head few = record {
      head = head;
      is = ap is_some head;
      branches = branches;
      few = few;
      passed = step_passed;
      cut =
          λ none e b some.
          step_started e b some
          ∙ ap (λ xs. through xs (λ d. concluded x.head d q e) ++ axioms_from w n (k + 1) q e) (branches_cut none b);
      started =
          λ left e b some.
          step_started e b some
          ∙ ap (λ xs. through xs (λ d. concluded x.head d q e) ++ axioms_from w n (k + 1) q e) (branches_met left b);
    }

-- ---- axioms at their nodes

-- the head of an axiom's node
same_head : (g h : Atom) → AxiomOf g ≡ AxiomOf h → g ≡ h
same_head g h e = cc

-- what the node of an axiom holds
record HoldsAxiom (c : CodeView) (i : ℕ) (l : Laid) (x : Axiom) : Type 0 where
  op : l.op ≡ AxiomOf x.head
  head : head_at c i ≡ Some x.head
  clauses : clauses_in c (i + 1) l.to ≡ Some x.clauses
  branches : AreClausesIn c (i + 1) l.to

-- the node of an axiom of a code holds its head and its branches
holds_axiom : (c : CodeView) → IsCode c → (i : ℕ) (l : Laid) → slice_get c.nodes i ≡ Some l → (x : Axiom)
    → ReadAt c.nodes i (Concludes x) → HoldsAxiom c i l x
unfolding head_at clauses_in
holds_axiom c code i l there x r =
    let down = code_laid c code in
    let below = trees_between c.nodes (suc i) l.to in
    let here = node_there c.nodes i l there in
    let own : r.tree ≡ Node l.op l.span below = same_Some r.tree _ (sym r.at' ∙ here) in
    let a = axiom_tree r.vars l.op l.span below x (sym (ap (rule_read r.vars) own) ∙ r.is) in
    let next : suc i ≡ i + 1 = omega arith in
    let range : AreClausesIn c (suc i) l.to =
    record {
      read = ap is_some a.clauses;
      whole = below_ends c.nodes down i l there;
      within = ends_within c.nodes down i l there;
    } in
    record {
      op = a.op_is;
      head = ap (option_and_then head_read) here ∙ ap (λ o. head_read (Node o l.span below)) a.op_is;
      clauses = ap (λ j. clauses_read (trees_between c.nodes j l.to)) (sym next) ∙ a.clauses;
      branches = subst (λ j. AreClausesIn c j l.to) next range;
    }

module _ (w : Setting) (n k : ℕ) (q : Goal) (i : ℕ) (code : IsCode w.code)
    (at' : slice_get (w.code.axiom_rules q.name) k ≡ Some i) where
  -- the node of a number under a goal's name is that of an axiom, by which the goal meets what it meets
  pub axiom_found : AxiomFound w n k q i
  axiom_found =
      let c = w.code in
      let m = axiom_numbered c code q.name k i at' in
      let r = rule_at c code i (Concludes m.own) m.found in
      let l = node_of_tree c.nodes i r.tree r.at' in
      let h = holds_axiom c code i l.0 l.1 m.own r in
      record {
        node = l.0;
        there = l.1;
        head = m.own.head;
        op = h.op;
        facts =
            facts_of w n k q code i l.0 m.own m.is (vars_found c code i (Concludes m.own) m.found) h.clauses h.branches
            h.head (few_variables c code i m.own m.found);
      }

  -- the node that stands there is an axiom's
  pub axiom_op : (l : Laid) → slice_get w.code.nodes i ≡ Some l → l.op ≡ AxiomOf axiom_found.head
  axiom_op l there =
      let f = axiom_found in
      subst (λ (m : Laid). m.op ≡ AxiomOf f.head) (same_Some f.node l (sym f.there ∙ there)) f.op

  -- so are its facts told of the node and the head that stand there
  pub axiom_facts : (l : Laid) → slice_get w.code.nodes i ≡ Some l → (h : Atom) → l.op ≡ AxiomOf h
      → AxiomAt w n k q i l h
  axiom_facts l there h op =
      let f = axiom_found in
      let node = same_Some f.node l (sym f.there ∙ there) in
      let head = same_head f.head h (sym (axiom_op l there) ∙ op) in
      subst (λ m. AxiomAt w n k q i m h) node (subst (λ g. AxiomAt w n k q i f.node g) head f.facts)
