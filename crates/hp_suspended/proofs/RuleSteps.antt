-- What the axiom of a node begins as, and what a goal meets of it.
use Rattle.std.proofs.Common.{◌≡◌, ℕ, zero, suc, ◌+◌, ◌-◌, ◌≤◌, ◌++◌, List, [], ◌∷◌, length, slice_get, is_some, Some, None, true, false, arith, refl, sym, ◌∙◌, ap, ap₂, subst}
use Rattle.std.proofs.lemmas.Option.{same_Some}
use Rattle.hp_syntax.specs.declared.limits.TheConstants.{MOST_VARIABLES}
use Rattle.hp_syntax.specs.Syntax.{Atom}
use Rattle.hp_syntax.specs.Terms.{Term}
use Rattle.hp_syntax.specs.Values.{unbound}
use Rattle.hp_syntax.specs.Goals.{start_goal}
use Rattle.hp_syntax.specs.Events.{Cut, through}
use Rattle.hp_code.specs.CodeViews.{CodeView, IsCode, vars_at}
use Rattle.hp_code.specs.Sources.{clauses_read}
use Rattle.hp_nodes.specs.Trees.{AxiomOf, Laid, sizes, trees_between}
use Rattle.hp_code.proofs.NodeLemmas.{none_between}
use Rattle.hp_eval.specs.declared.event.Event.TheVariants as events
use Rattle.hp_eval.specs.declared.goals.Goal.{Goal}
use Rattle.hp_eval.specs.GoalViews.{GoalBelow, goal_of}
use Rattle.hp_eval.specs.Growth.{Grows}
use Rattle.hp_eval.specs.Slotted.{Slotted, AreBelow, Matched, bindings_of, no_bindings}
use Rattle.hp_eval.specs.SlotLaws.{undone_whole}
use Rattle.hp_eval.proofs.GrowthLemmas.{bindings_stay}
use Rattle.hp_suspended.specs.declared.scene.Scene.{Scene}
use Rattle.hp_suspended.specs.Beginning.{BeginsRule, IsNamedAt, MeetsRule, begun_level}
use Rattle.hp_suspended.specs.Branching.{under}
use Rattle.hp_suspended.specs.Fitting.{AreClausesIn, IsAxiomAt, RunningFits, running_weight}
use Rattle.hp_suspended.specs.Nodes.{clauses_in, head_at}
use Rattle.hp_suspended.specs.SceneViews.{code_in, setting_of}
use Rattle.hp_suspended.specs.Settings.{axioms_from, first_between, head_concludes}
use Rattle.hp_suspended.specs.Views.{Idle, Level, One, View}
use Rattle.hp_suspended.proofs.AxiomNodes.{AxiomAt, AxiomFound, axiom_facts, axiom_found}
use Rattle.hp_suspended.proofs.BeginSteps.{goal_later}

-- no variable is bound where none has a cell
none_bound : (terms : List Term) (n : ℕ) → bindings_of terms (no_bindings n) ≡ unbound n
none_bound terms zero = refl
none_bound terms (suc n) = ap (λ bs. None ∷ bs) (none_bound terms n)

-- no branches are those between an index and itself
no_clauses : (c : CodeView) (to : ℕ) → to ≤ length c.nodes → AreClausesIn c to to
unfolding clauses_in sizes
no_clauses c to within =
    let none = none_between c.nodes to in
    let whole : to + sizes (trees_between c.nodes to to) ≡ to + 0 = ap (λ ts. to + sizes ts) none in
    record {
      read = ap (λ ts. is_some (clauses_read ts)) none;
      whole = whole ∙ omega arith;
      within = within;
    }

module _ (s : Scene) (code : IsCode (code_in s)) (n : ℕ) (q : Goal) (k i : ℕ)
    (at' : slice_get ((code_in s).axiom_rules q.name) k ≡ Some i) (l : Laid)
    (there : slice_get (code_in s).nodes i ≡ Some l) (h : Atom) (op : l.op ≡ AxiomOf h) where
  -- how a goal meets the axiom, among any terms
  facts : (terms : List Term) → AxiomAt (setting_of s terms) n k (goal_of terms q) i l h
  facts terms = axiom_facts (setting_of s terms) n k (goal_of terms q) i code at' l there h op

  -- its rule has so many variables
  abbrev variables : ℕ
  variables = length (vars_at (code_in s) i)

  -- it fits as it begins
  level_fits : (cells : ℕ) (own : Slotted) → AreBelow cells own → (m : ℕ) → n ≡ m
      → RunningFits (code_in s) cells n (under (begun_level m i l.to own))
  level_fits cells own below zero e =
      let f = facts [] in
      let all = no_clauses (code_in s) l.to f.branches.within in
      (f.is, all, (λ less. absurd (omega (arith, less))), below, refl, omega arith)
  level_fits cells own below (suc m) e =
      let f = facts [] in (f.is, f.branches, (λ less. omega (arith, e)), below, refl, omega arith)

  -- it weighs nothing as it begins
  level_light : (nodes m : ℕ) (own : Slotted) → running_weight nodes (under (begun_level m i l.to own)) ≡ 0
  level_light nodes zero own = refl
  level_light nodes (suc m) own = refl

  module _ (old new : List Term) (g : Grows old new) (q_below : GoalBelow (length old) q) where
    -- its head starts over terms that are added as it did before
    start_later : (terms : List Term) → Grows new terms
        → start_goal h (goal_of terms q) (unbound variables)
        ≡ start_goal h (goal_of old q) (bindings_of old (no_bindings variables))
    start_later terms grows =
        ap₂ (start_goal h) (goal_later old new terms g grows q q_below) (sym (none_bound old variables))

    -- where its head doesn't start nothing is met of it
    rule_passed : start_goal h (goal_of old q) (bindings_of old (no_bindings variables)) ≡ None
        → MeetsRule s new n q k (k + 1) Idle
    rule_passed none = λ terms b grows. (facts terms).passed b (start_later terms grows ∙ none)

    -- where it starts what its branches conclude is met
    rule_started : (own : Slotted) → AreBelow (length new) own
        → start_goal h (goal_of old q) (bindings_of old (no_bindings variables)) ≡ Some (bindings_of new own)
        → (m : ℕ) → n ≡ m → MeetsRule s new n q k (k + 1) (under (begun_level m i l.to own))
    rule_started own below some zero e = λ terms b grows.
        let f = facts terms in
        let p = goal_of terms q in
        f.cut e b (bindings_of new own) (start_later terms grows ∙ some)
        ∙ ap (λ o. through (Cut ∷ []) (head_concludes o p b) ++ axioms_from (setting_of s terms) n (k + 1) p b)
        (sym f.head)
    rule_started own below some (suc m) e = λ terms b grows.
        let f = facts terms in
        let w = setting_of s terms in
        let p = goal_of terms q in
        let others = axioms_from w n (k + 1) p b in
        let there = ap Some (sym (bindings_stay new terms grows own below)) in
        f.started (omega (arith, e)) b (bindings_of terms own) (start_later terms grows ∙ (some ∙ there))
        ∙ ap₂ (λ o d. through (first_between w (n - 1) (i + 1) l.to d) (head_concludes o p b) ++ others)
        (sym f.head) (sym (ap (bindings_of terms) (undone_whole (length own.trail) own refl)))

module _ (s : Scene) (code : IsCode (code_in s)) (n : ℕ) (q : Goal) (k i : ℕ)
    (at' : slice_get ((code_in s).axiom_rules q.name) k ≡ Some i) (l : Laid)
    (there : slice_get (code_in s).nodes i ≡ Some l) (h : Atom) (op : l.op ≡ AxiomOf h) (old new : List Term)
    (g : Grows old new) (q_below : GoalBelow (length old) q) where
  -- an axiom whose head doesn't start begins as nothing
  pub begins_idle : start_goal h (goal_of old q) (bindings_of old (no_bindings (length (vars_at (code_in s) i)))) ≡ None
      → BeginsRule s new n q i Idle
  begins_idle none = record {
    met = λ j found. rule_passed s code n q j i found l there h op old new g q_below none;
    fits = tt;
    light = refl;
  }

  -- one whose head starts begins in slots of its own
  pub begins_level : (own : Slotted) → AreBelow (length new) own
      → start_goal h (goal_of old q) (bindings_of old (no_bindings (length (vars_at (code_in s) i))))
      ≡ Some (bindings_of new own)
      → BeginsRule s new n q i (under (begun_level n i l.to own))
  begins_level own below some = record {
    met = λ j found. rule_started s code n q j i found l there h op old new g q_below own below some n refl;
    fits = level_fits s code n q k i at' l there h op (length new) own below n refl;
    light = level_light s code n q k i at' l there h op (length (code_in s).nodes) n own;
  }

-- ---- what is made

-- where no level is left an axiom is made to give a cut
pub level_cut : (n i end to start : ℕ) (own : Slotted) (here : View) → n ≡ 0 → start ≡ length own.trail → end ≡ to
    → here ≡ One start events.Cut
    → record { head = i; own = own; start = start; next = end; end = end; here = here } ≡ begun_level n i to own
level_cut n i end to start own here none begins ends is =
    let level : ℕ → ℕ → View → Level =
    λ m t v. record { head = i; own = own; start = m; next = t; end = t; here = v } in
    ap (level start end) is
    ∙ (ap (λ m. level m end (One m events.Cut)) begins
    ∙ (ap (λ t. level (length own.trail) t (One (length own.trail) events.Cut)) ends
    ∙ ap (λ m. begun_level m i to own) (sym none)))

-- where one is left it is made with its branches ahead
pub level_ahead : (n i end to start : ℕ) (own : Slotted) (here : View) → n ≡ suc (n - 1) → start ≡ length own.trail
    → end ≡ to → here ≡ One start events.End
    → record { head = i; own = own; start = start; next = i + 1; end = end; here = here } ≡ begun_level n i to own
level_ahead n i end to start own here more begins ends is =
    let level : ℕ → ℕ → View → Level =
    λ m t v. record { head = i; own = own; start = m; next = i + 1; end = t; here = v } in
    ap (level start end) is
    ∙ (ap (λ m. level m end (One m events.End)) begins
    ∙ (ap (λ t. level (length own.trail) t (One (length own.trail) events.End)) ends
    ∙ ap (λ m. begun_level m i to own) (sym more)))

module _ (s : Scene) (code : IsCode (code_in s)) (n : ℕ) (q : Goal) (i : ℕ) (is : IsNamedAt (code_in s) q.name i) where
  -- an axiom of the goal's name stands at the node
  found : AxiomFound (setting_of s []) n is.0 (goal_of [] q) i
  found = axiom_found (setting_of s []) n is.0 (goal_of [] q) i code is.1

  -- the node is an axiom's
  pub named_axiom : IsAxiomAt (code_in s) i
  named_axiom = found.facts.is

  module _ (vars : List (List ℕ)) (vars_are : vars ≡ vars_at (code_in s) i) where
    -- its rule has few variables
    pub named_few : length vars ≤ MOST_VARIABLES
    named_few = subst (λ vs. length vs ≤ MOST_VARIABLES) (sym vars_are) found.facts.few

    module _ (h : Atom) (head : head_at (code_in s) i ≡ Some h) (old new : List Term) (g : Grows old new)
        (q_below : GoalBelow (length old) q) (free : Slotted) (free_is : free ≡ no_bindings (length vars)) where
      -- the node has this head
      head_is : found.node.op ≡ AxiomOf h
      head_is = found.op ∙ ap AxiomOf (same_Some found.head h (sym found.facts.head ∙ head))

      -- the head starts from its variables
      start_is : start_goal h (goal_of old q) (bindings_of old (no_bindings (length (vars_at (code_in s) i))))
          ≡ start_goal h (goal_of old q) (bindings_of old free)
      start_is =
          let is : free ≡ no_bindings (length (vars_at (code_in s) i)) =
          free_is ∙ ap (λ vs. no_bindings (length vs)) vars_are in
          ap (λ o. start_goal h (goal_of old q) (bindings_of old o)) (sym is)

      -- where it doesn't start the axiom begins as nothing
      pub idle_begins : (own : Slotted)
          → Matched false (start_goal h (goal_of old q) (bindings_of old free)) new free own
          → BeginsRule s new n q i Idle
      idle_begins own m =
          begins_idle s code n q is.0 i is.1 found.node found.there h head_is old new g q_below (start_is ∙ m.0)

      -- where it starts it begins in slots of its own
      pub level_begins : (own : Slotted) → AreBelow (length new) own
          → Matched true (start_goal h (goal_of old q) (bindings_of old free)) new free own
          → (x : Level) → ((l : Laid) → slice_get (code_in s).nodes i ≡ Some l → x ≡ begun_level n i l.to own)
          → BeginsRule s new n q i (under x)
      level_begins own below m x begun =
          subst (λ y. BeginsRule s new n q i (under y)) (sym (begun found.node found.there))
          (begins_level s code n q is.0 i is.1 found.node found.there h head_is old new g q_below own below
          (start_is ∙ m.0))
