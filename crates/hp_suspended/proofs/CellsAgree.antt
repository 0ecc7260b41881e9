-- What is left is the same over terms that agree below the count of cells that it fits.
use Rattle.std.proofs.Common.{◌≡◌, ℕ, ◌-◌, ◌++◌, List, length, take, drop, Option, Some, None, arith, refl, sym, ◌∙◌, ap, ap₂}
use Rattle.std.proofs.Math.Path.{fun_ext}
use Rattle.std.specs.Prelude.{◌&&◌, ◌<◌, IfSome, Result, Ok, Err, cond, flat_map}
use Rattle.hp_syntax.specs.declared.fault.RunFault.{RunFault}
use Rattle.hp_syntax.specs.Syntax.{Atom, Clause, Expression, Expressions}
use Rattle.hp_syntax.specs.Terms.{Term}
use Rattle.hp_syntax.specs.Values.{Bindings}
use Rattle.hp_syntax.specs.Events.{State, axiom_events, sat_if, chosen, chosen_events, events_of_all, events_of_any, sat, state_events, through}
use Rattle.hp_syntax.specs.Goals as plain
use Rattle.hp_syntax.specs.Goals.{fill_goal}
use Rattle.hp_syntax.specs.Matching.{match_atom}
use Rattle.hp_code.specs.CodeViews.{CodeView, rules_in}
use Rattle.hp_laws.specs.RulesByName.{concluding}
use Rattle.hp_world.specs.Stages.{AllBelow, live_atoms}
use Rattle.hp_eval.specs.GoalViews.{goal_of}
use Rattle.hp_eval.specs.Growth.{Grows}
use Rattle.hp_eval.specs.SlotLaws.{bindings_agree}
use Rattle.hp_eval.specs.Slotted.{Slotted, AreBelow, undone}
use Rattle.hp_eval.proofs.GrowthLemmas.{kept_agree}
use Rattle.hp_eval.proofs.SlotLemmas.{below_undone}
use Rattle.hp_world.specs.Parts.{part_of}
use Rattle.hp_suspended.specs.declared.places.AtomFilter.{AtomFilter}
use Rattle.hp_suspended.specs.declared.places.KnownPart.{KnownPart}
use Rattle.hp_suspended.proofs.CountLemmas.{later_atoms_below, term_agrees, terms_agree, goal_agrees}
use Rattle.hp_suspended.specs.Filtered.{FilterBelow, atom_left, by_axioms, has_known, is_same_part, match_passing, passes, sats_from}
use Rattle.hp_suspended.specs.Nodes.{atom_at, head_at, expression_at, expressions_in, clauses_in}
use Rattle.hp_suspended.specs.Fitting.{Fits, RunningFits, TowerFits, base_of}
use Rattle.hp_suspended.specs.Left.{Tower, Floor, On, stood, one_event, left, running_left, tower, tower_left}
use Rattle.hp_suspended.specs.Settings.{Setting, state_in, axioms_in, below_at, atoms_at, expression_events, all_events, any_events, clause_events, node_events, all_between, any_between, first_between, places_from, axioms_from, head_concludes, first_of}
use Rattle.hp_suspended.specs.Views.{View, One, Fresh, Simple, Search, Conj, Disj, RunningView, Idle, Under, Views, Bare, Above}

-- ---- settings that differ in their terms

-- a setting over other terms
abbrev pub over : Setting → List Term → Setting
over w d = record w { terms = d }

module _ (w : Setting) (d : List Term) (same : state_in w ≡ state_in (over w d)) (n : ℕ) where
  -- where the state is the same the events of an expression are
  expression_same : (o : Option Expression) (b : Bindings)
      → expression_events w n o b ≡ expression_events (over w d) n o b
  expression_same None b = refl
  expression_same (Some E) b = ap (λ (s : State). sat (axioms_in w) n s E b) same

  -- where the state is the same the events of a conjunction are
  all_same : (o : Option Expressions) → all_events w n o ≡ all_events (over w d) n o
  all_same None = refl
  all_same (Some ps) = ap (λ (s : State). events_of_all (atoms_at (axioms_in w) n s) ps) same

  -- where the state is the same the events of a disjunction are
  any_same : (o : Option Expressions) (b : Bindings) → any_events w n o b ≡ any_events (over w d) n o b
  any_same None b = refl
  any_same (Some ps) b = ap (λ (s : State). events_of_any (atoms_at (axioms_in w) n s) ps b) same

  -- where the state is the same the events of branches are
  clause_same : (o : Option (List Clause)) (b : Bindings) → clause_events w n o b ≡ clause_events (over w d) n o b
  clause_same None b = refl
  clause_same (Some cs) b =
      ap (λ (s : State). chosen_events (chosen (λ (x : Clause). sat (axioms_in w) n s x.body b) cs)) same

  -- where the state is the same the events of a node are
  pub node_agrees : (i : ℕ) (b : Bindings) → node_events w n i b ≡ node_events (over w d) n i b
  unfolding node_events
  node_agrees i b = expression_same (expression_at w.code i) b

  -- where the state is the same the events of nodes as parts of a conjunction are
  pub all_agree : (i to : ℕ) → all_between w n i to ≡ all_between (over w d) n i to
  unfolding all_between
  all_agree i to = all_same (expressions_in w.code i to)

  -- where the state is the same the events of nodes as parts of a disjunction are
  pub any_agree : (i to : ℕ) (b : Bindings) → any_between w n i to b ≡ any_between (over w d) n i to b
  unfolding any_between
  any_agree i to b = any_same (expressions_in w.code i to) b

  -- where the state is the same the events of nodes as branches are
  pub first_agrees : (i to : ℕ) (b : Bindings) → first_between w n i to b ≡ first_between (over w d) n i to b
  unfolding first_between
  first_agrees i to b = clause_same (clauses_in w.code i to) b

  -- where the state is the same the events of a goal by axioms are
  pub axioms_agree : (k : ℕ) (q : plain.Goal) (b : Bindings)
      → axioms_from w n k q b ≡ axioms_from (over w d) n k q b
  unfolding axioms_from
  axioms_agree k q b =
      ap (λ (s : State). flat_map (λ x. axiom_events (below_at (axioms_in w) n s) x q b)
      (drop k (concluding q.name (rules_in w.code)))) same

  -- where the state is the same the events of an atom that is filled, by axioms, are
  pub by_axioms_agree : (a : Atom) (r : Result plain.Goal RunFault) (b : Bindings)
      → by_axioms w n a r b ≡ by_axioms (over w d) n a r b
  by_axioms_agree a (Ok q) b = axioms_agree 0 q b
  by_axioms_agree a (Err f) b = refl

  -- where the state is the same what is left of parts of a conjunction is
  pub tower_left_agrees : (end : ℕ) (t : Tower) → tower_left w n end t ≡ tower_left (over w d) n end t
  tower_left_agrees end Floor = refl
  tower_left_agrees end (On lower k events) =
      ap₂ (λ f xs. through events f ++ xs) (all_agree k end) (tower_left_agrees end lower)

module _ (w : Setting) (d : List Term) (cells : ℕ) (same : take cells w.terms ≡ take cells d)
    (atoms : AllBelow cells (live_atoms w.places)) where
  -- the state of atoms below a count is the same over terms that agree below it
  pub state_agrees : state_in w ≡ state_in (over w d)
  state_agrees = terms_agree cells w.terms d same (live_atoms w.places) atoms

  -- the events of a goal by the atoms of places are the same over terms that agree below the atoms' count
  pub places_agree : (i : ℕ) (q : plain.Goal) (b : Bindings) → places_from w i q b ≡ places_from (over w d) i q b
  unfolding places_from
  places_agree i q b =
      ap (λ (s : State). state_events s q b)
      (terms_agree cells w.terms d same (live_atoms (drop i w.places)) (later_atoms_below cells i w.places atoms))

  -- the satisfiers that atoms of places give are the same over terms that agree below the atoms' count
  pub sats_agree : (i : ℕ) (found : Term → Option Bindings) → sats_from w i found ≡ sats_from (over w d) i found
  unfolding sats_from
  sats_agree i found =
      ap (flat_map (λ t. sat_if (found t)))
      (terms_agree cells w.terms d same (live_atoms (drop i w.places)) (later_atoms_below cells i w.places atoms))

  -- the same atoms pass a filter whose cells are below the count
  known_agrees : (o : Option KnownPart) → IfSome o (λ p. p.cell < cells) → (t : Term)
      → has_known w.terms o t ≡ has_known d o t
  known_agrees None below t = refl
  known_agrees (Some p) below t = ap (is_same_part (part_of p.number t)) (term_agrees cells w.terms d same p.cell below)

  passes_agrees : (f : AtomFilter) → FilterBelow cells f → (t : Term) → passes w.terms f t ≡ passes d f t
  passes_agrees f below t =
      ap₂ (λ x k. is_same_part (part_of 0 t) x && k) (term_agrees cells w.terms d same f.name below.0)
      (known_agrees f.known below.1 t)

  -- so an atom matches the same of those that pass it
  pub passing_agrees : (f : AtomFilter) → FilterBelow cells f → (a : Atom) (b : Bindings)
      → ◌≡◌ {A = Term → Option Bindings} (λ t. match_passing w.terms f a t b) (λ t. match_passing d f a t b)
  passing_agrees f below a b =
      fun_ext (λ t. ap (λ p. cond p (match_atom a t b) None) (passes_agrees f below t))

  -- and the same is left of an atom that isn't filled
  pub atom_agrees : (n from : ℕ) (f : AtomFilter) → FilterBelow cells f → (o : Option Atom) (b : Bindings)
      → atom_left w n from f o b ≡ atom_left (over w d) n from f o b
  atom_agrees n from f below None b = refl
  atom_agrees n from f below (Some a) b =
      ap₂ ◌++◌ (sats_agree from (λ t. match_passing w.terms f a t b) ∙ ap (sats_from (over w d) from)
      (passing_agrees f below a b))
      (by_axioms_agree w d state_agrees n a (fill_goal a b) b)

  -- the bindings that stood at a mark are the same over terms that agree below the cells of the slots
  pub stood_over : (e : Slotted) (m : ℕ) → AreBelow cells e → stood w e m ≡ stood (over w d) e m
  stood_over e m below = bindings_agree cells w.terms d (undone m e) (below_undone cells m e below) same

  module _ (c : CodeView) where
    mutual
      -- over terms that agree below the cells that it fits, the same is left of what is suspended
      pub left_over : (bound : ℕ) (v : View) (e : Slotted) → Fits c cells bound v → AreBelow cells e
          → left w e v ≡ left (over w d) e v
      left_over bound (One m event) e fits below = ap (one_event event) (stood_over e m below)
      left_over bound (Fresh m n i) e fits below =
          node_agrees w d state_agrees n i (stood w e m)
          ∙ ap (node_events (over w d) n i) (stood_over e m below)
      left_over bound (Simple a) e fits below =
          atom_agrees a.nest a.from a.filter fits.2 (atom_at w.code a.node) (stood w e a.mark)
          ∙ ap (atom_left (over w d) a.nest a.from a.filter (atom_at w.code a.node)) (stood_over e a.mark below)
      left_over bound (Search m n q at' k running) e fits below =
          let g = goal_agrees cells w.terms d same q fits.1 in
          let b = stood_over e m below in
          ap₂ ◌++◌ (places_agree at' (goal_of w.terms q) (stood w e m) ∙ ap₂ (places_from (over w d) at') g b)
          (ap₂ ◌++◌ (running_left_over n (goal_of w.terms q) (stood w e m) running fits.2
          ∙ ap₂ (λ p x. running_left (over w d) n p x running) g b)
          (axioms_agree w d state_agrees n k (goal_of w.terms q) (stood w e m)
          ∙ ap₂ (axioms_from (over w d) n k) g b))
      left_over bound (Conj m n k end outer here) e fits below =
          ap₂ ◌++◌ (ap₂ through (left_over bound here e fits.2 below) (all_agree w d state_agrees n k end))
          (tower_left_agrees w d state_agrees n end (tower w e outer)
          ∙ ap (tower_left (over w d) n end) (tower_over end m (base_of here) outer e fits.1 below))
      left_over bound (Disj m n k end here) e fits below =
          ap₂ ◌++◌ (left_over bound here e fits.2 below)
          (any_agree w d state_agrees n k end (stood w e m)
          ∙ ap (any_between (over w d) n k end) (stood_over e m below))

      -- over terms that agree below the cells that it fits, the same is left of an axiom that is looked at
      pub running_left_over : (n : ℕ) (q : plain.Goal) (b : Bindings) (r : RunningView) → RunningFits c cells n r
          → running_left w n q b r ≡ running_left (over w d) n q b r
      running_left_over n q b Idle fits = refl
      running_left_over n q b (Under head own start k end here) fits =
          ap₂ (λ xs ys. through (first_of xs ys) (head_concludes (head_at w.code head) q b))
          (left_over (length own.trail) here own fits.5 fits.3)
          (first_agrees w d state_agrees (n - 1) k end (stood w own start)
          ∙ ap (first_between (over w d) (n - 1) k end) (stood_over own start fits.3))

      -- over terms that agree below the cells that they fit, the same is left of the parts of a conjunction
      pub tower_over : (end lo hi : ℕ) (vs : Views) (e : Slotted) → TowerFits c cells end lo hi vs
          → AreBelow cells e → tower w e vs ≡ tower (over w d) e vs
      tower_over end lo hi Bare e fits below = refl
      tower_over end lo hi (Above lower k top) e fits below =
          ap₂ (λ t xs. On t k xs) (tower_over end lo (base_of top) lower e fits.2 below)
          (left_over hi top e fits.3 below)

-- over settings that differ in their terms, which agree below the cells that it fits, the same is left
pub left_alike : (w u : Setting) (cells : ℕ) (c : CodeView) (bound : ℕ) (v : View) (e : Slotted) → u.code ≡ w.code
    → u.places ≡ w.places → take cells w.terms ≡ take cells u.terms → AllBelow cells (live_atoms w.places)
    → Fits c cells bound v → AreBelow cells e → left w e v ≡ left u e v
left_alike w u cells c bound v e code places same atoms fits below =
    left_over w u.terms cells same atoms c bound v e fits below
    ∙ ap₂ (λ x (ps : List (Option ℕ)). left (record { code = x; terms = u.terms; places = ps }) e v) (sym code)
    (sym places)

-- ---- terms that are added

module _ (w : Setting) (more : List Term) (g : Grows w.terms more)
    (atoms : AllBelow (length w.terms) (live_atoms w.places)) (c : CodeView) where
  -- where terms are added the same is left of what is suspended
  pub left_grows : (bound : ℕ) (v : View) (e : Slotted) → Fits c (length w.terms) bound v
      → AreBelow (length w.terms) e → left w e v ≡ left (over w more) e v
  left_grows =
      left_over w more (length w.terms) (kept_agree w.terms more g (length w.terms) (omega arith)) atoms c

  -- where terms are added the same is left of the parts of a conjunction
  pub tower_grows : (end lo hi : ℕ) (vs : Views) (e : Slotted) → TowerFits c (length w.terms) end lo hi vs
      → AreBelow (length w.terms) e → tower w e vs ≡ tower (over w more) e vs
  tower_grows =
      tower_over w more (length w.terms) (kept_agree w.terms more g (length w.terms) (omega arith)) atoms c
