-- What leaves meet over terms that are added behind a call, and the head of an axiom's node.
use Rattle.std.proofs.Common.{◌≡◌, inl, inr, suc, ℕ, ◌<◌, Bool, true, false, List, [], ◌∷◌, length, slice_get, Option, Some, None, is_some, Result, Ok, Err, option_and_then, arith, refl, sym, ◌∙◌, ap, ap₂, subst}
use Rattle.std.specs.Prelude.{◌==◌, not}
use Rattle.std.proofs.lemmas.List.{drop_all}
use Rattle.std.proofs.lemmas.Option.{slice_get_cases, slice_get_within}
use Rattle.hp_syntax.specs.declared.fault.RunFault.{RunFault}
use Rattle.hp_syntax.specs.declared.pattern.AtomPat.{AtomPat}
use Rattle.hp_syntax.specs.declared.pattern.Span.{Span}
use Rattle.hp_syntax.specs.Syntax.{Atom}
use Rattle.hp_syntax.specs.Terms.{Term}
use Rattle.hp_syntax.specs.Values.{Bindings}
use Rattle.hp_syntax.specs.Matching.{meet}
use Rattle.hp_syntax.specs.Events.{Event, Fault, Sat, assigned, concluded, sat_if, tested}
use Rattle.hp_cells.specs.declared.keys.View.{View}
use Rattle.hp_cells.specs.declared.keys.View.TheVariants.{Nil, Sym, Num, Cons}
use Rattle.hp_cells.specs.Shows.{Shows}
use Rattle.hp_code.specs.CodeViews.{CodeView, concludes}
use Rattle.hp_nodes.specs.NodeViews.{operation_of}
use Rattle.hp_nodes.specs.Trees.{AxiomOf, Holds, Laid, Node, Operation, Trees, first_tree, trees, trees_between}
use Rattle.hp_nodes.specs.declared.node.Op.{Op}
use Rattle.hp_nodes.specs.declared.node.Op.TheVariants as ops
use Rattle.hp_code.proofs.NodeLemmas.{node_there}
use Rattle.hp_eval.specs.declared.event.EvalStop.{EvalStop}
use Rattle.hp_eval.specs.declared.event.EvalStop.TheVariants as stops
use Rattle.hp_eval.specs.Concluding.{Concluded}
use Rattle.hp_eval.specs.Attempts.{Tries, extended}
use Rattle.hp_eval.specs.declared.goals.Goal.{Goal}
use Rattle.hp_eval.specs.GoalViews.{GoalBelow, goal_of, term_at, term_or_nil}
use Rattle.hp_eval.specs.Growth.{Gives, Grows}
use Rattle.hp_eval.specs.Slotted.{Slotted, AreBelow, bindings_of}
use Rattle.hp_eval.proofs.GrowthLemmas.{bindings_stay, grows_on, kept_agree}
use Rattle.hp_suspended.specs.Fitting.{IsAtomAt, IsAxiomAt}
use Rattle.hp_suspended.specs.Nodes.{atom_at, atom_done, head_at, head_read}
use Rattle.hp_suspended.specs.Settings.{head_concludes}
use Rattle.hp_suspended.proofs.CountLemmas.{goal_agrees}

-- ---- the head of an axiom's node

-- a node of an axiom is one of the nodes
pub axiom_within : (c : CodeView) (i : ℕ) → IsAxiomAt c i → i < length c.nodes
unfolding head_at trees
axiom_within c i is = elim ((slice_get_cases c.nodes i).1) [
  | inl w ↦ w.1
  | inr w ↦
      let none : head_at c i ≡ None =
      ap (λ ns. option_and_then head_read (first_tree (trees i ns))) (drop_all i c.nodes w.0) in
      let known : is_some {T = Atom} None ≡ true = sym (ap is_some none) ∙ is in
      absurd cc
]

module _ (c : CodeView) (i : ℕ) (l : Laid) (there : slice_get c.nodes i ≡ Some l) where
  -- the head at a node is read from what it does
  head_of_node : head_at c i ≡ head_read (Node l.op l.span (trees_between c.nodes (suc i) l.to))
  unfolding head_at
  head_of_node = ap (option_and_then head_read) (node_there c.nodes i l there)

  -- the head of a node of an axiom is the axiom's
  pub head_found : (h : Atom) → l.op ≡ AxiomOf h → head_at c i ≡ Some h
  head_found h is = head_of_node ∙ ap (λ o. head_read (Node o l.span (trees_between c.nodes (suc i) l.to))) is

  -- a node of another operation is no axiom's
  pub no_axiom : (op : Op) → l.op ≡ operation_of op → ((x : AtomPat) → op ≡ ops.Axiom x → ⊥) → IsAxiomAt c i → ⊥
  no_axiom op same other is =
      by op other l.span (trees_between c.nodes (suc i) l.to)
      (sym (ap is_some (head_of_node ∙ ap (λ o. head_read (Node o l.span (trees_between c.nodes (suc i) l.to))) same))
      ∙ is)
    where
      by : (op : Op) → ((x : AtomPat) → op ≡ ops.Axiom x → ⊥) → (s : Span) (ts : Trees)
          → is_some (head_read (Node (operation_of op) s ts)) ≡ true → ⊥
      by (ops.Axiom x) other s ts e = other x refl
      by _ other s ts e = cc

-- ---- the atom of a node

-- a node of an atom is one of the nodes
pub atom_within : (c : CodeView) (i : ℕ) → IsAtomAt c i → i < length c.nodes
unfolding atom_at
atom_within c i is = by (slice_get c.nodes i) refl is
  where
    by : (o : Option Laid) → slice_get c.nodes i ≡ o
        → is_some (option_and_then (λ (l : Laid). atom_done l.op) o) ≡ true → i < length c.nodes
    by None e h = absurd cc
    by (Some l) e h = slice_get_within c.nodes i l e

-- the atom of a node is what it does
pub atom_found : (c : CodeView) (i : ℕ) (l : Laid) → slice_get c.nodes i ≡ Some l → (a : Atom) → l.op ≡ Holds a
    → atom_at c i ≡ Some a
unfolding atom_at
atom_found c i l there a is = ap (option_and_then (λ (k : Laid). atom_done k.op)) there ∙ ap atom_done is

-- what is told of a node by what it does is told of its atom
pub atom_concluded : (c : CodeView) (i : ℕ) (told : Bool)
    → ((l : Laid) → slice_get c.nodes i ≡ Some l → told ≡ concludes c.axiom_rules l.op) → (a : Atom)
    → atom_at c i ≡ Some a → told ≡ not (length (c.axiom_rules a.name) == 0)
unfolding atom_at
atom_concluded c i told tells a at = by (slice_get c.nodes i) refl at
  where
    by_op : (op : Operation) → atom_done op ≡ Some a
        → concludes c.axiom_rules op ≡ not (length (c.axiom_rules a.name) == 0)
    by_op (Holds own) h =
        let e : own ≡ a = cc in ap (λ (x : Atom). not (length (c.axiom_rules x.name) == 0)) e
    by_op _ h = absurd cc

    by : (o : Option Laid) → slice_get c.nodes i ≡ o → option_and_then (λ (l : Laid). atom_done l.op) o ≡ Some a
        → told ≡ not (length (c.axiom_rules a.name) == 0)
    by None e h = absurd cc
    by (Some l) e h = tells l e ∙ by_op l.op h

-- a node of another operation has none
pub no_atom : (c : CodeView) (i : ℕ) (l : Laid) → slice_get c.nodes i ≡ Some l → (op : Op) → l.op ≡ operation_of op
    → ((x : AtomPat) → op ≡ ops.Atom x → ⊥) → IsAtomAt c i → ⊥
unfolding atom_at
no_atom c i l there op same other is =
    by op other
    (sym (ap is_some (ap (option_and_then (λ (k : Laid). atom_done k.op)) there ∙ ap atom_done same)) ∙ is)
  where
    by : (op : Op) → ((x : AtomPat) → op ≡ ops.Atom x → ⊥) → is_some (atom_done (operation_of op)) ≡ true → ⊥
    by (ops.Atom x) other e = other x refl
    by _ other e = cc

-- ---- leaves

-- the events of a test whose value is seen
abbrev pub seen : View → Bindings → List Event
seen Nil e = []
seen (Sym name) e = Sat e ∷ []
seen (Num n) e = Sat e ∷ []
seen (Cons head tail) e = Sat e ∷ []

-- a value that is not seen as the empty list is true
pub seen_true : (v : View) (e : Bindings) → (v ≡ Nil → ⊥) → seen v e ≡ Sat e ∷ []
seen_true Nil e other = absurd (other refl)
seen_true (Sym name) e other = refl
seen_true (Num n) e other = refl
seen_true (Cons head tail) e other = refl

-- a test of a term meets what is seen of it
shown_seen : (terms : List Term) (v : View) (t : Term) (e : Bindings) → Shows terms v t → tested (Ok t) e ≡ seen v e
shown_seen terms Nil t e h = ap (λ x. tested (Ok x) e) h
shown_seen terms (Sym name) t e h = ap (λ x. tested (Ok x) e) h
shown_seen terms (Num n) t e h = ap (λ x. tested (Ok x) e) h
shown_seen terms (Cons head tail) t e h = ap (λ x. tested (Ok x) e) h.whole

-- an evaluation that gives a fault is of a value that is the fault
fault_given : (stop : EvalStop) (x : RunFault) → stop ≡ stops.Fault x → (r : Result Term RunFault) (terms : List Term)
    → Gives (Err stop) r terms → r ≡ Err x
fault_given stop x same r terms gives = subst (λ y. Gives (Err y) r terms) same gives

module _ (old new terms : List Term) (g : Grows old new) (k : Grows new terms) where
  -- bindings from before a call are the same over terms that are added
  pub bindings_later : (e : Slotted) → AreBelow (length old) e → bindings_of terms e ≡ bindings_of old e
  bindings_later e below = bindings_stay old terms (grows_on old new terms g k) e below

  module _ (e : Slotted) (below : AreBelow (length old) e) (f : Bindings → Result Term RunFault) where
    -- an assignment of the value of a cell meets what an attempt to bind it does
    pub assigned_tried : (v cell : ℕ) (does : Bool) (s : Slotted) → Gives (Ok cell) (f (bindings_of old e)) new
        → Tries does (meet v (term_at new cell) (bindings_of new e)) new e s
        → assigned (f (bindings_of terms e)) v (bindings_of terms e) ≡ sat_if (extended does (bindings_of terms s))
    assigned_tried v cell does s gives tries =
        let b = bindings_of old e in
        ap (λ d. assigned (f d) v d) (bindings_later e below)
        ∙ (ap (λ r. assigned r v b) gives.1
        ∙ ap sat_if (ap₂ (meet v) (sym (ap term_or_nil gives.2)) (sym (bindings_stay old new g e below))
        ∙ (tries.answers ∙ ap (extended does) (sym (bindings_stay new terms k s tries.below)))))

    -- an assignment meets the fault of its value
    pub assigned_faulty : (v : ℕ) (stop : EvalStop) (x : RunFault) → stop ≡ stops.Fault x
        → Gives (Err stop) (f (bindings_of old e)) new
        → assigned (f (bindings_of terms e)) v (bindings_of terms e) ≡ Fault x ∷ []
    assigned_faulty v stop x same gives =
        ap (λ d. assigned (f d) v d) (bindings_later e below)
        ∙ ap (λ r. assigned r v (bindings_of old e)) (fault_given stop x same (f (bindings_of old e)) new gives)

    -- a test meets what is seen of the cell of its value
    pub tested_shown : (cell : ℕ) (v : View) (gives : Gives (Ok cell) (f (bindings_of old e)) new)
        → Shows new v gives.0 → tested (f (bindings_of terms e)) (bindings_of terms e) ≡ seen v (bindings_of terms e)
    tested_shown cell v gives shows =
        ap (λ r. tested r (bindings_of terms e)) (ap f (bindings_later e below) ∙ gives.1)
        ∙ shown_seen new v gives.0 (bindings_of terms e) shows

    -- a test meets the fault of its value
    pub tested_faulty : (stop : EvalStop) (x : RunFault) → stop ≡ stops.Fault x
        → Gives (Err stop) (f (bindings_of old e)) new
        → tested (f (bindings_of terms e)) (bindings_of terms e) ≡ Fault x ∷ []
    tested_faulty stop x same gives =
        ap (λ r. tested r (bindings_of terms e))
        (ap f (bindings_later e below) ∙ fault_given stop x same (f (bindings_of old e)) new gives)

  -- a goal from before a call is the same over terms that are added
  pub goal_later : (q : Goal) → GoalBelow (length old) q → goal_of terms q ≡ goal_of old q
  goal_later q below =
      sym (goal_agrees (length old) old terms
      (kept_agree old terms (grows_on old new terms g k) (length old) (omega arith)) q below)

  module _ (o : Option Atom) (head : Atom) (is : o ≡ Some head) (q : Goal) (q_below : GoalBelow (length old) q)
      (own e : Slotted) (own_below : AreBelow (length old) own) (e_below : AreBelow (length old) e) where
    -- what a head concludes before a call, and over terms that are added
    abbrev concluded_first : List Event
    concluded_first = concluded head (bindings_of old own) (goal_of old q) (bindings_of old e)

    abbrev concluded_last : List Event
    concluded_last = head_concludes o (goal_of terms q) (bindings_of terms e) (bindings_of terms own)

    -- both are the same
    concluded_later : concluded_last ≡ concluded_first
    concluded_later =
        ap (λ x. head_concludes x (goal_of terms q) (bindings_of terms e) (bindings_of terms own)) is
        ∙ (ap₂ (λ p b. concluded head (bindings_of terms own) p b) (goal_later q q_below) (bindings_later e e_below)
        ∙ ap (λ b. concluded head b (goal_of old q) (bindings_of old e)) (bindings_later own own_below))

    module _ (r : Result Bool EvalStop) (s : Slotted) (made : Concluded r concluded_first new e s) where
      -- a conclusion that is met is the satisfier that it made
      pub conclusion_met : r ≡ Ok true → AreBelow (length new) s → concluded_last ≡ Sat (bindings_of terms s) ∷ []
      conclusion_met h below =
          let m : Concluded (Ok true) concluded_first new e s =
          subst (λ x. Concluded x concluded_first new e s) h made in
          concluded_later ∙ (m.0 ∙ ap (λ b. Sat b ∷ []) (sym (bindings_stay new terms k s below)))

      -- where nothing is concluded nothing is met
      pub conclusion_none : r ≡ Ok false → concluded_last ≡ []
      conclusion_none h =
          let m : Concluded (Ok false) concluded_first new e s =
          subst (λ x. Concluded x concluded_first new e s) h made in
          concluded_later ∙ m.0

      -- a fault of concluding is met
      pub conclusion_faulty : (stop : EvalStop) (x : RunFault) → r ≡ Err stop → stop ≡ stops.Fault x
          → concluded_last ≡ Fault x ∷ []
      conclusion_faulty stop x h same =
          let m : Concluded (Err (stops.Fault x)) concluded_first new e s =
          subst (λ y. Concluded y concluded_first new e s) (h ∙ ap Err same) made in
          concluded_later ∙ m.0
