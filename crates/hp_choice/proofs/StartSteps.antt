-- Bindings under which parts of a rule are asked for, as slots hold them.
use denote.Ref.{Bor}
use Rattle.std.proofs.Common.{◌≡◌, ℕ, Bool, true, false, length, List, Option, Some, None, Result, Ok, Err, is_some, refl, ap, sym, ◌∙◌, subst}
use Rattle.std.proofs.lemmas.Option.{same_Some}
use Rattle.hp_syntax.specs.declared.fault.RunFault.{RunFault}
use Rattle.hp_syntax.specs.declared.pattern.Span.{Span}
use Rattle.hp_syntax.specs.Events.{State, axioms_of, events, sat}
use Rattle.hp_syntax.specs.declared.pattern.AtomPat.{AtomPat}
use Rattle.hp_syntax.specs.Goals.{Goal, fill_goal, start_goal}
use Rattle.hp_syntax.specs.GroundPatterns.{atom_said}
use Rattle.hp_syntax.specs.Syntax.{And, Atom, Axiom, Expressions, Rule}
use Rattle.hp_syntax.specs.Terms.{Term}
use Rattle.hp_syntax.specs.Values.{Bindings, unbound}
use Rattle.hp_syntax.specs.Views.{atom_of}
use Rattle.hp_syntax.specs.Written.{nowhere}
use Rattle.hp_nodes.specs.Compiled.{vars_of}
use Rattle.hp_code.specs.CodeViews.{CodeView, beside, rule_nodes, rules_in}
use Rattle.hp_eval.specs.declared.event.EvalStop.{EvalStop}
use Rattle.hp_eval.specs.declared.event.EvalStop.TheVariants as stops
use Rattle.hp_eval.specs.declared.goals.Goal as made
use Rattle.hp_eval.specs.Growth.{GivesBy, Grows}
use Rattle.hp_eval.specs.Slotted.{Slotted, AreBelow, Matched, bindings_of, no_bindings}
use Rattle.hp_eval.proofs.SlotLemmas.{match_failed, match_made}
use Rattle.hp_suspended.specs.declared.scene.Scene.{Scene}
use Rattle.hp_suspended.specs.SceneViews.{IsReady, code_in}
use Rattle.hp_suspended.proofs.CallLemmas.{atoms_grow, knows_grow}
use Rattle.hp_world.specs.Recorded.{Knows}
use Rattle.hp_world.specs.Stages.{AllBelow, live_atoms}
use Rattle.hp_suspended.specs.Left.{left}
use Rattle.hp_suspended.specs.Nodes.{expressions_in}
use Rattle.hp_suspended.specs.Settings.{Setting, axioms_in, state_in}
use Rattle.hp_suspended.specs.Views.{View}
use Rattle.hp_suspended.proofs.RangeLemmas.{sat_is}
use Rattle.hp_choice.specs.declared.starting.Conjuncts.{Conjuncts}
use Rattle.hp_choice.specs.declared.starting.Start.{Start}
use Rattle.hp_choice.specs.declared.starting.Start.TheVariants as starts
use Rattle.hp_choice.specs.Asking.{AreConjuncts, asked_events, events_under, head_of}
use Rattle.hp_choice.specs.FirstSatisfier.{first_sat}
use Rattle.hp_choice.specs.Starting.{AreAfter, BindsFirst, BindsGoal, CanStart, Holds, IsBoundAfter, IsBoundBy, IsBoundByTask, ReachesFirst, StartsFrom, matched_by, started_by, started_under}
use Rattle.hp_choice.proofs.AskingSteps.{begun_view, left_begun}
use Rattle.hp_choice.proofs.HeadLemmas.{none_bound}

-- what there is under a test is something
there : {A : Type 0} → (o : Option A) → is_some o ≡ true → (x : A) × (o ≡ Some x)
there None e = absurd cc
there (Some x) e = (x, refl)

-- ---- the first satisfier

-- where a first satisfier was reached, these bindings are its
pub reached : (first : Option Bindings) (e : Bindings) (b : Bool) → b ≡ true → ReachesFirst first e b → first ≡ Some e
reached first e true h r = r
reached first e false h r = absurd cc

-- where none was reached, there is none
pub unreached : (first : Option Bindings) (e : Bindings) (b : Bool) → b ≡ false → ReachesFirst first e b
    → first ≡ None
unreached first e true h r = absurd cc
unreached first e false h r = r

module _ (w : Setting) (nest : ℕ) (x : Conjuncts) (e : Slotted) (v : View)
    (begins : v ≡ begun_view (length e.trail) nest x.first x.end) (s : Span) (ps : Expressions)
    (is : expressions_in w.code x.first x.end ≡ Some ps) where
  -- what is left of parts that were begun is all that their conjunction meets
  pub all_left : left w e v ≡ sat (axioms_in w) nest (state_in w) (And s ps) (bindings_of w.terms e)
  all_left = ap (left w e) begins ∙ left_begun w nest x.first x.end e s ps is

-- slots with which a first satisfier was reached hold its bindings
module _ (w : Setting) (nest : ℕ) (x : Conjuncts) (e : Slotted) (v : View)
    (begins : v ≡ begun_view (length e.trail) nest x.first x.end) (terms : List Term) (f : Slotted) (b : Bool)
    (first : ReachesFirst (first_sat (left w e v)) (bindings_of terms f) b) where
  pub first_held : b ≡ true → AreBelow (length terms) f
      → BindsFirst w nest x (bindings_of w.terms e) terms (Some f)
  first_held h below = λ s ps is. record {
    are = sym (ap first_sat (all_left w nest x e v begins s ps is)) ∙ reached _ (bindings_of terms f) b h first;
    below = below;
  }

  -- where none was reached none are held
  pub none_held : b ≡ false → BindsFirst w nest x (bindings_of w.terms e) terms None
  none_held h = λ s ps is. record {
    are = sym (ap first_sat (all_left w nest x e v begins s ps is)) ∙ unreached _ (bindings_of terms f) b h first;
    below = tt;
  }

module _ (c : CodeView) (nest : ℕ) (st : State) (x : Conjuncts) (t : Term) (parts : AreConjuncts c x)
    (found : Option Bindings) (after : AreAfter c nest st x t found) where
  abbrev own : (ps : Expressions) × (expressions_in c x.first x.end ≡ Some ps)
  own = there (expressions_in c x.first x.end) parts.parts.read

  -- bindings after parts are those of the first satisfier under the bindings by the task
  after_is : (s : Span) (o : Option Bindings) → matched_by parts.rule t ≡ o
      → found ≡ first_sat (events_under (rules_in c) nest st (And s own.0) o)
  after_is s o is =
      after parts.rule s own.0 parts.is own.1
      ∙ ap (λ b. first_sat (events_under (rules_in c) nest st (And s own.0) b)) is

  -- there are none where the head doesn't match the task
  pub none_after : (terms : List Term) (s : Span) → Holds terms None (matched_by parts.rule t) → Holds terms None found
  none_after terms s h = record { are = after_is s None h.are; below = tt }

  -- else the first satisfier under these has them
  pub held_after : (terms : List Term) (slots : Slotted) (new : List Term) (o : Option Slotted) (s : Span)
      → Holds terms (Some slots) (matched_by parts.rule t)
      → ((ps : Expressions) → expressions_in c x.first x.end ≡ Some ps
      → Holds new o (first_sat (sat (axioms_of (rules_in c)) nest st (And s ps) (bindings_of terms slots))))
      → Holds new o found
  held_after terms slots new o s h first =
      let f = first own.0 own.1 in
      record { are = after_is s (Some (bindings_of terms slots)) h.are ∙ f.are; below = f.below }

-- where a conjunction is written makes no difference
spans_alike : (axioms : List Axiom) (n : ℕ) (st : State) (s u : Span) (ps : Expressions) (e : Bindings)
    → sat axioms n st (And s ps) e ≡ sat axioms n st (And u ps) e
unfolding events
spans_alike axioms n st s u ps e =
    sat_is axioms n st (And s ps) e ∙ sym (sat_is axioms n st (And u ps) e)

under_alike : (rules : List Rule) (n : ℕ) (st : State) (s u : Span) (ps : Expressions) (o : Option Bindings)
    → events_under rules n st (And s ps) o ≡ events_under rules n st (And u ps) o
under_alike rules n st s u ps None = refl
under_alike rules n st s u ps (Some e) = spans_alike (axioms_of rules) n st s u ps e

-- all first satisfiers of the same parts for a task have the same bindings
first_alike : (c : CodeView) (nest : ℕ) (st : State) (x : Conjuncts) (t : Term) (own : Rule)
    → beside x.rule (rule_nodes c) (rules_in c) ≡ Some own → (ps : Expressions)
    → expressions_in c x.first x.end ≡ Some ps
    → AreAfter c nest st x t (first_sat (asked_events (rules_in c) nest st own (And nowhere ps) t))
first_alike c nest st x t own is ps read = λ r s qs found there'.
    let same_rule : own ≡ r = same_Some own r (sym is ∙ found) in
    let same_parts : ps ≡ qs = same_Some ps qs (sym read ∙ there') in
    ap first_sat
    (under_alike (rules_in c) nest st nowhere s ps (matched_by own t)
    ∙ ap (λ es. asked_events (rules_in c) nest st own (And s es) t) same_parts
    ∙ ap (λ y. asked_events (rules_in c) nest st y (And s qs) t) same_rule)

-- slots that are bound after parts hold some bindings
pub some_after : (c : CodeView) (nest : ℕ) (st : State) (x : Conjuncts) (t : Term) → AreConjuncts c x
    → (terms : List Term) (slots : Slotted) → IsBoundAfter c nest st x t terms (Some slots)
    → (found : Option Bindings) × Holds terms (Some slots) found
some_after c nest st x t parts terms slots bound =
    let ps = there (expressions_in c x.first x.end) parts.parts.read in
    let found = first_sat (asked_events (rules_in c) nest st parts.rule (And nowhere ps.0) t) in
    (found, bound found (first_alike c nest st x t parts.rule parts.is ps.0 ps.1))

-- ---- goals

module _ (old new : List Term) (f : Bindings → Option Bindings) (vars : ℕ) (slots own : Slotted) (does : Bool)
    (free : slots ≡ no_bindings vars) (told : Matched does (f (bindings_of old slots)) new slots own) where
  from_free : f (unbound vars) ≡ f (bindings_of old slots)
  from_free = ap f (sym (ap (bindings_of old) free ∙ none_bound old vars))

  -- what doesn't start from free slots starts under no bindings
  pub not_started : does ≡ false → f (unbound vars) ≡ None
  not_started e = from_free ∙ (match_failed does _ new slots own e told).0

  -- what starts from free slots starts under these bindings
  pub has_started : does ≡ true → f (unbound vars) ≡ Some (bindings_of new own)
  has_started e = from_free ∙ (match_made does _ new slots own e told).0

-- what the head of a rule starts from is what it starts from as the code holds the head and the names of the variables
pub rule_starts : (r : Rule) (head : Atom) (vars : ℕ) (q own : Goal) (filled : Result Goal RunFault)
    → filled ≡ Ok own → q ≡ own → head ≡ head_of r → vars ≡ length (vars_of r)
    → started_by r filled ≡ start_goal head q (unbound vars)
rule_starts r head vars q own filled is same at' many =
    ap (started_by r) is
    ∙ ap (λ g. start_goal (head_of r) g (unbound (length (vars_of r)))) (sym same)
    ∙ ap (λ h. start_goal h q (unbound (length (vars_of r)))) (sym at')
    ∙ ap (λ n. start_goal head q (unbound n)) (sym many)

-- what starts from a goal starts from the atom that is filled as this goal
pub goal_filled : (c : CodeView) (i : ℕ) (terms : List Term) (filled : Result Goal RunFault) (q : Goal)
    → filled ≡ Ok q → (o : Option Slotted) → BindsGoal c i (Ok q) terms o → BindsGoal c i filled terms o
goal_filled c i terms filled q is o b = subst (λ f. BindsGoal c i f terms o) (sym is) b

-- from an atom that filling faults on nothing starts
pub goal_unfilled : (c : CodeView) (i : ℕ) (terms : List Term) (view : made.Goal → Goal) (x : EvalStop) (f : RunFault)
    → x ≡ stops.Fault f → (filled : Result Goal RunFault) → GivesBy view (Err x) filled
    → BindsGoal c i filled terms None
goal_unfilled c i terms view x f is filled gives = λ r found.
    let fault : filled ≡ Err f = subst (λ y. GivesBy view (Err y) filled) is gives in
    record { are = ap (started_by r) fault; below = tt }

-- ---- starts

module _ (c : CodeView) (nest : ℕ) (st : State) (x : Conjuncts) where
  -- what is bound by a task is bound by that start
  pub by_task : (task : Bor AtomPat) (terms : List Term) (o : Option Slotted)
      → IsBoundByTask c x (atom_said (atom_of task.now)) terms o → IsBoundBy c nest st x (starts.Task task) terms o
  by_task task terms o bound = λ r found is from. subst (Holds terms o) (sym from) (bound r is)

  -- and what is bound by the first satisfier of parts by that one
  pub by_after : (task : Bor AtomPat) (parts : Conjuncts) (terms : List Term) (o : Option Slotted)
      → IsBoundAfter c nest st parts (atom_said (atom_of task.now)) terms o
      → IsBoundBy c nest st x (starts.After task parts) terms o
  by_after task parts terms o bound = λ r found is from. bound found from

  module _ (task : Bor AtomPat) (parts : Conjuncts) (goal : Bor AtomPat) (mid terms : List Term) where
    -- without bindings after parts no head starts from an atom
    pub by_no_goal : IsBoundAfter c nest st parts (atom_said (atom_of task.now)) mid None
        → IsBoundBy c nest st x (starts.Goal task parts goal) terms None
    by_no_goal bound = λ r found is from.
        let none = bound from.0 from.1 in
        record { are = from.2 ∙ ap (started_under r (atom_of goal.now)) none.are; below = tt }

    -- with them the head starts as it does from the atom that is filled under them
    pub by_goal : (slots : Slotted) (o : Option Slotted)
        → IsBoundAfter c nest st parts (atom_said (atom_of task.now)) mid (Some slots)
        → BindsGoal c x.rule (fill_goal (atom_of goal.now) (bindings_of mid slots)) terms o
        → IsBoundBy c nest st x (starts.Goal task parts goal) terms o
    by_goal slots o bound binds = λ r found is from.
        let some = bound from.0 from.1 in
        let own = binds r is in
        record { are = from.2 ∙ ap (started_under r (atom_of goal.now)) some.are ∙ own.are; below = own.below }

-- from each start that can be there are bindings, if there are any
start_bindings : (c : CodeView) (nest : ℕ) (st : State) (r : Rule) (start : Start) → CanStart c start
    → (o : Option Bindings) × StartsFrom c nest st r start o
start_bindings c nest st r (starts.Task task) can = (matched_by r (atom_said (atom_of task.now)), refl)
start_bindings c nest st r (starts.After task x) can =
    let ps = there (expressions_in c x.first x.end) can.1.parts.read in
    (_, first_alike c nest st x (atom_said (atom_of task.now)) can.1.rule can.1.is ps.0 ps.1)
start_bindings c nest st r (starts.Goal task x goal) can =
    let ps = there (expressions_in c x.first x.end) can.1.parts.read in
    (_, (_, first_alike c nest st x (atom_said (atom_of task.now)) can.1.rule can.1.is ps.0 ps.1, refl))

-- a scene is ready for questions under the bindings from a start
pub bound_ready : (s : Scene) (old new : List Term) → Grows old new → AllBelow (length old) (live_atoms s.world.now.places)
    → Knows old s.world → (nest : ℕ) (st : State) (x : Conjuncts) → AreConjuncts (code_in s) x → (start : Start)
    → CanStart (code_in s) start → (slots : Slotted) → IsBoundBy (code_in s) nest st x start new (Some slots)
    → IsReady s new slots
bound_ready s old new grown atoms knows nest st x asked start can slots bound =
    let from = start_bindings (code_in s) nest st asked.rule start can in
    record {
      atoms = atoms_grow s old new grown atoms;
      knows = knows_grow s old new grown knows;
      bindings = (bound asked.rule from.0 asked.is from.1).below;
    }
