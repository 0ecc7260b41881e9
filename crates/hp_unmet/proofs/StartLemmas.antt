-- Bindings from which parts are asked for: those after other parts, whatever the span of their conjunction, and those with
-- which a head starts.
use Rattle.std.proofs.Common.{◌≡◌, ℕ, true, length, List, Option, Some, None, Result, Ok, Err, is_some, refl, ap, ap₂, sym, ◌∙◌}
use Rattle.std.proofs.lemmas.Option.{same_Some}
use Rattle.hp_syntax.specs.declared.fault.RunFault.{RunFault}
use Rattle.hp_syntax.specs.declared.pattern.Span.{Span}
use Rattle.hp_syntax.specs.Events.{State, axioms_of, events, sat}
use Rattle.hp_syntax.specs.Goals.{Goal, fill_goal, start_goal}
use Rattle.hp_syntax.specs.GroundPatterns.{atom_said}
use Rattle.hp_syntax.specs.Syntax.{And, Atom, Axiom, Expressions, Rule}
use Rattle.hp_syntax.specs.Terms.{Term}
use Rattle.hp_syntax.specs.Values.{Bindings, unbound}
use Rattle.hp_syntax.specs.Views.{atom_of}
use Rattle.hp_syntax.specs.Written.{nowhere}
use Rattle.hp_nodes.specs.Compiled.{vars_of}
use Rattle.hp_code.specs.CodeViews.{CodeView, beside, rule_nodes, rules_in}
use Rattle.hp_suspended.specs.Nodes.{expressions_in}
use Rattle.hp_suspended.proofs.RangeLemmas.{sat_is}
use Rattle.hp_choice.specs.declared.starting.Conjuncts.{Conjuncts}
use Rattle.hp_choice.specs.declared.starting.Start.{Start}
use Rattle.hp_choice.specs.declared.starting.Start.TheVariants as starts
use Rattle.hp_choice.specs.Asking.{AreConjuncts, asked_events, events_under, head_of}
use Rattle.hp_choice.specs.FirstSatisfier.{first_sat}
use Rattle.hp_choice.specs.Starting as choice
use Rattle.hp_choice.specs.Starting.{AreAfter, CanStart, StartsFrom, matched_by}
use Rattle.hp_unmet.specs.Clauses.{started_by, started_under}
use Rattle.hp_unmet.specs.Conjunctions.{Conjunction}

-- ---- bindings after parts

-- where a conjunction is written makes no difference
spans_alike : (axioms : List Axiom) (n : ℕ) (st : State) (s u : Span) (ps : Expressions) (e : Bindings)
    → sat axioms n st (And s ps) e ≡ sat axioms n st (And u ps) e
unfolding events
spans_alike axioms n st s u ps e = sat_is axioms n st (And s ps) e ∙ sym (sat_is axioms n st (And u ps) e)

under_alike : (rules : List Rule) (n : ℕ) (st : State) (s u : Span) (ps : Expressions) (o : Option Bindings)
    → events_under rules n st (And s ps) o ≡ events_under rules n st (And u ps) o
under_alike rules n st s u ps None = refl
under_alike rules n st s u ps (Some e) = spans_alike (axioms_of rules) n st s u ps e

module _ (c : CodeView) (nest : ℕ) (st : State) (x : Conjuncts) (t : Term) (own : Rule)
    (is : beside x.rule (rule_nodes c) (rules_in c) ≡ Some own) where
  -- bindings by the first satisfier of parts, as they are written somewhere, are those after these parts
  pub after_any_span : (s : Span) (ps : Expressions) → expressions_in c x.first x.end ≡ Some ps → (b : Option Bindings)
      → b ≡ first_sat (asked_events (rules_in c) nest st own (And s ps) t) → AreAfter c nest st x t b
  after_any_span s ps read b first = λ r u qs found there.
      let same_rule : own ≡ r = same_Some own r (sym is ∙ found) in
      let same_parts : ps ≡ qs = same_Some ps qs (sym read ∙ there) in
      first
      ∙ ap first_sat
      (under_alike (rules_in c) nest st s u ps (matched_by own t)
      ∙ ap (λ es. asked_events (rules_in c) nest st own (And u es) t) same_parts
      ∙ ap (λ y. asked_events (rules_in c) nest st y (And u qs) t) same_rule)

-- what there is under a test is something
there : {A : Type 0} → (o : Option A) → is_some o ≡ true → (x : A) × (o ≡ Some x)
there None e = absurd cc
there (Some x) e = (x, refl)

-- ---- starts

-- there are bindings after parts, or none
bindings_after : (c : CodeView) (nest : ℕ) (st : State) (x : Conjuncts) (t : Term) → AreConjuncts c x
    → (b : Option Bindings) × AreAfter c nest st x t b
bindings_after c nest st x t are =
    let ps = there (expressions_in c x.first x.end) are.parts.read in (
      first_sat (asked_events (rules_in c) nest st are.rule (And nowhere ps.0) t),
      after_any_span c nest st x t are.rule are.is nowhere ps.0 ps.1 _ refl,
    )

-- from each start that can be there are bindings, if there are any
pub start_bindings : (c : CodeView) (nest : ℕ) (st : State) (r : Rule) (start : Start) → CanStart c start
    → (o : Option Bindings) × StartsFrom c nest st r start o
start_bindings c nest st r (starts.Task task) can = (matched_by r (atom_said (atom_of task.now)), refl)
start_bindings c nest st r (starts.After task x) can = bindings_after c nest st x (atom_said (atom_of task.now)) can.1
start_bindings c nest st r (starts.Goal task x goal) can =
    let b = bindings_after c nest st x (atom_said (atom_of task.now)) can.1 in
    (choice.started_under r (atom_of goal.now) b.0, (b.0, b.1, refl))

-- ---- heads that start

module _ (r : Rule) (c : Conjunction) (head : head_of r ≡ c.head) (vars : vars_of r ≡ c.vars) where
  started_as : (filled : Result Goal RunFault) → started_by c filled ≡ choice.started_by r filled
  started_as (Err f) = refl
  started_as (Ok q) = sym (ap₂ (λ h vs. start_goal h q (unbound (length vs))) head vars)

  -- the head of a rule, which is that of a conjunction, starts from an atom as that does
  pub started_alike : (a : Atom) (b : Option Bindings) → started_under c a b ≡ choice.started_under r a b
  started_alike a None = refl
  started_alike a (Some e) = started_as (fill_goal a e)
