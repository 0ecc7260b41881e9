-- The steps of a derivation lead from one state with its protections to another.
use Rattle.std.proofs.Common.{◌≡◌, ℕ, ℤ, List, Some, refl, sym, ◌∙◌, ap, subst}
use Rattle.std.specs.Prelude.{Contains, slice_get}
use Rattle.std.proofs.lemmas.Option.{slice_get_within, get_or_from_slice_get}
use Rattle.hp_syntax.specs.Syntax.{Rule, Does}
use Rattle.hp_syntax.specs.Terms.{Term}
use Rattle.hp_syntax.specs.Events.{State, Sat, axioms_of}
use Rattle.hp_syntax.specs.Preconditions.{precondition_events}
use Rattle.hp_syntax.specs.Applying.{Now}
use Rattle.hp_laws.specs.Derivations.{Situation, Choosing, Performs, Derives, Nothing, ByOperator, ByMethod, PlanStep, Executes}

-- the element at a number is contained
contains_at : {X : Type 0} (xs : List X) (k : ℕ) (x : X) → slice_get xs k ≡ Some x → Contains xs x
contains_at xs k x e = (k, slice_get_within xs k x e, get_or_from_slice_get xs k x x e)

-- the state of a situation and its protections
abbrev held : Situation → State × List Term
held s = (s.state, s.guards)

module _ (rules : List Rule) (nest : ℕ) where
  -- an operator that does a task is a step
  step_of : (c : Choosing) (before after : Situation) (t : Term) (k : ℤ) → Performs rules nest c before t k after
      → PlanStep rules nest (held before) t k (held after)
  step_of c before after t k f = record {
    operator = f.operator;
    matched = f.matched;
    satisfier = f.satisfier;
    changes = f.changes;
    known = contains_at rules c.rule (Does f.operator) f.known;
    head = f.head;
    met =
        contains_at (precondition_events (axioms_of rules) nest before.state f.operator.pre f.matched) c.event
        (Sat f.satisfier) f.met;
    does = f.does;
    changed = f.changed ∙ ap (λ (s : Situation). Now s.state s.guards) (sym f.then');
  }

  -- a derivation's steps can be executed one by one
  pub derived_executes : {cs : List Choosing} {before after : Situation} {steps : List Term} {cost : ℤ}
      → Derives rules nest cs before steps cost after → Executes rules nest (held before) steps cost (held after)
  derived_executes (Nothing s) = (refl, refl)
  derived_executes (ByOperator c cs before between after t ts k rest f d) =
      (k, rest, held between, step_of c before between t k f, derived_executes d, refl)
  derived_executes (ByMethod c cs before between after ts rest f d) =
      subst (λ h. Executes rules nest h ts rest (held after)) (ap held f.then') (derived_executes d)
