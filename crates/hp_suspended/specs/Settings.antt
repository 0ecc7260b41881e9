-- What is looked for, and where: a code, the terms that cells name, and the places of atoms; and what is met at nodes.
use Rattle.std.specs.Prelude.{ℕ, zero, suc, List, [], ◌∷◌, drop, Option, Some, None, flat_map}
use Rattle.hp_syntax.specs.Syntax.{Atom, Axiom, Clause, Expression, Expressions}
use Rattle.hp_syntax.specs.Terms.{Term}
use Rattle.hp_syntax.specs.Values.{Bindings}
use Rattle.hp_syntax.specs.Goals.{Goal}
use Rattle.hp_syntax.specs.Events.{Event, State, Below, axioms_of, atom_events, axiom_events, chosen, chosen_events, concluded, events_of_all, events_of_any, sat, state_events}
use Rattle.hp_code.specs.CodeViews.{CodeView, rules_in}
use Rattle.hp_laws.specs.RulesByName.{concluding}
use Rattle.hp_world.specs.Stages.{live_atoms, terms_at}
use Rattle.hp_suspended.specs.Nodes.{expression_at, expressions_in, clauses_in}

pub record Setting : Type 0 where
  pub code : CodeView
  pub terms : List Term
  pub places : List (Option ℕ)

-- the axioms, in the order of the domain
abbrev pub axioms_in : Setting → List Axiom
axioms_in w = axioms_of (rules_in w.code)

-- the state that the atoms of places are
abbrev pub state_in : Setting → State
state_in w = terms_at w.terms (live_atoms w.places)

-- the events of an expression one level down, with so many levels left
abbrev pub below_at : List Axiom → ℕ → State → Below
below_at axioms zero s = None
below_at axioms (suc n) s = Some (sat axioms n s)

-- the events of an atom, with so many levels left
abbrev pub atoms_at : List Axiom → ℕ → State → Atom → Bindings → List Event
atoms_at axioms n s = atom_events axioms (below_at axioms n s) s

module _ (w : Setting) (n : ℕ) where
  -- the events of an expression, of a conjunction, of a disjunction and of branches, if they are there
  abbrev pub expression_events : Option Expression → Bindings → List Event
  expression_events None e = []
  expression_events (Some E) e = sat (axioms_in w) n (state_in w) E e

  abbrev pub all_events : Option Expressions → Bindings → List Event
  all_events None e = []
  all_events (Some ps) e = events_of_all (atoms_at (axioms_in w) n (state_in w)) ps e

  abbrev pub any_events : Option Expressions → Bindings → List Event
  any_events None e = []
  any_events (Some ps) e = events_of_any (atoms_at (axioms_in w) n (state_in w)) ps e

  abbrev pub clause_events : Option (List Clause) → Bindings → List Event
  clause_events None e = []
  clause_events (Some cs) e = chosen_events (chosen (λ c. sat (axioms_in w) n (state_in w) c.body e) cs)

  -- the events of the expression of a node
  unfoldable pub node_events : ℕ → Bindings → List Event
  node_events i = expression_events (expression_at w.code i)

  -- the events of the nodes from one index up to another, as parts of a conjunction, of a disjunction, or as branches
  -- of which the first that isn't empty counts
  unfoldable pub all_between : ℕ → ℕ → Bindings → List Event
  all_between i to = all_events (expressions_in w.code i to)

  unfoldable pub any_between : ℕ → ℕ → Bindings → List Event
  any_between i to = any_events (expressions_in w.code i to)

  unfoldable pub first_between : ℕ → ℕ → Bindings → List Event
  first_between i to = clause_events (clauses_in w.code i to)

  -- the events of a goal by the axioms of its name, from the one of a number on
  unfoldable pub axioms_from : ℕ → Goal → Bindings → List Event
  axioms_from k q e =
      flat_map (λ x. axiom_events (below_at (axioms_in w) n (state_in w)) x q e)
      (drop k (concluding q.name (rules_in w.code)))

-- the events of a goal by the atoms of the places from one on
unfoldable pub places_from : Setting → ℕ → Goal → Bindings → List Event
places_from w at' q e = state_events (terms_at w.terms (live_atoms (drop at' w.places))) q e

-- the conclusions of an axiom's bindings on a goal, by the head of a node
abbrev pub head_concludes : Option Atom → Goal → Bindings → Bindings → List Event
head_concludes None q e b = []
head_concludes (Some h) q e b = concluded h b q e

-- a list, or another where it is empty
abbrev pub first_of : List Event → List Event → List Event
first_of [] ys = ys
first_of (x ∷ xs) ys = x ∷ xs
