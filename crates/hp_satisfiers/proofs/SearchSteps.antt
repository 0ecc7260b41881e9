-- The events of expressions, kind by kind.
use Rattle.std.proofs.Common.{◌≡◌, ℕ, zero, suc, ◌+◌, ◌<◌, ◌≤◌, true, false, List, [], ◌∷◌, ◌++◌, length, drop, get_or, Vec, refl, sym, ◌∙◌, ap}
use Rattle.std.specs.Prelude.{Box}
use Rattle.std.specs.Global.{Global}
use Rattle.std.proofs.lemmas.List.{append-nil, drop_all}
use Rattle.std.proofs.lemmas.List.Concat.{flat_map-append}
use Rattle.hp_syntax.specs.declared.pattern.AtomPat.{AtomPat}
use Rattle.hp_syntax.specs.declared.pattern.Pat.{Pat}
use Rattle.hp_syntax.specs.declared.expression.Expr.{Expr}
use Rattle.hp_syntax.specs.declared.expression.ExprKind.TheVariants as exprs
use Rattle.hp_syntax.specs.Syntax.{Expression, Axiom}
use Rattle.hp_syntax.specs.Values.{Bindings, value}
use Rattle.hp_syntax.specs.Events.{Event, Sat, Cut, Fault, State, in_place, through, assigned, tested, events, events_of_all, events_of_any, sat}
use Rattle.hp_syntax.specs.Views.{pattern_of, atom_of, expression_of, expressions_of}
use Rattle.hp_syntax.specs.ViewLaws.{expression_of-atom, expression_of-and, expression_of-or, expression_of-not, expression_of-forall, expression_of-assign, expression_of-call}
use Rattle.hp_eval.proofs.Loops.{left_more}
use Rattle.hp_syntax.specs.Preconditions.{heard}
use Rattle.hp_laws.specs.HeardAlike.{AreHeardAlike, turned}
use Rattle.hp_laws.proofs.HeardAlikeLemmas.{alike_through}
use Rattle.hp_satisfiers.specs.Scenes.{atoms_at}

-- ---- kinds of expressions

-- the events of a body that must hold for each satisfier of a range
abbrev pub forall_sat : List Axiom → ℕ → State → Bindings → Expr → Expr → List Event
forall_sat axioms n s e range body =
    turned true
    (through (sat axioms n s (expression_of range) e) (λ b. turned true (sat axioms n s (expression_of body) b) b)) e

module _ (axioms : List Axiom) (n : ℕ) (s : State) where
  -- the satisfiers with so many levels are the events with the atoms' at these
  pub sat_is : sat axioms n s ≡ events (atoms_at axioms n s)
  unfolding sat
  sat_is = elim n as (λ m. sat axioms m s ≡ events (atoms_at axioms m s)) [ zero ↦ refl | suc m ↦ refl ]

  -- an expression meets what the plain one for which it stands does
  sat_as : (expr : Expr) (part : Expression) (e : Bindings) → expression_of expr ≡ part
      → sat axioms n s (expression_of expr) e ≡ events (atoms_at axioms n s) part e
  sat_as expr part e h =
      ap (λ f. f (expression_of expr) e) sat_is ∙ ap (λ p. events (atoms_at axioms n s) p e) h

  module _ (expr : Expr) (e : Bindings) where
    -- an expression that is an atom meets what the atom does
    pub sat_of-atom : (a : AtomPat) → expr.kind ≡ exprs.Atom a
        → atoms_at axioms n s (atom_of a) e ≡ sat axioms n s (expression_of expr) e
    unfolding events
    sat_of-atom a h = sym (sat_as expr _ e (expression_of-atom expr a h))

    -- a conjunction meets what all of its parts do
    pub sat_of-and : (parts : Vec Expr Global) → expr.kind ≡ exprs.And parts
        → events_of_all (atoms_at axioms n s) (expressions_of parts.items) e ≡ sat axioms n s (expression_of expr) e
    unfolding events
    sat_of-and parts h = sym (sat_as expr _ e (expression_of-and expr parts h))

    -- a disjunction meets what any of its parts does
    pub sat_of-or : (parts : Vec Expr Global) → expr.kind ≡ exprs.Or parts
        → events_of_any (atoms_at axioms n s) (expressions_of parts.items) e ≡ sat axioms n s (expression_of expr) e
    unfolding events
    sat_of-or parts h = sym (sat_as expr _ e (expression_of-or expr parts h))

    -- a negation meets what that of its part does
    pub sat_of-not : (part : Box Expr Global) → expr.kind ≡ exprs.Not part
        → turned true (sat axioms n s (expression_of part.value) e) e ≡ sat axioms n s (expression_of expr) e
    unfolding events
    sat_of-not part h =
        ap (λ f. turned true (f (expression_of part.value) e) e) sat_is
        ∙ sym (sat_as expr _ e (expression_of-not expr part h))

    -- a forall meets what it does by its range and its body
    pub sat_of-forall : (vars : Vec ℕ Global) (range body : Box Expr Global) → expr.kind ≡ exprs.Forall vars range body
        → forall_sat axioms n s e range.value body.value ≡ sat axioms n s (expression_of expr) e
    unfolding events
    sat_of-forall vars range body h =
        ap (λ f. turned true
        (through (f (expression_of range.value) e) (λ b. turned true (f (expression_of body.value) b) b)) e) sat_is
        ∙ sym (sat_as expr _ e (expression_of-forall expr vars range body h))

    -- an assignment meets what its variable does with the value
    pub sat_of-assign : (v : ℕ) (p : Pat) → expr.kind ≡ exprs.Assign v p
        → assigned (value (pattern_of p) e) v e ≡ sat axioms n s (expression_of expr) e
    unfolding events
    sat_of-assign v p h = sym (sat_as expr _ e (expression_of-assign expr v p h))

    -- a call meets what its value does
    pub sat_of-call : (p : Pat) → expr.kind ≡ exprs.Call p
        → tested (value (pattern_of p) e) e ≡ sat axioms n s (expression_of expr) e
    unfolding events
    sat_of-call p h = sym (sat_as expr _ e (expression_of-call expr p h))

-- ---- conjunctions

-- events in the place of each Sat may be taken in turn
pub through_through : (xs : List Event) (f g : Bindings → List Event)
    → through (through xs f) g ≡ through xs (λ b. through (f b) g)
through_through [] f g = refl
through_through (Sat e ∷ xs) f g =
    flat_map-append (in_place g) (f e) (through xs f) ∙ ap (λ ys. through (f e) g ++ ys) (through_through xs f g)
through_through (Cut ∷ xs) f g = ap (λ ys. Cut ∷ ys) (through_through xs f g)
through_through (Fault x ∷ xs) f g = ap (λ ys. Fault x ∷ ys) (through_through xs f g)

-- a Sat in the place of each Sat changes nothing
through_sat : (xs : List Event) → through xs (λ b. Sat b ∷ []) ≡ xs
through_sat [] = refl
through_sat (Sat e ∷ xs) = ap (λ ys. Sat e ∷ ys) (through_sat xs)
through_sat (Cut ∷ xs) = ap (λ ys. Cut ∷ ys) (through_sat xs)
through_sat (Fault x ∷ xs) = ap (λ ys. Fault x ∷ ys) (through_sat xs)

module _ (axioms : List Axiom) (n : ℕ) (s : State) where
  -- the events of parts that must all hold
  abbrev pub all_of : List Expr → Bindings → List Event
  all_of parts b = events_of_all (atoms_at axioms n s) (expressions_of parts) b

  -- the other parts take the place of each satisfier of the first
  all_step : (p : Expr) (ps : List Expr)
      → all_of (p ∷ ps) ≡ (λ b. through (sat axioms n s (expression_of p) b) (all_of ps))
  unfolding events
  all_step p ps = ap (λ f b. through (f (expression_of p) b) (all_of ps)) (sym (sat_is axioms n s))

  -- where no part must hold, the bindings satisfy as they are
  all_none : all_of [] ≡ (λ b. Sat b ∷ [])
  unfolding events
  all_none = refl

  -- before the first part, all parts are left under the bindings at the start
  pub all_begin : (parts : List Expr) (e : Bindings) (found : List Event) → found ≡ Sat e ∷ []
      → through found (all_of parts) ≡ all_of parts e
  all_begin parts e found is = ap (λ xs. through xs (all_of parts)) is ∙ append-nil (all_of parts e)

  -- the next part takes the place of each satisfier so far
  pub all_go_on : (parts : List Expr) (i : ℕ) (p : Expr) (old new whole : List Event) → i < length parts
      → p ≡ get_or parts i p
      → AreHeardAlike new (through old (λ b. turned false (sat axioms n s (expression_of p) b) b))
      → AreHeardAlike (through old (all_of (drop i parts))) whole
      → AreHeardAlike (through new (all_of (drop (i + 1) parts))) whole
  all_go_on parts i p old new whole l is e h =
      let others = all_of (drop (i + 1) parts) in
      alike_through new (through old (sat axioms n s (expression_of p))) others e
      ∙ (ap heard (through_through old (sat axioms n s (expression_of p)) others
      ∙ ap (through old) (sym (ap all_of (left_more parts i p l is) ∙ all_step p (drop (i + 1) parts))))
      ∙ h)

  -- where no part is left, the satisfiers so far are those of all
  pub all_end : (parts : List Expr) (i : ℕ) (found whole : List Event) → length parts ≤ i
      → AreHeardAlike (through found (all_of (drop i parts))) whole → AreHeardAlike found whole
  all_end parts i found whole l h =
      ap heard (sym (through_sat found) ∙ ap (through found) (sym (ap all_of (drop_all i parts l) ∙ all_none))) ∙ h

  -- ---- disjunctions

  -- the events of parts of which one must hold
  abbrev pub any_of : List Expr → Bindings → List Event
  any_of parts b = events_of_any (atoms_at axioms n s) (expressions_of parts) b

  -- any of some parts is the first or one of the others
  pub any_step : (p : Expr) (ps : List Expr) (e : Bindings)
      → any_of (p ∷ ps) e ≡ sat axioms n s (expression_of p) e ++ any_of ps e
  unfolding events
  any_step p ps e = ap (λ f. f (expression_of p) e ++ any_of ps e) (sym (sat_is axioms n s))

  -- of no part none holds
  pub any_none : (e : Bindings) → any_of [] e ≡ []
  unfolding events
  any_none e = refl
