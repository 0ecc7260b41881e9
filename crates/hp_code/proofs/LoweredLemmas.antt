-- Lowered rules mean what the rules mean.
use Rattle.std.proofs.Common.{◌≡◌, ℕ, zero, suc, List, [], ◌∷◌, ◌++◌, map, length, Option, Some, None, Result, Ok, Err, refl, ap, ◌∙◌}
use Rattle.std.specs.Prelude.{flat_map}
use Rattle.hp_syntax.specs.declared.fault.RunFault.{RunFault}
use Rattle.hp_syntax.specs.Syntax as syntax
use Rattle.hp_syntax.specs.Goals.{Goal, fill_goal, start_goal}
use Rattle.hp_syntax.specs.Values.{Bindings, unbound}
use Rattle.hp_syntax.specs.Events as events
use Rattle.hp_syntax.specs.Preconditions.{heard, up_to_sat, keyed, sorted_events, precondition_events}
use Rattle.hp_code.specs.Lowered.{lowered, all_lowered, lowered_precondition, lowered_clause, lowered_axiom, lowered_rules}

-- ---- joins

-- functions that give equal lists join equal lists
pub joined_same : {X Y : Type 0} (f g : X → List Y) → ((x : X) → f x ≡ g x) → (xs : List X)
    → flat_map f xs ≡ flat_map g xs
joined_same f g h [] = refl
joined_same f g h (x ∷ xs) = ap (λ ys. ys ++ flat_map f xs) (h x) ∙ ap (λ ys. g x ++ ys) (joined_same f g h xs)

-- an event with its Sat replaced by equal events
in_place_same : (f g : Bindings → List events.Event) → ((b : Bindings) → f b ≡ g b) → (x : events.Event)
    → events.in_place f x ≡ events.in_place g x
in_place_same f g h (events.Sat b) = h b
in_place_same f g h events.Cut = refl
in_place_same f g h (events.Fault x) = refl

-- equal events replace the Sats of equal lists
through_same : (f g : Bindings → List events.Event) → ((b : Bindings) → f b ≡ g b) → (xs ys : List events.Event) → xs
    ≡ ys
    → events.through xs f ≡ events.through ys g
through_same f g h xs ys e =
    joined_same (events.in_place f) (events.in_place g) (in_place_same f g h) xs ∙ ap (λ zs. events.through zs g) e

-- ---- expressions

module _ (f g : syntax.Atom → Bindings → List events.Event) (same : (a : syntax.Atom) (b : Bindings) → f a b ≡ g a b)
  where
    mutual
      unfolding lowered all_lowered events.events events.events_of_all events.events_of_any

      -- a lowered expression has the events of the expression, where atoms have the same
      expression_same : (E : syntax.Expression) (e : Bindings) → events.events f (lowered E) e ≡ events.events g E e
      expression_same (syntax.Holds s a) e = same a e
      expression_same (syntax.And s ps) e = all_same ps e
      expression_same (syntax.Or s ps) e = any_same ps e
      expression_same (syntax.Not s p) e = ap (λ xs. events.negated (events.finding xs) e) (expression_same p e)
      expression_same (syntax.Forall s vs y z) e =
          ap (λ xs. events.negated (events.finding xs) e)
          (through_same (λ b. events.negated (events.finding (events.events f (lowered z) b)) b)
          (λ b. events.negated (events.finding (events.events g z b)) b)
          (λ b. ap (λ xs. events.negated (events.finding xs) b) (expression_same z b)) (events.events f (lowered y) e)
          (events.events g y e)
          (expression_same y e))
      expression_same (syntax.Assign s v p) e = refl
      expression_same (syntax.Test s p) e = refl

      -- so have the parts of a conjunction
      all_same : (ps : syntax.Expressions) (e : Bindings) → events.events_of_all f (all_lowered ps) e
          ≡ events.events_of_all g ps e
      all_same syntax.NoExpression e = refl
      all_same (syntax.Also p ps) e =
          through_same (events.events_of_all f (all_lowered ps)) (events.events_of_all g ps) (all_same ps)
          (events.events f (lowered p) e)
          (events.events g p e) (expression_same p e)

      -- and those of a disjunction
      any_same : (ps : syntax.Expressions) (e : Bindings) → events.events_of_any f (all_lowered ps) e
          ≡ events.events_of_any g ps e
      any_same syntax.NoExpression e = refl
      any_same (syntax.Also p ps) e =
          ap (λ xs. xs ++ events.events_of_any f (all_lowered ps) e) (expression_same p e)
          ∙ ap (λ xs. events.events g p e ++ xs) (any_same ps e)

-- ---- axioms

-- both find the same one level down: no level is left, or lowered expressions have the events of the expressions
abbrev AreAlike : events.Below → events.Below → Type 0
AreAlike None None = Unit {0}
AreAlike None (Some g) = ⊥
AreAlike (Some f) None = ⊥
AreAlike (Some f) (Some g) = (E : syntax.Expression) (b : Bindings) → f (lowered E) b ≡ g E b

-- a choice of equal lists with equal others has the same events
choice_same : {A B : Type 0} (x : A) (y : B) (xs : List events.Event) (o : Option (A × List events.Event))
    (p : Option (B × List events.Event))
    → events.chosen_events o ≡ events.chosen_events p → events.chosen_events (events.chosen_or x xs o)
    ≡ events.chosen_events (events.chosen_or y xs p)
choice_same x y [] o p e = e
choice_same x y (z ∷ zs) o p e = refl

-- the clause that is chosen of lowered clauses has the events of the one that is chosen
clauses_same : (f g : syntax.Expression → Bindings → List events.Event)
    → ((E : syntax.Expression) (b : Bindings) → f (lowered E) b ≡ g E b)
    → (b : Bindings) (cs : List syntax.Clause)
    → events.chosen_events (events.chosen (λ c. f c.body b) (map lowered_clause cs))
    ≡ events.chosen_events (events.chosen (λ c. g c.body b) cs)
clauses_same f g h b [] = refl
clauses_same f g h b (c ∷ cs) =
    let rest = events.chosen (λ c. f c.body b) (map lowered_clause cs) in
    ap (λ xs. events.chosen_events (events.chosen_or (lowered_clause c) xs rest)) (h c.body b)
    ∙ choice_same (lowered_clause c) c (g c.body b) rest (events.chosen (λ c. g c.body b) cs) (clauses_same f g h b cs)

-- a lowered axiom's branches have the events of the axiom's
branches_same : (f g : events.Below) → AreAlike f g → (x : syntax.Axiom) (b : Bindings)
    → events.branch_events f (lowered_axiom x) b ≡ events.branch_events g x b
branches_same None None h x b = refl
branches_same None (Some g) h x b = absurd h
branches_same (Some f) None h x b = absurd h
branches_same (Some f) (Some g) h x b = clauses_same f g h b x.clauses

module _ (f g : events.Below) (alike : AreAlike f g) (q : Goal) (e : Bindings) where
  -- a lowered axiom that starts has the events of the axiom
  started_same : (x : syntax.Axiom) (o : Option Bindings)
      → events.started_events f (lowered_axiom x) o q e ≡ events.started_events g x o q e
  started_same x None = refl
  started_same x (Some b) =
      ap (λ xs. events.through xs (λ d. events.concluded x.head d q e)) (branches_same f g alike x b)

  -- lowered axioms have the events of the axioms
  axioms_same : (xs : List syntax.Axiom)
      → flat_map (λ x. events.axiom_events f x q e) (map lowered_axiom xs)
      ≡ flat_map (λ x. events.axiom_events g x q e) xs
  axioms_same [] = refl
  axioms_same (x ∷ xs) =
      ap (λ ys. ys ++ flat_map (λ x. events.axiom_events f x q e) (map lowered_axiom xs))
      (started_same x (start_goal x.head q (unbound (length x.vars))))
      ∙ ap (λ ys. events.axiom_events g x q e ++ ys) (axioms_same xs)

-- an atom has the same events under lowered axioms
atom_same : (axioms : List syntax.Axiom) (f g : events.Below) → AreAlike f g
    → (s : events.State) (a : syntax.Atom) (e : Bindings)
    → events.atom_events (map lowered_axiom axioms) f s a e ≡ events.atom_events axioms g s a e
atom_same axioms f g h s a e = filled (fill_goal a e)
  where
    filled : (r : Result Goal RunFault)
        → events.filled_events (map lowered_axiom axioms) f s r e ≡ events.filled_events axioms g s r e
    filled (Err x) = refl
    filled (Ok q) = ap (λ xs. events.state_events s q e ++ xs) (axioms_same f g h q e axioms)

-- a lowered expression has under lowered axioms the events of the expression
pub sat_same : (axioms : List syntax.Axiom) (n : ℕ) (s : events.State) (E : syntax.Expression) (e : Bindings)
    → events.sat (map lowered_axiom axioms) n s (lowered E) e ≡ events.sat axioms n s E e
unfolding events.sat
sat_same axioms zero s E e =
    expression_same (events.atom_events (map lowered_axiom axioms) None s) (events.atom_events axioms None s)
    (atom_same axioms None None tt s) E e
sat_same axioms (suc n) s E e =
    expression_same (events.atom_events (map lowered_axiom axioms) (Some (events.sat (map lowered_axiom axioms) n s)) s)
    (events.atom_events axioms (Some (events.sat axioms n s)) s)
    (atom_same axioms (Some (events.sat (map lowered_axiom axioms) n s)) (Some (events.sat axioms n s))
    (sat_same axioms n s) s) E e

-- the axioms of lowered rules are the axioms, lowered
pub axioms_lowered : (rules : List syntax.Rule) → events.axioms_of (lowered_rules rules)
    ≡ map lowered_axiom (events.axioms_of rules)
axioms_lowered [] = refl
axioms_lowered (syntax.Does o ∷ rules) = axioms_lowered rules
axioms_lowered (syntax.Refines m ∷ rules) = axioms_lowered rules
axioms_lowered (syntax.Concludes x ∷ rules) = ap (λ xs. lowered_axiom x ∷ xs) (axioms_lowered rules)

-- a lowered precondition has the events of the precondition
pub precondition_same : (axioms : List syntax.Axiom) (n : ℕ) (s : events.State) (p : syntax.Precondition) (e : Bindings)
    → precondition_events (map lowered_axiom axioms) n s (lowered_precondition p) e
    ≡ precondition_events axioms n s p e
unfolding precondition_events
precondition_same axioms n s (syntax.Plain E) e = ap heard (sat_same axioms n s E e)
precondition_same axioms n s (syntax.First E) e = ap (λ xs. up_to_sat (heard xs)) (sat_same axioms n s E e)
precondition_same axioms n s (syntax.Sorted k E) e =
    ap (λ xs. sorted_events k.order (keyed k (heard xs))) (sat_same axioms n s E e)
