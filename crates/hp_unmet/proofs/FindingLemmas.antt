-- What is found of the events of more and more parts of a conjunction.
use Rattle.std.proofs.Common.{◌≡◌, ◌≢◌, ℕ, Bool, cond, zero, suc, List, [], ◌∷◌, ◌++◌, Some, None, refl, sym, ap, ◌∙◌}
use Rattle.std.proofs.lemmas.List.{append-nil}
use Rattle.std.proofs.lemmas.List.Concat.{flat_map-append}
use Rattle.hp_choice.specs.FirstSatisfier.{first_that}
use Rattle.hp_syntax.specs.declared.pattern.Span.{Span}
use Rattle.hp_syntax.specs.Events.{Event, Sat, Cut, Fault, Finding, Satisfied, State, atom_events, events, events_of_all, finding, finding_with, in_place, sat, through}
use Rattle.hp_syntax.specs.Preconditions.{heard, precondition_events}
use Rattle.hp_syntax.specs.Syntax as syntax
use Rattle.hp_syntax.specs.Values.{Bindings}
use Rattle.hp_syntax.specs.Views.{as_expressions}
use Rattle.hp_unmet.specs.Conjunctions.{conjuncts}
use Rattle.hp_unmet.proofs.PartLemmas.{listed_again}

-- ---- events

-- what is found of events is found of those that are heard
pub heard_finding : (xs : List Event) → finding (heard xs) ≡ finding xs
heard_finding [] = refl
heard_finding (Sat e ∷ xs) = refl
heard_finding (Cut ∷ xs) = ap (finding_with Cut) (heard_finding xs)
heard_finding (Fault f ∷ xs) = refl

-- the first satisfier of events that passes a test is that of those that are heard
pub heard_first : (passes : Bindings → Bool) (xs : List Event) → first_that passes (heard xs) ≡ first_that passes xs
heard_first passes [] = refl
heard_first passes (Sat e ∷ xs) = ap (λ o. cond (passes e) (Some e) o) (heard_first passes xs)
heard_first passes (Cut ∷ xs) = heard_first passes xs
heard_first passes (Fault f ∷ xs) = refl

-- where no satisfier is found, the same is found whatever stands in the place of satisfiers
pub through_finding : (xs : List Event) (f : Bindings → List Event) → finding xs ≢ Satisfied
    → finding (through xs f) ≡ finding xs
through_finding [] f unmet = refl
through_finding (Sat e ∷ xs) f unmet = absurd (unmet refl)
through_finding (Cut ∷ xs) f unmet =
    ap (finding_with Cut) (through_finding xs f (λ e. unmet (ap (finding_with Cut) e)))
through_finding (Fault x ∷ xs) f unmet = refl

-- events with each satisfier in its own place are these events
through_same : (xs : List Event) → through xs (λ b. Sat b ∷ []) ≡ xs
through_same [] = refl
through_same (Sat e ∷ xs) = ap (λ ys. Sat e ∷ ys) (through_same xs)
through_same (Cut ∷ xs) = ap (λ ys. Cut ∷ ys) (through_same xs)
through_same (Fault x ∷ xs) = ap (λ ys. Fault x ∷ ys) (through_same xs)

-- events in the place of events in the place of satisfiers
through_through : (f g : Bindings → List Event) (xs : List Event)
    → through (through xs f) g ≡ through xs (λ b. through (f b) g)
through_through f g [] = refl
through_through f g (Sat e ∷ xs) =
    flat_map-append (in_place g) (f e) (through xs f) ∙ ap (λ ys. through (f e) g ++ ys) (through_through f g xs)
through_through f g (Cut ∷ xs) = ap (λ ys. Cut ∷ ys) (through_through f g xs)
through_through f g (Fault x ∷ xs) = ap (λ ys. Fault x ∷ ys) (through_through f g xs)

-- ---- parts

module _ (atoms : syntax.Atom → Bindings → List Event) where
  -- the events of some parts, by those of atoms
  abbrev of_parts : List syntax.Expression → Bindings → List Event
  of_parts ps e = events_of_all atoms (as_expressions ps) e

  -- those of parts behind others stand in the place of the satisfiers of these
  pub parts_behind : (ps qs : List syntax.Expression) (e : Bindings)
      → of_parts (ps ++ qs) e ≡ through (of_parts ps e) (of_parts qs)
  unfolding events events_of_all
  parts_behind [] qs e = sym (append-nil (of_parts qs e))
  parts_behind (p ∷ ps) qs e =
      ap (through (events atoms p e)) (λ i b. parts_behind ps qs b i)
      ∙ sym (through_through (of_parts ps) (of_parts qs) (events atoms p e))

  -- where some first parts aren't satisfied, the same is found with more of them
  more_parts : (ps qs : List syntax.Expression) (e : Bindings) → finding (of_parts ps e) ≢ Satisfied
      → finding (of_parts (ps ++ qs) e) ≡ finding (of_parts ps e)
  more_parts ps qs e unmet =
      ap finding (parts_behind ps qs e) ∙ through_finding (of_parts ps e) (of_parts qs) unmet

  -- no part is always satisfied
  no_parts : (e : Bindings) → finding (of_parts [] e) ≡ Satisfied
  unfolding events events_of_all
  no_parts e = refl

  -- the events of one part alone are its own
  pub one_part : (p : syntax.Expression) (e : Bindings) → of_parts (p ∷ []) e ≡ events atoms p e
  unfolding events_of_all
  one_part p e = through_same (events atoms p e)

  -- the events of the parts of an expression are those of the expression
  of_conjuncts : (E : syntax.Expression) (e : Bindings) → of_parts (conjuncts E) e ≡ events atoms E e
  unfolding events events_of_all
  of_conjuncts (syntax.And s es) e = ap (λ xs. events_of_all atoms xs e) (listed_again es)
  of_conjuncts (syntax.Holds s a) e = one_part (syntax.Holds s a) e
  of_conjuncts (syntax.Or s es) e = one_part (syntax.Or s es) e
  of_conjuncts (syntax.Not s p) e = one_part (syntax.Not s p) e
  of_conjuncts (syntax.Forall s vs y z) e = one_part (syntax.Forall s vs y z) e
  of_conjuncts (syntax.Assign s v p) e = one_part (syntax.Assign s v p) e
  of_conjuncts (syntax.Test s p) e = one_part (syntax.Test s p) e

-- ---- preconditions

module _ (axioms : List syntax.Axiom) (state : State) (s : Span) where
  -- the events of atoms with so many axiom levels
  abbrev atoms_with : ℕ → syntax.Atom → Bindings → List Event
  atoms_with zero = atom_events axioms None state
  atoms_with (suc n) = atom_events axioms (Some (sat axioms n state)) state

  -- the precondition of some parts
  abbrev pub asks : List syntax.Expression → syntax.Precondition
  asks ps = syntax.Plain (syntax.And s (as_expressions ps))

  -- what is found of a precondition is found of its expression
  found_of_plain : (nest : ℕ) (E : syntax.Expression) (e : Bindings)
      → finding (precondition_events axioms nest state (syntax.Plain E) e) ≡ finding (events (atoms_with nest) E e)
  unfolding precondition_events sat
  found_of_plain zero E e = heard_finding (events (atom_events axioms None state) E e)
  found_of_plain (suc n) E e = heard_finding (events (atom_events axioms (Some (sat axioms n state)) state) E e)

  -- and so it is found of the parts
  found_of_parts : (nest : ℕ) (ps : List syntax.Expression) (e : Bindings)
      → finding (precondition_events axioms nest state (asks ps) e) ≡ finding (of_parts (atoms_with nest) ps e)
  unfolding events events_of_all
  found_of_parts nest ps e = found_of_plain nest (syntax.And s (as_expressions ps)) e

  module _ (nest : ℕ) (e : Bindings) where
    -- what is found of the precondition of some parts
    abbrev pub found_asking : List syntax.Expression → Finding
    found_asking ps = finding (precondition_events axioms nest state (asks ps) e)

    -- where some first parts aren't satisfied, the same is found with more of them
    pub found_with_more : (ps qs : List syntax.Expression) → found_asking ps ≢ Satisfied
        → found_asking (ps ++ qs) ≡ found_asking ps
    found_with_more ps qs unmet =
        found_of_parts nest (ps ++ qs) e
        ∙ (more_parts (atoms_with nest) ps qs e (λ h. unmet (found_of_parts nest ps e ∙ h))
        ∙ sym (found_of_parts nest ps e))

    -- no part is always satisfied
    pub found_with_none : found_asking [] ≡ Satisfied
    found_with_none = found_of_parts nest [] e ∙ no_parts (atoms_with nest) e

    -- what is found of the parts of an expression, together, is found of the expression
    pub found_of_all : (E : syntax.Expression)
        → found_asking (conjuncts E) ≡ finding (precondition_events axioms nest state (syntax.Plain E) e)
    found_of_all E =
        found_of_parts nest (conjuncts E) e
        ∙ (ap finding (of_conjuncts (atoms_with nest) E e) ∙ sym (found_of_plain nest E e))
