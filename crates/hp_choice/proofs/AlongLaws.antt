-- The first parts of a conjunction that are satisfied one after another, together.
use Rattle.std.proofs.Common.{◌≡◌, ℕ, suc, ◌≤◌, List, [], ◌∷◌, ◌++◌, length, take, refl, arith, ap, sym, ◌∙◌}
use Rattle.hp_syntax.specs.declared.pattern.Span.{Span}
use Rattle.hp_syntax.specs.Syntax.{And, Axiom, Expression}
use Rattle.hp_syntax.specs.Events.{Event, Sat, Cut, Fault, Finding, Satisfied, Faulty, Undecided, Nothing, State, events, events_of_all, finding, finding_with, sat, through}
use Rattle.hp_syntax.specs.Values.{Bindings}
use Rattle.hp_syntax.specs.Views.{as_expressions}
use Rattle.hp_suspended.specs.Settings.{atoms_at}
use Rattle.hp_suspended.proofs.RangeLemmas.{sat_is}
use Rattle.hp_choice.specs.Asking.{along, along_by}

-- what is satisfied behind a cut is so without it
without_cut : (x : Finding) → finding_with Cut x ≡ Satisfied → x ≡ Satisfied
without_cut Satisfied h = refl
without_cut (Faulty f) h = absurd cc
without_cut Undecided h = absurd cc
without_cut Nothing h = absurd cc

-- what is satisfied stays so before further events
satisfied_before : (xs ys : List Event) → finding xs ≡ Satisfied → finding (xs ++ ys) ≡ Satisfied
satisfied_before [] ys h = absurd cc
satisfied_before (Sat e ∷ xs) ys h = refl
satisfied_before (Cut ∷ xs) ys h = ap (finding_with Cut) (satisfied_before xs ys (without_cut (finding xs) h))
satisfied_before (Fault f ∷ xs) ys h = absurd cc

module _ (axioms : List Axiom) (nest : ℕ) (st : State) where
  -- so many of the first parts have these events together
  abbrev together : ℕ → List Expression → Bindings → List Event
  together n ps = events_of_all (atoms_at axioms nest st) (as_expressions (take n ps))

  satisfied_by : (p : Expression) (ps : List Expression) (e : Bindings)
      → ((b : Bindings) → finding (together (along axioms nest st ps b) ps b) ≡ Satisfied) → (xs : List Event)
      → sat axioms nest st p e ≡ xs → finding (together (along_by xs (along axioms nest st ps)) (p ∷ ps) e) ≡ Satisfied
  unfolding events
  satisfied_by p ps e others [] is = refl
  satisfied_by p ps e others (Sat b ∷ more) is =
      let rest = together (along axioms nest st ps b) ps in
      ap (λ xs. finding (through xs rest)) (sym (sat_is axioms nest st p e) ∙ is)
      ∙ satisfied_before (rest b) (through more rest) (others b)
  satisfied_by p ps e others (Cut ∷ more) is = refl
  satisfied_by p ps e others (Fault f ∷ more) is = refl

  satisfied_along : (ps : List Expression) (e : Bindings)
      → finding (together (along axioms nest st ps e) ps e) ≡ Satisfied
  unfolding events
  satisfied_along [] e = refl
  satisfied_along (p ∷ ps) e = satisfied_by p ps e (satisfied_along ps) (sat axioms nest st p e) refl

  -- the first parts that are satisfied one after another are satisfied together
  pub along_satisfied : (s : Span) (ps : List Expression) (e : Bindings)
      → finding (sat axioms nest st (And s (as_expressions (take (along axioms nest st ps e) ps))) e) ≡ Satisfied
  unfolding events
  along_satisfied s ps e =
      ap finding (sat_is axioms nest st (And s (as_expressions (take (along axioms nest st ps e) ps))) e)
      ∙ satisfied_along ps e

  within_by : (n : ℕ) (rest : Bindings → ℕ) → ((b : Bindings) → rest b ≤ n) → (xs : List Event)
      → along_by xs rest ≤ suc n
  within_by n rest few [] = omega arith
  within_by n rest few (Sat b ∷ more) = let own = few b in omega (arith, own)
  within_by n rest few (Cut ∷ more) = omega arith
  within_by n rest few (Fault f ∷ more) = omega arith

  -- they are no more than there are
  pub along_within : (ps : List Expression) (e : Bindings) → along axioms nest st ps e ≤ length ps
  along_within [] e = omega arith
  along_within (p ∷ ps) e =
      let own = within_by (length ps) (along axioms nest st ps) (along_within ps) (sat axioms nest st p e) in
      omega (arith, own)
