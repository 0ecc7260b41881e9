-- A satisfier against a part makes it false, and each negation or `forall` without an event has one.
use Rattle.std.proofs.Common.{◌≡◌, ◌≢◌, ℕ, zero, suc, ◌+◌, Bool, true, cond, List, [], ◌∷◌, ◌++◌, take, Some, is_some, slice_get, refl, sym, ap, ◌∙◌, arith}
use Rattle.std.specs.Option.{option_and_then}
use Rattle.std.proofs.lemmas.Option.{same_Some}
use Rattle.hp_syntax.specs.declared.fault.RunFault.{RunFault}
use Rattle.hp_syntax.specs.declared.pattern.Span.{Span}
use Rattle.hp_syntax.specs.Events.{Event, Sat, Cut, Fault, Finding, Satisfied, Faulty, Undecided, Nothing, State, axioms_of, events, events_of_all, finding, finding_with, negated, sat, through}
use Rattle.hp_syntax.specs.Preconditions.{heard, precondition_events}
use Rattle.hp_syntax.specs.Syntax as syntax
use Rattle.hp_syntax.specs.Terms.{Term}
use Rattle.hp_syntax.specs.Values.{Bindings}
use Rattle.hp_syntax.specs.Views.{as_expressions}
use Rattle.hp_suspended.specs.Settings.{atoms_at}
use Rattle.hp_suspended.proofs.RangeLemmas.{sat_is}
use Rattle.hp_choice.specs.FirstSatisfier.{first_sat, first_that}
use Rattle.hp_choice.specs.Tests.{is_nothing}
use Rattle.hp_unmet.specs.Against.{IsDenial, against_part, satisfier_against}
use Rattle.hp_unmet.specs.Clauses.{bindings_met}
use Rattle.hp_unmet.specs.Conjunctions.{Conjunction, answer_of, first_events}
use Rattle.hp_unmet.specs.FirstUnmet.{IsFirstUnmet}
use Rattle.hp_unmet.specs.declared.unmet.Unmet.TheVariants as unmets
use Rattle.hp_unmet.proofs.ExpressionNodes.{known_some}
use Rattle.hp_unmet.proofs.FindingLemmas.{heard_first, one_part, parts_behind}
use Rattle.hp_unmet.proofs.LawSteps.{told_is_first}

-- ---- events

-- where events have a first satisfier they are satisfied
first_met : (xs : List Event) (b : Bindings) → first_sat xs ≡ Some b → finding xs ≡ Satisfied
first_met [] b e = absurd cc
first_met (Sat a ∷ xs) b e = refl
first_met (Cut ∷ xs) b e = ap (finding_with Cut) (first_met xs b e)
first_met (Fault f ∷ xs) b e = absurd cc

-- what is satisfied with a cut before it is satisfied
cut_met : (x : Finding) → finding_with Cut x ≡ Satisfied → x ≡ Satisfied
cut_met Satisfied e = refl
cut_met (Faulty f) e = absurd (let never : Faulty f ≡ Satisfied = e in cc)
cut_met Undecided e = absurd (let never : Undecided ≡ Satisfied = e in cc)
cut_met Nothing e = absurd (let never : Undecided ≡ Satisfied = e in cc)

-- where events are satisfied they have a first satisfier
met_first : (xs : List Event) → finding xs ≡ Satisfied → is_some (first_sat xs) ≡ true
met_first [] e = absurd (let never : Nothing ≡ Satisfied = e in cc)
met_first (Sat a ∷ xs) e = refl
met_first (Cut ∷ xs) e = met_first xs (cut_met (finding xs) e)
met_first (Fault f ∷ xs) e = absurd (let never : Faulty f ≡ Satisfied = e in cc)

-- a negation without an event denies what is satisfied
denies : (x : Finding) (e : Bindings) → negated x e ≡ [] → x ≡ Satisfied
denies Satisfied e h = refl
denies (Faulty f) e h = absurd (let never : Fault f ∷ [] ≡ [] = h in cc)
denies Undecided e h = absurd (let never : Cut ∷ [] ≡ [] = h in cc)
denies Nothing e h = absurd (let never : Sat e ∷ [] ≡ [] = h in cc)

-- ---- the events of a `forall`

module _ (found : Bindings → Finding) where
  abbrev passes : Bindings → Bool
  passes b = is_nothing (found b)

  -- the events that decide a `forall` whose first expression meets these
  abbrev decided : List Event → List Event
  decided xs = through xs (λ b. negated (found b) b)

  abbrev HasNoFault : List Event → Type 0
  HasNoFault xs = (f : RunFault) → finding xs ≢ Faulty f

  false_step : (x : Finding) (a b : Bindings) (xs : List Event)
      → cond (is_nothing x) (Some a) (first_that passes xs) ≡ Some b → HasNoFault (negated x a ++ decided xs)
      → (first_that passes xs ≡ Some b → HasNoFault (decided xs) → finding (decided xs) ≡ Satisfied)
      → finding (negated x a ++ decided xs) ≡ Satisfied
  false_step Satisfied a b xs e none more = more e none
  false_step (Faulty f) a b xs e none more = absurd (none f refl)
  false_step Undecided a b xs e none more =
      ap (finding_with Cut) (more e (λ f h. none f (ap (finding_with Cut) h)))
  false_step Nothing a b xs e none more = refl

  -- where a satisfier passes, and no fault is met, they are satisfied
  pub false_by : (xs : List Event) (b : Bindings) → first_that passes xs ≡ Some b → HasNoFault (decided xs)
      → finding (decided xs) ≡ Satisfied
  false_by [] b e none = absurd cc
  false_by (Sat a ∷ xs) b e none = false_step (found a) a b xs e none (false_by xs b)
  false_by (Cut ∷ xs) b e none =
      ap (finding_with Cut) (false_by xs b e (λ f h. none f (ap (finding_with Cut) h)))
  false_by (Fault f ∷ xs) b e none = absurd cc

  passing_step : (x : Finding) (a : Bindings) (xs : List Event) → finding (negated x a ++ decided xs) ≡ Satisfied
      → (finding (decided xs) ≡ Satisfied → is_some (first_that passes xs) ≡ true)
      → is_some (cond (is_nothing x) (Some a) (first_that passes xs)) ≡ true
  passing_step Satisfied a xs e more = more e
  passing_step (Faulty f) a xs e more = absurd (let never : Faulty f ≡ Satisfied = e in cc)
  passing_step Undecided a xs e more = more (cut_met (finding (decided xs)) e)
  passing_step Nothing a xs e more = refl

  -- where they are satisfied, a satisfier passes
  pub passing : (xs : List Event) → finding (decided xs) ≡ Satisfied → is_some (first_that passes xs) ≡ true
  passing [] e = absurd (let never : Nothing ≡ Satisfied = e in cc)
  passing (Sat a ∷ xs) e = passing_step (found a) a xs e (passing xs)
  passing (Cut ∷ xs) e = passing xs (cut_met (finding (decided xs)) e)
  passing (Fault f ∷ xs) e = absurd (let never : Faulty f ≡ Satisfied = e in cc)

-- ---- negations and `forall`s

module _ (axioms : List syntax.Axiom) (nest : ℕ) (state : State) where
  -- a negation is decided by what its expression meets
  sat_not : (s : Span) (p : syntax.Expression) (e : Bindings) → sat axioms nest state (syntax.Not s p) e
      ≡ negated (finding (sat axioms nest state p e)) e
  unfolding events
  sat_not s p e =
      sat_is axioms nest state (syntax.Not s p) e
      ∙ ap (λ xs. negated (finding xs) e) (sym (sat_is axioms nest state p e))

  abbrev found : syntax.Expression → Bindings → Finding
  found z b = finding (sat axioms nest state z b)

  -- a `forall` is decided by what its first expression meets, with a negation of its second for each satisfier
  sat_forall : (s : Span) (vars : List ℕ) (y z : syntax.Expression) (e : Bindings)
      → sat axioms nest state (syntax.Forall s vars y z) e
      ≡ negated (finding (decided (found z) (sat axioms nest state y e))) e
  unfolding events
  sat_forall s vars y z e =
      let at' = sat_is axioms nest state in
      at' (syntax.Forall s vars y z) e
      ∙ sym (λ k. negated (finding (through (at' y e k) (λ b. negated (finding (at' z b k)) b))) e)

  -- where a satisfier makes a negation false, it has no event
  pub negation_false : (s : Span) (p : syntax.Expression) (e b : Bindings)
      → satisfier_against axioms nest state (syntax.Not s p) e ≡ Some b → sat axioms nest state (syntax.Not s p) e ≡ []
  negation_false s p e b is =
      sat_not s p e ∙ ap (λ x. negated x e) (first_met (sat axioms nest state p e) b is)

  -- where one makes a `forall` false, it has no event, unless it is a fault
  pub forall_false : (s : Span) (vars : List ℕ) (y z : syntax.Expression) (e b : Bindings)
      → satisfier_against axioms nest state (syntax.Forall s vars y z) e ≡ Some b
      → ((f : RunFault) → sat axioms nest state (syntax.Forall s vars y z) e ≢ Fault f ∷ [])
      → sat axioms nest state (syntax.Forall s vars y z) e ≡ []
  forall_false s vars y z e b is none =
      sat_forall s vars y z e
      ∙ ap (λ x. negated x e)
      (false_by (found z) (sat axioms nest state y e) b is
      (λ f h. none f (sat_forall s vars y z e ∙ ap (λ x. negated x e) h)))

  -- for each negation or `forall` without an event there is a satisfier against it
  pub against_there : (part : syntax.Expression) (e : Bindings) → IsDenial part → sat axioms nest state part e ≡ []
      → is_some (satisfier_against axioms nest state part e) ≡ true
  against_there (syntax.Not s p) e denial none =
      met_first (sat axioms nest state p e)
      (denies (found p e) e (sym (sat_not s p e) ∙ none))
  against_there (syntax.Forall s vars y z) e denial none =
      passing (found z) (sat axioms nest state y e)
      (denies (finding (decided (found z) (sat axioms nest state y e))) e (sym (sat_forall s vars y z e) ∙ none))
  against_there (syntax.Holds s a) e denial none = absurd denial
  against_there (syntax.And s ps) e denial none = absurd denial
  against_there (syntax.Or s ps) e denial none = absurd denial
  against_there (syntax.Assign s v value) e denial none = absurd denial
  against_there (syntax.Test s call) e denial none = absurd denial

-- ---- the first unmet part

-- where none of events is heard there is none
heard_none : (xs : List Event) → heard xs ≡ [] → xs ≡ []
heard_none [] h = refl
heard_none (Sat a ∷ xs) h = absurd (let never : Sat a ∷ heard xs ≡ [] = h in cc)
heard_none (Cut ∷ xs) h = absurd (let never : Cut ∷ heard xs ≡ [] = h in cc)
heard_none (Fault f ∷ xs) h = absurd (let never : Fault f ∷ [] ≡ [] = h in cc)

-- where two lists together have nothing the first has nothing
none_first : (xs ys : List Event) → xs ++ ys ≡ [] → xs ≡ []
none_first [] ys h = refl
none_first (x ∷ xs) ys h = absurd (let never : x ∷ (xs ++ ys) ≡ [] = h in cc)

-- where there is no event in the place of any satisfier, there is none in that of the first
none_through : (xs : List Event) (f : Bindings → List Event) (b : Bindings) → first_sat xs ≡ Some b → through xs f ≡ []
    → f b ≡ []
none_through [] f b e h = absurd cc
none_through (Sat a ∷ xs) f b e h =
    let same : a ≡ b = same_Some a b e in
    ap f (sym same) ∙ none_first (f a) (through xs f) h
none_through (Cut ∷ xs) f b e h = absurd (let never : Cut ∷ through xs f ≡ [] = h in cc)
none_through (Fault x ∷ xs) f b e h = absurd cc

-- one of the first elements more is the one at the next place
take_next : {A : Type 0} (xs : List A) (n : ℕ) (x : A) → slice_get xs n ≡ Some x → take (suc n) xs ≡ take n xs ++ x ∷ []
take_next [] n x e = absurd cc
take_next (y ∷ ys) zero x e = let same : y ≡ x = same_Some y x e in ap (λ z. z ∷ []) same
take_next (y ∷ ys) (suc n) x e = ap (λ zs. y ∷ zs) (take_next ys n x e)

module _ (rules : List syntax.Rule) (nest : ℕ) (state : State) (task : Term) (c : Conjunction) (place : ℕ)
    (part : syntax.Expression) (at' : slice_get c.parts place ≡ Some part) where
  abbrev axioms : List syntax.Axiom
  axioms = axioms_of rules

  -- what so many of the first parts meet under bindings
  abbrev met : ℕ → Bindings → List Event
  met n e = events_of_all (atoms_at axioms nest state) (as_expressions (take n c.parts)) e

  first_are : (n : ℕ) (e : Bindings) → first_events rules nest state c (Some e) n ≡ heard (met n e)
  unfolding precondition_events events
  first_are n e = ap heard (sat_is axioms nest state (syntax.And c.span (as_expressions (take n c.parts))) e)

  -- where nothing is met with one part more, it meets nothing under the bindings by those before it
  none_after : (e b : Bindings) → first_sat (met place e) ≡ Some b → met (suc place) e ≡ []
      → sat axioms nest state part b ≡ []
  none_after e b first none =
      let atoms = atoms_at axioms nest state in
      let next : met (suc place) e ≡ through (met place e) (λ x. events_of_all atoms (as_expressions (part ∷ [])) x) =
      ap (λ ps. events_of_all atoms (as_expressions ps) e) (take_next c.parts place part at')
      ∙ parts_behind atoms (take place c.parts) (part ∷ []) e in
      sat_is axioms nest state part b
      ∙ (sym (one_part atoms part b)
      ∙ none_through (met place e) (λ x. events_of_all atoms (as_expressions (part ∷ [])) x) b first (sym next ∙ none))

  against_first : IsDenial part → IsFirstUnmet rules nest state task c place
      → is_some (against_part rules nest state task c place part) ≡ true
  against_first denial h =
      let e = h.bindings in
      let first = known_some (first_sat (first_events rules nest state c (Some e) place))
      (met_first (first_events rules nest state c (Some e) place) (h.fewer place (omega arith))) in
      let own : first_sat (met place e) ≡ Some first.0 =
      sym (heard_first (λ b. true) (met place e)) ∙ (ap first_sat (sym (first_are place e)) ∙ first.1) in
      let next : suc place ≡ place + 1 = omega arith in
      let none : met (suc place) e ≡ [] =
      heard_none (met (suc place) e)
      (sym (first_are (suc place) e) ∙ h.more (suc place) (omega arith)) in
      let bound : bindings_met rules nest state task c place ≡ Some first.0 =
      ap (λ o. first_sat (first_events rules nest state c o place)) h.matches ∙ first.1 in
      ap (λ o. is_some (option_and_then (satisfier_against axioms nest state part) o)) bound
      ∙ against_there axioms nest state part first.0 denial (none_after e first.0 own none)

  -- where the first unmet part is a negation or a `forall` there is a satisfier against it
  pub against_answered : answer_of rules nest state task c ≡ unmets.Part place → IsDenial part
      → is_some (against_part rules nest state task c place part) ≡ true
  against_answered told denial = against_first denial (told_is_first rules nest state task c place told)
