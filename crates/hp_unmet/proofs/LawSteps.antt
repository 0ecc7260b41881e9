-- What the answer says of each number of first parts.
use Rattle.std.proofs.Common.{◌≡◌, ◌≢◌, ◌↔◌, ℕ, zero, suc, ◌+◌, ◌<◌, ◌≤◌, Bool, true, false, cond, ℤ, List, [], ◌∷◌, ◌++◌, length, map, take, Option, Some, None, refl, sym, ap, ◌∙◌, arith}
use Rattle.std.proofs.lemmas.List.{take_all}
use Rattle.hp_syntax.specs.declared.pattern.Span.{Span}
use Rattle.hp_syntax.specs.Events.{Event, Sat, Cut, Fault, Finding, Satisfied, Faulty, Undecided, Nothing, State, finding, finding_with}
use Rattle.hp_syntax.specs.Preconditions.{Keyed, Keys, NoKey, cut_with, keyed, keyed_by, precondition_events, put_in, sorted, sorted_events, sorts_before, up_to_sat}
use Rattle.hp_syntax.specs.Syntax as syntax
use Rattle.hp_syntax.specs.Terms.{Term, Symbol, Number, Listed}
use Rattle.hp_syntax.specs.Values.{Bindings, bound}
use Rattle.hp_unmet.specs.Conjunctions.{Conjunction, answer_by, answer_from, answer_of, answer_where, conjuncts, first_events, found, matched}
use Rattle.hp_unmet.specs.FirstUnmet.{IsFirstUnmet}
use Rattle.hp_unmet.specs.declared.unmet.Unmet.{Unmet}
use Rattle.hp_unmet.specs.declared.unmet.Unmet.TheVariants as unmets
use Rattle.hp_unmet.proofs.AnswerLemmas.{met_before, part_unmet}
use Rattle.hp_unmet.proofs.FindingLemmas.{asks, found_of_all}
use Rattle.hp_unmet.proofs.FoundLemmas.{keeps, none_where}

-- ---- events

-- no event is found with nothing but itself
cut_found : (x : Finding) → finding_with Cut x ≢ Nothing
cut_found Satisfied e = cc
cut_found (Faulty f) e = cc
cut_found Undecided e = cc
cut_found Nothing e = cc

-- where nothing is found there is no event
no_event : (xs : List Event) → finding xs ≡ Nothing → xs ≡ []
no_event [] e = refl
no_event (Sat b ∷ xs) e = absurd (let never : Satisfied ≡ Nothing = e in cc)
no_event (Cut ∷ xs) e = absurd (cut_found (finding xs) e)
no_event (Fault f ∷ xs) e = absurd (let never : Faulty f ≡ Nothing = e in cc)

-- ---- the answer of all parts

module _ (found : ℕ → Finding) where
  -- a part is told behind so many that are satisfied
  record IsTold (n left place : ℕ) : Type 0 where
    from : n ≤ place
    within : place < n + left
    met : found place ≡ Satisfied
    missing : found (place + 1) ≡ Nothing

  told_behind : (n left place : ℕ) → IsTold (n + 1) left place → IsTold n (suc left) place
  told_behind n left place h =
      let l = h.from in
      let m = h.within in
      record { from = omega arith; within = omega arith; met = h.met; missing = h.missing }

  told_step : (n left place : ℕ) (x : Finding) → found (n + 1) ≡ x → found n ≡ Satisfied
      → (found (n + 1) ≡ Satisfied → answer_from found (n + 1) left ≡ unmets.Part place → IsTold (n + 1) left place)
      → answer_by x n (answer_from found (n + 1) left) ≡ unmets.Part place → IsTold n (suc left) place
  told_step n left place Satisfied e met behind h = told_behind n left place (behind e h)
  told_step n left place Nothing e met behind h =
      let told : unmets.Part n ≡ unmets.Part place = h in
      let same : n ≡ place = cc in
      record {
        from = omega arith;
        within = omega arith;
        met = ap found (sym same) ∙ met;
        missing = ap (λ j. found (j + 1)) (sym same) ∙ e;
      }
  told_step n left place (Faulty f) e met behind h = absurd (let never : unmets.Unknown ≡ unmets.Part place = h in cc)
  told_step n left place Undecided e met behind h = absurd (let never : unmets.Unknown ≡ unmets.Part place = h in cc)

  is_told : (n left place : ℕ) → found n ≡ Satisfied → answer_from found n left ≡ unmets.Part place
      → IsTold n left place
  is_told n zero place met h = absurd (let never : unmets.None ≡ unmets.Part place = h in cc)
  is_told n (suc left) place met h =
      told_step n left place (found (n + 1)) refl met (λ e. is_told (n + 1) left place e) h

  none_step : (n left : ℕ) (x : Finding) → found (n + 1) ≡ x
      → (found (n + 1) ≡ Satisfied → answer_from found (n + 1) left ≡ unmets.None → found (n + 1 + left) ≡ Satisfied)
      → answer_by x n (answer_from found (n + 1) left) ≡ unmets.None → found (n + suc left) ≡ Satisfied
  none_step n left Satisfied e behind h =
      let here : n + suc left ≡ n + 1 + left = omega arith in ap found here ∙ behind e h
  none_step n left Nothing e behind h = absurd (let never : unmets.Part n ≡ unmets.None = h in cc)
  none_step n left (Faulty f) e behind h = absurd (let never : unmets.Unknown ≡ unmets.None = h in cc)
  none_step n left Undecided e behind h = absurd (let never : unmets.Unknown ≡ unmets.None = h in cc)

  -- where none is told all parts are satisfied
  all_satisfied : (n left : ℕ) → found n ≡ Satisfied → answer_from found n left ≡ unmets.None
      → found (n + left) ≡ Satisfied
  all_satisfied n zero met h = let here : n + 0 ≡ n = omega arith in ap found here ∙ met
  all_satisfied n (suc left) met h =
      none_step n left (found (n + 1)) refl (λ e. all_satisfied (n + 1) left e) h

-- ---- the laws

-- where the head matches, the answer isn't that it doesn't
never_by : (x : Finding) (n : ℕ) (behind : Unmet) → (behind ≡ unmets.Head → ⊥) → answer_by x n behind ≡ unmets.Head → ⊥
never_by Satisfied n behind never h = never h
never_by Nothing n behind never h = let k : unmets.Part n ≡ unmets.Head = h in cc
never_by (Faulty f) n behind never h = let k : unmets.Unknown ≡ unmets.Head = h in cc
never_by Undecided n behind never h = let k : unmets.Unknown ≡ unmets.Head = h in cc

never_head : (found : ℕ → Finding) (n left : ℕ) → answer_from found n left ≡ unmets.Head → ⊥
never_head found n zero h = let k : unmets.None ≡ unmets.Head = h in cc
never_head found n (suc left) h =
    never_by (found (n + 1)) n (answer_from found (n + 1) left) (never_head found (n + 1) left) h

module _ (rules : List syntax.Rule) (nest : ℕ) (state : State) (task : Term) (c : Conjunction) where
  abbrev own : Bindings → ℕ → Finding
  own e = found rules nest state c (Some e)

  is_first : (place : ℕ) (e : Bindings) → matched c task ≡ Some e → IsTold (own e) 0 (length c.parts) place
      → IsFirstUnmet rules nest state task c place
  is_first place e is h = record {
    bindings = e;
    matches = is;
    within = let l = h.within in omega arith;
    fewer = λ n l. met_before (own e) (keeps rules nest state c (Some e)) n place l h.met;
    more = λ n l.
        no_event (first_events rules nest state c (Some e) n)
        (keeps rules nest state c (Some e) (place + 1) n (omega arith)
        (λ k. let never : Nothing ≡ Satisfied = sym h.missing ∙ k in cc)
        ∙ h.missing);
  }

  first_by_match : (place : ℕ) (o : Option Bindings) → matched c task ≡ o
      → answer_where rules nest state c o ≡ unmets.Part place → IsFirstUnmet rules nest state task c place
  first_by_match place None is h = absurd (let never : unmets.Head ≡ unmets.Part place = h in cc)
  first_by_match place (Some e) is h =
      is_first place e is
      (is_told (own e) 0 (length c.parts) place (none_where rules nest state c e) h)

  -- a part that is told is the first that is unmet
  pub told_is_first : (place : ℕ) → answer_of rules nest state task c ≡ unmets.Part place
      → IsFirstUnmet rules nest state task c place
  told_is_first place h = first_by_match place (matched c task) refl h

  -- and the first that is unmet is told
  pub first_is_told : (place : ℕ) → IsFirstUnmet rules nest state task c place
      → answer_of rules nest state task c ≡ unmets.Part place
  first_is_told place h =
      ap (answer_where rules nest state c) h.matches
      ∙ sym (part_unmet rules nest state c (length c.parts) refl place (Some h.bindings)
      (record {
        within = h.within;
        met = h.fewer place (omega arith);
        missing = ap finding (h.more (place + 1) (omega arith));
      }))

  -- where none is told all are satisfied
  pub none_is_satisfied : (e : Bindings) → matched c task ≡ Some e → answer_of rules nest state task c ≡ unmets.None
      → own e (length c.parts) ≡ Satisfied
  none_is_satisfied e is h =
      let here : 0 + length c.parts ≡ length c.parts = omega arith in
      ap (own e) (sym here)
      ∙ all_satisfied (own e) 0 (length c.parts) (none_where rules nest state c e)
      (sym (ap (answer_where rules nest state c) is) ∙ h)

  -- the answer is that of a head that doesn't match exactly where it doesn't
  pub head_by : (o : Option Bindings) → matched c task ≡ o → (x : Unmet) → answer_where rules nest state c o ≡ x
      → (x ≡ unmets.Head) ↔ (o ≡ None)
  head_by None is x e = (λ h. refl, λ h. sym e)
  head_by (Some b) is x e = (λ h. absurd (never_head (own b) 0 (length c.parts) (e ∙ h)), λ h. absurd (cc))

  pub head_alone : (answer_of rules nest state task c ≡ unmets.Head) ↔ (matched c task ≡ None)
  head_alone = head_by (matched c task) refl (answer_of rules nest state task c) refl

-- ---- all parts

-- what is found of events is found of them up to the first satisfier
up_to_sat_finding : (xs : List Event) → finding (up_to_sat xs) ≡ finding xs
up_to_sat_finding [] = refl
up_to_sat_finding (Sat e ∷ xs) = refl
up_to_sat_finding (Cut ∷ xs) = ap (finding_with Cut) (up_to_sat_finding xs)
up_to_sat_finding (Fault f ∷ xs) = refl

-- ---- sorted events

-- where no event is sorted there is none
sorted_nothing : (k : syntax.Key) (xs : List Event) → finding xs ≡ Nothing
    → finding (sorted_events k.order (keyed k xs)) ≡ Nothing
sorted_nothing k xs h = ap (λ ys. finding (sorted_events k.order (keyed k ys))) (no_event xs h)

-- where a satisfier is put among others there is one
put_found : (before : ℤ → ℤ → Bool) (x : ℤ × Bindings) (ys : List (ℤ × Bindings)) (zs : List Event)
    → finding (map (λ y. Sat y.1) (put_in before x ys) ++ zs) ≡ Satisfied
put_found before x [] zs = refl
put_found before x (y ∷ ys) zs = by (before y.0 x.0)
  where
    by : (b : Bool) → finding (map (λ z. Sat z.1) (cond b (y ∷ put_in before x ys) (x ∷ y ∷ ys)) ++ zs) ≡ Satisfied
    by true = refl
    by false = refl

-- nothing is found of sorted events only where there are none to be sorted, and no cut
no_keys : (order : syntax.Order) (y : Keyed) → finding (sorted_events order y) ≡ Nothing → y ≡ Keys [] false
no_keys order (NoKey f) h = absurd (let never : Faulty f ≡ Nothing = h in cc)
no_keys order (Keys [] true) h = absurd (let never : Undecided ≡ Nothing = h in cc)
no_keys order (Keys [] false) h = refl
no_keys order (Keys (x ∷ xs) cut) h =
    let before = sorts_before order in
    let some = put_found before x (sorted before xs) (cond cut (Cut ∷ []) []) in
    absurd (let never : Satisfied ≡ Nothing = sym some ∙ h in cc)

-- one that is to be sorted is one of some
sat_keyed : (s : Span) (o : Option Term) (e : Bindings) (rest : Keyed) → keyed_by s o e rest ≡ Keys [] false → ⊥
sat_keyed s None e rest h = cc
sat_keyed s (Some (Symbol name)) e rest h = cc
sat_keyed s (Some (Listed ts)) e rest h = cc
sat_keyed s (Some (Number n)) e (NoKey f) h = cc
sat_keyed s (Some (Number n)) e (Keys xs cut) h = cc

-- and a cut is kept
cut_keyed : (rest : Keyed) → cut_with rest ≡ Keys [] false → ⊥
cut_keyed (NoKey f) h = cc
cut_keyed (Keys xs cut) h = cc

no_keyed : (k : syntax.Key) (xs : List Event) → keyed k xs ≡ Keys [] false → finding xs ≡ Nothing
no_keyed k [] h = refl
no_keyed k (Sat e ∷ xs) h = absurd (sat_keyed k.span (bound e k.var) e (keyed k xs) h)
no_keyed k (Cut ∷ xs) h = absurd (cut_keyed (keyed k xs) h)
no_keyed k (Fault f ∷ xs) h = absurd cc

-- so where nothing is found once they are sorted, there is no event
nothing_sorted : (k : syntax.Key) (xs : List Event) → finding (sorted_events k.order (keyed k xs)) ≡ Nothing
    → finding xs ≡ Nothing
nothing_sorted k xs h = no_keyed k xs (no_keys k.order (keyed k xs) h)

-- ---- all parts of a precondition

module _ (axioms : List syntax.Axiom) (nest : ℕ) (state : State) (s : Span) (E : syntax.Expression) (e : Bindings) where
  abbrev found_of : syntax.Precondition → Finding
  found_of pre = finding (precondition_events axioms nest state pre e)

  -- all parts of an expression, together
  abbrev all_parts : syntax.Precondition
  all_parts = asks axioms state s (take (length (conjuncts E)) (conjuncts E))

  -- what is found with them is found of the expression
  pub all_plain : found_of all_parts ≡ found_of (syntax.Plain E)
  all_plain =
      ap (λ ps. found_of (asks axioms state s ps)) (take_all (length (conjuncts E)) (conjuncts E) (omega arith))
      ∙ found_of_all axioms state s nest e E

  -- and of its first satisfier
  pub all_first : found_of all_parts ≡ found_of (syntax.First E)
  unfolding precondition_events
  all_first = all_plain ∙ sym (up_to_sat_finding (precondition_events axioms nest state (syntax.Plain E) e))

  -- with them nothing is found where nothing is found of a sorted precondition, and the other way round
  pub all_sorted : (k : syntax.Key) → found_of all_parts ≡ Nothing → found_of (syntax.Sorted k E) ≡ Nothing
  unfolding precondition_events
  all_sorted k h =
      sorted_nothing k (precondition_events axioms nest state (syntax.Plain E) e) (sym all_plain ∙ h)

  pub sorted_all : (k : syntax.Key) → found_of (syntax.Sorted k E) ≡ Nothing → found_of all_parts ≡ Nothing
  unfolding precondition_events
  sorted_all k h = all_plain ∙ nothing_sorted k (precondition_events axioms nest state (syntax.Plain E) e) h
