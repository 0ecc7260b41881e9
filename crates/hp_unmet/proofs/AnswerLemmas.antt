-- The answer, by what is found with all parts and with some.
use Rattle.std.proofs.Common.{◌≡◌, ◌≢◌, ℕ, zero, suc, ◌+◌, ◌<◌, ◌≤◌, true, false, List, length, Option, Some, None, refl, sym, ap, ◌∙◌, arith, ⊎_elim}
use Rattle.std.proofs.lemmas.Bool.{cases_lt}
use Rattle.hp_syntax.specs.Events.{Finding, Satisfied, Faulty, Undecided, Nothing, State}
use Rattle.hp_syntax.specs.Syntax as syntax
use Rattle.hp_syntax.specs.Terms.{Term, Symbol, Number, Listed, NoTerm, More}
use Rattle.hp_syntax.specs.Values.{Bindings}
use Rattle.hp_unmet.specs.Conjunctions.{Conjunction, answer_by, answer_from, answer_if, answer_where, found, matched}
use Rattle.hp_unmet.specs.Said.{is_atom}
use Rattle.hp_unmet.specs.Trials.{IsFirstMissing, is_in_doubt, is_satisfied}
use Rattle.hp_unmet.specs.declared.unmet.Unmet.{Unmet}
use Rattle.hp_unmet.specs.declared.unmet.Unmet.TheVariants as unmets
use Rattle.hp_unmet.proofs.FoundLemmas.{keeps, none_where}

-- ---- what is satisfied

pub not_met : (x : Finding) → false ≡ is_satisfied x → x ≢ Satisfied
not_met Satisfied e = λ h. let never : false ≡ true = e in cc
not_met (Faulty f) e = λ h. cc
not_met Undecided e = λ h. cc
not_met Nothing e = λ h. cc

-- where a limit or a fault is met nothing is satisfied
in_doubt : (x : Finding) → is_in_doubt x ≡ true → x ≢ Satisfied
in_doubt Satisfied e = λ h. let never : false ≡ true = e in cc
in_doubt (Faulty f) e = λ h. cc
in_doubt Undecided e = λ h. cc
in_doubt Nothing e = λ h. cc

-- ---- the answer

module _ (found : ℕ → Finding)
    (keeps : (j k : ℕ) → j ≤ k → found j ≢ Satisfied → found k ≡ found j) where
  -- what is satisfied with more parts is satisfied with fewer
  met_by : (x y : Finding) → (x ≢ Satisfied → y ≡ x) → y ≡ Satisfied → x ≡ Satisfied
  met_by Satisfied y h e = refl
  met_by (Faulty f) y h e = sym (h (λ k. cc)) ∙ e
  met_by Undecided y h e = sym (h (λ k. cc)) ∙ e
  met_by Nothing y h e = sym (h (λ k. cc)) ∙ e

  pub met_before : (j k : ℕ) → j ≤ k → found k ≡ Satisfied → found j ≡ Satisfied
  met_before j k l e = met_by (found j) (found k) (keeps j k l) e

  -- with one part more that is satisfied the answer is that behind it
  goes_on : (n left : ℕ) → found (n + 1) ≡ Satisfied → answer_from found n (suc left) ≡ answer_from found (n + 1) left
  goes_on n left e = ap (λ x. answer_by x n (answer_from found (n + 1) left)) e

  -- where all parts are satisfied no part is the answer
  pub all_met : (n left : ℕ) → found (n + left) ≡ Satisfied → answer_from found n left ≡ unmets.None
  all_met n zero e = refl
  all_met n (suc left) e =
      let here : n + suc left ≡ n + 1 + left = omega arith in
      goes_on n left (met_before (n + 1) (n + suc left) (omega arith) e)
      ∙ all_met (n + 1) left (ap found (sym here) ∙ e)

  -- the first part with which nothing is found is told
  part_by : (n left place : ℕ) → n ≤ place → place < n + left → found place ≡ Satisfied → found (place + 1) ≡ Nothing
      → answer_from found n left ≡ unmets.Part place
  part_by n zero place l m met missing = absurd (omega arith)
  part_by n (suc left) place l m met missing =
      ⊎_elim
      (λ k. goes_on n left (met_before (n + 1) place (omega arith) met)
      ∙ part_by (n + 1) left place (omega arith) (omega arith) met missing)
      (λ k. let same : n ≡ place = omega arith in
      ap (λ x. answer_by x n (answer_from found (n + 1) left)) (ap (λ j. found (j + 1)) same ∙ missing)
      ∙ ap (λ j. unmets.Part j) same) (cases_lt n place)

  pub part_told : (count place : ℕ) → IsFirstMissing found count place
      → answer_from found 0 count ≡ unmets.Part place
  part_told count place h = part_by 0 count place (omega arith) (let l = h.within in omega arith) h.met h.missing

  -- where a limit or a fault is met with all parts, it's met with one part more or behind that
  doubt_step : (n left : ℕ) (x : Finding) → found (n + 1) ≡ x
      → (found (n + 1) ≡ Satisfied → answer_from found (n + 1) left ≡ unmets.Unknown)
      → is_in_doubt (found (n + suc left)) ≡ true
      → answer_by x n (answer_from found (n + 1) left) ≡ unmets.Unknown
  doubt_step n left Satisfied e behind doubt = behind e
  doubt_step n left Nothing e behind doubt =
      let same : found (n + suc left) ≡ Nothing =
      keeps (n + 1) (n + suc left) (omega arith)
      (λ h. let never : Nothing ≡ Satisfied = sym e ∙ h in cc) ∙ e in
      let never : false ≡ true = sym (ap is_in_doubt same) ∙ doubt in absurd (cc)
  doubt_step n left (Faulty f) e behind doubt = refl
  doubt_step n left Undecided e behind doubt = refl

  doubt_by : (n left : ℕ) → found n ≡ Satisfied → is_in_doubt (found (n + left)) ≡ true
      → answer_from found n left ≡ unmets.Unknown
  doubt_by n zero met doubt =
      let here : n + 0 ≡ n = omega arith in
      let never : false ≡ true = sym (ap is_in_doubt (ap found here ∙ met)) ∙ doubt in absurd (cc)
  doubt_by n (suc left) met doubt =
      let here : n + suc left ≡ n + 1 + left = omega arith in
      doubt_step n left (found (n + 1)) refl
      (λ e. doubt_by (n + 1) left e (ap (λ j. is_in_doubt (found j)) (sym here) ∙ doubt)) doubt

  pub doubt_told : (count : ℕ) → found 0 ≡ Satisfied → is_in_doubt (found count) ≡ true
      → answer_from found 0 count ≡ unmets.Unknown
  doubt_told count met doubt =
      let here : 0 + count ≡ count = omega arith in
      doubt_by 0 count met (ap (λ j. is_in_doubt (found j)) here ∙ doubt)

module _ (rules : List syntax.Rule) (nest : ℕ) (state : State) (c : Conjunction) (count : ℕ)
    (all : length c.parts ≡ count) where
  abbrev own : Option Bindings → ℕ → Finding
  own o = found rules nest state c o

  own_keeps : (o : Option Bindings) (j k : ℕ) → j ≤ k → own o j ≢ Satisfied → own o k ≡ own o j
  own_keeps = keeps rules nest state c

  abbrev answered : Option Bindings → Unmet
  answered o = answer_where rules nest state c o

  -- from bindings the answer is that of all parts
  answered_by : (b : Bindings) (u : Unmet) → answer_from (own (Some b)) 0 count ≡ u → u ≡ answered (Some b)
  answered_by b u e = sym (ap (answer_from (own (Some b)) 0) all ∙ e)

  -- all parts are satisfied
  pub none_unmet : (o : Option Bindings) → own o count ≡ Satisfied → unmets.None ≡ answered o
  none_unmet None e = absurd (let never : Nothing ≡ Satisfied = e in cc)
  none_unmet (Some b) e =
      let here : 0 + count ≡ count = omega arith in
      answered_by b unmets.None
      (all_met (own (Some b)) (own_keeps (Some b)) 0 count (ap (own (Some b)) here ∙ e))

  -- a part is the first with which nothing is found
  pub part_unmet : (place : ℕ) (o : Option Bindings) → IsFirstMissing (own o) count place
      → unmets.Part place ≡ answered o
  part_unmet place None h = absurd (let never : Nothing ≡ Satisfied = h.met in cc)
  part_unmet place (Some b) h =
      answered_by b (unmets.Part place) (part_told (own (Some b)) (own_keeps (Some b)) count place h)

  -- a limit or a fault is met
  pub unknown_unmet : (o : Option Bindings) → is_in_doubt (own o count) ≡ true → unmets.Unknown ≡ answered o
  unknown_unmet None doubt = absurd (let never : false ≡ true = doubt in cc)
  unknown_unmet (Some b) doubt =
      answered_by b unmets.Unknown
      (doubt_told (own (Some b)) (own_keeps (Some b)) count (none_where rules nest state c b) doubt)

  -- with some first parts a limit or a fault is met, and so it is with all
  pub unknown_with : (o : Option Bindings) (j : ℕ) → j ≤ count → is_in_doubt (own o j) ≡ true
      → unmets.Unknown ≡ answered o
  unknown_with o j within doubt =
      unknown_unmet o (ap is_in_doubt (own_keeps o j count within (in_doubt (own o j) doubt)) ∙ doubt)

-- ---- tasks that are no atoms

pub no_match : (c : Conjunction) (t : Term) → is_atom t ≡ false → matched c t ≡ None
no_match c (Symbol name) h = refl
no_match c (Number n) h = refl
no_match c (Listed NoTerm) h = refl
no_match c (Listed (More (Symbol name) ts)) h = absurd (let k : true ≡ false = h in cc)
no_match c (Listed (More (Number n) ts)) h = refl
no_match c (Listed (More (Listed us) ts)) h = refl

module _ (rules : List syntax.Rule) (nest : ℕ) (state : State) (t : Term) where
  -- no head matches one
  pub unmatched_head : (o : Option Conjunction) (c : Conjunction) → Some c ≡ o → is_atom t ≡ false
      → unmets.Head ≡ answer_if rules nest state t o
  unmatched_head o c is h =
      sym (ap (answer_if rules nest state t) (sym is)
      ∙ ap (answer_where rules nest state c) (no_match c t h))

  pub unasked : (o : Option Conjunction) → None ≡ o → unmets.None ≡ answer_if rules nest state t o
  unasked o is = ap (answer_if rules nest state t) is
