-- Lists of satisfiers that are given one at a time.
use Rattle.std.proofs.Common.{◌≡◌, ℕ, zero, suc, ◌+◌, ◌<◌, ◌≤◌, Option, None, Some, List, [], ◌∷◌, length, drop, get_or, slice_get, sym, ◌∙◌, ap, subst, arith}
use Rattle.std.proofs.lemmas.List.{length-replicate, drop_all, at_drop_more}
use Rattle.std.proofs.lemmas.List.Elements.{All-get_or}
use Rattle.hp_syntax.specs.declared.fault.RunFault.{RunFault}
use Rattle.hp_syntax.specs.Terms.{Term}
use Rattle.hp_syntax.specs.Events as plain
use Rattle.hp_syntax.specs.Preconditions.{heard}
use Rattle.hp_eval.proofs.SlotLemmas.{binds_vars, undone_above}
use Rattle.hp_eval.specs.Slotted.{Slotted, AreBelow, Binds, no_bindings, undone, bindings_of}
use Rattle.hp_answers.specs.declared.answer.Answer.{Answer}
use Rattle.hp_answers.specs.declared.answer.Answer.TheVariants.{Sat, Cut, Fault}
use Rattle.hp_answers.specs.AnswerViews.{answer_event, answer_events, Fits, AllFit}
use Rattle.hp_satisfiers.specs.Listed.{FitsListed, left_from}

module _ (kept : ℕ) (found : List Answer) (s : Slotted) (h : FitsListed kept found s) where
  -- at the start there are as many variables
  start_vars : length (undone 0 s).values ≡ length s.values
  start_vars = ap (λ e. length e.values) h.blank ∙ length-replicate {A = Option ℕ} (length s.values) None

  -- the list fits the slots of the start
  pub start_fits : (start : Slotted) (xs : List Answer) → start ≡ undone 0 s → xs ≡ found
      → AllFit (length start.values) kept xs
  start_fits start xs e same =
      subst (λ ys. AllFit (length start.values) kept ys) (sym same)
      (subst (λ n. AllFit n kept found) (sym (ap (λ x. length x.values) e ∙ start_vars)) h.fit)

  -- the list fits slots that bind above the start
  pub given_fits : (new : Slotted) → Binds (undone 0 s) new → AreBelow kept new → FitsListed kept found new
  given_fits new b below =
      let vars = binds_vars (undone 0 s) new b ∙ start_vars in
      record {
        fit = subst (λ n. AllFit n kept found) (sym vars) h.fit;
        blank = undone_above 0 s new (omega arith) b ∙ (h.blank ∙ ap no_bindings (sym vars));
        below = below;
      }

-- ---- the event that is given

-- slots in which nothing is bound name only cells below any count
nothing_below : (n vars v cell : ℕ) → slice_get (no_bindings vars).values v ≡ Some (Some cell) → cell < n
nothing_below n zero v cell k = absurd cc
nothing_below n (suc vars) zero cell k = absurd cc
nothing_below n (suc vars) (suc v) cell k = nothing_below n vars v cell k

-- slots in which nothing is bound bind to cells below any count
pub blank_below : (n vars : ℕ) (s : Slotted) → s ≡ no_bindings vars → AreBelow n s
blank_below n vars s is = subst (AreBelow n) (sym is) (nothing_below n vars)

module _ (found : List Answer) (place : ℕ) where
  -- behind the last answer nothing is left
  pub left_ended : (terms : List Term) → length found ≤ place → left_from terms found place ≡ []
  left_ended terms h = ap (λ xs. heard (answer_events terms xs)) (drop_all place found h)

  module _ (x y : Answer) (here : place < length found) (is : x ≡ get_or found place x) (e : x ≡ y) where
    left_begins : (terms : List Term)
        → left_from terms found place ≡ heard (answer_event terms y ∷ answer_events terms (drop (place + 1) found))
    left_begins terms =
        at_drop_more (λ xs. heard (answer_events terms xs)) found place x here
        ∙ ap (λ z. heard (answer_event terms z ∷ answer_events terms (drop (place + 1) found))) (sym is ∙ e)

    -- an answer of a list that fits is one that fits
    pub here_fits : (vars n : ℕ) → AllFit vars n found → Fits vars n y
    here_fits vars n fit =
        subst (Fits vars n) (sym is ∙ e) (All-get_or (Fits vars n) found place x here fit)

  module _ (x : Answer) (here : place < length found) (is : x ≡ get_or found place x) where
    -- at a Sat that event is left, and then those behind it
    pub left_sat : (s : Slotted) → x ≡ Sat s → (terms : List Term)
        → left_from terms found place ≡ plain.Sat (bindings_of terms s) ∷ left_from terms found (place + 1)
    left_sat s e terms = left_begins x (Sat s) here is e terms

    -- at a cut that event is left, and then those behind it
    pub left_cut : x ≡ Cut → (terms : List Term)
        → left_from terms found place ≡ plain.Cut ∷ left_from terms found (place + 1)
    left_cut e terms = left_begins x Cut here is e terms

    -- at a fault that event alone is left
    pub left_fault : (f : RunFault) → x ≡ Fault f → (terms : List Term)
        → left_from terms found place ≡ plain.Fault f ∷ []
    left_fault f e terms = left_begins x (Fault f) here is e terms

    -- the slots of a Sat of a list that fits are of so many variables, and bind to cells below the count
    pub sat_here_fits : (s : Slotted) → x ≡ Sat s → (vars n : ℕ) → AllFit vars n found → Fits vars n (Sat s)
    sat_here_fits s e vars n fit = here_fits x (Sat s) here is e vars n fit
