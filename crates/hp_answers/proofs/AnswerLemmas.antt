-- Answers stand for the same events where terms are added.
use Rattle.std.proofs.Common.{append_assoc, ◌≡◌, ℕ, ◌+◌, ◌<◌, ◌≤◌, Bool, true, false, List, [], ◌∷◌, ◌++◌, length, map, drop, get_or, refl, sym, ◌∙◌, ap, ap₂, subst}
use Rattle.std.specs.List.{All}
use Rattle.std.proofs.lemmas.List.{map-append, append-nil, drop_all}
use Rattle.hp_eval.proofs.Copies.{same_below}
use Rattle.hp_eval.proofs.Loops.{left_more}
use Rattle.std.proofs.lemmas.List.Elements.{All-nil, All-cons, All-append, All-head, All-tail, All-weaker, All-same}
use Rattle.hp_syntax.specs.Terms.{Term}
use Rattle.hp_syntax.specs.Values.{Bindings}
use Rattle.hp_syntax.specs.Events as plain
use Rattle.hp_syntax.specs.Events.{Event}
use Rattle.hp_syntax.specs.declared.fault.RunFault.{RunFault}
use Rattle.hp_eval.specs.Slotted.{Slotted, AreBelow, named, bindings_of}
use Rattle.hp_eval.specs.Growth.{Grows}
use Rattle.hp_eval.proofs.GrowthLemmas.{bindings_stay, below_grows, terms_stay, all_below}
use Rattle.hp_world.specs.Stages.{Stage, StageBelow, live_atoms, state_of}
use Rattle.hp_answers.specs.declared.answer.Answer.{Answer}
use Rattle.hp_answers.specs.declared.answer.Answer.TheVariants.{Sat, Cut, Fault}
use Rattle.hp_answers.specs.AnswerViews.{answer_event, answer_events, Fits, BindsBelow, AllFit, Finds, FindsUpTo}

-- ---- lists of answers

-- nothing is found where nothing is met
pub finds_none : (terms : List Term) (vars : ℕ) (found : List Answer) (events : List Event) → found ≡ [] → events ≡ []
    → Finds terms vars found events
finds_none terms vars found events is e = record {
  stand = ap (answer_events terms) is ∙ sym e;
  fit = All-same (Fits vars (length terms)) found [] is (All-nil (Fits vars (length terms)));
}

-- one that fits stands for its event
pub finds_one : (terms : List Term) (vars : ℕ) (x : Answer) (found : List Answer) → found ≡ x ∷ []
    → Fits vars (length terms) x → Finds terms vars found (answer_event terms x ∷ [])
finds_one terms vars x found is h = record {
  stand = ap (answer_events terms) is;
  fit =
      All-same (Fits vars (length terms)) found (x ∷ []) is
      (All-cons (Fits vars (length terms)) x [] h (All-nil (Fits vars (length terms))));
}

-- a Sat with equal values stands for the same bindings
pub finds_copy : (terms : List Term) (copy slots : Slotted) (found : List Answer) → copy.values ≡ slots.values
    → found ≡ Sat copy ∷ [] → AreBelow (length terms) slots
    → Finds terms (length slots.values) found (plain.Sat (bindings_of terms slots) ∷ [])
finds_copy terms copy slots found e is below =
    let one = finds_one terms (length slots.values) (Sat copy) found is
    (ap length e, same_below (length terms) copy slots e below) in
    record {
      stand = one.stand ∙ ap (λ vs. plain.Sat (map (named terms) vs) ∷ []) e;
      fit = one.fit;
    }

-- ---- negation

-- a finding, where there was a cut before or not
abbrev pub after_cut : Bool → plain.Finding → plain.Finding
after_cut false f = f
after_cut true f = plain.finding_with plain.Cut f

-- a first event and those left, behind a cut or not
after_first : (cut : Bool) (terms : List Term) (found : List Answer) (i : ℕ) (x : Answer) (whole : plain.Finding)
    → i < length found → x ≡ get_or found i x
    → whole ≡ after_cut cut (plain.finding (answer_events terms (drop i found)))
    → whole ≡ after_cut cut
    (plain.finding_with (answer_event terms x) (plain.finding (answer_events terms (drop (i + 1) found))))
after_first cut terms found i x whole l is h =
    h ∙ ap (λ xs. after_cut cut (plain.finding (answer_events terms xs))) (left_more found i x l is)

-- a satisfier decides
pub sat_decides : (cut : Bool) (terms : List Term) (found : List Answer) (i : ℕ) (x : Answer) (s : Slotted)
    (whole : plain.Finding) → i < length found → x ≡ get_or found i x → x ≡ Sat s
    → whole ≡ after_cut cut (plain.finding (answer_events terms (drop i found))) → plain.Satisfied ≡ whole
sat_decides cut terms found i x s whole l is sat h =
    sym (after_first cut terms found i x whole l is h
    ∙ ap (λ y. after_cut cut
    (plain.finding_with (answer_event terms y) (plain.finding (answer_events terms (drop (i + 1) found))))) sat
    ∙ elim cut as (λ c. after_cut c plain.Satisfied ≡ plain.Satisfied) [ false ↦ refl | true ↦ refl ])

-- a fault decides
pub fault_decides : (cut : Bool) (terms : List Term) (found : List Answer) (i : ℕ) (x : Answer) (f : RunFault)
    (whole : plain.Finding) → i < length found → x ≡ get_or found i x → x ≡ Fault f
    → whole ≡ after_cut cut (plain.finding (answer_events terms (drop i found))) → plain.Faulty f ≡ whole
fault_decides cut terms found i x f whole l is fault h =
    sym (after_first cut terms found i x whole l is h
    ∙ ap (λ y. after_cut cut
    (plain.finding_with (answer_event terms y) (plain.finding (answer_events terms (drop (i + 1) found))))) fault
    ∙ elim cut as (λ c. after_cut c (plain.Faulty f) ≡ plain.Faulty f) [ false ↦ refl | true ↦ refl ])

-- a second cut changes nothing
cut_again : (f : plain.Finding)
    → plain.finding_with plain.Cut (plain.finding_with plain.Cut f) ≡ plain.finding_with plain.Cut f
cut_again plain.Satisfied = refl
cut_again (plain.Faulty f) = refl
cut_again plain.Undecided = refl
cut_again plain.Nothing = refl

-- a cut leaves what comes after it to decide
pub cut_passes : (cut : Bool) (terms : List Term) (found : List Answer) (i : ℕ) (x : Answer) (whole : plain.Finding)
    → i < length found → x ≡ get_or found i x → x ≡ Cut
    → whole ≡ after_cut cut (plain.finding (answer_events terms (drop i found)))
    → whole ≡ after_cut true (plain.finding (answer_events terms (drop (i + 1) found)))
cut_passes cut terms found i x whole l is e h =
    let left = plain.finding (answer_events terms (drop (i + 1) found)) in
    after_first cut terms found i x whole l is h
    ∙ ap (λ y. after_cut cut (plain.finding_with (answer_event terms y) left)) e
    ∙ elim cut as (λ c. after_cut c (plain.finding_with plain.Cut left) ≡ after_cut true left) [
      | false ↦ refl
      | true ↦ cut_again left
    ]

-- where nothing is left, a cut decides
pub all_decided : (cut : Bool) (terms : List Term) (found : List Answer) (i : ℕ) (whole : plain.Finding)
    → length found ≤ i → whole ≡ after_cut cut (plain.finding (answer_events terms (drop i found)))
    → whole ≡ after_cut cut plain.Nothing
all_decided cut terms found i whole l h =
    h ∙ ap (λ xs. after_cut cut (plain.finding (answer_events terms xs))) (drop_all i found l)

-- ---- events that are found

-- answers that stand for events stand for equal ones
pub finds_same : (terms : List Term) (vars : ℕ) (found : List Answer) (events others : List Event) → events ≡ others
    → Finds terms vars found events → Finds terms vars found others
finds_same terms vars found events others e h = subst (Finds terms vars found) e h

-- answers that fit slots of so many variables fit as many
pub finds_vars : (terms : List Term) (m n : ℕ) (found : List Answer) (events : List Event) → m ≡ n
    → Finds terms m found events → Finds terms n found events
finds_vars terms m n found events e h = subst (λ k. Finds terms k found events) e h

module _ (terms : List Term) (vars : ℕ) (found : List Answer) (whole : List Event) where
  -- the next answers go behind
  pub upto_more : (piece left : List Event) (more items : List Answer)
      → FindsUpTo terms vars found whole (piece ++ left)
      → Finds terms vars more piece → items ≡ found ++ more → FindsUpTo terms vars items whole left
  upto_more piece left more items h m is = record {
    so_far =
        h.so_far
        ∙ (sym (append_assoc (answer_events terms found) piece left)
        ∙ ap (λ xs. xs ++ left)
        (ap (λ xs. answer_events terms found ++ xs) (sym m.stand)
        ∙ (sym (map-append (answer_event terms) found more) ∙ ap (answer_events terms) (sym is))));
    fit =
        All-same (Fits vars (length terms)) items (found ++ more) is
        (All-append (Fits vars (length terms)) found more h.fit m.fit);
  }

  -- the same where what is left is told by equal events
  pub upto_same : (left others : List Event) → left ≡ others → FindsUpTo terms vars found whole left
      → FindsUpTo terms vars found whole others
  upto_same left others e h = subst (FindsUpTo terms vars found whole) e h

  -- before anything is found, all is left
  pub upto_none : found ≡ [] → FindsUpTo terms vars found whole whole
  upto_none is = record {
    so_far = ap (λ xs. answer_events terms xs ++ whole) (sym is);
    fit = All-same (Fits vars (length terms)) found [] is (All-nil (Fits vars (length terms)));
  }

  -- where nothing is left, all is found
  pub upto_all : (left : List Event) → left ≡ [] → FindsUpTo terms vars found whole left → Finds terms vars found whole
  upto_all left e h = record {
    stand = sym (h.so_far ∙ (ap (λ xs. answer_events terms found ++ xs) e ∙ append-nil (answer_events terms found)));
    fit = h.fit;
  }

-- ---- events in the place of an answer

module _ (terms : List Term) (f : Bindings → List Event) (x : Answer) where
  -- the events in the place of a Sat are those under its bindings
  pub sat_replaced : (s : Slotted) → x ≡ Sat s → f (bindings_of terms s) ≡ plain.in_place f (answer_event terms x)
  sat_replaced s h = ap (λ y. plain.in_place f (answer_event terms y)) (sym h)

  -- a cut stands in its own place
  pub cut_replaced : (vars : ℕ) (found : List Answer) → x ≡ Cut → found ≡ Cut ∷ []
      → Finds terms vars found (plain.in_place f (answer_event terms x))
  cut_replaced vars found h is =
      finds_same terms vars found _ _ (ap (λ y. plain.in_place f (answer_event terms y)) (sym h))
      (finds_one terms vars Cut found is tt)

  -- a fault stands in its own place
  pub fault_replaced : (vars : ℕ) (k : RunFault) (found : List Answer) → x ≡ Fault k → found ≡ Fault k ∷ []
      → Finds terms vars found (plain.in_place f (answer_event terms x))
  fault_replaced vars k found h is =
      finds_same terms vars found _ _ (ap (λ y. plain.in_place f (answer_event terms y)) (sym h))
      (finds_one terms vars (Fault k) found is tt)

-- the slots of a Sat that fits fit
pub sat_fits : (vars n : ℕ) (x : Answer) (s : Slotted) → x ≡ Sat s → Fits vars n x
    → (length s.values ≡ vars) × AreBelow n s
sat_fits vars n x s h f = subst (Fits vars n) h f

-- ---- terms that are added

-- an answer that fits binds to cells below the count
pub fits_below : (vars n : ℕ) (x : Answer) → Fits vars n x → BindsBelow n x
fits_below vars n (Sat slots) h = h.1
fits_below vars n Cut h = h
fits_below vars n (Fault f) h = h

module _ (old new : List Term) (g : Grows old new) where
  -- an answer that binds to cells below the number of terms goes on to do so
  pub binds_grow : (x : Answer) → BindsBelow (length old) x → BindsBelow (length new) x
  binds_grow (Sat slots) h = below_grows old new g slots h
  binds_grow Cut h = h
  binds_grow (Fault f) h = h

  -- it stands for the same event
  pub event_stays : (x : Answer) → BindsBelow (length old) x → answer_event new x ≡ answer_event old x
  event_stays (Sat slots) h = ap plain.Sat (bindings_stay old new g slots h)
  event_stays Cut h = refl
  event_stays (Fault f) h = refl

  -- answers that bind to cells below the number of terms go on to do so
  pub all_bind_below : (found : List Answer) → All (BindsBelow (length old)) found
      → All (BindsBelow (length new)) found
  all_bind_below found h = All-weaker (BindsBelow (length old)) (BindsBelow (length new)) binds_grow found h

  -- they stand for the same events
  pub found_stays : (found : List Answer) → All (BindsBelow (length old)) found
      → answer_events new found ≡ answer_events old found
  found_stays [] h = refl
  found_stays (x ∷ xs) h =
      ap₂ ◌∷◌ (event_stays x (All-head (BindsBelow (length old)) x xs h))
      (found_stays xs (All-tail (BindsBelow (length old)) x xs h))

  -- an answer that fits goes on to fit
  pub fits_grow : (vars : ℕ) (x : Answer) → Fits vars (length old) x → Fits vars (length new) x
  fits_grow vars (Sat slots) h = (h.0, below_grows old new g slots h.1)
  fits_grow vars Cut h = h
  fits_grow vars (Fault f) h = h

  -- answers that fit go on to fit
  pub all_fit_grow : (vars : ℕ) (found : List Answer) → AllFit vars (length old) found → AllFit vars (length new) found
  all_fit_grow vars found h =
      All-weaker (Fits vars (length old)) (Fits vars (length new)) (fits_grow vars) found h

  -- answers that fit stand for the same events
  pub events_stay : (vars : ℕ) (found : List Answer) → AllFit vars (length old) found
      → answer_events new found ≡ answer_events old found
  events_stay vars found h =
      found_stays found
      (All-weaker (Fits vars (length old)) (BindsBelow (length old)) (fits_below vars (length old)) found h)

  -- so do answers so far
  pub upto_grow : (vars : ℕ) (found : List Answer) (whole left : List Event) → FindsUpTo old vars found whole left
      → FindsUpTo new vars found whole left
  upto_grow vars found whole left h = record {
    so_far = h.so_far ∙ ap (λ xs. xs ++ left) (sym (events_stay vars found h.fit));
    fit = all_fit_grow vars found h.fit;
  }

  -- a stage stays below the number of terms
  pub stage_below_grows : (s : Stage) → StageBelow (length old) s → StageBelow (length new) s
  stage_below_grows s h = record {
    atoms = all_below old new g (live_atoms s.places) h.atoms;
    guards = all_below old new g s.guards h.guards;
  }

  -- a stage below the number of terms stands for the same state
  pub state_stays : (s : Stage) → StageBelow (length old) s → state_of new s ≡ state_of old s
  state_stays s h = terms_stay old new g (live_atoms s.places) h.atoms
