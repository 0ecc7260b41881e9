-- Heard prefixes of lists, and events that are taken one by one.
use Rattle.std.proofs.Common.{append_assoc, ◌≡◌, ℕ, ◌+◌, ◌<◌, ◌≤◌, Bool, true, false, cond, ℤ, List, [], ◌∷◌, ◌++◌, length, map, take, drop, get_or, Option, None, refl, sym, ◌∙◌, ap, subst, arith}
use Rattle.std.proofs.lemmas.List.{length-replicate, map-append, append-nil, length-take-le, take_more, take_all, drop_all}
use Rattle.std.proofs.lemmas.List.Elements.{All-take}
use Rattle.hp_syntax.specs.Terms.{Term}
use Rattle.hp_syntax.specs.Events as plain
use Rattle.hp_syntax.specs.Events.{Event, State, sat}
use Rattle.hp_syntax.specs.Preconditions.{heard, up_to_sat, Keyed, Keys, NoKey, keyed, sorted, sorts_before, sorted_events, precondition_events}
use Rattle.hp_syntax.specs.Syntax.{Axiom, Order}
use Rattle.hp_syntax.specs.Values.{Bindings}
use Rattle.hp_syntax.specs.Views.{expression_of, key_of, precondition_of}
use Rattle.hp_syntax.specs.declared.expression.Expr.{Expr}
use Rattle.hp_syntax.specs.declared.expression.SortKey.{SortKey}
use Rattle.hp_syntax.specs.declared.expression.Pre.{Pre}
use Rattle.hp_syntax.specs.declared.expression.Pre.TheVariants as pres
use Rattle.hp_eval.specs.Slotted.{Slotted, AreBelow, Binds, no_bindings, undone, bindings_of}
use Rattle.hp_eval.specs.declared.event.Event.TheVariants as events
use Rattle.hp_eval.specs.Events.{event_of, left_after, AreOfFirst}
use Rattle.hp_satisfiers.specs.Listed.{FindsMore}
use Rattle.hp_answers.proofs.AnswerLemmas.{finds_one, finds_same, finds_copy, upto_more, upto_all}
use Rattle.hp_eval.proofs.SlotLemmas.{binds_vars}
use Rattle.hp_syntax.specs.declared.fault.RunFault.{RunFault}
use Rattle.hp_eval.proofs.Loops.{left_more}
use Rattle.hp_answers.specs.declared.answer.Answer.{Answer}
use Rattle.hp_answers.specs.declared.answer.Answer.TheVariants.{Sat, Cut, Fault}
use Rattle.hp_answers.specs.AnswerViews.{answer_event, answer_events, Fits, Finds, FindsUpTo, Hears}

module _ (terms : List Term) (found : List Answer) (i : ℕ) where
  -- the events of a prefix grow by the next
  prefix_more : (x : Answer) → i < length found → x ≡ get_or found i x
      → answer_events terms (take (i + 1) found) ≡ answer_events terms (take i found) ++ answer_event terms x ∷ []
  prefix_more x l is =
      ap (answer_events terms) (take_more found i x l)
      ∙ (map-append (answer_event terms) (take i found) (get_or found i x ∷ [])
      ∙ ap (λ y. answer_events terms (take i found) ++ answer_event terms y ∷ []) (sym is))

  module _ (whole : List Event)
      (so_far : whole ≡ answer_events terms (take i found) ++ heard (answer_events terms (drop i found))) where
    -- the events that are left begin with the next
    next_left : (x : Answer) → i < length found → x ≡ get_or found i x
        → whole
        ≡ answer_events terms (take i found)
        ++ heard (answer_event terms x ∷ answer_events terms (drop (i + 1) found))
    next_left x l is =
        so_far
        ∙ ap (λ xs. answer_events terms (take i found) ++ heard (answer_events terms xs)) (left_more found i x l is)

    -- a list is heard up to a fault
    pub heard_fault : (x : Answer) (f : RunFault) → i < length found → x ≡ get_or found i x → x ≡ Fault f
        → answer_events terms (take (i + 1) found) ≡ whole
    heard_fault x f l is fault =
        let rest = answer_events terms (drop (i + 1) found) in
        prefix_more x l is
        ∙ ap (λ y. answer_events terms (take i found) ++ answer_event terms y ∷ []) fault
        ∙ sym (next_left x l is
        ∙ ap (λ y. answer_events terms (take i found) ++ heard (answer_event terms y ∷ rest)) fault)

    -- behind an answer that is no fault the list is heard on
    pub heard_more : (x : Answer) → i < length found → x ≡ get_or found i x → ((f : RunFault) → x ≡ Fault f → ⊥)
        → whole ≡ answer_events terms (take (i + 1) found) ++ heard (answer_events terms (drop (i + 1) found))
    heard_more x l is sound =
        let rest = answer_events terms (drop (i + 1) found) in
        next_left x l is
        ∙ ap (λ ys. answer_events terms (take i found) ++ ys) (first_heard x rest sound)
        ∙ (sym (append_assoc (answer_events terms (take i found)) (answer_event terms x ∷ []) (heard rest))
        ∙ ap (λ ys. ys ++ heard rest) (sym (prefix_more x l is)))
      where
        first_heard : (y : Answer) (ys : List Event) → ((f : RunFault) → y ≡ Fault f → ⊥)
            → heard (answer_event terms y ∷ ys) ≡ answer_event terms y ∷ heard ys
        first_heard (Sat s) ys n = refl
        first_heard Cut ys n = refl
        first_heard (Fault f) ys n = absurd (n f refl)

    -- a list without a fault is heard to the end
    pub heard_all : length found ≤ i → answer_events terms (take (length found) found) ≡ whole
    heard_all l =
        ap (answer_events terms) (take_all (length found) found (omega arith) ∙ sym (take_all i found l))
        ∙ sym (so_far
        ∙ (ap (λ xs. answer_events terms (take i found) ++ heard (answer_events terms xs)) (drop_all i found l)
        ∙ append-nil (answer_events terms (take i found))))

-- the heard prefix of a list stands for the heard events
pub heard_found : (terms : List Term) (vars n : ℕ) (found : List Answer) (events : List Event)
    → answer_events terms (take n found) ≡ heard (answer_events terms found) → Hears terms vars found events
    → Finds terms vars (take n found) (heard events)
heard_found terms vars n found events e h = record {
  stand = e ∙ h.stand;
  fit = All-take (Fits vars (length terms)) n found h.fit;
}

-- ---- events that are taken one by one

-- slots that are new are of so many variables
pub new_vars : (own : Slotted) (n : ℕ) → own ≡ no_bindings n → length own.values ≡ n
new_vars own n is = ap (λ s. length s.values) is ∙ length-replicate {A = Option ℕ} n None

-- bindings above those of a mark are of as many variables
pub vars_above : (mark : ℕ) (old new : Slotted) → mark ≤ length old.trail → Binds (undone mark old) new
    → length new.values ≡ length old.values
vars_above mark old new l b =
    binds_vars (undone mark old) new b
    ∙ sym (binds_vars (undone mark old) old (record {
      later = omega (arith, length-take-le mark old.trail l);
      undoes = ap (λ n. undone n old) (length-take-le mark old.trail l);
    }))

module _ (terms : List Term) (found items : List Answer) (whole : List Event) where
  -- a Sat is taken by its bindings
  pub takes_sat : (s copy : Slotted) (left : List Event) → events.Sat ≡ event_of left
      → AreOfFirst left (bindings_of terms s) → AreBelow (length terms) s → copy.values ≡ s.values
      → items ≡ found ++ Sat copy ∷ [] → FindsUpTo terms (length s.values) found whole (heard left)
      → FindsUpTo terms (length s.values) items whole (heard (left_after left))
  takes_sat s copy [] e b below same is h = absurd cc
  takes_sat s copy (plain.Sat x ∷ xs) e b below same is h =
      upto_more terms (length s.values) found whole (plain.Sat x ∷ []) (heard xs) (Sat copy ∷ []) items h
      (finds_same terms (length s.values) (Sat copy ∷ []) _ _ (ap (λ y. plain.Sat y ∷ []) b)
      (finds_copy terms copy s (Sat copy ∷ []) same refl below)) is
  takes_sat s copy (plain.Cut ∷ xs) e b below same is h = absurd cc
  takes_sat s copy (plain.Fault f ∷ xs) e b below same is h = absurd cc

  -- a cut is taken
  pub takes_cut : (vars : ℕ) (left : List Event) → events.Cut ≡ event_of left → items ≡ found ++ Cut ∷ []
      → FindsUpTo terms vars found whole (heard left) → FindsUpTo terms vars items whole (heard (left_after left))
  takes_cut vars [] e is h = absurd cc
  takes_cut vars (plain.Sat x ∷ xs) e is h = absurd cc
  takes_cut vars (plain.Cut ∷ xs) e is h =
      upto_more terms vars found whole (plain.Cut ∷ []) (heard xs) (Cut ∷ []) items h
      (finds_one terms vars Cut (Cut ∷ []) refl tt) is
  takes_cut vars (plain.Fault f ∷ xs) e is h = absurd cc

  -- behind a fault what is found is the whole
  pub takes_fault : (vars : ℕ) (fault : RunFault) (left : List Event) → events.Fault fault ≡ event_of left
      → items ≡ found ++ Fault fault ∷ [] → FindsUpTo terms vars found whole (heard left)
      → Finds terms vars items whole
  takes_fault vars fault [] e is h = absurd cc
  takes_fault vars fault (plain.Sat x ∷ xs) e is h = absurd cc
  takes_fault vars fault (plain.Cut ∷ xs) e is h = absurd cc
  takes_fault vars fault (plain.Fault f ∷ xs) e is h =
      let same : fault ≡ f = cc in
      upto_all terms vars items whole [] refl
      (upto_more terms vars found whole (plain.Fault f ∷ []) [] (Fault fault ∷ []) items h
      (finds_same terms vars (Fault fault ∷ []) _ _ (ap (λ y. plain.Fault y ∷ []) same)
      (finds_one terms vars (Fault fault) (Fault fault ∷ []) refl tt)) is)

  -- at the end what is found is the whole
  pub takes_end : (vars : ℕ) (left : List Event) → events.End ≡ event_of left
      → FindsUpTo terms vars found whole (heard left) → Finds terms vars found whole
  takes_end vars [] e h = upto_all terms vars found whole [] refl h
  takes_end vars (plain.Sat x ∷ xs) e h = absurd cc
  takes_end vars (plain.Cut ∷ xs) e h = absurd cc
  takes_end vars (plain.Fault f ∷ xs) e h = absurd cc

-- where more may come, what is found goes up to what is left
pub more_left : (terms : List Term) (vars : ℕ) (found : List Answer) (whole : List Event) (more : Bool)
    (left : List Event) → more ≡ true → FindsMore terms vars found whole more left
    → FindsUpTo terms vars found whole (heard left)
more_left terms vars found whole more left is h =
    subst (λ b. FindsMore terms vars found whole b left) is h

-- where no more come, the answers stand for the whole
pub none_left : (terms : List Term) (vars : ℕ) (found : List Answer) (whole : List Event) (more : Bool)
    (left : List Event) → more ≡ false → FindsMore terms vars found whole more left → Finds terms vars found whole
none_left terms vars found whole more left is h =
    subst (λ b. FindsMore terms vars found whole b left) is h

-- ---- heard lists of heard ones

-- a heard list up to its first Sat is heard whole
pub first_heard_whole : (xs : List Event) → heard (up_to_sat (heard xs)) ≡ up_to_sat (heard xs)
first_heard_whole [] = refl
first_heard_whole (plain.Sat e ∷ xs) = refl
first_heard_whole (plain.Cut ∷ xs) = ap (λ ys. plain.Cut ∷ ys) (first_heard_whole xs)
first_heard_whole (plain.Fault f ∷ xs) = refl

-- satisfiers and a Cut behind them are heard whole
sats_heard : (xs : List (ℤ × Bindings)) (cut : Bool)
    → heard (map (λ x. plain.Sat x.1) xs ++ cond cut (plain.Cut ∷ []) [])
    ≡ map (λ x. plain.Sat x.1) xs ++ cond cut (plain.Cut ∷ []) []
sats_heard [] true = refl
sats_heard [] false = refl
sats_heard (x ∷ xs) cut = ap (λ ys. plain.Sat x.1 ∷ ys) (sats_heard xs cut)

-- a list in order is heard whole
pub sorted_heard_whole : (order : Order) (k : Keyed) → heard (sorted_events order k) ≡ sorted_events order k
sorted_heard_whole order (NoKey f) = refl
sorted_heard_whole order (Keys xs cut) = sats_heard (sorted (sorts_before order) xs) cut

-- ---- preconditions by their kinds

module _ (axioms : List Axiom) (nest : ℕ) (s : State) (pre : Pre) (e : Bindings) where
  -- of a plain precondition all is heard
  pub plain_events : (x : Expr) → pre ≡ pres.Plain x
      → heard (sat axioms nest s (expression_of x) e) ≡ precondition_events axioms nest s (precondition_of pre) e
  unfolding precondition_events
  plain_events x h = ap (λ p. precondition_events axioms nest s (precondition_of p) e) (sym h)

  -- of a `:first` all is heard up to the first Sat
  pub first_events : (x : Expr) → pre ≡ pres.First x
      → up_to_sat (heard (sat axioms nest s (expression_of x) e))
      ≡ precondition_events axioms nest s (precondition_of pre) e
  unfolding precondition_events
  first_events x h = ap (λ p. precondition_events axioms nest s (precondition_of p) e) (sym h)

  -- of a `:sort-by` all is heard in order
  pub ordered_events : (k : SortKey) (x : Expr) → pre ≡ pres.Sorted k x
      → sorted_events (key_of k).order (keyed (key_of k) (heard (sat axioms nest s (expression_of x) e)))
      ≡ precondition_events axioms nest s (precondition_of pre) e
  unfolding precondition_events
  ordered_events k x h = ap (λ p. precondition_events axioms nest s (precondition_of p) e) (sym h)
