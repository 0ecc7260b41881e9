-- Lists that are heard alike.
use Rattle.std.proofs.Common.{append_assoc, ◌≡◌, ℕ, suc, ◌+◌, ◌-◌, ◌<◌, true, List, [], ◌∷◌, ◌++◌, length, drop, get_or, slice_get, refl, sym, ◌∙◌, ap, subst, arith}
use Rattle.std.proofs.lemmas.List.{map-append, append-nil, drop_more}
use Rattle.std.proofs.lemmas.List.Elements.{All-nil, All-append, All-same}
use Rattle.hp_syntax.specs.Terms.{Term}
use Rattle.hp_syntax.specs.Events as plain
use Rattle.hp_syntax.specs.Events.{Event}
use Rattle.hp_syntax.specs.Preconditions.{heard}
use Rattle.hp_laws.specs.HeardAlike.{AreHeardAlike}
use Rattle.hp_laws.proofs.HeardAlikeLemmas.{alike_behind, alike_before}
use Rattle.hp_eval.specs.Growth.{Grows}
use Rattle.hp_answers.specs.declared.answer.Answer.{Answer}
use Rattle.hp_answers.specs.declared.answer.Answer.TheVariants.{Sat, Cut, Fault}
use Rattle.hp_answers.specs.AnswerViews.{answer_event, answer_events, Fits, Finds, Hears, HearsUpTo, is_found_fault, ends_in_fault}
use Rattle.hp_answers.proofs.AnswerLemmas.{all_fit_grow, events_stay}
use Rattle.hp_satisfiers.specs.Sources.{joined}

-- ---- lists that end in a fault

-- a list with one more in front has the same last
last_later : (x y : Answer) (ys : List Answer)
    → slice_get (x ∷ y ∷ ys) (length (x ∷ y ∷ ys) - 1) ≡ slice_get (y ∷ ys) (length (y ∷ ys) - 1)
last_later x y ys =
    let e : length (x ∷ y ∷ ys) - 1 ≡ suc (length (y ∷ ys) - 1) = omega arith in ap (slice_get (x ∷ y ∷ ys)) e

-- behind a list that ends in a fault nothing is heard
pub over_heard : (terms : List Term) (found : List Answer) (more : List Event) → ends_in_fault found ≡ true
    → AreHeardAlike (answer_events terms found ++ more) (answer_events terms found)
over_heard terms [] more h = absurd cc
over_heard terms (Fault f ∷ xs) more h = refl
over_heard terms (Sat s ∷ []) more h = absurd cc
over_heard terms (Cut ∷ []) more h = absurd cc
over_heard terms (Sat s ∷ y ∷ ys) more h =
    ap (λ us. answer_event terms (Sat s) ∷ us)
    (over_heard terms (y ∷ ys) more (sym (ap is_found_fault (last_later (Sat s) y ys)) ∙ h))
over_heard terms (Cut ∷ y ∷ ys) more h =
    ap (λ us. plain.Cut ∷ us) (over_heard terms (y ∷ ys) more (sym (ap is_found_fault (last_later Cut y ys)) ∙ h))

-- ---- answers

-- answers that stand for events are heard as they are
pub hears_found : (terms : List Term) (vars : ℕ) (found : List Answer) (events : List Event)
    → Finds terms vars found events → Hears terms vars found events
hears_found terms vars found events h = record { stand = ap heard h.stand; fit = h.fit }

-- answers that are heard as some events are heard as those that are heard alike
pub hears_same : (terms : List Term) (vars : ℕ) (found : List Answer) (events others : List Event)
    → AreHeardAlike events others → Hears terms vars found events → Hears terms vars found others
hears_same terms vars found events others e h = record { stand = h.stand ∙ e; fit = h.fit }

-- answers that fit slots of so many variables fit as many
pub hears_vars : (terms : List Term) (m n : ℕ) (found : List Answer) (events : List Event) → m ≡ n
    → Hears terms m found events → Hears terms n found events
hears_vars terms m n found events e h = subst (λ k. Hears terms k found events) e h

-- before the first answer all events are left
pub hears_begin : (terms : List Term) (vars : ℕ) (found : List Answer) (whole : List Event) → found ≡ []
    → HearsUpTo terms vars found whole whole
hears_begin terms vars found whole is = record {
  so_far = ap (λ xs. heard (answer_events terms xs ++ whole)) (sym is);
  fit = All-same (Fits vars (length terms)) found [] is (All-nil (Fits vars (length terms)));
}

module _ (terms : List Term) (vars : ℕ) (found : List Answer) (whole : List Event) where
  -- the next answers go behind
  hears_more : (piece left : List Event) (more items : List Answer)
      → HearsUpTo terms vars found whole (piece ++ left) → Hears terms vars more piece → items ≡ found ++ more
      → HearsUpTo terms vars items whole left
  hears_more piece left more items h m is =
      let next = answer_events terms more in
      let before = answer_events terms found in
      record {
        so_far =
            h.so_far
            ∙ (alike_behind before (piece ++ left) (next ++ left) (alike_before piece next left (sym m.stand))
            ∙ ap heard (sym (append_assoc before next left)
            ∙ ap (λ xs. xs ++ left)
            (sym (map-append (answer_event terms) found more) ∙ ap (answer_events terms) (sym is))));
        fit =
            All-same (Fits vars (length terms)) items (found ++ more) is
            (All-append (Fits vars (length terms)) found more h.fit m.fit);
      }

  -- where nothing is left, all is heard
  pub hears_all : (left : List Event) → left ≡ [] → HearsUpTo terms vars found whole left
      → Hears terms vars found whole
  hears_all left e h = record {
    stand =
        sym (h.so_far
        ∙ ap heard (ap (λ xs. answer_events terms found ++ xs) e ∙ append-nil (answer_events terms found)));
    fit = h.fit;
  }

  -- where a fault came last, all is heard, whatever is left
  pub hears_over : (left : List Event) → ends_in_fault found ≡ true → HearsUpTo terms vars found whole left
      → Hears terms vars found whole
  hears_over left over h = record { stand = sym (h.so_far ∙ over_heard terms found left over); fit = h.fit }

-- answers so far are heard as before where terms are added
hears_grow : (old new : List Term) (g : Grows old new) (vars : ℕ) (found : List Answer) (whole left : List Event)
    → HearsUpTo old vars found whole left → HearsUpTo new vars found whole left
hears_grow old new g vars found whole left h = record {
  so_far = h.so_far ∙ ap (λ xs. heard (xs ++ left)) (sym (events_stay old new g vars found h.fit));
  fit = all_fit_grow old new g vars found h.fit;
}

-- the answers to the next of some pieces go behind, where terms were added while they were looked for
pub hears_piece : (old new : List Term) (g : Grows old new) (vars : ℕ) (found more items : List Answer)
    (whole : List Event) (ps : List (List Event)) (i : ℕ) → i < length ps
    → HearsUpTo old vars found whole (joined (drop i ps)) → Hears new vars more (get_or ps i [])
    → items ≡ found ++ more → HearsUpTo new vars items whole (joined (drop (i + 1) ps))
hears_piece old new g vars found more items whole ps i l h m is =
    let piece = get_or ps i [] in
    let left = joined (drop (i + 1) ps) in
    hears_more new vars found whole piece left more items
    (hears_grow old new g vars found whole (piece ++ left)
    (subst (λ qs. HearsUpTo old vars found whole (joined qs)) (drop_more ps i [] l) h)) m is

-- answers behind others are heard as the events of both
pub hears_both : (old new : List Term) (g : Grows old new) (vars : ℕ) (found more items : List Answer)
    (xs ys : List Event) → Hears old vars found xs → Hears new vars more ys → items ≡ found ++ more
    → Hears new vars items (xs ++ ys)
hears_both old new g vars found more items xs ys h m is =
    let left = joined (ys ∷ []) in
    let begun : HearsUpTo old vars found (xs ++ ys) left = record {
      so_far =
          ap (λ zs. heard (xs ++ zs)) (sym (append-nil ys)) ∙ alike_before xs (answer_events old found) left
          (sym h.stand);
      fit = h.fit;
    } in
    hears_all new vars items (xs ++ ys) [] refl
    (hears_piece old new g vars found more items (xs ++ ys) (ys ∷ []) 0 (omega arith) begun m is)
