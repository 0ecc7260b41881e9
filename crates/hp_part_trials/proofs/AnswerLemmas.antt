-- Slots that a list of answers leaves, one answer after another.
use Rattle.std.proofs.Common.{◌≡◌, ℕ, ◌≤◌, List, [], ◌∷◌, length, take, Some, None, Option, refl, sym, ◌∙◌, ap, subst}
use Rattle.std.specs.Prelude.{slice_get}
use Rattle.std.proofs.lemmas.List.{length-take-le}
use Rattle.hp_syntax.specs.Terms.{Term}
use Rattle.hp_eval.specs.Slotted.{Slotted, Binds, AreBelow, undone, bindings_of}
use Rattle.hp_eval.specs.Events.{event_of, AreOfFirst}
use Rattle.hp_eval.proofs.SlotLemmas.{binds_self, binds_bound, below_bound}
use Rattle.hp_part_trials.specs.declared.parts.answers.Reply.{Reply}
use Rattle.hp_part_trials.specs.declared.parts.answers.Reply.TheVariants.{Sat, Cut, Fault}
use Rattle.hp_part_trials.specs.Answered.{answered, first_of, event_told, after_answer, AnswersBelow, AreTold}

-- the first event is that of the first answer
pub first_event : (c : List Term) (s : Slotted) (v : ℕ) (xs : List Reply)
    → event_told (first_of xs) ≡ event_of (answered c s v xs)
first_event c s v [] = refl
first_event c s v (Sat cell ∷ xs) = refl
first_event c s v (Cut ∷ xs) = refl
first_event c s v (Fault f ∷ xs) = refl

-- a Sat leaves its bindings, where it is the first answer
pub first_bindings : (c : List Term) (s : Slotted) (v : ℕ) (xs : List Reply)
    → AreOfFirst (answered c s v xs) (bindings_of c (after_answer (first_of xs) v s))
first_bindings c s v [] = tt
first_bindings c s v (Sat cell ∷ xs) = refl
first_bindings c s v (Cut ∷ xs) = tt
first_bindings c s v (Fault f ∷ xs) = tt

module _ (v mark kept : ℕ) (e : Slotted) where
  as_many : mark ≤ length e.trail → length (take mark e.trail) ≡ mark
  as_many h = length-take-le mark e.trail h

  -- what an answer tells stands above the bindings of the mark
  pub told_above : (o : Option Reply) → slice_get (undone mark e).values v ≡ Some None
      → Binds (undone mark e) (after_answer o v (undone mark e))
  told_above None h = binds_self (undone mark e)
  told_above (Some (Sat cell)) h = binds_bound (undone mark e) v cell h
  told_above (Some Cut) h = binds_self (undone mark e)
  told_above (Some (Fault f)) h = binds_self (undone mark e)

  -- below what an answer tells are the bindings of the mark
  pub told_undone : (o : Option Reply) → mark ≤ length e.trail → slice_get (undone mark e).values v ≡ Some None
      → undone mark (after_answer o v (undone mark e)) ≡ undone mark e
  told_undone o k h =
      ap (λ n. undone n (after_answer o v (undone mark e))) (sym (as_many k)) ∙ (told_above o h).undoes

  pub told_below : (xs : List Reply) → AnswersBelow kept xs → AreBelow kept (undone mark e)
      → AreBelow kept (after_answer (first_of xs) v (undone mark e))
  told_below [] own start = start
  told_below (Sat cell ∷ xs) own start = below_bound kept (undone mark e) v cell start own.0
  told_below (Cut ∷ xs) own start = start
  told_below (Fault f ∷ xs) own start = start

  -- an answer leaves the slots so that the next can follow
  pub told_fits : (xs ys : List Reply) → AreTold v mark kept xs e → AnswersBelow kept ys
      → AreTold v mark kept ys (after_answer (first_of xs) v (undone mark e))
  told_fits xs ys f own =
      let o = first_of xs in
      let q = sym (told_undone o f.above f.unbound) in
      let l = (told_above o f.unbound).later in
      record {
        above = subst (λ n. n ≤ length (after_answer o v (undone mark e)).trail) (as_many f.above) l;
        unbound = subst (λ s. slice_get s.values v ≡ Some None) q f.unbound;
        start = subst (AreBelow kept) q f.start;
        own = own;
        below = told_below xs f.own f.start;
      }
