-- A list of satisfiers that is given one at a time.
use Prim.Native.Nat.{zero-le}
use Rattle.std.specs.Prelude.{◌≡◌, ℕ, zero, suc, ◌≤◌, Bool, true, false, List, [], ◌∷◌, length, take, drop, Some, None, refl}
use Rattle.std.specs.List.{All}
use Rattle.std.proofs.Common.{sym, ◌∙◌, ap, ap₂, subst}
use Rattle.std.proofs.lemmas.List.{length-map, length-replicate}
use Rattle.std.proofs.lemmas.List.Elements.{All-head, All-tail, All-map, All-weaker, All-drop}
use Rattle.std.proofs.lemmas.Option.{none-some}
use Rattle.hp_syntax.specs.Terms.{Term}
use Rattle.hp_syntax.specs.Values.{bound}
use Rattle.hp_syntax.specs.Events as plain
use Rattle.hp_syntax.specs.Events.{Event, EventExtends, is_fault}
use Rattle.hp_syntax.specs.Preconditions.{heard}
use Rattle.hp_eval.specs.Slotted.{Slotted, AreBelow, named, no_bindings, undone, bindings_of}
use Rattle.hp_eval.specs.SlotLaws.{bindings_agree}
use Rattle.hp_laws.proofs.HearingLemmas.{all_up_to}
use Rattle.hp_answers.specs.declared.answer.Answer.{Answer}
use Rattle.hp_answers.specs.declared.answer.Answer.TheVariants.{Sat, Cut, Fault}
use Rattle.hp_answers.specs.AnswerViews.{answer_event, answer_events, Fits, AllFit, Finds, FindsUpTo}

-- the heard events of a list from a place on
abbrev pub left_from : List Term → List Answer → ℕ → List Event
left_from terms found place = heard (answer_events terms (drop place found))

-- nothing is bound below the bindings of slots, which a list fits whose cells are below a count
pub record FitsListed (kept : ℕ) (found : List Answer) (s : Slotted) : Type 0 where
  pub fit : AllFit (length s.values) kept found
  pub blank : undone 0 s ≡ no_bindings (length s.values)
  pub below : AreBelow kept s

-- ---- the laws

-- nothing stands below the start, and all cells are below the count
pub listed_hold : (kept : ℕ) (found : List Answer) (s : Slotted) → FitsListed kept found s
    → (0 ≤ length s.trail) × AreBelow kept s
listed_hold kept found s h = (zero-le, h.below)

-- an answer that fits stands for the same event over terms that agree below the count
event_agrees : (vars kept : ℕ) (c d : List Term) (x : Answer) → Fits vars kept x → take kept c ≡ take kept d
    → answer_event c x ≡ answer_event d x
event_agrees vars kept c d (Sat s) h k = ap plain.Sat (bindings_agree kept c d s h.1 k)
event_agrees vars kept c d Cut h k = refl
event_agrees vars kept c d (Fault f) h k = refl

-- a list that fits stands for the same events over them
events_agree : (vars kept : ℕ) (c d : List Term) (found : List Answer) → AllFit vars kept found
    → take kept c ≡ take kept d → answer_events c found ≡ answer_events d found
events_agree vars kept c d [] h k = refl
events_agree vars kept c d (x ∷ xs) h k =
    ap₂ ◌∷◌ (event_agrees vars kept c d x (All-head (Fits vars kept) x xs h) k)
    (events_agree vars kept c d xs (All-tail (Fits vars kept) x xs h) k)

-- the events that are left are the same over terms that agree below the count
pub left_agrees : (kept : ℕ) (c d : List Term) (found : List Answer) (place : ℕ) (s : Slotted) → FitsListed kept found s
    → take kept c ≡ take kept d → left_from c found place ≡ left_from d found place
left_agrees kept c d found place s h k =
    ap heard (events_agree (length s.values) kept c d (drop place found)
    (All-drop (Fits (length s.values) kept) place found h.fit) k)

-- where nothing is bound no variable stands for a term
none_stands : (c : List Term) (n v : ℕ) (t : Term) → bound (bindings_of c (no_bindings n)) v ≡ Some t → ⊥
none_stands c zero v t h = none-some t h
none_stands c (suc n) zero t h = none-some t h
none_stands c (suc n) (suc v) t h = none_stands c n v t h

-- an answer that fits extends the bindings of slots in which nothing is bound
fitting_extends : (c : List Term) (n kept : ℕ) (x : Answer) → Fits n kept x
    → EventExtends (bindings_of c (no_bindings n)) (answer_event c x)
fitting_extends c n kept (Sat s) h = record {
  as_many =
      length-map s.values (named c)
      ∙ (h.0 ∙ sym (length-map (no_bindings n).values (named c) ∙ length-replicate n None));
  keeps = λ v t k. absurd (none_stands c n v t k);
}
fitting_extends c n kept Cut h = tt
fitting_extends c n kept (Fault f) h = tt

-- the events that are left extend the bindings of the start, which are none
pub left_extends : (kept : ℕ) (c : List Term) (found : List Answer) (place : ℕ) (s : Slotted) → FitsListed kept found s
    → All (EventExtends (bindings_of c (undone 0 s))) (left_from c found place)
left_extends kept c found place s h =
    let n = length s.values in
    let P = EventExtends (bindings_of c (no_bindings n)) in
    subst (λ e. All (EventExtends (bindings_of c e)) (left_from c found place)) (sym h.blank)
    (all_up_to is_fault P (answer_events c (drop place found))
    (All-map P (answer_event c) (drop place found)
    (All-weaker (Fits n kept) (λ x. P (answer_event c x)) (fitting_extends c n kept) (drop place found)
    (All-drop (Fits n kept) place found h.fit))))

-- ---- events that are taken one by one

-- where more may come, the answers go up to the events that are left; else they are the whole
abbrev pub FindsMore : List Term → ℕ → List Answer → List Event → Bool → List Event → Type 0
FindsMore terms vars found whole true left = FindsUpTo terms vars found whole (heard left)
FindsMore terms vars found whole false left = Finds terms vars found whole
