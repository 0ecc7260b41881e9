-- The events of a list of answers, each Sat with one binding more than the start's, and the slots that they leave.
use Rattle.std.specs.Prelude.{◌≡◌, ℕ, zero, suc, ◌<◌, ◌≤◌, List, [], ◌∷◌, length, map, take, Option, Some, None, slice_get, slice_set}
use Rattle.std.specs.List.{All}
use Rattle.std.proofs.Common.{refl, ap, ap₂, sym, ◌∙◌}
use Rattle.std.proofs.lemmas.List.{length-map, length-set}
use Rattle.std.proofs.lemmas.List.Elements.{All-nil, All-cons}
use Rattle.std.proofs.lemmas.Option.{none-some}
use Rattle.hp_syntax.specs.Terms.{Term}
use Rattle.hp_syntax.specs.Values.{bound, flat_option}
use Rattle.hp_syntax.specs.Events as plain
use Rattle.hp_syntax.specs.Events.{EventExtends}
use Rattle.hp_eval.specs.declared.event.Event.{Event}
use Rattle.hp_eval.specs.declared.event.Event.TheVariants as events
use Rattle.hp_eval.specs.Slotted.{Slotted, AreBelow, with_bound, undone, named, bindings_of}
use Rattle.hp_eval.specs.SlotLaws.{bindings_agree}
use Rattle.hp_eval.specs.Events.{PlainEvent}
use Rattle.hp_eval.proofs.SlotLemmas.{below_bound}
use Rattle.hp_part_trials.specs.declared.parts.answers.Reply.{Reply}
use Rattle.hp_part_trials.specs.declared.parts.answers.Reply.TheVariants.{Sat, Cut, Fault}

-- the events of answers: a Sat binds the variable to its cell above the start's bindings
abbrev pub answered : List Term → Slotted → ℕ → List Reply → List PlainEvent
answered c s v [] = []
answered c s v (Sat cell ∷ xs) = plain.Sat (bindings_of c (with_bound v cell s)) ∷ answered c s v xs
answered c s v (Cut ∷ xs) = plain.Cut ∷ answered c s v xs
answered c s v (Fault f ∷ xs) = plain.Fault f ∷ []

abbrev pub first_of : List Reply → Option Reply
first_of [] = None
first_of (x ∷ xs) = Some x

abbrev pub event_told : Option Reply → Event
event_told None = events.End
event_told (Some (Sat cell)) = events.Sat
event_told (Some Cut) = events.Cut
event_told (Some (Fault f)) = events.Fault f

-- with a Sat the variable is bound to its cell
abbrev pub after_answer : Option Reply → ℕ → Slotted → Slotted
after_answer None v s = s
after_answer (Some (Sat cell)) v s = with_bound v cell s
after_answer (Some Cut) v s = s
after_answer (Some (Fault f)) v s = s

-- each Sat binds a cell below a count
abbrev pub AnswersBelow : ℕ → List Reply → Type 0
AnswersBelow n [] = Unit {0}
AnswersBelow n (Sat cell ∷ xs) = (cell < n) × AnswersBelow n xs
AnswersBelow n (Cut ∷ xs) = AnswersBelow n xs
AnswersBelow n (Fault f ∷ xs) = AnswersBelow n xs

-- the slots hold the bindings of a mark, under which a variable isn't bound, and all cells are below a count
pub record AreTold (v mark kept : ℕ) (xs : List Reply) (e : Slotted) : Type 0 where
  pub above : mark ≤ length e.trail
  pub unbound : slice_get (undone mark e).values v ≡ Some None
  pub start : AreBelow kept (undone mark e)
  pub own : AnswersBelow kept xs
  pub below : AreBelow kept e

-- a variable that is bound keeps the others
value_kept : (c : List Term) (vs : List (Option ℕ)) (v cell w : ℕ) (t : Term) → slice_get vs v ≡ Some None
    → bound (map (named c) vs) w ≡ Some t → bound (map (named c) (slice_set vs v (Some cell))) w ≡ Some t
value_kept c [] v cell w t h k = k
value_kept c (None ∷ vs) zero cell zero t h k = absurd (none-some t k)
value_kept c (Some x ∷ vs) zero cell zero t h k = absurd (none-some x (sym (ap flat_option h)))
value_kept c (o ∷ vs) zero cell (suc w) t h k = k
value_kept c (o ∷ vs) (suc v) cell zero t h k = k
value_kept c (o ∷ vs) (suc v) cell (suc w) t h k = value_kept c vs v cell w t h k

-- each Sat extends the start's bindings
pub answers_keep : (c : List Term) (s : Slotted) (v : ℕ) (xs : List Reply) → slice_get s.values v ≡ Some None
    → All (EventExtends (bindings_of c s)) (answered c s v xs)
answers_keep c s v [] h = All-nil (EventExtends (bindings_of c s))
answers_keep c s v (Sat cell ∷ xs) h =
    All-cons (EventExtends (bindings_of c s)) (plain.Sat (bindings_of c (with_bound v cell s))) (answered c s v xs)
    (record {
      as_many =
          length-map (slice_set s.values v (Some cell)) (named c)
          ∙ (length-set s.values v (Some cell) ∙ sym (length-map s.values (named c)));
      keeps = λ w t k. value_kept c s.values v cell w t h k;
    })
    (answers_keep c s v xs h)
answers_keep c s v (Cut ∷ xs) h =
    All-cons (EventExtends (bindings_of c s)) plain.Cut (answered c s v xs) tt (answers_keep c s v xs h)
answers_keep c s v (Fault f ∷ xs) h =
    All-cons (EventExtends (bindings_of c s)) (plain.Fault f) [] tt (All-nil (EventExtends (bindings_of c s)))

-- answers are the same events over terms that agree below a count
pub answers_agree : (n : ℕ) (c d : List Term) (s : Slotted) (v : ℕ) (xs : List Reply) → AreBelow n s
    → AnswersBelow n xs → take n c ≡ take n d → answered c s v xs ≡ answered d s v xs
answers_agree n c d s v [] below own h = refl
answers_agree n c d s v (Sat cell ∷ xs) below own h =
    ap₂ (λ b ys. plain.Sat b ∷ ys) (bindings_agree n c d (with_bound v cell s) (below_bound n s v cell below own.0) h)
    (answers_agree n c d s v xs below own.1 h)
answers_agree n c d s v (Cut ∷ xs) below own h = ap (λ ys. plain.Cut ∷ ys) (answers_agree n c d s v xs below own h)
answers_agree n c d s v (Fault f ∷ xs) below own h = refl
