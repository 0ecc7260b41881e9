-- What calls of suspended generators answer, and what they keep.
use Rattle.std.specs.Prelude.{◌≡◌, ℕ, ◌<◌, ◌≤◌, ◌==◌, Bool, false, cond, max, List, [], ◌∷◌, Option, Some, None, length}
use Rattle.hp_syntax.specs.Values.{Bindings}
use Rattle.hp_syntax.specs.Events as plain
use Rattle.hp_code.specs.CodeViews.{CodeView}
use Rattle.hp_eval.specs.declared.event.Event.{Event}
use Rattle.hp_eval.specs.declared.event.Event.TheVariants as events
use Rattle.hp_eval.specs.Events.{PlainEvent}
use Rattle.hp_suspended.specs.Fitting.{Fits, AreExpressionsIn, TowerFits, base_of, weight, weights, node_weight}
use Rattle.hp_suspended.specs.Settings.{Setting}
use Rattle.hp_suspended.specs.Left.{On, left, tower, tower_left}
use Rattle.hp_suspended.specs.Views.{View, Views}
use Rattle.hp_suspended.specs.Views as views
use Rattle.hp_syntax.specs.Terms.{Term}
use Rattle.hp_eval.specs.Growth.{Grows}
use Rattle.hp_eval.specs.Slotted.{Slotted, AreBelow, Binds, undone, bindings_of}
use Rattle.hp_suspended.specs.declared.scene.Scene.{Scene}
use Rattle.hp_suspended.specs.SceneViews.{setting_of}

-- an event is the first of the events before, and those after are the others, which don't count behind a fault
abbrev pub Gives : Event → Bindings → List PlainEvent → List PlainEvent → Type 0
Gives events.Sat b old new = old ≡ plain.Sat b ∷ new
Gives events.Cut b old new = old ≡ plain.Cut ∷ new
Gives (events.Fault f) b old new = (more : List PlainEvent) × (old ≡ plain.Fault f ∷ more)
Gives events.End b old new = old ≡ []

-- nothing is left behind a fault, and at the end
abbrev pub LeavesNothing : Event → List PlainEvent → Type 0
LeavesNothing events.Sat new = Unit {0}
LeavesNothing events.Cut new = Unit {0}
LeavesNothing (events.Fault f) new = new ≡ []
LeavesNothing events.End new = new ≡ []

-- behind a fault and at the end the bindings are those of the start
abbrev pub EndsAt : Event → ℕ → Slotted → Type 0
EndsAt events.Sat m new = Unit {0}
EndsAt events.Cut m new = Unit {0}
EndsAt (events.Fault f) m new = length new.trail ≡ m
EndsAt events.End m new = length new.trail ≡ m

-- where an event isn't the last, what is suspended fits as before
abbrev pub GoesOn : Event → Type 0 → Type 0
GoesOn events.Sat P = P
GoesOn events.Cut P = P
GoesOn (events.Fault f) P = Unit {0}
GoesOn events.End P = Unit {0}

-- what is suspended has the same start, fits the slots, and weighs no more
pub record Keeps (c : CodeView) (cells : ℕ) (new : Slotted) (v w : View) : Type 0 where
  pub start : base_of w ≡ base_of v
  pub fits : Fits c cells (length new.trail) w
  pub lighter : weight (length c.nodes) w ≤ weight (length c.nodes) v

-- ---- a conjunction's running part, above those below it

abbrev pub PairFits : CodeView → ℕ → ℕ → ℕ → ℕ → ℕ → Views → View → Type 0
PairFits c cells m end k bound outer here =
    AreExpressionsIn c k end × TowerFits c cells end m (base_of here) outer × Fits c cells bound here

abbrev pub pair_left : Setting → ℕ → ℕ → ℕ → Slotted → Views → View → List PlainEvent
pair_left w n k end e outer here = tower_left w n end (On (tower w e outer) k (left w e here))

abbrev pub pair_weight : ℕ → ℕ → ℕ → Views → View → ℕ
pair_weight nodes n k outer here = max (max (weight nodes here) (node_weight nodes n k)) (weights nodes n outer)

-- ---- calls

-- terms may have been added, and bindings above those of a mark made and undone
pub record Moves (m : ℕ) (old new : List Term) (e f : Slotted) : Type 0 where
  pub grows : Grows old new
  pub below : AreBelow (length new) f
  pub above : Binds (undone m e) f

-- over any terms that those at the end of a call begin, the event is the first of the one list, and the other is what
-- it leaves; a list is told by slots and a setting
abbrev pub GivesOver : Scene → List Term → Slotted → Event → (Setting → List PlainEvent) → (Setting → List PlainEvent)
    → Type 0
GivesOver s cells f x old new =
    (terms : List Term) → Grows cells terms
    → Gives x (bindings_of terms f) (old (setting_of s terms)) (new (setting_of s terms))

abbrev pub LeavesOver : Scene → List Term → Event → (Setting → List PlainEvent) → Type 0
LeavesOver s cells x new = (terms : List Term) → Grows cells terms → LeavesNothing x (new (setting_of s terms))

-- a turn that gives nothing yet leaves the same list, and fewer turns
abbrev pub GoesOnOver : Scene → List Term → (Setting → List PlainEvent) → (Setting → List PlainEvent)
    → (Setting → ℕ) → (Setting → ℕ) → Type 0
GoesOnOver s cells old new before after =
    (terms : List Term) → Grows cells terms
    → (new (setting_of s terms) ≡ old (setting_of s terms)) × (after (setting_of s terms) < before (setting_of s terms))

-- a fact that holds where there was no event or one that isn't the last
abbrev pub MayGoOn : Option Event → Type 0 → Type 0
MayGoOn None P = P
MayGoOn (Some x) P = GoesOn x P

-- a conjunction's running part and those below it fit, and weigh no more
pub record KeepsPair (c : CodeView) (cells n m end : ℕ) (new : Slotted) (k k' : ℕ) (outer outer' : Views)
    (here here' : View)
    : Type 0 where
  pub fits : PairFits c cells m end k' (length new.trail) outer' here'
  pub lighter : pair_weight (length c.nodes) n k' outer' here' ≤ pair_weight (length c.nodes) n k outer here

-- what is suspended was looked at
abbrev pub IsLookedAt : View → Type 0
IsLookedAt (views.Fresh m n i) = ⊥
IsLookedAt _ = Unit {0}

-- it is over: nothing is left of it, and so many bindings stood at its start
abbrev pub is_over : ℕ → View → Bool
is_over m (views.One n events.End) = n == m
is_over m _ = false

-- a part of a conjunction that has given a Sat, under which so many bindings stand, is put upon the others, unless it
-- is over
abbrev pub put_upon : ℕ → Views → ℕ → View → Views
put_upon m lower k v = cond (is_over m v) lower (views.Above lower k v)

-- where a Sat was told, it is all that is left
abbrev pub told_view : ℕ → Option Event → View → View
told_view m (Some events.Sat) v = views.One m events.Sat
told_view m _ v = v

-- it was begun: no places are left that are gone along without a goal
abbrev pub IsBegun : View → Type 0
IsBegun (views.Fresh m n i) = ⊥
IsBegun (views.Simple a) = ⊥
IsBegun _ = Unit {0}

-- the bindings are those of the start at the end
abbrev pub EndsAtEnd : Event → ℕ → Slotted → Type 0
EndsAtEnd events.End m new = length new.trail ≡ m
EndsAtEnd _ m new = Unit {0}

-- behind an event that isn't the last a number is less
abbrev pub ShorterOver : Scene → List Term → Event → (Setting → ℕ) → (Setting → ℕ) → Type 0
ShorterOver s cells x before after =
    (terms : List Term) → Grows cells terms → GoesOn x (after (setting_of s terms) < before (setting_of s terms))

-- the lists are the same over any terms that these begin
abbrev pub SameOver : Scene → List Term → (Setting → List PlainEvent) → (Setting → List PlainEvent) → Type 0
SameOver s cells old new =
    (terms : List Term) → Grows cells terms → new (setting_of s terms) ≡ old (setting_of s terms)
