-- The events of a branch that is heard, and the branch that is chosen.
use Rattle.std.proofs.Common.{◌≡◌, ℕ, List, [], ◌∷◌, ◌++◌, length, take, slice_get, Option, Some, None, refl, sym, ◌∙◌, ap, ap₂, subst, append_assoc, arith, ◌+◌}
use Rattle.std.proofs.lemmas.List.{length-append}
use Rattle.std.proofs.lemmas.Option.{same_Some}
use Rattle.std.proofs.Math.Seq.{take-append_seam}
use Rattle.hp_syntax.specs.Events as plain
use Rattle.hp_syntax.specs.Events.{State, axioms_of, chosen, chosen_or}
use Rattle.hp_syntax.specs.Preconditions.{heard, precondition_events}
use Rattle.hp_syntax.specs.Syntax.{Branch}
use Rattle.hp_syntax.specs.Terms.{Term}
use Rattle.hp_syntax.specs.Values.{Bindings}
use Rattle.hp_syntax.specs.Walk.{chosen_branch}
use Rattle.hp_eval.specs.declared.event.Event.{Event}
use Rattle.hp_eval.specs.declared.event.Event.TheVariants as events
use Rattle.hp_eval.specs.Events.{PlainEvent, AreOfFirst, event_of, left_after}
use Rattle.hp_eval.specs.Growth.{Grows}
use Rattle.hp_eval.specs.Slotted.{Slotted, bindings_of}
use Rattle.hp_eval.proofs.GrowthLemmas.{bindings_stay, terms_stay}
use Rattle.hp_code.specs.CodeViews.{CodeView, rules_in}
use Rattle.hp_world.specs.Stages.{live_atoms}
use Rattle.hp_suspended.specs.declared.scene.Scene.{Scene}
use Rattle.hp_suspended.specs.SceneViews.{IsReady, setting_of}
use Rattle.hp_suspended.specs.Settings.{axioms_in, state_in}
use Rattle.hp_method.specs.declared.chosen.Chosen.{Chosen}
use Rattle.hp_method.specs.Branches.{HearsEvents, IsChosenAt, branches_at, heard_before}
use Rattle.hp_method.proofs.BranchNodes.{StandsBranch}

-- ---- what was heard

-- the first of events that end where they are heard stands before those that are left
pub heard_first : (xs : List PlainEvent) (first : Event) (b : Bindings) → heard xs ≡ xs → first ≡ event_of xs
    → AreOfFirst xs b → xs ≡ heard_before first b (left_after xs)
heard_first [] first b h e s = cc
heard_first (plain.Sat x ∷ xs) first b h e s =
    ap (λ y. plain.Sat y ∷ xs) (sym s) ∙ ap (λ f. heard_before f b xs) (sym e)
heard_first (plain.Cut ∷ xs) first b h e s = ap (λ f. heard_before f b xs) (sym e)
heard_first (plain.Fault f ∷ xs) first b h e s = sym h ∙ ap (λ g. heard_before g b []) (sym e)

module _ (s : Scene) (terms : List Term) (old new : Slotted) (b : Branch) (o : Option Chosen)
    (xs : List PlainEvent) where
  -- what is told of a branch that is there
  pub heard_some : (x : Chosen) → o ≡ Some x → HearsEvents s terms old new b o xs
      → HearsEvents s terms old new b (Some x) xs
  heard_some x e h = subst (λ p. HearsEvents s terms old new b p xs) e h

  -- and of one that isn't
  pub heard_nothing : ((x : Chosen) → o ≡ Some x → ⊥) → HearsEvents s terms old new b o xs
      → HearsEvents s terms old new b None xs
  heard_nothing never h = of o refl
    where
      of : (p : Option Chosen) → o ≡ p → HearsEvents s terms old new b None xs
      of None e = subst (λ p. HearsEvents s terms old new b p xs) e h
      of (Some x) e = absurd (never x e)

-- a precondition has the same events where terms were added
pub events_stay : (s : Scene) (old now : List Term) (e f : Slotted) → IsReady s old e → Grows old now → f ≡ e
    → (nest : ℕ) (b : Branch)
    → precondition_events (axioms_in (setting_of s now)) nest (state_in (setting_of s now)) b.pre (bindings_of now f)
    ≡ precondition_events (axioms_in (setting_of s old)) nest (state_in (setting_of s old)) b.pre (bindings_of old e)
events_stay s old now e f r g same nest b =
    ap₂ (λ st d. precondition_events (axioms_in (setting_of s old)) nest st b.pre d)
    (terms_stay old now g (live_atoms s.world.now.places) r.atoms)
    (ap (bindings_of now) same ∙ bindings_stay old now g e r.bindings)

-- ---- choosing

-- a branch that has an event is chosen
heard_chosen : {A : Type 0} (x : A) (first : Event) (b : Bindings) (xs : List PlainEvent)
    (other : Option (A × List PlainEvent)) → (first ≡ events.End → ⊥)
    → chosen_or x (heard_before first b xs) other ≡ Some (x, heard_before first b xs)
heard_chosen x events.Sat b xs other h = refl
heard_chosen x events.Cut b xs other h = refl
heard_chosen x (events.Fault f) b xs other h = refl
heard_chosen x events.End b xs other h = absurd (h refl)

-- the branches from a node on are left, and of these the same is chosen
pub record BranchesLeft (c : CodeView) (at' to nest : ℕ) (st : State) (e : Bindings) (bs : List Branch) : Type 0 where
  pub rest : List Branch
  pub is : branches_at c at' to ≡ Some rest
  pub same : chosen_branch (rules_in c) nest st bs e ≡ chosen_branch (rules_in c) nest st rest e

module _ (c : CodeView) (at' to nest : ℕ) (st : State) (e : Bindings) (bs : List Branch)
    (left : BranchesLeft c at' to nest st e bs) where
  -- where none are left none is chosen
  pub left_none : branches_at c at' to ≡ Some [] → chosen_branch (rules_in c) nest st bs e ≡ None
  left_none h =
      left.same ∙ ap (λ xs. chosen_branch (rules_in c) nest st xs e) (same_Some left.rest [] (sym left.is ∙ h))

  -- of those that are left the first is chosen, or one of the others
  left_first : (s : StandsBranch c at' to) → chosen_branch (rules_in c) nest st bs e
      ≡ chosen_or s.branch (precondition_events (axioms_of (rules_in c)) nest st s.branch.pre e)
      (chosen_branch (rules_in c) nest st s.others e)
  left_first s =
      left.same
      ∙ ap (λ xs. chosen_branch (rules_in c) nest st xs e)
      (same_Some left.rest (s.branch ∷ s.others) (sym left.is ∙ s.is))

  -- the first, where it has an event
  pub left_chosen : (s : StandsBranch c at' to) (first : Event) (d : Bindings) (xs : List PlainEvent)
      → precondition_events (axioms_of (rules_in c)) nest st s.branch.pre e ≡ heard_before first d xs
      → (first ≡ events.End → ⊥)
      → chosen_branch (rules_in c) nest st bs e ≡ Some (s.branch, heard_before first d xs)
  left_chosen s first d xs h more =
      let other = chosen_branch (rules_in c) nest st s.others e in
      left_first s ∙ ap (λ ys. chosen_or s.branch ys other) h ∙ heard_chosen s.branch first d xs other more

  -- and where it has none the others are left
  pub left_passes : (s : StandsBranch c at' to)
      → precondition_events (axioms_of (rules_in c)) nest st s.branch.pre e ≡ []
      → BranchesLeft c s.node.to to nest st e bs
  left_passes s h = record {
    rest = s.others;
    is = s.rest;
    same = left_first s ∙ ap (λ ys. chosen_or s.branch ys (chosen_branch (rules_in c) nest st s.others e)) h;
  }

-- ---- the number of the branch that is chosen

-- behind things of which none is chosen, one without events isn't either
none_more : {A : Type 0} (f : A → List PlainEvent) (xs : List A) (y : A) → chosen f xs ≡ None → f y ≡ []
    → chosen f (xs ++ y ∷ []) ≡ None
none_more f [] y none e = ap (λ ys. chosen_or y ys None) e
none_more f (x ∷ xs) y none e = by (λ h. none_more f xs y h e) (f x) none
  where
    by : (chosen f xs ≡ None → chosen f (xs ++ y ∷ []) ≡ None) → (ys : List PlainEvent)
        → chosen_or x ys (chosen f xs) ≡ None → chosen_or x ys (chosen f (xs ++ y ∷ [])) ≡ None
    by later [] h = later h
    by later (z ∷ zs) h = absurd cc

-- behind the first ones of a list stands the next
next_there : {A : Type 0} (xs ys : List A) (y : A) → slice_get (xs ++ y ∷ ys) (length xs) ≡ Some y
next_there [] ys y = refl
next_there (x ∷ xs) ys y = next_there xs ys y

-- so many branches stand before a node; of these none is chosen, and those from it on are left
pub record BranchesPassed (c : CodeView) (at' to nest : ℕ) (st : State) (e : Bindings) (bs : List Branch) (number : ℕ)
    : Type 0 where
  pub passed : List Branch
  pub rest : List Branch
  pub is : branches_at c at' to ≡ Some rest
  pub whole : bs ≡ passed ++ rest
  pub many : length passed ≡ number
  pub none : chosen_branch (rules_in c) nest st passed e ≡ None

module _ (c : CodeView) (at' to nest : ℕ) (st : State) (e : Bindings) (bs : List Branch) (number : ℕ)
    (left : BranchesPassed c at' to nest st e bs number) (s : StandsBranch c at' to) where
  -- the branch of the node stands behind those before it
  passed_first : bs ≡ left.passed ++ s.branch ∷ s.others
  passed_first =
      left.whole
      ∙ ap (λ xs. left.passed ++ xs) (same_Some left.rest (s.branch ∷ s.others) (sym left.is ∙ s.is))

  -- where it is chosen, it is so at its number
  pub passed_chosen : (xs : List PlainEvent) → chosen_branch (rules_in c) nest st bs e ≡ Some (s.branch, xs)
      → IsChosenAt (rules_in c) nest st e bs number
  passed_chosen xs is = record {
    branch = s.branch;
    events = xs;
    is = is;
    there =
        ap₂ slice_get passed_first (sym left.many) ∙ next_there left.passed s.others s.branch;
    before =
        ap₂ (λ k ys. chosen_branch (rules_in c) nest st (take k ys) e) (sym left.many) passed_first
        ∙ (ap (λ ys. chosen_branch (rules_in c) nest st ys e) (take-append_seam left.passed (s.branch ∷ s.others))
        ∙ left.none);
  }

  -- where it has no events, it is passed too
  pub passed_next : precondition_events (axioms_of (rules_in c)) nest st s.branch.pre e ≡ []
      → (next : ℕ) → next ≡ number + 1 → BranchesPassed c s.node.to to nest st e bs next
  passed_next h next more = record {
    passed = left.passed ++ s.branch ∷ [];
    rest = s.others;
    is = s.rest;
    whole = passed_first ∙ sym (append_assoc left.passed (s.branch ∷ []) s.others);
    many = (let m = length-append left.passed (s.branch ∷ []) in omega (arith, m, left.many, more));
    none =
        none_more (λ (b : Branch). precondition_events (axioms_of (rules_in c)) nest st b.pre e) left.passed s.branch
        left.none h;
  }
