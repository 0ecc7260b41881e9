-- The choices of an operator and of a method, and the children that they have left.
use Rattle.std.proofs.Common.{◌≡◌, ℕ, ◌<◌, true, List, [], ◌∷◌, ◌++◌, length, Option, Some, None, is_some, refl, sym, ◌∙◌, ap, ap₂, subst, arith}
use Rattle.std.specs.Prelude.{flat_map}
use Rattle.std.proofs.lemmas.List.Elements.{All-nil}
use Rattle.hp_syntax.specs.Changes.{effects}
use Rattle.hp_syntax.specs.Events as plain
use Rattle.hp_syntax.specs.Events.{State, axioms_of}
use Rattle.hp_syntax.specs.Networks.{Place}
use Rattle.hp_syntax.specs.Preconditions.{precondition_events}
use Rattle.hp_syntax.specs.Syntax.{Axiom, Branch, Operator}
use Rattle.hp_syntax.specs.Terms.{Term}
use Rattle.hp_syntax.specs.Values.{Bindings}
use Rattle.hp_syntax.specs.Walk.{Child, Node, after_effects, branch_children, child_of, operator_children}
use Rattle.hp_code.specs.CodeViews.{rules_in}
use Rattle.hp_code.specs.Sources.{Body}
use Rattle.hp_eval.specs.declared.event.Event.{Event}
use Rattle.hp_eval.specs.Events.{PlainEvent}
use Rattle.hp_eval.specs.GoalViews.{term_at}
use Rattle.hp_eval.specs.Slotted.{Slotted, bindings_of}
use Rattle.hp_world.specs.Keyed.{AtomsBelow, KnowsParts}
use Rattle.hp_suspended.specs.SceneViews.{code_in}
use Rattle.hp_suspended.specs.declared.scene.Scene.{Scene}
use Rattle.hp_precondition.specs.declared.picked.Picked.{Picked}
use Rattle.hp_precondition.specs.Picks.{PickedFits, PickedSuits, picked_kept, picked_live, picked_open, picked_rest}
use Rattle.hp_precondition.proofs.PickedScenes.{rest_alike, suits_alike}
use Rattle.hp_operator.specs.Bodies.{IsBodyIn, body_at, body_effects}
use Rattle.hp_method.specs.declared.chosen.Chosen.{Chosen}
use Rattle.hp_method.specs.Branches.{ChosenFits, EventFits, IsChosen, heard_before, tasks_at}
use Rattle.hp_choice.specs.declared.choice.Choice.{Choice}
use Rattle.hp_choice.specs.declared.choice.Deed.TheVariants.{Operate, Decompose}
use Rattle.hp_choice.specs.Choices.{IsChoice, choice_children, scene_at}
use Rattle.hp_choice.specs.Deeds.{by_body, by_tasks}

-- events give the same children where a Sat gives the same
sats_alike : (f g : Bindings → List Child) → ((b : Bindings) → f b ≡ g b) → (xs : List PlainEvent)
    → flat_map (child_of f) xs ≡ flat_map (child_of g) xs
sats_alike f g same [] = refl
sats_alike f g same (plain.Sat b ∷ xs) = ap₂ ◌++◌ (same b) (sats_alike f g same xs)
sats_alike f g same (plain.Cut ∷ xs) = ap (λ ys. child_of g plain.Cut ++ ys) (sats_alike f g same xs)
sats_alike f g same (plain.Fault x ∷ xs) = ap (λ ys. child_of g (plain.Fault x) ++ ys) (sats_alike f g same xs)

module _ (s : Scene) (terms : List Term) (sats : Picked) where
  -- what is left in a scene is left at its stage, without pasts and without indexes
  rest_now : (e : Slotted) → picked_rest sats (scene_at s s.world.now) terms e ≡ picked_rest sats s terms e
  rest_now e = rest_alike sats (scene_at s s.world.now) s terms e refl

  -- a scene that suits does so without them
  suits_now : PickedSuits sats s terms → PickedSuits sats (scene_at s s.world.now) terms
  suits_now u =
      suits_alike sats s (scene_at s s.world.now) terms
      (record {
        code = refl;
        places = refl;
        indexes = All-nil (AtomsBelow (picked_kept sats));
        knows = All-nil (KnowsParts terms);
      })
      u

module _ (s : Scene) (nest : ℕ) (terms : List Term) (id task rule branch : ℕ) (slots : Slotted) (sats : Picked) where
  -- ---- operators

  module _ (start end : ℕ) where
    -- the choice of an operator
    abbrev pub operate : Choice
    operate = record {
      id = id;
      task = task;
      rule = rule;
      branch = branch;
      deed = Operate start end;
      slots = slots;
      sats = sats;
      first = None;
    }

    -- the children that it has left are those that the satisfiers of the operator's precondition give
    pub operator_left : (o : Operator) (b : Body) → body_at (code_in s) start end ≡ Some b
        → ((axioms : List Axiom) (w : State) (e : Bindings)
        → effects axioms nest w o e ≡ body_effects axioms nest w b e)
        → (n : Node) (p : Place)
        → picked_rest sats s terms slots
        ≡ precondition_events (axioms_of (rules_in (code_in s))) nest n.state o.pre (bindings_of terms slots)
        → choice_children s nest terms s.world.now n p operate
        ≡ operator_children (rules_in (code_in s)) nest n p (term_at terms task) o (Some (bindings_of terms slots))
    operator_left o b is comes n p rest =
        let axioms = axioms_of (rules_in (code_in s)) in
        let t = term_at terms task in
        let left = picked_rest sats (scene_at s s.world.now) terms slots in
        let events = precondition_events axioms nest n.state o.pre (bindings_of terms slots) in
        ap (λ x. flat_map (child_of (by_body axioms nest n p t x)) left) is
        ∙ ap (flat_map (child_of (by_body axioms nest n p t (Some b)))) (rest_now s terms sats slots ∙ rest)
        ∙ sats_alike (by_body axioms nest n p t (Some b))
        (λ e. after_effects n p t (effects axioms nest n.state o e))
        (λ e. ap (after_effects n p t) (sym (comes axioms n.state e))) events

    -- it is a choice
    pub operator_choice : task < length terms → IsBodyIn (code_in s) start end → PickedSuits sats s terms
        → PickedFits sats slots → picked_kept sats ≡ length terms → picked_live sats ≡ true → picked_open sats ≡ true
        → IsChoice s terms (length terms) s.world.now operate
    operator_choice below body suits fits kept live opened = record {
      task = below;
      deed = body;
      suits = suits_now s terms sats suits;
      fits = fits;
      kept = omega (arith, kept);
      live = live;
      opened = opened;
      first = tt;
    }

  -- ---- methods

  module _ (tasks : ℕ) (first : Event) where
    -- the choice of a method
    abbrev pub decompose : Choice
    decompose = record {
      id = id;
      task = task;
      rule = rule;
      branch = branch;
      deed = Decompose tasks;
      slots = slots;
      sats = sats;
      first = Some first;
    }

    abbrev pub chosen : Chosen
    chosen = record { number = branch; tasks = tasks; sats = sats; first = first }

    -- the children that it has left are those that the satisfiers of the chosen branch's precondition give
    pub method_left : (n : Node) (p : Place) (whole : Option (Branch × List PlainEvent))
        → IsChosen s terms slots chosen whole
        → choice_children s nest terms s.world.now n p decompose ≡ branch_children n p whole
    method_left n p whole h =
        let left = picked_rest sats (scene_at s s.world.now) terms slots in
        let before = heard_before first (bindings_of terms slots) in
        ap (λ x. flat_map (child_of (by_tasks n p x)) (before left)) h.tasks
        ∙ ap (λ xs. flat_map (child_of (by_tasks n p (Some h.branch.tasks))) (before xs)) (rest_now s terms sats slots)
        ∙ sym (ap (branch_children n p) h.is)

    -- it is a choice
    pub method_choice : task < length terms → is_some (tasks_at (code_in s) tasks) ≡ true
        → ChosenFits s terms slots chosen → IsChoice s terms (length terms) s.world.now decompose
    method_choice below there h = record {
      task = below;
      deed = there;
      suits = suits_now s terms sats h.suits;
      fits = h.fits;
      kept = h.kept;
      live = h.live;
      opened = h.opened;
      first = subst (EventFits first) (sym (rest_now s terms sats slots)) h.first;
    }
