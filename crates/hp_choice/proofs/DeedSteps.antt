-- The children that the bindings of a choice's slots give by a deed, step by step.
use Rattle.std.proofs.Common.{◌≡◌, ℕ, ◌<◌, ℤ, true, List, length, Option, Some, None, is_some, Result, Ok, refl, sym, ◌∙◌, ap, subst, arith}
use Rattle.hp_syntax.specs.declared.fault.RunFault.{RunFault}
use Rattle.hp_syntax.specs.Applying.{ChangesOf}
use Rattle.hp_syntax.specs.Changes.{Changes, Going, Went, apply}
use Rattle.hp_syntax.specs.Events.{axioms_of}
use Rattle.hp_syntax.specs.Networks.{Network, Place, tasks_value}
use Rattle.hp_syntax.specs.Syntax.{Axiom, Tasks}
use Rattle.hp_syntax.specs.Terms.{Term}
use Rattle.hp_syntax.specs.Values.{Bindings}
use Rattle.hp_syntax.specs.Walk.{Node, after_effects, decomposed, operated}
use Rattle.hp_code.specs.CodeViews.{rules_in}
use Rattle.hp_code.specs.Sources.{Body}
use Rattle.hp_eval.specs.GoalViews.{term_at}
use Rattle.hp_eval.specs.Growth.{Grows}
use Rattle.hp_eval.specs.Slotted.{bindings_of}
use Rattle.hp_eval.proofs.GrowthLemmas.{grows_length}
use Rattle.hp_world.specs.declared.store.Applied.{Applied}
use Rattle.hp_world.specs.declared.store.Applied.TheVariants as applied
use Rattle.hp_world.specs.Stages.{changes_of}
use Rattle.hp_suspended.specs.SceneViews.{code_in, setting_of}
use Rattle.hp_operator.specs.Bodies.{HasGone, IsBodyIn, body_at, body_effects, body_going}
use Rattle.hp_method.specs.Branches.{tasks_at}
use Rattle.hp_tree.specs.Children.{place_in}
use Rattle.hp_tree.specs.SearchNodes.{node_of}
use Rattle.hp_tree.proofs.ChildLemmas.{after_went, decomposed_value}
use Rattle.hp_tree.proofs.SearchNodeLemmas.{node_stays, term_stays}
use Rattle.hp_site.specs.declared.site.Site.{Site}
use Rattle.hp_site.specs.Sites.{IsSite, MakesChild, Operates, held_now}
use Rattle.hp_choice.specs.declared.choice.Choice.{Choice}
use Rattle.hp_choice.specs.declared.choice.Deed.TheVariants as deeds
use Rattle.hp_choice.specs.declared.choice.Given.TheVariants.{Did}
use Rattle.hp_choice.specs.Choices.{Gives, IsFloor}
use Rattle.hp_choice.specs.Deeds.{by_body, by_tasks, deed_done}

-- ---- deeds

-- what is there is something
pub there_is : {A : Type 0} (o : Option A) → is_some o ≡ true → (a : A) × (o ≡ Some a)
there_is None e = absurd cc
there_is (Some a) e = (a, refl)

-- what a body comes to gives what the body gives
body_gives : (axioms : List Axiom) (nest : ℕ) (n : Node) (p : Place) (t : Term) (o : Option Body) (b : Body)
    (e : Bindings) (g : Going (Changes × ℤ)) → o ≡ Some b → body_effects axioms nest n.state b e ≡ g
    → after_effects n p t g ≡ by_body axioms nest n p t o e
body_gives axioms nest n p t o b e g there is =
    ap (after_effects n p t) (sym is) ∙ ap (λ x. by_body axioms nest n p t x e) (sym there)

-- the value of tasks gives what the tasks give
tasks_give : (n : Node) (p : Place) (o : Option Tasks) (t : Tasks) (e : Bindings) (r : Result Network RunFault)
    → o ≡ Some t → tasks_value t e ≡ r → decomposed n p r ≡ by_tasks n p o e
tasks_give n p o t e r there is = ap (decomposed n p) (sym is) ∙ ap (λ x. by_tasks n p x e) (sym there)

module _ (old new : List Term) (g : Grows old new) (nest : ℕ) (s : Site) (site : IsSite old s) (c : Choice)
    (task : c.task < length old) (floor : ℕ) (count : floor ≡ length old) where
  -- the cells before the terms of a child are those that stood
  did_floor : IsFloor (Some (Did floor)) (length old) (length new)
  did_floor = (omega (arith, count), omega (arith, count, grows_length old new g))

  -- ---- effects

  module _ (start end : ℕ) (is : IsBodyIn (code_in s.scene) start end) where
    -- what the body comes to gives what the deed gives
    effects_give : (going : Going (Changes × ℤ))
        → ((b : Body) → body_at (code_in s.scene) start end ≡ Some b
        → body_going (setting_of s.scene old) nest b (bindings_of old c.slots) ≡ going)
        → after_effects (node_of old (held_now s)) (place_in s.net.now c.id) (term_at old c.task) going
        ≡ deed_done (code_in s.scene) nest (node_of old (held_now s)) (place_in s.net.now c.id) (term_at old c.task)
        (deeds.Operate start end) (bindings_of old c.slots)
    effects_give going h =
        let b = there_is (body_at (code_in s.scene) start end) is.read in
        body_gives (axioms_of (rules_in (code_in s.scene))) nest (node_of old (held_now s)) (place_in s.net.now c.id)
        (term_at old c.task) (body_at (code_in s.scene) start end) b.0 (bindings_of old c.slots) going b.1 (h b.0 b.1)

    -- what changes and a cost give that the body comes to
    operate_gives : (changes : ChangesOf ℕ) (cost z : ℤ)
        → ((b : Body) → body_at (code_in s.scene) start end ≡ Some b
        → HasGone (body_going (setting_of s.scene old) nest b (bindings_of old c.slots)) new changes cost)
        → z ≡ cost
        → operated (node_of new (held_now s)) (place_in s.net.now c.id) (term_at new c.task) z
        (apply (node_of new (held_now s)).state (node_of new (held_now s)).guards (changes_of new changes))
        ≡ deed_done (code_in s.scene) nest (node_of old (held_now s)) (place_in s.net.now c.id) (term_at old c.task)
        (deeds.Operate start end) (bindings_of old c.slots)
    operate_gives changes cost z gone same =
        let n = node_of new (held_now s) in
        let m = node_of old (held_now s) in
        let p = place_in s.net.now c.id in
        let going : Going (Changes × ℤ) = Went (changes_of new changes, cost) in
        ap (λ v. operated n p (term_at new c.task) v (apply n.state n.guards (changes_of new changes))) same
        ∙ (after_went n m p (node_stays old new g (held_now s) site.node) (term_at new c.task) (term_at old c.task)
        (changes_of new changes) cost going (term_stays old new g c.task task) refl
        ∙ effects_give going (λ b h. (gone b h).went))

    -- changes that are applied are the child
    pub operate_did : (changes : ChangesOf ℕ) (cost z : ℤ) (a : Applied) (t : Site)
        → ((b : Body) → body_at (code_in s.scene) start end ≡ Some b
        → HasGone (body_going (setting_of s.scene old) nest b (bindings_of old c.slots)) new changes cost)
        → z ≡ cost
        → Operates new s a t (operated (node_of new (held_now s)) (place_in s.net.now c.id) (term_at new c.task) z
        (apply (node_of new (held_now s)).state (node_of new (held_now s)).guards (changes_of new changes)))
        → a ≡ applied.Done → Gives s nest old new c (deeds.Operate start end) (Some (Did floor)) t
    operate_did changes cost z a t gone same does done = record {
      children =
          subst (λ x. Operates new s x t (operated (node_of new (held_now s)) (place_in s.net.now c.id)
          (term_at new c.task) z (apply (node_of new (held_now s)).state (node_of new (held_now s)).guards
          (changes_of new changes)))) done does
          ∙ operate_gives changes cost z gone same;
      floor = did_floor;
      stays = tt;
    }

    -- where they are guarded there is none
    pub operate_guarded : (changes : ChangesOf ℕ) (cost z : ℤ) (a : Applied) (atom : ℕ) (t : Site)
        → ((b : Body) → body_at (code_in s.scene) start end ≡ Some b
        → HasGone (body_going (setting_of s.scene old) nest b (bindings_of old c.slots)) new changes cost)
        → z ≡ cost
        → Operates new s a t (operated (node_of new (held_now s)) (place_in s.net.now c.id) (term_at new c.task) z
        (apply (node_of new (held_now s)).state (node_of new (held_now s)).guards (changes_of new changes)))
        → a ≡ applied.Guarded atom → Gives s nest old new c (deeds.Operate start end) None t
    operate_guarded changes cost z a atom t gone same does guarded =
        let h = subst (λ x. Operates new s x t (operated (node_of new (held_now s)) (place_in s.net.now c.id)
        (term_at new c.task) z (apply (node_of new (held_now s)).state (node_of new (held_now s)).guards
        (changes_of new changes)))) guarded does in
        record {
          children = sym h.0 ∙ operate_gives changes cost z gone same;
          floor = (grows_length old new g, omega arith);
          stays = h.1;
        }

  -- ---- tasks

  module _ (tasks : ℕ) (x : Tasks) (is : tasks_at (code_in s.scene) tasks ≡ Some x) where
    -- subtasks that stand in the place of the task are the child
    pub decompose_did : (sub : Network) (t : Site) → tasks_value x (bindings_of old c.slots) ≡ Ok sub
        → MakesChild new t (decomposed (node_of new (held_now s)) (place_in s.net.now c.id) (Ok sub))
        → Gives s nest old new c (deeds.Decompose tasks) (Some (Did floor)) t
    decompose_did sub t value makes =
        let n = node_of old (held_now s) in
        let p = place_in s.net.now c.id in
        record {
          children =
              makes
              ∙ (decomposed_value (node_of new (held_now s)) n p (node_stays old new g (held_now s) site.node) sub
              (tasks_value x (bindings_of old c.slots)) value
              ∙ tasks_give n p (tasks_at (code_in s.scene) tasks) x (bindings_of old c.slots)
              (tasks_value x (bindings_of old c.slots)) is refl);
          floor = did_floor;
          stays = tt;
        }
