-- Effects that are put on a side, one after another.
use Rattle.std.proofs.Common.{◌≡◌, ℕ, ◌<◌, ◌≤◌, true, false, cond, List, [], ◌∷◌, length, slice_get, MatchOption, Option, Some, None, is_some, refl, sym, ◌∙◌, ap, ap₂, subst, arith}
use Rattle.std.proofs.lemmas.Option.{same_Some}
use Rattle.hp_syntax.specs.declared.domain.Side.{Side}
use Rattle.hp_syntax.specs.declared.domain.Side.TheVariants.{Deletes, Adds}
use Rattle.hp_syntax.specs.Applying.{ChangesOf}
use Rattle.hp_syntax.specs.Changes.{Changes, effect_values, effects_values}
use Rattle.hp_syntax.specs.Syntax.{Effect}
use Rattle.hp_syntax.specs.Terms.{Term}
use Rattle.hp_syntax.specs.Values.{Bindings}
use Rattle.hp_nodes.specs.Trees.{Laid}
use Rattle.hp_code.specs.CodeViews.{CodeView}
use Rattle.hp_code.specs.Sources.{Body, Sided, not_adding, with_effect}
use Rattle.hp_suspended.specs.declared.scene.Scene.{Scene}
use Rattle.hp_suspended.specs.SceneViews.{setting_of}
use Rattle.hp_suspended.specs.Settings.{Setting, axioms_in}
use Rattle.hp_eval.specs.Growth.{Grows}
use Rattle.hp_eval.specs.Slotted.{Slotted, AreBelow, bindings_of}
use Rattle.hp_eval.proofs.GrowthLemmas.{bindings_stay, terms_stay}
use Rattle.hp_world.specs.Stages.{AllBelow, changes_of, live_atoms}
use Rattle.hp_effect.specs.declared.obstacle.Obstacle.{Obstacle}
use Rattle.hp_effect.specs.Gathering.{HasPut, StopsHere, both}
use Rattle.hp_effect.proofs.GatheringLemmas.{Along, along_ends, along_more, along_stops, nothing_put}
use Rattle.hp_operator.specs.Bodies.{IsBodyIn, StandsCost, StandsEffect, adding_on, behind_side, body_at, effect_at, effect_going, effects_in, goes_on, is_adding, list_going, on_side}

-- so far as this node effects of a body were put on a side, and those that are left there are put there next
pub record OnWay (w : Setting) (nest : ℕ) (side : Side) (e : Bindings) (b : Body) (at' end : ℕ) (terms : List Term)
    (old : Changes) (now : ChangesOf ℕ) : Type 0 where
  pub rest : Body
  pub stands : body_at w.code at' end ≡ Some rest
  pub behind : behind_side side b ≡ behind_side side rest
  pub along : Along side (list_going w nest (on_side side b) e) (list_going w nest (on_side side rest) e) terms old now

module _ (w : Setting) (nest : ℕ) (side : Side) (e : Bindings) where
  -- what an effect and others gather is what it does, and then they
  list_step : (x : Sided) (ys : List Effect)
      → list_going w nest (x.effect ∷ ys) e ≡ both (effect_going w nest x e) (list_going w nest ys e)
  list_step x ys = refl

  -- an effect that is put on a side stands before the others there
  put_before : (found s : Side) (x : Sided) (b : Body) → goes_on s (Some found) ≡ true → x.adds ≡ is_adding found
      → (on_side s (with_effect x b) ≡ x.effect ∷ on_side s b) × (behind_side s (with_effect x b) ≡ behind_side s b)
  put_before found Adds x b h a = (refl, refl)
  put_before Deletes Deletes x b h a = (
    ap (λ t. cond t [] (x.effect ∷ not_adding b.effects)) a,
    ap (λ t. record { effects = cond t (x ∷ b.effects) (adding_on b.effects); cost = b.cost }) a,
  )
  put_before Adds Deletes x b h a = absurd cc

  -- where the cost stands none is put on a side any more
  none_at_cost : (s : Side) (b : Body) → b.effects ≡ [] → (on_side s b ≡ []) × (behind_side s b ≡ b)
  none_at_cost Deletes b h = (
    ap not_adding h,
    ap (λ xs. record { effects = adding_on xs; cost = b.cost }) h ∙ ap (λ xs. record { effects = xs; cost = b.cost }) (sym h),
  )
  none_at_cost Adds b h = (ap effects_in h, ap (λ xs. record { effects = xs; cost = b.cost }) (sym h))

  -- nor where an effect stands that isn't put there
  none_before : (found s : Side) (x : Sided) (b : Body) → goes_on s (Some found) ≡ false → x.adds ≡ is_adding found
      → (on_side s (with_effect x b) ≡ []) × (behind_side s (with_effect x b) ≡ with_effect x b)
  none_before found Adds x b h a = absurd cc
  none_before Deletes Deletes x b h a = absurd cc
  none_before Adds Deletes x b h a = (
    ap (λ t. cond t [] (x.effect ∷ not_adding b.effects)) a,
    ap (λ t. record { effects = cond t (x ∷ b.effects) (adding_on b.effects); cost = b.cost }) a,
  )

  module _ (b : Body) (at' end : ℕ) (terms : List Term) (old : Changes) (now : ChangesOf ℕ)
      (way : OnWay w nest side e b at' end terms old now) where
    -- the next effect is put where the others are left
    pub way_on : (found : Side) → goes_on side (Some found) ≡ true → (s : StandsEffect w.code at' end found)
        → (later : List Term) (after : ChangesOf ℕ)
        → HasPut side (effect_going w nest s.effect e) later (changes_of terms now) after
        → OnWay w nest side e b s.node.to end later old after
    way_on found goes s later after put =
        let same : way.rest ≡ with_effect s.effect s.others =
        same_Some way.rest (with_effect s.effect s.others) (sym way.stands ∙ s.is) in
        let p = put_before found side s.effect s.others goes s.adds in
        record {
          rest = s.others;
          stands = s.rest;
          behind = way.behind ∙ ap (behind_side side) same ∙ p.1;
          along =
              along_more side (list_going w nest (on_side side b) e) old terms later now after
              (effect_going w nest s.effect e) (list_going w nest (on_side side way.rest) e)
              (list_going w nest (on_side side s.others) e)
              (ap (λ r. list_going w nest (on_side side r) e) same ∙ ap (λ ys. list_going w nest ys e) p.0)
              way.along put;
        }

    -- where the next effect stops all do
    pub way_stops : (found : Side) → goes_on side (Some found) ≡ true → (s : StandsEffect w.code at' end found)
        → (obstacle : Obstacle) → StopsHere obstacle (effect_going w nest s.effect e)
        → StopsHere obstacle (list_going w nest (on_side side b) e)
    way_stops found goes s obstacle h =
        let same : way.rest ≡ with_effect s.effect s.others =
        same_Some way.rest (with_effect s.effect s.others) (sym way.stands ∙ s.is) in
        let p = put_before found side s.effect s.others goes s.adds in
        along_stops side (list_going w nest (on_side side b) e) old terms now (effect_going w nest s.effect e)
        (list_going w nest (on_side side way.rest) e) (list_going w nest (on_side side s.others) e) obstacle
        (ap (λ r. list_going w nest (on_side side r) e) same ∙ ap (λ ys. list_going w nest ys e) p.0) way.along h

    -- no effect is left that is put on the side
    none_left : (o : Option Side) → goes_on side o ≡ false
        → MatchOption o (StandsCost w.code at' end) (StandsEffect w.code at' end)
        → (on_side side way.rest ≡ []) × (behind_side side way.rest ≡ way.rest)
    none_left None goes s =
        let same = same_Some way.rest _ (sym way.stands ∙ s.is) in
        none_at_cost side way.rest (ap (λ (r : Body). r.effects) same)
    none_left (Some found) goes s =
        let same : way.rest ≡ with_effect s.effect s.others =
        same_Some way.rest (with_effect s.effect s.others) (sym way.stands ∙ s.is) in
        let p = none_before found side s.effect s.others goes s.adds in (
          ap (on_side side) same ∙ p.0,
          ap (behind_side side) same ∙ p.1 ∙ sym same,
        )

    -- then all were put
    pub way_ends : (o : Option Side) → goes_on side o ≡ false
        → MatchOption o (StandsCost w.code at' end) (StandsEffect w.code at' end)
        → HasPut side (list_going w nest (on_side side b) e) terms old now
    way_ends o goes s =
        let none = none_left o goes s in
        along_ends side (list_going w nest (on_side side b) e) old terms terms now now
        (list_going w nest (on_side side way.rest) e) way.along
        (subst (λ g. HasPut side g terms (changes_of terms now) now) (sym (ap (λ ys. list_going w nest ys e) none.0))
        (nothing_put side terms now way.along.below))

    -- and what is left stands behind them
    pub way_left : (o : Option Side) → goes_on side o ≡ false
        → MatchOption o (StandsCost w.code at' end) (StandsEffect w.code at' end)
        → body_at w.code at' end ≡ Some (behind_side side b)
    way_left o goes s =
        let none = none_left o goes s in way.stands ∙ ap Some (sym none.1 ∙ sym way.behind)

-- ---- one turn

-- where an effect is put on a side, one stands there
record Turn (c : CodeView) (side : Side) (at' end : ℕ) : Type 0 where
  found : Side
  goes : goes_on side (Some found) ≡ true
  stands : StandsEffect c at' end found

turn_of : (c : CodeView) (side : Side) (at' end : ℕ) (o : Option Side) → goes_on side o ≡ true
    → MatchOption o (StandsCost c at' end) (StandsEffect c at' end) → Turn c side at' end
turn_of c side at' end None goes s = absurd cc
turn_of c side at' end (Some found) goes s = record { found = found; goes = goes; stands = s }

module _ (c : CodeView) (side : Side) (at' end : ℕ) (o : Option Side) (goes : goes_on side o ≡ true)
    (stands : MatchOption o (StandsCost c at' end) (StandsEffect c at' end)) where
  abbrev turn : Turn c side at' end
  turn = turn_of c side at' end o goes stands

  -- the node is that of an effect
  pub turn_reads : is_some (effect_at c at') ≡ true
  turn_reads = ap is_some turn.stands.reads

  module _ (l : Laid) (there : slice_get c.nodes at' ≡ Some l) where
    same_node : turn.stands.node ≡ l
    same_node = same_Some turn.stands.node l (sym turn.stands.there ∙ there)

    -- the others are behind it
    pub turn_body : IsBodyIn c l.to end
    turn_body = subst (λ (n : Laid). IsBodyIn c n.to end) same_node turn.stands.body

    pub turn_more : at' < l.to
    turn_more = subst (λ (n : Laid). at' < n.to) same_node turn.stands.more

-- a body ends no sooner than it begins
pub body_ascends : (c : CodeView) (i to : ℕ) → IsBodyIn c i to → i ≤ to
body_ascends c i to is = let whole = is.whole in omega (arith, whole)

module _ (w : Setting) (nest : ℕ) (side : Side) (e : Bindings) (b : Body) (at' end : ℕ) (terms : List Term)
    (old : Changes) (now : ChangesOf ℕ) (way : OnWay w nest side e b at' end terms old now) (o : Option Side)
    (goes : goes_on side o ≡ true)
    (stands : MatchOption o (StandsCost w.code at' end) (StandsEffect w.code at' end)) where
  abbrev here : Turn w.code side at' end
  here = turn_of w.code side at' end o goes stands

  -- the effect of the node is put, and the others are left
  pub turn_on : (l : Laid) → slice_get w.code.nodes at' ≡ Some l → (later : List Term) (after : ChangesOf ℕ)
      → ((x : Sided) → effect_at w.code at' ≡ Some x
      → HasPut side (effect_going w nest x e) later (changes_of terms now) after)
      → OnWay w nest side e b l.to end later old after
  turn_on l there later after put =
      let s = here.stands in
      subst (λ (n : Laid). OnWay w nest side e b n.to end later old after)
      (same_Some s.node l (sym s.there ∙ there))
      (way_on w nest side e b at' end terms old now way here.found here.goes s later after (put s.effect s.reads))

  -- where it stops all do
  pub turn_stops : (obstacle : Obstacle)
      → ((x : Sided) → effect_at w.code at' ≡ Some x → StopsHere obstacle (effect_going w nest x e))
      → StopsHere obstacle (list_going w nest (on_side side b) e)
  turn_stops obstacle h =
      let s = here.stands in
      way_stops w nest side e b at' end terms old now way here.found here.goes s obstacle (h s.effect s.reads)

-- ---- terms that are added

module _ (s : Scene) (old new : List Term) (g : Grows old new) (atoms : AllBelow (length old)
    (live_atoms s.world.now.places)) (e : Slotted) (below : AreBelow (length old) e) where
  -- an effect gathers the same over more terms
  pub effect_stays : (nest : ℕ) (x : Sided) → effect_going (setting_of s new) nest x (bindings_of new e)
      ≡ effect_going (setting_of s old) nest x (bindings_of old e)
  effect_stays nest x =
      ap₂ (λ st b. effect_values (axioms_in (setting_of s old)) nest st x.effect b)
      (terms_stay old new g (live_atoms s.world.now.places) atoms) (bindings_stay old new g e below)

  -- so do effects
  pub list_stays : (nest : ℕ) (xs : List Effect) → list_going (setting_of s new) nest xs (bindings_of new e)
      ≡ list_going (setting_of s old) nest xs (bindings_of old e)
  list_stays nest xs =
      ap₂ (λ st b. effects_values (axioms_in (setting_of s old)) nest st xs b)
      (terms_stay old new g (live_atoms s.world.now.places) atoms) (bindings_stay old new g e below)
