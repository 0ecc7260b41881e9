use Rattle.std.proofs.Common.{◌≡◌, true, false, refl, sym, ap, subst, ◌∙◌, arith, length}
use Rattle.std.proofs.lemmas.Result.{err_from_is_err_and}
use Rattle.hp_eval.specs.Slotted.{Slotted, AreBelow, bindings_of}
use Rattle.hp_eval.proofs.GrowthLemmas.{grows_self, grows_on, below_grows}
use Rattle.hp_nodes.specs.NodeViews.{laid_of}
use Rattle.hp_world.specs.Stages.{changes_of}
use Rattle.hp_suspended.specs.SceneViews.{code_in, setting_of}
use Rattle.hp_suspended.proofs.CallLemmas.{ready_grows}
use Rattle.hp_effect.specs.Gathering.{HasPut, StopsHere}
use Rattle.hp_effect.proofs.GatheringLemmas.{along_none}
use Rattle.hp_operator.specs.Bodies.{effect_going, list_going, on_side}
use Rattle.hp_operator.proofs.BodyLemmas.{there_is}
use Rattle.hp_operator.proofs.SideSteps.{turn_reads, turn_body, turn_more, turn_on, turn_stops, way_ends, way_left, effect_stays}
use Rattle.hp_operator.proofs.bodies.Doing.put_side.Goals as goal

pub loop-side-init : goal.loop-side-init
loop-side-init c =
    let s = c.args.self.now.scene.now in
    let old = c.args.cells.now in
    let changes = c.args.changes.now in
    record {
      grows = grows_self old;
      slots = refl;
      body = c.requires.body;
      way = λ b is. record {
        rest = b;
        stands = is;
        behind = refl;
        along =
            along_none c.args.side
            (list_going (setting_of s old) c.args.self.now.nest (on_side c.args.side b) (bindings_of old c.args.slots.now))
            (changes_of old changes) old changes refl c.requires.below;
      };
    }

pub put_effect-requires-clause-ready : goal.put_effect-requires-clause-ready
put_effect-requires-clause-ready c =
    let held = c.loop-side.invariant in
    let old = c.args.cells.now in
    let now = c.loop-side.cells in
    ready_grows c.args.self.now.scene.now old now held.grows c.args.slots.now c.loop-side.slots c.requires.ready
    (subst (AreBelow (length now)) (sym held.slots)
    (below_grows old now held.grows c.args.slots.now c.requires.ready.bindings))

pub put_effect-requires-clause-below : goal.put_effect-requires-clause-below
put_effect-requires-clause-below c =
    let b = there_is _ c.requires.body.read in (c.loop-side.invariant.way b.0 b.1).along.below

pub put_effect-requires-clause-effect : goal.put_effect-requires-clause-effect
put_effect-requires-clause-effect c =
    turn_reads (code_in c.args.self.now.scene.now) c.args.side c.loop-side.at c.args.end c.side_at.result
    (sym c.is_on.ensures ∙ c.loop-side-test.true) c.side_at.ensures

pub returns-in_err-put_effect-clause-puts : goal.returns-in_err-put_effect-clause-puts
returns-in_err-put_effect-clause-puts c = λ b is.
    let s = c.args.self.now.scene.now in
    let nest = c.args.self.now.nest in
    let old = c.args.cells.now in
    let now = c.loop-side.cells in
    let held = c.loop-side.invariant in
    let e = bindings_of old c.args.slots.now in
    let obstacle = c.in_err-put_effect.field-0.0 in
    let p = err_from_is_err_and c.from_residual.result c.from_residual.ensures.1 in
    rw (p.1, p.2) (turn_stops (setting_of s old) nest c.args.side e b c.loop-side.at c.args.end now
    (changes_of old c.args.changes.now) c.loop-side.changes (held.way b is) c.side_at.result
    (sym c.is_on.ensures ∙ c.loop-side-test.true) c.side_at.ensures obstacle
    (λ x r.
    subst (StopsHere obstacle)
    (ap (λ (f : Slotted). effect_going (setting_of s now) nest x (bindings_of now f)) held.slots
    ∙ effect_stays s old now held.grows c.requires.ready.atoms c.args.slots.now c.requires.ready.bindings nest x)
    (c.in_err-put_effect.ensures.puts x r)))

pub loop-side-preserved : goal.loop-side-preserved
loop-side-preserved c =
    let s = c.args.self.now.scene.now in
    let nest = c.args.self.now.nest in
    let side = c.args.side in
    let old = c.args.cells.now in
    let now = c.loop-side.cells in
    let new = c.put_effect.new.cells in
    let held = c.loop-side.invariant in
    let e = bindings_of old c.args.slots.now in
    let goes = sym c.is_on.ensures ∙ c.loop-side-test.true in
    let l = laid_of c.node_at.result.now in
    record {
      grows = grows_on old now new held.grows c.put_effect.ensures.cells;
      slots = c.put_effect.ensures.slots ∙ held.slots;
      body =
          turn_body (code_in s) side c.loop-side.at c.args.end c.side_at.result goes c.side_at.ensures l
          c.node_at.ensures.is;
      way = λ b is.
          turn_on (setting_of s old) nest side e b c.loop-side.at c.args.end now (changes_of old c.args.changes.now)
          c.loop-side.changes (held.way b is) c.side_at.result goes c.side_at.ensures l c.node_at.ensures.is new
          c.put_effect.new.changes
          (λ x r.
          subst (λ g. HasPut side g new (changes_of now c.loop-side.changes) c.put_effect.new.changes)
          (ap (λ (f : Slotted). effect_going (setting_of s now) nest x (bindings_of now f)) held.slots
          ∙ effect_stays s old now held.grows c.requires.ready.atoms c.args.slots.now c.requires.ready.bindings nest x)
          (c.in_ok-put_effect.ensures.puts x r));
    }

pub returns-clause-puts : goal.returns-clause-puts
returns-clause-puts c = λ b is.
    let s = c.args.self.now.scene.now in
    let old = c.args.cells.now in
    way_ends (setting_of s old) c.args.self.now.nest c.args.side (bindings_of old c.args.slots.now) b c.loop-side.at
    c.args.end c.loop-side.cells (changes_of old c.args.changes.now) c.loop-side.changes
    (c.loop-side.invariant.way b is) c.side_at.result (sym c.is_on.ensures ∙ c.loop-side-test.false) c.side_at.ensures

pub returns-clause-left : goal.returns-clause-left
returns-clause-left c = λ b is.
    let s = c.args.self.now.scene.now in
    let old = c.args.cells.now in
    way_left (setting_of s old) c.args.self.now.nest c.args.side (bindings_of old c.args.slots.now) b c.loop-side.at
    c.args.end c.loop-side.cells (changes_of old c.args.changes.now) c.loop-side.changes
    (c.loop-side.invariant.way b is) c.side_at.result (sym c.is_on.ensures ∙ c.loop-side-test.false) c.side_at.ensures
