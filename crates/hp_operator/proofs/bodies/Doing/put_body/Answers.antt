use Rattle.std.proofs.Common.{◌≡◌, [], Some, List, length, sym, ◌∙◌, ap, ap₂, subst, FitsSigned, w64, rules}
use Rattle.std.proofs.lemmas.Int.{to_z-of_z}
use Rattle.std.proofs.lemmas.Option.{same_Some}
use Rattle.std.proofs.lemmas.Result.{err_from_is_err_and}
use Rattle.hp_syntax.specs.declared.domain.Side.TheVariants.{Deletes, Adds}
use Rattle.hp_syntax.specs.Changes.{Went, cost_value}
use Rattle.hp_syntax.specs.Syntax.{Effect}
use Rattle.hp_syntax.specs.Views.{pattern_of}
use Rattle.hp_code.specs.Sources.{Body}
use Rattle.hp_eval.specs.Slotted.{Slotted, AreBelow, bindings_of}
use Rattle.hp_eval.proofs.GrowthLemmas.{grows_on, below_grows, bindings_stay}
use Rattle.hp_world.specs.Stages.{changes_of}
use Rattle.hp_suspended.specs.SceneViews.{setting_of}
use Rattle.hp_suspended.proofs.CallLemmas.{ready_grows}
use Rattle.hp_effect.specs.Gathering.{obstacle_of, HasPut, StopsHere}
use Rattle.hp_effect.proofs.GatheringLemmas.{changes_stay, changes_grow}
use Rattle.hp_operator.specs.Bodies.{behind_side, list_going, on_side}
use Rattle.hp_operator.proofs.BodyLemmas.{there_is}
use Rattle.hp_operator.proofs.SideSteps.{list_stays}
use Rattle.hp_operator.proofs.WholeSteps.{adds_behind, dels_stop, adds_stop, cost_stop, cost_stops, all_go, gathered_both}
use Rattle.hp_operator.proofs.bodies.Doing.put_body.Goals as goal

pub returns-in_err-adds-clause-goes : goal.returns-in_err-adds-clause-goes
returns-in_err-adds-clause-goes c = λ b is.
    let s = c.args.self.now.scene.now in
    let old = c.args.cells.now in
    let p = err_from_is_err_and c.from_residual.result c.from_residual.ensures.1 in
    rw (p.1, p.2) (dels_stop (setting_of s old) c.args.self.now.nest b (bindings_of old c.args.slots.now)
    c.in_err-adds.field-0.0 (c.in_err-adds.ensures.puts b is))

pub put_side-requires-2-clause-ready : goal.put_side-requires-2-clause-ready
put_side-requires-2-clause-ready c =
    let old = c.args.cells.now in
    let now = c.put_side.new.cells in
    ready_grows c.args.self.now.scene.now old now c.put_side.ensures.cells c.args.slots.now c.put_side.new.slots
    c.requires.ready
    (subst (AreBelow (length now)) (sym c.put_side.ensures.slots)
    (below_grows old now c.put_side.ensures.cells c.args.slots.now c.requires.ready.bindings))

pub put_side-requires-2-clause-below : goal.put_side-requires-2-clause-below
put_side-requires-2-clause-below c =
    let b = there_is _ c.requires.body.read in (c.in_ok-adds.ensures.puts b.0 b.1).below

pub returns-in_err-last-clause-goes : goal.returns-in_err-last-clause-goes
returns-in_err-last-clause-goes c = λ b is.
    let s = c.args.self.now.scene.now in
    let nest = c.args.self.now.nest in
    let old = c.args.cells.now in
    let now = c.put_side.new.cells in
    let e = bindings_of old c.args.slots.now in
    let obstacle = c.in_err-last.field-0.0 in
    let put = c.in_ok-adds.ensures.puts b is in
    let rest = behind_side Deletes b in
    let adds =
    ap (λ (f : Slotted). list_going (setting_of s now) nest (on_side Adds rest) (bindings_of now f))
    c.put_side.ensures.slots
    ∙ list_stays s old now c.put_side.ensures.cells c.requires.ready.atoms c.args.slots.now c.requires.ready.bindings
    nest (on_side Adds rest)
    ∙ ap (λ xs. list_going (setting_of s old) nest xs e) (adds_behind b) in
    let p = err_from_is_err_and c.from_residual-in_err-last.result c.from_residual-in_err-last.ensures.1 in
    rw (p.1, p.2) (adds_stop (setting_of s old) nest b e put.values put.went obstacle
    (subst (StopsHere obstacle) adds (c.in_err-last.ensures.puts rest (c.in_ok-adds.ensures.left b is))))

pub cost_at-requires : goal.cost_at-requires
cost_at-requires c =
    let b = there_is _ c.requires.body.read in
    record {
      body = c.in_ok-last.ensures.body;
      cost = b.0.cost;
      is = c.in_ok-last.ensures.left (behind_side Deletes b.0) (c.in_ok-adds.ensures.left b.0 b.1);
    }

pub returns-in_err-cost-clause-goes : goal.returns-in_err-cost-clause-goes
returns-in_err-cost-clause-goes c = λ b is.
    let s = c.args.self.now.scene.now in
    let nest = c.args.self.now.nest in
    let old = c.args.cells.now in
    let now = c.put_side.new.cells in
    let later = c.put_side-2.new.cells in
    let grows = grows_on old now later c.put_side.ensures.cells c.put_side-2.ensures.cells in
    let e = bindings_of old c.args.slots.now in
    let put = c.in_ok-adds.ensures.puts b is in
    let rest = behind_side Deletes b in
    let left = c.in_ok-adds.ensures.left b is in
    let put2 = c.in_ok-last.ensures.puts rest left in
    let adds =
    ap (λ (f : Slotted). list_going (setting_of s now) nest (on_side Adds rest) (bindings_of now f))
    c.put_side.ensures.slots
    ∙ list_stays s old now c.put_side.ensures.cells c.requires.ready.atoms c.args.slots.now c.requires.ready.bindings
    nest (on_side Adds rest)
    ∙ ap (λ xs. list_going (setting_of s old) nest xs e) (adds_behind b) in
    let body = same_Some _ _ (sym (c.in_ok-last.ensures.left rest left) ∙ c.cost_at.ensures) in
    let pattern : b.cost ≡ pattern_of c.cost_at.result.now = ap (λ (x : Body). x.cost) body in
    let slots = c.put_side-2.ensures.slots ∙ c.put_side.ensures.slots in
    let stop = c.in_err-cost.field-0.0 in
    let p = err_from_is_err_and c.from_residual-in_err-cost.result c.from_residual-in_err-cost.ensures.1 in
    rw (p.1, p.2) (cost_stop (setting_of s old) nest b e put.values put.went put2.values (sym adds ∙ put2.went)
    (obstacle_of stop)
    (subst (λ x. StopsHere (obstacle_of stop) (cost_value x e)) (sym pattern)
    (subst (λ x. StopsHere (obstacle_of stop) (cost_value (pattern_of c.cost_at.result.now) x))
    (ap (bindings_of later) slots ∙ bindings_stay old later grows c.args.slots.now c.requires.ready.bindings)
    (cost_stops stop (cost_value (pattern_of c.cost_at.result.now) (bindings_of later c.put_side-2.new.slots))
    c.in_err-cost.ensures.costs))))

pub returns-clause-goes : goal.returns-clause-goes
returns-clause-goes c = λ b is.
    let s = c.args.self.now.scene.now in
    let nest = c.args.self.now.nest in
    let old = c.args.cells.now in
    let now = c.put_side.new.cells in
    let later = c.put_side-2.new.cells in
    let new = c.cost.new.cells in
    let grows = grows_on old now later c.put_side.ensures.cells c.put_side-2.ensures.cells in
    let e = bindings_of old c.args.slots.now in
    let changes = c.put_side-2.new.changes in
    let put = c.in_ok-adds.ensures.puts b is in
    let rest = behind_side Deletes b in
    let left = c.in_ok-adds.ensures.left b is in
    let put2 = c.in_ok-last.ensures.puts rest left in
    let adds =
    ap (λ (f : Slotted). list_going (setting_of s now) nest (on_side Adds rest) (bindings_of now f))
    c.put_side.ensures.slots
    ∙ list_stays s old now c.put_side.ensures.cells c.requires.ready.atoms c.args.slots.now c.requires.ready.bindings
    nest (on_side Adds rest)
    ∙ ap (λ xs. list_going (setting_of s old) nest xs e) (adds_behind b) in
    let body = same_Some _ _ (sym (c.in_ok-last.ensures.left rest left) ∙ c.cost_at.ensures) in
    let pattern : b.cost ≡ pattern_of c.cost_at.result.now = ap (λ (x : Body). x.cost) body in
    let slots = c.put_side-2.ensures.slots ∙ c.put_side.ensures.slots in
    let costs =
    ap₂ cost_value pattern
    (sym (ap (bindings_of later) slots
    ∙ bindings_stay old later grows c.args.slots.now c.requires.ready.bindings))
    ∙ c.in_ok-cost.ensures.costs in
    let both =
    gathered_both (changes_of old c.args.changes.now) (changes_of now c.put_side.new.changes)
    (changes_of later changes) put.values put2.values (ap (changes_of old) c.requires.blank) put.puts put2.puts in
    let fits : FitsSigned w64 c.in_ok-cost.cost = search rules in
    let stay = changes_stay later new c.cost.ensures.cells changes put2.below in
    record {
      went =
          all_go (setting_of s old) nest b e put.values put.went put2.values (sym adds ∙ put2.went) c.in_ok-cost.cost
          costs
          ∙ ap₂ (λ x n. Went (x, n)) (sym (stay ∙ both)) (sym (to_z-of_z w64 c.in_ok-cost.cost fits));
      below = changes_grow later new c.cost.ensures.cells changes put2.below;
    }
