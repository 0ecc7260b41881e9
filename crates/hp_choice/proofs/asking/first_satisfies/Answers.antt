use Rattle.std.proofs.Common.{length, refl, sym, subst}
use Rattle.hp_suspended.specs.Fitting.{Fits}
use Rattle.hp_suspended.specs.SceneViews.{code_in}
use Rattle.hp_suspended.specs.Views.{view}
use Rattle.hp_suspended.proofs.CallLemmas.{ready_moved}
use Rattle.hp_choice.proofs.AlongSteps.{fresh_is, goes_none, goes_sat}
use Rattle.hp_choice.proofs.asking.first_satisfies.Goals as goal

pub next-requires-clause-fits : goal.next-requires-clause-fits
next-requires-clause-fits c =
    let e = c.args.slots.now in
    subst (Fits (code_in c.args.scene.now) (length c.args.cells.now) (length e.trail))
    (sym (fresh_is c.mark-mark.result c.args.nest c.args.node e c.mark-mark.ensures)) (refl, c.requires.part)

pub returns-in_err-next-clause-ready : goal.returns-in_err-next-clause-ready
returns-in_err-next-clause-ready c =
    ready_moved c.args.scene.now _ c.args.cells.now c.next.new.cells c.args.slots.now c.next.new.slots
    c.requires.ready c.next.ensures.moves

pub returns-in-Sat-clause-first : goal.returns-in-Sat-clause-first
returns-in-Sat-clause-first c =
    let e = c.args.slots.now in
    goes_sat c.args.scene.now c.args.cells.now c.next.new.cells c.args.nest c.args.node e c.next.new.slots
    c.requires.part c.requires.ready c.next.ensures.moves.grows _ (view c.next.new.self)
    (fresh_is c.mark-mark.result c.args.nest c.args.node e c.mark-mark.ensures) c.in_ok-next.field-0
    c.in_ok-next.ensures.gives c.in-Sat.is

pub returns-in-Sat-clause-ready : goal.returns-in-Sat-clause-ready
returns-in-Sat-clause-ready c =
    ready_moved c.args.scene.now _ c.args.cells.now c.next.new.cells c.args.slots.now c.next.new.slots
    c.requires.ready c.next.ensures.moves

pub returns : goal.returns
returns c =
    let e = c.args.slots.now in
    record {
      first =
          goes_none c.args.scene.now c.args.cells.now c.next.new.cells c.args.nest c.args.node e c.next.new.slots
          c.requires.part c.requires.ready c.next.ensures.moves.grows _ (view c.next.new.self)
          (fresh_is c.mark-mark.result c.args.nest c.args.node e c.mark-mark.ensures) c.in_ok-next.field-0
          c.in_ok-next.ensures.gives c.in-Fault.is;
      ready =
          ready_moved c.args.scene.now _ c.args.cells.now c.next.new.cells c.args.slots.now c.next.new.slots
          c.requires.ready c.next.ensures.moves;
      cells = c.next.ensures.moves.grows;
    }
