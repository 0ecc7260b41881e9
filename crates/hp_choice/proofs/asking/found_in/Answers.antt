use Rattle.std.proofs.Common.{sym, ◌∙◌}
use Rattle.hp_eval.proofs.GrowthLemmas.{grows_on}
use Rattle.hp_suspended.specs.Fitting.{base_of}
use Rattle.hp_suspended.specs.Views.{view}
use Rattle.hp_suspended.proofs.CallLemmas.{ready_moved}
use Rattle.hp_choice.proofs.AskingSteps.{next_cut, next_fault, next_fewer, next_none, next_sat}
use Rattle.hp_choice.proofs.asking.found_in.Goals as goal

pub returns-in-Sat-clause-found : goal.returns-in-Sat-clause-found
returns-in-Sat-clause-found c =
    let l = c.loop-fault in
    sym (l.invariant.same
    ∙ next_sat c.args.scene.now l.cells c.next.new.cells l.slots (view l.parts) l.invariant.ready l.invariant.fits
    c.next.ensures.moves.grows l.is_cut _ c.next.new.slots (view c.next.new.self) c.in_ok-next.ensures.gives
    c.in-Sat.is)

pub returns-in-Fault-clause-found : goal.returns-in-Fault-clause-found
returns-in-Fault-clause-found c =
    let l = c.loop-fault in
    sym (l.invariant.same
    ∙ next_fault c.args.scene.now l.cells c.next.new.cells l.slots (view l.parts) l.invariant.ready l.invariant.fits
    c.next.ensures.moves.grows l.is_cut _ c.next.new.slots (view c.next.new.self) c.in_ok-next.ensures.gives
    c.in-Fault.fault c.in-Fault.is)

pub loop-fault-smaller : goal.loop-fault-smaller
loop-fault-smaller c =
    let l = c.loop-fault in
    next_fewer c.args.scene.now l.cells c.next.new.cells l.slots (view l.parts) l.invariant.ready l.invariant.fits
    c.next.ensures.moves.grows l.is_cut _ c.next.new.slots (view c.next.new.self) c.in_ok-next.ensures.gives
    c.in-Cut.is

pub loop-fault-preserved : goal.loop-fault-preserved
loop-fault-preserved c =
    let l = c.loop-fault in
    record {
      ready =
          ready_moved c.args.scene.now (base_of (view l.parts)) l.cells c.next.new.cells l.slots c.next.new.slots
          l.invariant.ready c.next.ensures.moves;
      fits = c.in_ok-next.ensures.keeps.fits;
      same =
          l.invariant.same
          ∙ next_cut c.args.scene.now l.cells c.next.new.cells l.slots (view l.parts) l.invariant.ready
          l.invariant.fits c.next.ensures.moves.grows l.is_cut _ c.next.new.slots (view c.next.new.self)
          c.in_ok-next.ensures.gives c.in-Cut.is;
      grows = grows_on c.args.cells.now l.cells c.next.new.cells l.invariant.grows c.next.ensures.moves.grows;
    }

pub returns-in-End-clause-found : goal.returns-in-End-clause-found
returns-in-End-clause-found c =
    let l = c.loop-fault in
    c.none_behind.ensures
    ∙ sym (l.invariant.same
    ∙ next_none c.args.scene.now l.cells c.next.new.cells l.slots (view l.parts) l.invariant.ready l.invariant.fits
    c.next.ensures.moves.grows l.is_cut _ c.next.new.slots (view c.next.new.self) c.in_ok-next.ensures.gives
    c.in-End.is)
