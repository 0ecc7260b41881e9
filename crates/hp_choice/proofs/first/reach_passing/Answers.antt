use Rattle.std.proofs.Common.{◌<◌, Some, false, length, ap, sym, subst, ◌∙◌}
use Rattle.hp_eval.proofs.GrowthLemmas.{below_grows, bindings_stay, grows_length, grows_on}
use Rattle.hp_suspended.specs.Fitting.{base_of}
use Rattle.hp_suspended.specs.Left.{left}
use Rattle.hp_suspended.specs.SceneViews.{code_in, setting_of}
use Rattle.hp_choice.specs.FirstSatisfier.{first_that}
use Rattle.hp_suspended.specs.Views.{view}
use Rattle.hp_suspended.proofs.CallLemmas.{ready_grows, ready_moved}
use Rattle.hp_suspended.proofs.Fitted.{fits_more}
use Rattle.hp_choice.proofs.AskingSteps.{left_before, next_fewer}
use Rattle.hp_choice.proofs.TestSteps.{passing_cut, passing_none, passing_other, passing_sat, passing_shorter, tests_later}
use Rattle.hp_choice.proofs.first.reach_passing.Goals as goal

pub is_passed-requires-clause-ready : goal.is_passed-requires-clause-ready
is_passed-requires-clause-ready c =
    let l = c.loop-slots in
    ready_moved c.args.scene.now (base_of (view l.parts)) l.cells c.next.new.cells l.slots c.next.new.slots
    l.invariant.ready c.next.ensures.moves

pub returns-then-branch-clause-first : goal.returns-then-branch-clause-first
returns-then-branch-clause-first c = λ passes tests.
    let l = c.loop-slots in
    let s = c.args.scene.now in
    let there = tests_later s c.args.cells.now c.next.new.cells
    (grows_on c.args.cells.now l.cells c.next.new.cells l.invariant.grows c.next.ensures.moves.grows)
    c.requires.ready.atoms c.args.nest c.args.test.now passes tests in
    l.invariant.same passes tests
    ∙ passing_sat s l.cells c.next.new.cells l.slots (view l.parts) l.invariant.ready l.invariant.fits
    c.next.ensures.moves.grows _ c.next.new.slots (view c.next.new.self) c.in_ok-next.ensures.gives passes c.in-Sat.is
    (sym (c.in_ok-is_passed-in-Sat.ensures.is passes there) ∙ c.if-branch.true)
    ∙ ap Some (sym (bindings_stay c.next.new.cells c.is_passed.new.cells c.is_passed.ensures.cells c.next.new.slots
    c.next.ensures.moves.below))

pub loop-slots-smaller-else-branch : goal.loop-slots-smaller-else-branch
loop-slots-smaller-else-branch c =
    let l = c.loop-slots in
    let s = c.args.scene.now in
    let d = c.next.new.cells in
    let ready =
    ready_moved s (base_of (view l.parts)) l.cells d l.slots c.next.new.slots l.invariant.ready c.next.ensures.moves in
    let same =
    left_before s d c.is_passed.new.cells c.next.new.slots (view c.next.new.self) ready c.in_ok-next.ensures.keeps.fits
    c.is_passed.ensures.cells in
    let less =
    passing_shorter s l.cells d l.slots (view l.parts) l.invariant.ready l.invariant.fits c.next.ensures.moves.grows _
    c.next.new.slots (view c.next.new.self) c.in_ok-next.ensures.gives c.in-Sat.is in
    subst (λ xs. length xs < length (left (setting_of s l.cells) l.slots (view l.parts))) same less

pub loop-slots-preserved-else-branch : goal.loop-slots-preserved-else-branch
loop-slots-preserved-else-branch c =
    let l = c.loop-slots in
    let s = c.args.scene.now in
    let d = c.next.new.cells in
    let more = c.is_passed.new.cells in
    let grown = c.is_passed.ensures.cells in
    let ready =
    ready_moved s (base_of (view l.parts)) l.cells d l.slots c.next.new.slots l.invariant.ready c.next.ensures.moves in
    let same =
    left_before s d more c.next.new.slots (view c.next.new.self) ready c.in_ok-next.ensures.keeps.fits grown in
    let all = grows_on c.args.cells.now l.cells d l.invariant.grows c.next.ensures.moves.grows in
    record {
      ready = ready_grows s d more grown c.next.new.slots c.next.new.slots ready
          (below_grows d more grown c.next.new.slots c.next.ensures.moves.below);
      fits = fits_more (code_in s) (length d) (length more) (grows_length d more grown) (length c.next.new.slots.trail)
          (view c.next.new.self) c.in_ok-next.ensures.keeps.fits;
      same =
          λ passes tests.
          let there = tests_later s c.args.cells.now d all c.requires.ready.atoms c.args.nest c.args.test.now passes tests
          in
          l.invariant.same passes tests
          ∙ passing_other s l.cells d l.slots (view l.parts) l.invariant.ready l.invariant.fits
          c.next.ensures.moves.grows _ c.next.new.slots (view c.next.new.self) c.in_ok-next.ensures.gives passes
          c.in-Sat.is (sym (c.in_ok-is_passed-in-Sat.ensures.is passes there) ∙ c.if-branch.false)
          ∙ ap (first_that passes) same;
      grows = grows_on c.args.cells.now d more all grown;
    }

pub returns-in-Fault-clause-first : goal.returns-in-Fault-clause-first
returns-in-Fault-clause-first c = λ passes tests.
    let l = c.loop-slots in
    l.invariant.same passes tests
    ∙ passing_none c.args.scene.now l.cells c.next.new.cells l.slots (view l.parts) l.invariant.ready l.invariant.fits
    c.next.ensures.moves.grows _ c.next.new.slots (view c.next.new.self) c.in_ok-next.ensures.gives passes c.in-Fault.is

pub loop-slots-smaller : goal.loop-slots-smaller
loop-slots-smaller c =
    let l = c.loop-slots in
    next_fewer c.args.scene.now l.cells c.next.new.cells l.slots (view l.parts) l.invariant.ready l.invariant.fits
    c.next.ensures.moves.grows false _ c.next.new.slots (view c.next.new.self) c.in_ok-next.ensures.gives c.in-Cut.is

pub loop-slots-preserved : goal.loop-slots-preserved
loop-slots-preserved c =
    let l = c.loop-slots in
    record {
      ready =
          ready_moved c.args.scene.now (base_of (view l.parts)) l.cells c.next.new.cells l.slots c.next.new.slots
          l.invariant.ready c.next.ensures.moves;
      fits = c.in_ok-next.ensures.keeps.fits;
      same =
          λ passes tests.
          l.invariant.same passes tests
          ∙ passing_cut c.args.scene.now l.cells c.next.new.cells l.slots (view l.parts) l.invariant.ready
          l.invariant.fits c.next.ensures.moves.grows _ c.next.new.slots (view c.next.new.self)
          c.in_ok-next.ensures.gives passes c.in-Cut.is;
      grows = grows_on c.args.cells.now l.cells c.next.new.cells l.invariant.grows c.next.ensures.moves.grows;
    }
