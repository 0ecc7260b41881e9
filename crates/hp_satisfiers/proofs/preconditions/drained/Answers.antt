use Rattle.std.proofs.Common.{length, refl, sym, ◌∙◌, subst}
use Rattle.hp_syntax.specs.Preconditions.{heard}
use Rattle.hp_eval.proofs.GrowthLemmas.{grows_self, grows_on}
use Rattle.hp_answers.specs.AnswerViews.{Finds, FindsUpTo}
use Rattle.hp_answers.proofs.AnswerLemmas.{upto_none}
use Rattle.hp_satisfiers.proofs.PreconditionSteps.{more_left, none_left}
use Rattle.hp_satisfiers.proofs.preconditions.drained.Goals as goal

pub loop-found-preserved : goal.loop-found-preserved
loop-found-preserved g c =
    let h = c.loop-found.invariant in
    let new = c.take_next.new in
    let whole = heard (g.S.Sats.rest c.args.sats.now tt c.args.cells.now c.args.slots.now) in
    let left = g.S.Sats.rest new.sats tt new.cells new.slots in
    record {
      found =
          subst (λ n. FindsUpTo new.cells n new.found.items whole (heard left)) (sym c.take_next.ensures.vars)
          (more_left new.cells (length c.loop-found.slots.values) new.found.items whole c.in_ok-take_next.field-0 left
          c.if-branch.true (c.in_ok-take_next.ensures.takes whole h.found));
      vars = c.take_next.ensures.vars ∙ h.vars;
      live = c.in_ok-take_next.ensures.live;
      still_open = c.take_next.ensures.open;
      suits = c.take_next.ensures.suits;
      fits = c.take_next.ensures.fits;
      kept = c.take_next.ensures.kept;
      grown = grows_on c.args.cells.now c.loop-found.cells new.cells h.grown c.take_next.ensures.cells;
    }

pub returns-clause-finds : goal.returns-clause-finds
returns-clause-finds g c =
    let h = c.loop-found.invariant in
    let new = c.take_next.new in
    let whole = heard (g.S.Sats.rest c.args.sats.now tt c.args.cells.now c.args.slots.now) in
    let left = g.S.Sats.rest new.sats tt new.cells new.slots in
    subst (λ n. Finds new.cells n new.found.items whole) h.vars
    (none_left new.cells (length c.loop-found.slots.values) new.found.items whole c.in_ok-take_next.field-0 left
    c.if-branch.false (c.in_ok-take_next.ensures.takes whole h.found))

pub loop-found-init : goal.loop-found-init
loop-found-init g c =
    let whole = heard (g.S.Sats.rest c.args.sats.now tt c.args.cells.now c.args.slots.now) in
    record {
      found =
          upto_none c.args.cells.now (length c.args.slots.now.values) c.new-found.result.items whole
          c.new-found.ensures.items;
      vars = refl;
      live = c.requires.live;
      still_open = c.requires.open;
      suits = c.requires.suits;
      fits = c.requires.fits;
      kept = c.requires.kept;
      grown = grows_self c.args.cells.now;
    }

pub returns-clause-cells : goal.returns-clause-cells
returns-clause-cells g c =
    grows_on c.args.cells.now c.loop-found.cells c.take_next.new.cells c.loop-found.invariant.grown
    c.take_next.ensures.cells

pub returns-in_err-take_next-clause-cells : goal.returns-in_err-take_next-clause-cells
returns-in_err-take_next-clause-cells g c =
    grows_on c.args.cells.now c.loop-found.cells c.take_next.new.cells c.loop-found.invariant.grown
    c.take_next.ensures.cells
