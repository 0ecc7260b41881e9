use Rattle.std.proofs.Common.{refl, ◌∙◌, arith}
use Rattle.std.proofs.lemmas.Result.{err_from_is_err_and}
use Rattle.hp_eval.proofs.GrowthLemmas.{grows_self, grows_on}
use Rattle.hp_world.specs.Stages.{changes_of}
use Rattle.hp_effect.specs.Gathering.{each_going, HasPut, PutsFirst}
use Rattle.hp_effect.proofs.GatheringLemmas.{along_none, along_more, along_ends, along_halts}
use Rattle.hp_effect.proofs.putting.put_each.Goals as goal

pub loop-init : goal.loop-init
loop-init g c =
    let old = c.args.cells.now in
    let changes = c.args.changes.now in
    let whole = each_going (g.A.PutAtoms.atoms c.args.atoms.now)
    (g.S.Sats.rest c.args.sats.now c.args.base.now old c.args.slots.now) in
    record {
      along = along_none c.args.side whole (changes_of old changes) old changes refl c.requires.below;
      live = c.requires.live;
      still_open = c.requires.open;
      base = c.requires.base;
      slots = c.requires.slots;
      same_below = refl;
      start = refl;
      kept = omega arith;
      few = c.requires.cells;
      grown = grows_self old;
    }

pub put_next-requires-clause-live : goal.put_next-requires-clause-live
put_next-requires-clause-live g c = c.loop.invariant.live

pub put_next-requires-clause-open : goal.put_next-requires-clause-open
put_next-requires-clause-open g c = c.loop.invariant.still_open

pub put_next-requires-clause-base : goal.put_next-requires-clause-base
put_next-requires-clause-base g c = c.loop.invariant.base

pub put_next-requires-clause-slots : goal.put_next-requires-clause-slots
put_next-requires-clause-slots g c = c.loop.invariant.slots

pub put_next-requires-clause-cells : goal.put_next-requires-clause-cells
put_next-requires-clause-cells g c = c.loop.invariant.few

pub put_next-requires-clause-below : goal.put_next-requires-clause-below
put_next-requires-clause-below g c = c.loop.invariant.along.below

pub loop-preserved : goal.loop-preserved
loop-preserved g c =
    let held = c.loop.invariant in
    let next = c.put_next.ensures in
    let kept = next.kept in
    let old = c.args.cells.now in
    let as' = g.A.PutAtoms.atoms c.args.atoms.now in
    let whole = each_going as' (g.S.Sats.rest c.args.sats.now c.args.base.now old c.args.slots.now) in
    let left = each_going as' (g.S.Sats.rest c.loop.sats c.args.base.now c.loop.cells c.loop.slots) in
    let rest =
    each_going as' (g.S.Sats.rest c.put_next.new.sats c.args.base.now c.put_next.new.cells c.put_next.new.slots) in
    let put : PutsFirst c.args.side left rest c.put_next.new.cells (changes_of c.loop.cells c.loop.changes)
    c.put_next.new.changes =
    rw c.if-branch.true at c.in_ok-put_next.ensures.puts in
    record {
      along =
          along_more c.args.side whole (changes_of old c.args.changes.now) c.loop.cells c.put_next.new.cells
          c.loop.changes c.put_next.new.changes put.first left rest put.splits held.along put.puts;
      live = c.in_ok-put_next.ensures.live;
      still_open = next.open;
      base = next.base;
      slots = next.slots;
      same_below = next.undone ∙ held.same_below;
      start = next.start ∙ held.start;
      kept = omega (arith, held.kept, kept.0);
      few = kept.1;
      grown = grows_on old c.loop.cells c.put_next.new.cells held.grown next.cells;
    }

pub returns-clause-puts : goal.returns-clause-puts
returns-clause-puts g c =
    let old = c.args.cells.now in
    let as' = g.A.PutAtoms.atoms c.args.atoms.now in
    let whole = each_going as' (g.S.Sats.rest c.args.sats.now c.args.base.now old c.args.slots.now) in
    let left = each_going as' (g.S.Sats.rest c.loop.sats c.args.base.now c.loop.cells c.loop.slots) in
    let put : HasPut c.args.side left c.put_next.new.cells (changes_of c.loop.cells c.loop.changes)
    c.put_next.new.changes =
    rw c.if-branch.false at c.in_ok-put_next.ensures.puts in
    along_ends c.args.side whole (changes_of old c.args.changes.now) c.loop.cells c.put_next.new.cells c.loop.changes
    c.put_next.new.changes left c.loop.invariant.along put

pub returns-in_err-put_next-clause-puts : goal.returns-in_err-put_next-clause-puts
returns-in_err-put_next-clause-puts g c =
    let old = c.args.cells.now in
    let as' = g.A.PutAtoms.atoms c.args.atoms.now in
    let whole = each_going as' (g.S.Sats.rest c.args.sats.now c.args.base.now old c.args.slots.now) in
    let left = each_going as' (g.S.Sats.rest c.loop.sats c.args.base.now c.loop.cells c.loop.slots) in
    let p = err_from_is_err_and c.from_residual.result c.from_residual.ensures.1 in
    rw (p.1, p.2) (along_halts c.args.side whole (changes_of old c.args.changes.now) c.loop.cells c.loop.changes left
    c.in_err-put_next.field-0.0 c.loop.invariant.along c.in_err-put_next.ensures.puts)
