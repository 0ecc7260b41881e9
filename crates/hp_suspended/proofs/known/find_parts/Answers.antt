use Rattle.std.proofs.Common.{◌≡◌, ◌<◌, ◌+◌, ◌-◌, length, subst, arith}
use Rattle.hp_suspended.proofs.GroundLemmas.{NamesFrom, names_more, names_nowhere}
use Rattle.hp_suspended.proofs.known.find_parts.Goals as goal

pub returns-in_err-list : goal.returns-in_err-list
returns-in_err-list c =
    let terms = c.args.cells.now in
    let fs = c.args.parts.now in
    let list = c.loop-left.list in
    let left = c.loop-left.left in
    let some = c.loop-left-test.true in
    let last : left ≡ (left - 1) + 1 = omega (arith, some) in
    let within : left - 1 < length fs = omega (arith, some, c.loop-left.invariant.within) in
    rw c.from_residual.ensures (λ ts g.
    names_nowhere terms fs (left - 1) c.index-parts-left.result list c.requires.known within c.index-parts-left.is
    (subst (λ n. NamesFrom terms fs n list) last c.loop-left.invariant.names) c.find_part.result c.find_part.ensures
    c.len.ensures.cells c.in_err-list.was ts g)

pub loop-left-preserved : goal.loop-left-preserved
loop-left-preserved c =
    let terms = c.args.cells.now in
    let fs = c.args.parts.now in
    let list = c.loop-left.list in
    let left = c.loop-left.left in
    let some = c.loop-left-test.true in
    let last : left ≡ (left - 1) + 1 = omega (arith, some) in
    let within : left - 1 < length fs = omega (arith, some, c.loop-left.invariant.within) in
    record {
      within = omega (arith, within);
      names = names_more terms fs (left - 1) c.index-parts-left.result list c.requires.known within
          c.index-parts-left.is
          (subst (λ n. NamesFrom terms fs n list) last c.loop-left.invariant.names) c.find_part.result
          c.find_part.ensures c.in_ok-list.list c.in_ok-list.was;
    }
