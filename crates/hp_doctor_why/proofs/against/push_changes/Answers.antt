use Rattle.std.proofs.Common.{◌≤◌, ◌++◌, append-nil, length, min, ap, sym, ◌∙◌, arith}
use Rattle.std.proofs.lemmas.Grind.{common_steps}
use Rattle.hp_doctor_why.proofs.AgainstSteps.{changes_made, changes_over, one_over}
use Rattle.hp_doctor_why.proofs.against.push_changes.Goals as goal

pub loop-place-preserved : goal.loop-place-preserved
loop-place-preserved c =
    let below = c.loop-place-test.true in
    changes_made c.args.names.now c.args.before.now c.args.after.now c.loop-place.place c.index-names-place.result
    c.index-before-place.result c.index-after-place.result (grind (arith, common_steps)) (grind (arith, common_steps))
    (grind (arith, common_steps)) c.index-names-place.is c.index-before-place.is c.index-after-place.is _ _ _
    c.loop-place.invariant c.in_ok-push_change.ensures

pub returns : goal.returns
returns c =
    let k = c.loop-place.place in
    let names = c.args.names.now in
    let before = c.args.before.now in
    let after = c.args.after.now in
    let over : min (min (length names) (length before)) (length after) ≤ k =
    omega (arith, c.loop-place-test.false, c.min.ensures, c.min-count.ensures) in
    sym (append-nil c.loop-place.out.items)
    ∙ ap (λ xs. c.loop-place.out.items ++ xs)
    (sym (changes_over k names before after (one_over k (length names) (length before) (length after) over)))
    ∙ c.loop-place.invariant
