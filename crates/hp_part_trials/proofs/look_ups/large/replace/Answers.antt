use Rattle.std.proofs.Common.{◌<◌, [], length, arith}
use Rattle.std.proofs.lemmas.List.Elements.{All-nil, All-cons}
use Rattle.hp_part_trials.proofs.look_ups.large.replace.Goals as goal

pub returns-in_ok-apply_in-in-Some-gone-clause-below : goal.returns-in_ok-apply_in-in-Some-gone-clause-below
returns-in_ok-apply_in-in-Some-gone-clause-below c =
    let n = length c.args.cells.now in
    let nothing = All-nil (λ x. x < n) in
    let deleted = All-cons (λ x. x < n) c.in-Some-gone.gone []
    (omega (arith, c.if-index-len.true, c.index.ensures, c.len.ensures.count)) nothing in
    let within : c.args.atom < n =
    omega (arith, c.if-index-len-2.true, c.index-then-index-len.ensures, c.len-then-index-len.ensures.count) in
    let added = All-cons (λ x. x < n) c.args.atom [] within nothing in
    c.apply_in.ensures.below n c.requires.below
    (record { unguard = nothing; delete = deleted; add = added; guard = nothing })

pub returns-in_err-apply_in-in-Some-gone-clause-knows : goal.returns-in_err-apply_in-in-Some-gone-clause-knows
returns-in_err-apply_in-in-Some-gone-clause-knows c = c.apply_in.ensures.knows c.requires.knows

pub returns-in_ok-apply_in-in-Some-gone-clause-knows : goal.returns-in_ok-apply_in-in-Some-gone-clause-knows
returns-in_ok-apply_in-in-Some-gone-clause-knows c = c.apply_in.ensures.knows c.requires.knows
