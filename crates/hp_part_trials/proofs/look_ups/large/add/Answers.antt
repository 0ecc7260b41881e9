use Rattle.std.proofs.Common.{◌<◌, [], length, arith}
use Rattle.std.proofs.lemmas.List.Elements.{All-nil, All-cons}
use Rattle.hp_part_trials.proofs.look_ups.large.add.Goals as goal

pub returns-in_ok-apply_in-clause-below : goal.returns-in_ok-apply_in-clause-below
returns-in_ok-apply_in-clause-below c =
    let n = length c.args.cells.now in
    let nothing = All-nil (λ x. x < n) in
    let added = All-cons (λ x. x < n) c.args.atom []
    (omega (arith, c.if-index-len.true, c.index.ensures, c.len.ensures.count)) nothing in
    c.apply_in.ensures.below n c.requires.below
    (record { unguard = nothing; delete = nothing; add = added; guard = nothing })

pub returns-in_err-apply_in-clause-knows : goal.returns-in_err-apply_in-clause-knows
returns-in_err-apply_in-clause-knows c = c.apply_in.ensures.knows c.requires.knows

pub returns-in_ok-apply_in-clause-knows : goal.returns-in_ok-apply_in-clause-knows
returns-in_ok-apply_in-clause-knows c = c.apply_in.ensures.knows c.requires.knows
