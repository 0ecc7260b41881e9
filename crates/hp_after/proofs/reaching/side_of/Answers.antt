use Rattle.std.proofs.Common.{sym}
use Rattle.std.proofs.lemmas.Cmp.{ranked}
use Rattle.hp_after.proofs.StepSides.{above_by_length, before_level, beginning_level, beyond_level, here_by_length, past_level}
use Rattle.hp_after.proofs.reaching.side_of.Goals as goal

pub returns-in_default-get : goal.returns-in_default-get
returns-in_default-get c =
    λ steps. sym (beyond_level c.args.path.now c.args.target.now steps c.in_default-get.ensures.lookup.3)

pub returns-in-Less : goal.returns-in-Less
returns-in-Less c = λ steps.
    let own = c.in-Some.ensures.item.3 in
    let at = c.in-Some-get.ensures.lookup.3 in
    sym (before_level c.args.path.now c.args.target.now steps c.in-Some.last.now c.in-Some-get.wanted.now at.0
    (own.1 0) (at.1 0) (ranked c.in-Some.last.now c.in-Some-get.wanted.now _ c.in-Less.ensures))

pub returns-in-Greater : goal.returns-in-Greater
returns-in-Greater c = λ steps.
    let own = c.in-Some.ensures.item.3 in
    let at = c.in-Some-get.ensures.lookup.3 in
    sym (past_level c.args.path.now c.args.target.now steps c.in-Some.last.now c.in-Some-get.wanted.now at.0
    (own.1 0) (at.1 0) (ranked c.in-Some.last.now c.in-Some-get.wanted.now _ c.in-Greater.ensures))

pub returns-in-Equal : goal.returns-in-Equal
returns-in-Equal c = λ steps.
    let own = c.in-Some.ensures.item.3 in
    let at = c.in-Some-get.ensures.lookup.3 in
    sym (here_by_length c.args.path.now c.args.target.now
    (beginning_level c.args.path.now c.args.target.now steps c.in-Some.last.now c.in-Some-get.wanted.now at.0
    (own.1 0) (at.1 0) (ranked c.in-Some.last.now c.in-Some-get.wanted.now _ c.in-Equal.ensures))
    c.if-path-target.true)

pub returns-in-Equal-2 : goal.returns-in-Equal-2
returns-in-Equal-2 c = λ steps.
    let own = c.in-Some.ensures.item.3 in
    let at = c.in-Some-get.ensures.lookup.3 in
    sym (above_by_length c.args.path.now c.args.target.now
    (beginning_level c.args.path.now c.args.target.now steps c.in-Some.last.now c.in-Some-get.wanted.now at.0
    (own.1 0) (at.1 0) (ranked c.in-Some.last.now c.in-Some-get.wanted.now _ c.in-Equal.ensures))
    c.if-path-target.false)
