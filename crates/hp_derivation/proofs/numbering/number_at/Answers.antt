use Rattle.std.proofs.Common.{◌≡◌, ◌<◌, ◌≤◌, Some, None, length, ap, sym, ◌∙◌, arith}
use Rattle.hp_eval.proofs.CellViews.{named_at}
use Rattle.hp_eval.specs.GoalViews.{term_at}
use Rattle.hp_derivation.specs.Numbering.{number_of}
use Rattle.hp_derivation.proofs.NumberSteps.{number_beyond, number_seen, number_shown}
use Rattle.hp_derivation.proofs.numbering.number_at.Goals as goal

pub returns-then-index-len : goal.returns-then-index-len
returns-then-index-len c =
    let beyond : length c.args.cells.now ≤ c.args.cell =
    omega (arith, c.if-index-len.true, c.index.ensures, c.len.ensures.count) in
    number_beyond c.args.cells.now c.args.cell beyond

pub returns-in-Nil : goal.returns-in-Nil
returns-in-Nil c =
    let within : c.args.cell < length c.args.cells.now =
    omega (arith, c.if-index-len.false, c.index.ensures, c.len.ensures.count) in
    sym (ap number_seen c.in-Nil.is)
    ∙ number_shown c.args.cells.now c.get.result _
    (c.get.ensures.shows _ (named_at c.args.cells.now c.args.cell within))

pub returns-in-Sym : goal.returns-in-Sym
returns-in-Sym c =
    let within : c.args.cell < length c.args.cells.now =
    omega (arith, c.if-index-len.false, c.index.ensures, c.len.ensures.count) in
    sym (ap number_seen c.in-Sym.is)
    ∙ number_shown c.args.cells.now c.get.result _
    (c.get.ensures.shows _ (named_at c.args.cells.now c.args.cell within))

pub returns-in-Cons : goal.returns-in-Cons
returns-in-Cons c =
    let within : c.args.cell < length c.args.cells.now =
    omega (arith, c.if-index-len.false, c.index.ensures, c.len.ensures.count) in
    sym (ap number_seen c.in-Cons.is)
    ∙ number_shown c.args.cells.now c.get.result _
    (c.get.ensures.shows _ (named_at c.args.cells.now c.args.cell within))
