use Rattle.std.proofs.Common.{rules}
use Rattle.hp_syntax.specs.Views.{atom_of}
use Rattle.hp_eval.specs.GoalViews.{term_at}
use Rattle.hp_eval.proofs.CellViews.{named_at}
use Rattle.hp_choice.proofs.HeadLemmas.{head_missed, head_met, head_vars}
use Rattle.hp_choice.proofs.opening.matched.Goals as goal

pub returns-then-match_atom : goal.returns-then-match_atom
returns-then-match_atom c =
    let terms = c.args.cells.now in
    let task = c.args.task in
    let new = c.match_atom.new.slots in
    let m = c.match_atom.ensures.matched (term_at terms task) (named_at terms task c.requires.task) in
    let free = c.in_ok-slots.ensures in (
      head_met terms (atom_of c.args.head.now) task c.args.vars c.in_ok-slots.slots new c.match_atom.result free m
          (search rules),
      head_vars terms (atom_of c.args.head.now) task c.args.vars c.in_ok-slots.slots new c.match_atom.result free m
          (search rules),
      c.match_atom.ensures.below,
    )

pub returns-else-match_atom : goal.returns-else-match_atom
returns-else-match_atom c =
    let terms = c.args.cells.now in
    let task = c.args.task in
    let new = c.match_atom.new.slots in
    let m = c.match_atom.ensures.matched (term_at terms task) (named_at terms task c.requires.task) in
    head_missed terms (atom_of c.args.head.now) task c.args.vars c.in_ok-slots.slots new c.match_atom.result
    c.in_ok-slots.ensures m (search rules)
