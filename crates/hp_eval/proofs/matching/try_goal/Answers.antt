use Rattle.std.proofs.Common.{◌≡◌, ap, sym, refl, ◌∙◌, false, cond, None}
use Rattle.hp_syntax.specs.Goals.{match_fillings, match_goal}
use Rattle.hp_eval.specs.GoalViews.{term_at, goal_of}
use Rattle.hp_eval.specs.Slotted.{bindings_of}
use Rattle.hp_eval.specs.Attempts.{extended}
use Rattle.hp_eval.specs.FillSteps.{parts_at}
use Rattle.hp_eval.proofs.CellViews.{named_at}
use Rattle.hp_eval.proofs.AttemptLemmas.{without_first, cons_at, tries_here, tries_as}
use Rattle.hp_eval.proofs.GoalMatchSteps.{goal_behind}
use Rattle.hp_eval.proofs.MatchingSteps.{found_at}
use Rattle.hp_eval.proofs.matching.try_goal.Goals as goal

pub match_fillings-requires-clause-list : goal.match_fillings-requires-clause-list
match_fillings-requires-clause-list c =
    let terms = c.args.cells.now in
    let is = cons_at terms c.args.atom c.get.result _ _ c.get.ensures.shows c.requires.atom c.in-Cons.is in
    (is.rest, is.tail_names)

pub returns-then-is_symbol : goal.returns-then-is_symbol
returns-then-is_symbol c =
    let terms = c.args.cells.now in
    let e = bindings_of terms c.args.slots.now in
    let a = goal_of terms c.args.goal.now in
    let is = cons_at terms c.args.atom c.get.result _ _ c.get.ensures.shows c.requires.atom c.in-Cons.is in
    let others = match_fillings a.parts a.tail (parts_at terms c.in-Cons.args) e in
    tries_as _
    (found_at (goal_behind a e) terms c.args.atom _ _ is c.is_symbol.result c.is_symbol.ensures
    ∙ ap (λ does. cond does others None) c.if-is_symbol.true)
    (rw (← c.as_slice.ensures.value) c.match_fillings.ensures)

pub returns-else-is_symbol : goal.returns-else-is_symbol
returns-else-is_symbol c =
    let terms = c.args.cells.now in
    let e = bindings_of terms c.args.slots.now in
    let a = goal_of terms c.args.goal.now in
    let is = cons_at terms c.args.atom c.get.result _ _ c.get.ensures.shows c.requires.atom c.in-Cons.is in
    let others = match_fillings a.parts a.tail (parts_at terms c.in-Cons.args) e in
    tries_here c.is_symbol.result _ terms c.args.slots.now c.requires.slots
    (found_at (goal_behind a e) terms c.args.atom _ _ is c.is_symbol.result c.is_symbol.ensures
    ∙ (ap (λ does. cond does others None) c.if-is_symbol.false
    ∙ ap (λ does. extended does e) (sym c.if-is_symbol.false)))

pub returns-in-Nil : goal.returns-in-Nil
returns-in-Nil c =
    let terms = c.args.cells.now in
    let t = term_at terms c.args.atom in
    let shown = c.get.ensures.shows t (named_at terms c.args.atom c.requires.atom) in
    tries_here false _ terms c.args.slots.now c.requires.slots
    (without_first (λ u. match_goal (goal_of terms c.args.goal.now) u (bindings_of terms c.args.slots.now) ≡ None) terms
    c.get.result t shown c.in-Nil.is refl (λ name. refl) (λ n. refl))
