use Rattle.std.proofs.Common.{◌≡◌, true, false, refl, ap₂, sym, ◌∙◌, rules}
use Rattle.std.proofs.lemmas.Option.{slice_get_within}
use Rattle.hp_syntax.specs.Goals.{match_goal}
use Rattle.hp_syntax.specs.Events.{sat_if}
use Rattle.hp_syntax.specs.Views.{atom_of}
use Rattle.hp_eval.specs.GoalViews.{term_at, goal_of}
use Rattle.hp_eval.specs.Slotted.{bindings_of}
use Rattle.hp_eval.proofs.CellViews.{named_at}
use Rattle.hp_eval.proofs.ConcludeSteps.{concluded_term, concluded_unbound, concluded_stop, matched_concludes}
use Rattle.hp_eval.proofs.GoalViewLemmas.{goal_below_grows, goal_stays}
use Rattle.hp_eval.proofs.GrowthLemmas.{bindings_stay, grows_self, below_grows}
use Rattle.hp_eval.proofs.concluding.conclude.Goals as goal

pub match_goal-requires-clause-slots : goal.match_goal-requires-clause-slots
match_goal-requires-clause-slots c =
    below_grows c.args.cells.now c.atom_value.new.cells c.atom_value.ensures.cells c.args.slots.now c.requires.slots

pub match_goal-requires-clause-goal : goal.match_goal-requires-clause-goal
match_goal-requires-clause-goal c =
    goal_below_grows c.args.cells.now c.atom_value.new.cells c.atom_value.ensures.cells c.args.goal.now
    c.requires.goal

pub match_goal-requires-clause-atom : goal.match_goal-requires-clause-atom
match_goal-requires-clause-atom c =
    let g = c.in-Ok.ensures.gives in slice_get_within c.atom_value.new.cells c.in-Ok.atom g.0 g.2

pub returns-then-not-is_head_bound-clause-concluded : goal.returns-then-not-is_head_bound-clause-concluded
returns-then-not-is_head_bound-clause-concluded c =
    let old = c.args.cells.now in
    let no : c.is_head_bound.result ≡ false = search rules in (
      concluded_unbound (atom_of c.args.head.now) (goal_of old c.args.goal.now) (bindings_of old c.args.slots.now)
          (bindings_of old c.args.own.now) (sym (c.is_head_bound.ensures old c.requires.own) ∙ no),
      refl,
    )

pub returns-in-Ok-clause-concluded : goal.returns-in-Ok-clause-concluded
returns-in-Ok-clause-concluded c =
    let old = c.args.cells.now in
    let new = c.atom_value.new.cells in
    let grown = c.atom_value.ensures.cells in
    let q = c.args.goal.now in
    let s = c.args.slots.now in
    let own = c.args.own.now in
    let atom = c.in-Ok.atom in
    let t = term_at new atom in
    let g = c.in-Ok.ensures.gives in
    let within = slice_get_within new atom g.0 g.2 in
    let bound : c.is_head_bound.result ≡ true = search rules in
    matched_concludes c.match_goal.result _ _ new s c.match_goal.new.slots
    (ap₂ (λ p e. sat_if (match_goal p t e)) (goal_stays old new grown q c.requires.goal)
    (bindings_stay old new grown s c.requires.slots)
    ∙ concluded_term (atom_of c.args.head.now) (goal_of old q) (bindings_of old s) (bindings_of old own)
    (sym (c.is_head_bound.ensures old c.requires.own) ∙ bound) new atom g)
    (c.match_goal.ensures.matched t (named_at new atom within))

pub returns-in-Err-clause-concluded : goal.returns-in-Err-clause-concluded
returns-in-Err-clause-concluded c =
    let old = c.args.cells.now in
    let bound : c.is_head_bound.result ≡ true = search rules in
    concluded_stop (atom_of c.args.head.now) (goal_of old c.args.goal.now) (bindings_of old c.args.slots.now)
    (bindings_of old c.args.own.now) (sym (c.is_head_bound.ensures old c.requires.own) ∙ bound) c.in-Err.stop
    c.atom_value.new.cells c.args.slots.now c.in-Err.ensures.gives

pub returns-in-Err-clause-below : goal.returns-in-Err-clause-below
returns-in-Err-clause-below c =
    below_grows c.args.cells.now c.atom_value.new.cells c.atom_value.ensures.cells c.args.slots.now c.requires.slots

pub returns-then-not-is_head_bound-clause-cells : goal.returns-then-not-is_head_bound-clause-cells
returns-then-not-is_head_bound-clause-cells c = grows_self c.args.cells.now

pub returns-in-Ok-clause-cells : goal.returns-in-Ok-clause-cells
returns-in-Ok-clause-cells c = c.atom_value.ensures.cells

pub returns-in-Err-clause-cells : goal.returns-in-Err-clause-cells
returns-in-Err-clause-cells c = c.atom_value.ensures.cells
