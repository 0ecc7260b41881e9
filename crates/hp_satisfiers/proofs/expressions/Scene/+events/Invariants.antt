use Rattle.std.proofs.Common.{◌≡◌, ◌+◌, ◌*◌, ◌-◌, length, drop, map}
use Rattle.hp_syntax.specs.Events.{sat, events_of_all, branch_events, chosen, chosen_events, through}
use Rattle.hp_syntax.specs.Views.{axiom_of, clause_of, expression_of, expressions_of}
use Rattle.hp_eval.specs.Growth.{Grows}
use Rattle.hp_eval.specs.Slotted.{bindings_of}
use Rattle.hp_answers.specs.AnswerViews.{answer_events, AllFit, HearsUpTo}
use Rattle.hp_laws.specs.HeardAlike.{AreHeardAlike}
use Rattle.hp_satisfiers.specs.Scenes.{axioms_in, state_in, atoms_at, below_at}
use Rattle.hp_satisfiers.specs.Sources.{pieces, joined}
use Rattle.hp_satisfiers.proofs.Sizes.{size, sizes, item_work, left_to_do}
use Rattle.hp_satisfiers.proofs.expressions.Scene.+events.Given as goal

-- ---- the measures of the calls

abbrev pub decreases-events : goal.decreases-events
decreases-events l = left_to_do (axioms_in l.self.now) l.level (8 * size (expression_of l.expr.now))

abbrev pub decreases-forall_events : goal.decreases-forall_events
decreases-forall_events l =
    left_to_do (axioms_in l.self.now) l.level
    (8 * (size (expression_of l.range.now) + size (expression_of l.body.now)) + 4)

abbrev pub decreases-all_events : goal.decreases-all_events
decreases-all_events l = left_to_do (axioms_in l.self.now) l.level (8 * sizes (expressions_of l.parts.now) + 4)

abbrev pub decreases-joined_events : goal.decreases-joined_events
decreases-joined_events l = left_to_do (axioms_in l.self.now) l.level (item_work l.source + 1)

abbrev pub decreases-item_events : goal.decreases-item_events
decreases-item_events l = left_to_do (axioms_in l.self.now) l.level (item_work l.source)

abbrev pub decreases-one_events : goal.decreases-one_events
decreases-one_events l = left_to_do (axioms_in l.self.now) l.level (8 * size (expression_of l.part.now) + 1)

abbrev pub decreases-atom_events : goal.decreases-atom_events
decreases-atom_events l = left_to_do (axioms_in l.self.now) l.level 6

abbrev pub decreases-goal_events : goal.decreases-goal_events
decreases-goal_events l = left_to_do (axioms_in l.self.now) l.level 5

abbrev pub decreases-axiom_events : goal.decreases-axiom_events
decreases-axiom_events l = left_to_do (axioms_in l.self.now) l.level 2

abbrev pub decreases-branch_events : goal.decreases-branch_events
decreases-branch_events l = left_to_do (axioms_in l.self.now) l.level 1

-- ---- the invariants of the loops

abbrev pub invariant-all_events-loop-part : goal.invariant-all_events-loop-part
invariant-all_events-loop-part l =
    let atoms = atoms_at (axioms_in l.self) l.level (state_in l.fn.cells l.self) in
    record {
      grows : Grows l.fn.cells l.cells;
      fit : AllFit (length l.slots.values) (length l.cells) l.found.items;
      so_far : AreHeardAlike
          (through (answer_events l.cells l.found.items)
          (λ b. events_of_all atoms (expressions_of (drop l.part-index l.parts)) b))
          (events_of_all atoms (expressions_of l.parts) (bindings_of l.fn.cells l.slots));
    }

abbrev pub invariant-joined_events-loop-number : goal.invariant-joined_events-loop-number
invariant-joined_events-loop-number l =
    let ps = pieces l.self l.level l.fn.cells l.slots l.source in
    record {
      grows : Grows l.fn.cells l.cells;
      found : HearsUpTo l.cells (length l.slots.values) l.found.items
          (joined ps) (joined (drop l.number ps));
    }

abbrev pub invariant-branch_events-loop-clause : goal.invariant-branch_events-loop-clause
invariant-branch_events-loop-clause l =
    let axioms = axioms_in l.self in
    let state = state_in l.fn.cells l.self in
    let e = bindings_of l.fn.cells l.slots in
    record {
      grows : Grows l.fn.cells l.cells;
      so_far : branch_events (below_at axioms l.level state) (axiom_of l.rule) e
          ≡ chosen_events (chosen (λ c. sat axioms (l.level - 1) state c.body e)
          (map clause_of (drop l.clause-index l.rule.clauses.items)));
    }
