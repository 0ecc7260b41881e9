use Rattle.std.proofs.Common.{◌<◌, length, Some, None, ap, sym, ◌∙◌, refl}
use Rattle.std.proofs.lemmas.Option.{get_or_from_slice_get, same_Some}
use Rattle.hp_syntax.specs.Events.{sat_if}
use Rattle.hp_eval.specs.GoalViews.{term_at, goal_of}
use Rattle.hp_eval.specs.Slotted.{bindings_of}
use Rattle.hp_eval.proofs.CellViews.{named_at}
use Rattle.hp_eval.proofs.SlotLemmas.{match_failed, match_made}
use Rattle.hp_world.proofs.StageLemmas.{atom_below}
use Rattle.hp_suspended.specs.PlaceSteps.{place_events}
use Rattle.hp_suspended.proofs.places.match_place.Goals as goal

pub match_goal-requires-clause-atom : goal.match_goal-requires-clause-atom
match_goal-requires-clause-atom c =
    let places = c.args.world.now.now.places in
    atom_below (length c.args.cells.now) places c.args.place c.in-Some.atom c.requires.atoms
    (get_or_from_slice_get places c.args.place (Some c.in-Some.atom) None c.in-Some.ensures)

pub returns-then-match_goal-clause-bound : goal.returns-then-match_goal-clause-bound
returns-then-match_goal-clause-bound c =
    let terms = c.args.cells.now in
    let places = c.args.world.now.now.places in
    let atom = c.in-Some.atom in
    let within : atom < length terms =
    atom_below (length terms) places c.args.place atom c.requires.atoms
    (get_or_from_slice_get places c.args.place (Some atom) None c.in-Some.ensures) in
    let m = c.match_goal.ensures.matched (term_at terms atom) (named_at terms atom within) in
    (refl, (match_made c.match_goal.result _ terms c.args.slots.now c.match_goal.new.slots c.if-match_goal.true m).1)

pub returns-then-match_goal-clause-gives : goal.returns-then-match_goal-clause-gives
returns-then-match_goal-clause-gives c = λ held stands.
    let terms = c.args.cells.now in
    let places = c.args.world.now.now.places in
    let atom = c.in-Some.atom in
    let within : atom < length terms =
    atom_below (length terms) places c.args.place atom c.requires.atoms
    (get_or_from_slice_get places c.args.place (Some atom) None c.in-Some.ensures) in
    let m = c.match_goal.ensures.matched (term_at terms atom) (named_at terms atom within) in
    let made =
    match_made c.match_goal.result _ terms c.args.slots.now c.match_goal.new.slots c.if-match_goal.true m in
    ap (place_events terms (goal_of terms c.args.goal.now) (bindings_of terms c.args.slots.now))
    (same_Some held (Some atom) (sym stands ∙ c.in-Some.ensures))
    ∙ ap sat_if made.0

pub returns-else-match_goal-clause-bound : goal.returns-else-match_goal-clause-bound
returns-else-match_goal-clause-bound c =
    let terms = c.args.cells.now in
    let places = c.args.world.now.now.places in
    let atom = c.in-Some.atom in
    let within : atom < length terms =
    atom_below (length terms) places c.args.place atom c.requires.atoms
    (get_or_from_slice_get places c.args.place (Some atom) None c.in-Some.ensures) in
    let m = c.match_goal.ensures.matched (term_at terms atom) (named_at terms atom within) in
    (match_failed c.match_goal.result _ terms c.args.slots.now c.match_goal.new.slots c.if-match_goal.false m).1
