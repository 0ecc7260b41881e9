use Rattle.std.proofs.Common.{Some, None, refl, sym, subst, arith}
use Rattle.std.proofs.lemmas.Option.{slice_get_within}
use Rattle.hp_suspended.specs.PlaceSteps.{TurnsPlaces}
use Rattle.hp_suspended.specs.SceneViews.{setting_of}
use Rattle.hp_suspended.proofs.PlaceTurns.{turn_ended, turn_taken}
use Rattle.hp_suspended.proofs.places.turn_at_places.Goals as goal

pub overflow_add-at : goal.overflow_add-at
overflow_add-at c =
    let next = c.in-Some.ensures in
    let within =
    slice_get_within c.args.scene.now.world.now.places c.in-Some.place (Some next.atom) next.stands in
    omega (arith, within, c.places-end.ensures, c.places-end.type_inv)

pub match_place-requires-clause-place : goal.match_place-requires-clause-place
match_place-requires-clause-place c =
    let next = c.in-Some.ensures in
    slice_get_within c.args.scene.now.world.now.places c.in-Some.place (Some next.atom) next.stands

pub returns-in-Some-clause-left : goal.returns-in-Some-clause-left
returns-in-Some-clause-left c = λ terms grows.
    turn_taken (setting_of c.args.scene.now c.args.cells.now) (setting_of c.args.scene.now terms) c.args.goal.now grows
    refl c.requires.atoms c.requires.goal c.args.slots.now c.requires.slots c.match_place.result c.args.at.now
    c.in-Some.place c.match_place.new.slots c.match_place.ensures.below c.in-Some.ensures c.match_place.ensures.gives

pub returns-in-Some-clause-within : goal.returns-in-Some-clause-within
returns-in-Some-clause-within c =
    let next = c.in-Some.ensures in
    let within =
    slice_get_within c.args.scene.now.world.now.places c.in-Some.place (Some next.atom) next.stands in
    omega (arith, within)

pub returns-in-None-clause-left : goal.returns-in-None-clause-left
returns-in-None-clause-left c = λ terms grows.
    let s = c.args.slots.now in
    let w = setting_of c.args.scene.now terms in
    subst (λ n. TurnsPlaces None w c.args.goal.now c.args.at.now n s s) (sym c.places-end.ensures)
    (turn_ended (setting_of c.args.scene.now c.args.cells.now) w c.args.goal.now grows refl c.requires.atoms
    c.requires.goal s c.requires.slots c.args.at.now c.in-None.ensures)
