use Rattle.std.proofs.Common.{length}
use Rattle.std.proofs.lemmas.Option.{slice_get_within}
use Rattle.hp_syntax.specs.Terms.{Symbol}
use Rattle.hp_suspended.proofs.NextPlaceLemmas.{known_within, next_by_name, next_by_part}
use Rattle.hp_suspended.proofs.places.next_by_parts.Goals as goal

pub next_with-requires-clause-argument : goal.next_with-requires-clause-argument
next_with-requires-clause-argument c =
    known_within (length c.args.cells.now) c.args.goal.now c.in-Some.part c.in-Some.ensures c.requires.goal

pub next_named-requires-clause-name : goal.next_named-requires-clause-name
next_named-requires-clause-name c =
    slice_get_within c.args.cells.now c.args.name (Symbol c.args.goal.now.name) c.requires.name

pub returns-in-Some : goal.returns-in-Some
returns-in-Some c =
    next_by_part c.args.cells.now c.args.goal.now c.args.world.now.now.places c.requires.atoms c.args.name
    c.requires.name c.in-Some.part c.in-Some.ensures
    (known_within (length c.args.cells.now) c.args.goal.now c.in-Some.part c.in-Some.ensures c.requires.goal)
    c.args.from c.next_with.result c.next_with.ensures

pub returns-in-None : goal.returns-in-None
returns-in-None c =
    next_by_name c.args.cells.now c.args.goal.now c.args.world.now.now.places c.requires.atoms c.args.name
    c.requires.name c.args.from c.next_named.result c.next_named.ensures
