use Rattle.std.proofs.Common.{length, subst, sym}
use Rattle.std.proofs.lemmas.List.Elements.{All-contains}
use Rattle.hp_world.specs.Keyed.{KnowsParts}
use Rattle.hp_world.specs.Named.{IsNextNamed}
use Rattle.hp_world.specs.Recorded.{Recorded, Knows}
use Rattle.hp_world.specs.Stages.{AllBelow, live_atoms}
use Rattle.hp_world.specs.Undoing.{IsFollowed, stage_of}
use Rattle.hp_world.proofs.PartAtLemmas.{next_named}
use Rattle.hp_world.proofs.world.World.next_named.Goals as goal

pub returns-in-Some : goal.returns-in-Some
returns-in-Some c =
    let terms = c.args.cells.now in
    let store = c.self.inside.store in
    let p = c.in-Some.index.now in
    let follows =
    All-contains (IsFollowed (stage_of store) store.trail.items) store.parts.items p c.self.invariant.followed
    c.in-Some.ensures.1 in
    let known =
    All-contains (KnowsParts terms) store.parts.items p
    (subst (λ (w : Recorded). Knows terms w) (sym c.self.view_is) c.requires.known) c.in-Some.ensures.1 in
    let below =
    subst (λ (w : Recorded). AllBelow (length terms) (live_atoms w.now.places)) (sym c.self.view_is) c.requires.atoms in
    subst (λ (w : Recorded). IsNextNamed terms c.args.name w.now.places c.args.from c.next_of.result) c.self.view_is
    (next_named terms c.len.ensures.cells p store.places.places follows.now known below c.in-Some.ensures.0 c.args.name
    c.args.from c.next_of.result c.next_of.ensures)
