use Rattle.std.proofs.Common.{length, subst, sym}
use Rattle.std.proofs.lemmas.List.Elements.{All-contains}
use Rattle.std.specs.List.{Contains}
use Rattle.hp_eval.proofs.CellViews.{named_at}
use Rattle.hp_eval.specs.GoalViews.{term_at}
use Rattle.hp_world.specs.Keyed.{KnowsParts}
use Rattle.hp_world.specs.Named.{IsNamedWithAt, IsNoLaterThan}
use Rattle.hp_world.specs.Recorded.{Recorded, Knows}
use Rattle.hp_world.specs.Stages.{AllBelow, live_atoms}
use Rattle.hp_world.specs.Undoing.{IsFollowed, stage_of}
use Rattle.hp_world.proofs.PartAtLemmas.{likely}
use Rattle.hp_world.proofs.world.World.next_parted.Goals as goal

pub returns : goal.returns
returns c =
    let terms = c.args.cells.now in
    let store = c.self.inside.store in
    let p = c.args.index.now in
    let kept = subst (λ (w : Recorded). Contains w.parts p) (sym c.self.view_is) c.requires.kept in
    let follows =
    All-contains (IsFollowed (stage_of store) store.trail.items) store.parts.items p c.self.invariant.followed kept in
    let known =
    All-contains (KnowsParts terms) store.parts.items p
    (subst (λ (w : Recorded). Knows terms w) (sym c.self.view_is) c.requires.known) kept in
    let below =
    subst (λ (w : Recorded). AllBelow (length terms) (live_atoms w.now.places)) (sym c.self.view_is) c.requires.atoms in
    subst (λ (w : Recorded). IsNoLaterThan (IsNamedWithAt terms c.args.name c.args.part c.args.argument w.now.places)
    (length w.now.places) c.args.from c.next_of.result) c.self.view_is
    (likely terms c.len.ensures.cells p store.places.places follows.now known below c.args.name c.args.part
    c.requires.part c.args.argument c.args.from (term_at terms c.args.argument)
    (named_at terms c.args.argument c.requires.argument) c.next_of.result c.next_of.ensures)
