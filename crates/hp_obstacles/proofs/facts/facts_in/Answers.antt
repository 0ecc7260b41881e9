use Rattle.std.proofs.Common.{length, take, ap, sym, ◌∙◌}
use Rattle.hp_world.specs.Stages.{live_atoms, terms_at}
use Rattle.hp_obstacles.specs.Facts.{facts_of, shown}
use Rattle.hp_obstacles.proofs.FactSteps.{below_at, facts_next}
use Rattle.hp_obstacles.proofs.facts.facts_in.Goals as goal

pub look_at-requires : goal.look_at-requires
look_at-requires c =
    below_at (length c.args.cells.now) c.args.world.now.now.places c.loop-place.place c.at.result c.requires.atoms
    c.at.ensures

pub loop-place-preserved : goal.loop-place-preserved
loop-place-preserved c =
    let places = c.args.world.now.now.places in
    let terms = c.args.cells.now in
    let name = c.args.name.now in
    c.in_ok-look_at.ensures (facts_of name (terms_at terms (live_atoms (take c.loop-place.place places))))
    c.loop-place.invariant
    ∙ ap shown (sym (facts_next name terms places c.loop-place.place c.at.result c.at.ensures))
