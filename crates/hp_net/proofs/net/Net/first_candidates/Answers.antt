use Rattle.std.proofs.Common.{◌≡◌, map, Some, subst}
use Rattle.std.specs.List.{All}
use Rattle.hp_syntax.specs.Networks as plain
use Rattle.hp_world.specs.Histories.{History}
use Rattle.hp_links.specs.Linked.{Linked, focused, place_of, NamesTask}
use Rattle.hp_links.specs.Placed.{candidates_in}
use Rattle.hp_links.specs.Undoing.{stage_of}
use Rattle.hp_links.proofs.PlacedLemmas.{placed_from_sound}
use Rattle.hp_net.proofs.NetSteps.{candidates_name, candidates_places}
use Rattle.hp_net.proofs.net.Net.first_candidates.Goals as goal

pub returns-clause-tasks : goal.returns-clause-tasks
returns-clause-tasks c =
    subst (λ (h : History Linked). All (NamesTask h.now) (candidates_in h.now)) c.self.view_is
    (candidates_name (stage_of c.self.inside.store) (placed_from_sound c.self.inside.store c.self.invariant))

pub returns-clause-places : goal.returns-clause-places
returns-clause-places c = λ terms.
    subst
    (λ (h : History Linked). map (place_of h.now) (candidates_in h.now)
    ≡ map Some (plain.candidates (focused terms h.now).0 (focused terms h.now).1))
    c.self.view_is
    (candidates_places (stage_of c.self.inside.store) (placed_from_sound c.self.inside.store c.self.invariant) terms)
