use Rattle.std.proofs.Common.{◌≡◌, map, Some, ap, subst, sym, ◌∙◌}
use Rattle.std.specs.List.{All}
use Rattle.hp_syntax.specs.Networks as plain
use Rattle.hp_world.specs.Histories.{History}
use Rattle.hp_links.specs.Linked.{Linked, focused, place_of, NamesTask}
use Rattle.hp_links.specs.Undoing.{stage_of}
use Rattle.hp_links.proofs.PlacedLemmas.{placed_from_sound}
use Rattle.hp_net.proofs.NetSteps.{candidates_name, candidates_places}
use Rattle.hp_net.proofs.net.Net.candidates.Goals as goal

pub returns-clause-tasks : goal.returns-clause-tasks
returns-clause-tasks c =
    let s = stage_of c.self.inside.store in
    let placed = placed_from_sound c.self.inside.store c.self.invariant in
    subst (λ (h : History Linked). All (NamesTask h.now) c.in_ok-found.found.items) c.self.view_is
    (subst (All (NamesTask s)) (sym c.in_ok-found.ensures) (candidates_name s placed))

pub returns-clause-places : goal.returns-clause-places
returns-clause-places c = λ terms.
    let s = stage_of c.self.inside.store in
    let placed = placed_from_sound c.self.inside.store c.self.invariant in
    subst
    (λ (h : History Linked). map (place_of h.now) c.in_ok-found.found.items
    ≡ map Some (plain.candidates (focused terms h.now).0 (focused terms h.now).1))
    c.self.view_is
    (ap (map (place_of s)) c.in_ok-found.ensures ∙ candidates_places s placed terms)
