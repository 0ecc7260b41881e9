use Rattle.std.proofs.Common.{ℕ, Option, List, length, map, refl, sym, ap, subst}
use Rattle.std.specs.Prelude.{reverse, IfSome}
use Rattle.std.specs.List.{All}
use Rattle.std.proofs.lemmas.List.Elements.{All-nil}
use Rattle.hp_links.specs.Frames.{Frame, frame_in, top, IsHeld}
use Rattle.hp_links.specs.Linked.{PartBelow}
use Rattle.hp_links.specs.Planted.{trees_at}
use Rattle.hp_links.proofs.StartLemmas.{first_held, starts}
use Rattle.hp_links.proofs.store.Store.from_entries.Goals as goal

pub front_of-front-requires : goal.front_of-front-requires
front_of-front-requires c =
    let es = c.args.entries.now in
    let old = frame_in c.new-links.result in
    let f = frame_in c.plant.new.self in
    let js : List ℕ = reverse (map top (trees_at (length old.parts) es)) in
    let empty = ap (λ (g : Frame). length g.parts) c.new-links.ensures in
    subst (λ (o : Option ℕ). IfSome o (λ k. IsHeld f k)) (sym c.first_number-root.ensures)
    (first_held es js old f empty (c.in_ok-plant.ensures.planted js refl) c.requires.closed c.requires.one)

pub returns-clause-starts : goal.returns-clause-starts
returns-clause-starts c =
    let es = c.args.entries.now in
    let old = frame_in c.new-links.result in
    let f = frame_in c.plant.new.self in
    let js : List ℕ = reverse (map top (trees_at (length old.parts) es)) in
    let empty = ap (λ (g : Frame). length g.parts) c.new-links.ensures in
    starts es js old f c.first_number-root.result c.front_of-front.result empty
    (c.in_ok-plant.ensures.planted js refl) c.requires.closed c.requires.one c.first_number-root.ensures
    c.front_of-front.ensures

pub returns-clause-below : goal.returns-clause-below
returns-clause-below c = λ k h.
    c.in_ok-plant.ensures.below k h
    (subst (All (PartBelow k)) (sym (ap (λ (g : Frame). g.parts) c.new-links.ensures)) (All-nil (PartBelow k)))
