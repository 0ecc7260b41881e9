use Rattle.std.proofs.Common.{◌≡◌, ◌<◌, List, Option, ℕ, Some, set, length, subst, ap, ◌∙◌, sym, arith}
use Rattle.std.proofs.lemmas.List.{length_push}
use Rattle.hp_world.specs.Indexed.{Row, IsIndex, IsAbsent}
use Rattle.hp_world.proofs.IndexedLemmas.{index_pushed}
use Rattle.hp_world.proofs.places.Places.push.Goals as goal

pub invariant_of-self : goal.invariant_of-self
invariant_of-self c =
    let table : List (Option ℕ) = c.self.inside.table.items in
    let ps : List (Option ℕ) = c.self.inside.places.items in
    let a = c.args.atom in
    let gone = subst (λ (r : Row). IsAbsent a r.places) (sym c.self.view_is) c.requires.absent in
    let within = subst (λ (r : Row). a < r.width) (sym c.self.view_is) c.requires.within in
    let end : length ps ≡ c.len-place.result = sym (c.len-place.ensures ∙ c.self.inside.places.ok.0) in
    let written : set table a (Some (length ps)) ≡ set table c.index.result (Some c.len-place.result) =
    ap (λ k. set table a (Some k)) end ∙ ap (λ k. set table k (Some c.len-place.result)) (sym c.index.ensures) in
    let room = subst (λ (r : Row). length r.places < r.room) (sym c.self.view_is) c.requires.room in
    record {
      index =
          subst (λ (t : List (Option ℕ)). IsIndex t c.push_reserved.new.self.items) written
          (subst (λ (p : List (Option ℕ)). IsIndex (set table a (Some (length ps))) p)
          (sym c.push_reserved.ensures.items) (index_pushed table ps a c.self.invariant.index gone within));
      few =
          omega (arith, room, ap length c.push_reserved.ensures.items, length_push ps (Some a));
    }
