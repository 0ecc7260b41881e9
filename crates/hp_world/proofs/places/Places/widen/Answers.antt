use Rattle.std.proofs.Common.{◌≡◌, ◌≤◌, length, ◌++◌, ◌-◌, ◌+◌, List, Option, ℕ, None, take, replicate, ap, ◌∙◌, sym, subst, arith, vec_len, refl}
use Rattle.std.proofs.lemmas.List.{take_all}
use Rattle.hp_world.specs.Indexed.{IsIndex}
use Rattle.hp_world.proofs.IndexedLemmas.{index_padded}
use Rattle.hp_world.proofs.places.Places.widen.Goals as goal

pub invariant_of-self : goal.invariant_of-self
invariant_of-self c =
    let table : List (Option ℕ) = c.self.inside.table.items in
    let n = c.index-then-len-index.result + 1 in
    let more = n - vec_len c.self.inside.table in
    let short : length table ≤ c.index.result =
    omega (arith, c.len.ensures, c.if-len-index.true, c.self.inside.table.ok.0) in
    let whole : take n table ≡ table =
    take_all n table (omega (arith, short, c.index.ensures, c.index-then-len-index.ensures)) in
    let items : c.resize.new.self.items ≡ table ++ replicate more None =
    c.in_ok-resize.ensures.items ∙ ap (λ (t : List (Option ℕ)). t ++ replicate more None) whole in
    record {
      index =
          subst (λ (t : List (Option ℕ)). IsIndex t c.self.inside.places.items) (sym items)
          (index_padded table c.self.inside.places.items more None refl c.self.invariant.index);
      few = c.self.invariant.few;
    }
