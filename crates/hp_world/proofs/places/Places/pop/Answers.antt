use Rattle.std.proofs.Common.{◌≡◌, ◌∷◌, ◌++◌, [], List, Option, ℕ, Some, None, set, length, subst, ap, ◌∙◌, sym, arith}
use Rattle.std.proofs.lemmas.List.{length_push}
use Rattle.hp_world.specs.Indexed.{IsIndex}
use Rattle.hp_world.proofs.IndexedLemmas.{atom_within, last_at, index_popped, index_shrunk}
use Rattle.hp_world.proofs.places.Places.pop.Goals as goal

pub index_mut-requires : goal.index_mut-requires
index_mut-requires c =
    let table : List (Option ℕ) = c.self.inside.table.items in
    let ps : List (Option ℕ) = c.pop.new.self.items in
    let a = c.in-Some-Some.atom in
    let items : c.self.inside.places.items ≡ ps ++ Some a ∷ [] =
    c.in-Some-Some.ensures.items ∙ ap (λ (q : Option ℕ). ps ++ q ∷ []) c.in-Some-Some.field-0-is in
    let h = subst (λ (p : List (Option ℕ)). IsIndex table p) items c.self.invariant.index in
    let l = atom_within table (ps ++ Some a ∷ []) (length ps) a h (last_at ps (Some a)) in
    omega (arith, l, c.index.ensures, c.self.inside.table.ok.0)

pub invariant_of-self : goal.invariant_of-self
invariant_of-self c =
    let table : List (Option ℕ) = c.self.inside.table.items in
    let ps : List (Option ℕ) = c.pop.new.self.items in
    let a = c.in-Some-Some.atom in
    let items : c.self.inside.places.items ≡ ps ++ Some a ∷ [] =
    c.in-Some-Some.ensures.items ∙ ap (λ (q : Option ℕ). ps ++ q ∷ []) c.in-Some-Some.field-0-is in
    let h = subst (λ (p : List (Option ℕ)). IsIndex table p) items c.self.invariant.index in
    record {
      index = subst (λ k. IsIndex (set table k None) ps) (sym c.index.ensures) (index_popped table ps a h);
      few = omega (arith, c.self.invariant.few, ap length items, length_push ps (Some a));
    }

pub invariant_of-self-in-Some-None : goal.invariant_of-self-in-Some-None
invariant_of-self-in-Some-None c =
    let table : List (Option ℕ) = c.self.inside.table.items in
    let ps : List (Option ℕ) = c.pop.new.self.items in
    let items : c.self.inside.places.items ≡ ps ++ None ∷ [] =
    c.in-Some-None.ensures.items ∙ ap (λ (q : Option ℕ). ps ++ q ∷ []) c.in-Some-None.field-0-is in
    record {
      index = index_shrunk table ps (subst (λ (p : List (Option ℕ)). IsIndex table p) items c.self.invariant.index);
      few = omega (arith, c.self.invariant.few, ap length items, length_push ps None);
    }
