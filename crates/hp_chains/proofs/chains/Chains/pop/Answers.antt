use Rattle.std.proofs.Common.{◌≡◌, ◌∙◌, ℕ, ◌+◌, ◌-◌, ◌^◌, List, min, length, take, sym, ap, subst, arith}
use Rattle.std.proofs.lemmas.List.{length-map, length-take, take-map}
use Rattle.hp_chains.specs.declared.link.Link.{Link}
use Rattle.hp_chains.specs.Entries.{Entry, StandsAt, IsTakenOut}
use Rattle.hp_chains.specs.Chained.{Row, entry_of, entries_of, AreRings}
use Rattle.hp_chains.proofs.AppendingLemmas.{rings_cut}
use Rattle.hp_chains.proofs.ReturnLemmas.{taken_out_before, taken_out_free, taken_out_length}
use Rattle.hp_chains.proofs.chains.Chains.pop.Goals as goal

-- as many places are left as were
links_counted : (links : List Link) (es rest : List Entry) (n : ℕ) → entries_of links ≡ rest → IsTakenOut n es rest
    → n + 1 ≡ length es → length links ≡ n + 1
links_counted links es rest n shown out count =
    omega (arith, length-map links entry_of, ap length shown, taken_out_length n es rest out)

-- the links before the last place
links_cut : (links new : List Link) (es rest : List Entry) (n len : ℕ) → entries_of links ≡ rest → IsTakenOut n es rest
    → n + 1 ≡ length es → len ≡ length links → new ≡ take (len - 1) links → new ≡ take n links
links_cut links new es rest n len shown out count whole cut =
    cut
    ∙ ap (λ (k : ℕ). take k links) (let e = links_counted links es rest n shown out count in omega (arith, e))

-- what the links before the last place show
entries_cut : (links : List Link) (es rest : List Entry) (n : ℕ) → entries_of links ≡ rest → IsTakenOut n es rest
    → entries_of (take n links) ≡ take n es
entries_cut links es rest n shown out =
    sym (take-map entry_of n links) ∙ ap (λ (xs : List Entry). take n xs) shown ∙ taken_out_before n es rest out

pub invariant_of-self : goal.invariant_of-self
invariant_of-self c =
    let links : List Link = c.self.inside.links.items in
    let es : List Entry = c.args.self.now.entries in
    let rest : List Entry = c.unlink.new.self.entries in
    let n : ℕ = c.len-count.result - 1 in
    let out = c.unlink.ensures.place in
    let shown : entries_of links ≡ rest = ap (λ (r : Row). r.entries) c.self.view_is in
    let count : n + 1 ≡ length es = omega (arith, c.len-count.ensures, c.if-count-gt0.true) in
    let free : (k : ℕ) → StandsAt k (entries_of links) n → ⊥ = λ k s.
    taken_out_free n es rest out (omega (arith, count)) k (subst (λ (xs : List Entry). StandsAt k xs n) shown s) in
    let cut = links_cut links c.pop.new.self.items es rest n c.self.inside.links.len shown out count
    c.self.inside.links.ok.0 c.pop.ensures.rest in
    record {
      rings =
          subst (λ (xs : List Link). AreRings xs c.self.inside.heads.items) (sym cut)
          (rings_cut links c.self.inside.heads.items n (links_counted links es rest n shown out count) free
          c.self.invariant.rings);
      few = omega (arith, ap length cut, length-take n links, c.self.invariant.few);
    }

pub returns-then-count-gt0 : goal.returns-then-count-gt0
returns-then-count-gt0 c =
    let links : List Link = c.self.inside.links.items in
    let es : List Entry = c.args.self.now.entries in
    let rest : List Entry = c.unlink.new.self.entries in
    let n : ℕ = c.len-count.result - 1 in
    let out = c.unlink.ensures.place in
    let shown : entries_of links ≡ rest = ap (λ (r : Row). r.entries) c.self.view_is in
    let count : n + 1 ≡ length es = omega (arith, c.len-count.ensures, c.if-count-gt0.true) in
    let cut = links_cut links c.pop.new.self.items es rest n c.self.inside.links.len shown out count
    c.self.inside.links.ok.0 c.pop.ensures.rest in
    let entries : entries_of c.pop.new.self.items ≡ take (length es - 1) es =
    ap entries_of cut ∙ entries_cut links es rest n shown out
    ∙ ap (λ (k : ℕ). take (k - 1) es) c.len-count.ensures in
    let room = ap (λ (k : ℕ). min k (2 ^ 32 - 1)) c.pop.ensures.capacity in
    let row = c.self.view_is ∙ c.unlink.ensures.rest in
    let keys = ap (λ (r : Row). r.keys) row in
    let more = ap (λ (r : Row). r.room) row in
    cc
