use Rattle.std.proofs.Common.{◌≡◌, ◌∙◌, ℕ, List, length, sym, ap, subst, arith}
use Rattle.hp_chains.specs.declared.link.Link.{Link}
use Rattle.hp_chains.specs.declared.link.Sides.{Sides}
use Rattle.hp_chains.specs.Entries.{Entry, FitsBack, returned}
use Rattle.hp_chains.specs.Chained.{Row, entries_of, AreRings}
use Rattle.hp_chains.proofs.ViewLemmas.{chained_written, entries_written, row_written}
use Rattle.hp_chains.proofs.chains.Chains.relink.Goals as goal

pub put_back-requires-clause-few : goal.put_back-requires-clause-few
put_back-requires-clause-few c = omega (arith, c.self.invariant.few, ap length c.deref_mut.ensures.value)

pub put_back-requires-clause-rings : goal.put_back-requires-clause-rings
put_back-requires-clause-rings c =
    subst (λ (links : List Link). AreRings links c.deref_mut-2.result.now) (sym c.deref_mut.ensures.value)
    (subst (λ (heads : List Sides). AreRings c.self.inside.links.items heads) (sym c.deref_mut-2.ensures.value)
    c.self.invariant.rings)

pub put_back-requires-clause-fits : goal.put_back-requires-clause-fits
put_back-requires-clause-fits c =
    let place : ℕ = c.args.place in
    let old : Row = c.args.self.now in
    let was : entries_of c.deref_mut.result.now ≡ old.entries =
    ap entries_of c.deref_mut.ensures.value ∙ ap (λ (r : Row). r.entries) c.self.view_is in
    let keys : length c.deref_mut-2.result.now ≡ old.keys =
    ap length c.deref_mut-2.ensures.value ∙ ap (λ (r : Row). r.keys) c.self.view_is in
    subst (λ (n : ℕ). FitsBack n (entries_of c.deref_mut.result.now) place) (sym keys)
    (subst (λ (es : List Entry). FitsBack old.keys es place) (sym was) c.requires.fits)

pub invariant_of-self : goal.invariant_of-self
invariant_of-self c =
    chained_written c.self.inside c.put_back.new.links c.put_back.new.heads
    (omega (arith, c.put_back.auto.links, c.deref_mut.ensures.len))
    (omega (arith, c.put_back.auto.heads, c.deref_mut-2.ensures.len)) c.put_back.ensures.rings c.self.invariant

pub returns : goal.returns
returns c =
    let place : ℕ = c.args.place in
    let old : Row = c.args.self.now in
    let was : entries_of c.deref_mut.result.now ≡ old.entries =
    ap entries_of c.deref_mut.ensures.value ∙ ap (λ (r : Row). r.entries) c.self.view_is in
    let count : length c.put_back.new.links ≡ c.self.inside.links.len =
    omega (arith, c.put_back.auto.links, c.deref_mut.ensures.len) in
    let keys : length c.put_back.new.heads ≡ c.self.inside.heads.len =
    omega (arith, c.put_back.auto.heads, c.deref_mut-2.ensures.len) in
    row_written c.self.inside c.put_back.new.links c.put_back.new.heads count keys old c.self.view_is
    ∙ ap (λ (es : List Entry). record old { entries = es })
    (entries_written c.self.inside c.put_back.new.links c.put_back.new.heads count keys
    ∙ c.put_back.ensures.place
    ∙ ap (λ (es : List Entry). returned es place) was)
