use Rattle.std.proofs.Common.{◌≡◌, ◌∙◌, ◌<◌, List, length, sym, ap, subst, arith}
use Rattle.std.proofs.lemmas.List.{length-map}
use Rattle.hp_chains.specs.declared.link.Link.{Link}
use Rattle.hp_chains.specs.declared.link.Sides.{Sides}
use Rattle.hp_chains.specs.Entries.{Entry, StandsAt, IsTakenOut}
use Rattle.hp_chains.specs.Chained.{Row, entries_of, entry_of, AreRings}
use Rattle.hp_chains.proofs.ViewLemmas.{chained_written, entries_written, row_written}
use Rattle.hp_chains.proofs.chains.Chains.unlink.Goals as goal

pub take_out-requires-clause-place : goal.take_out-requires-clause-place
take_out-requires-clause-place c =
    let links : List Link = c.self.inside.links.items in
    let within = subst (λ (r : Row). c.args.place < length r.entries) (sym c.self.view_is) c.requires in
    omega (arith, within, length-map links entry_of, ap length c.deref_mut.ensures.value)

pub take_out-requires-clause-rings : goal.take_out-requires-clause-rings
take_out-requires-clause-rings c =
    subst (λ (links : List Link). AreRings links c.deref_mut-2.result.now) (sym c.deref_mut.ensures.value)
    (subst (λ (heads : List Sides). AreRings c.self.inside.links.items heads) (sym c.deref_mut-2.ensures.value)
    c.self.invariant.rings)

pub invariant_of-self : goal.invariant_of-self
invariant_of-self c =
    chained_written c.self.inside c.take_out.new.links c.take_out.new.heads
    (omega (arith, c.take_out.auto.links, c.deref_mut.ensures.len))
    (omega (arith, c.take_out.auto.heads, c.deref_mut-2.ensures.len)) c.take_out.ensures.rings c.self.invariant

pub returns-clause-place : goal.returns-clause-place
returns-clause-place c =
    let rest : List Entry = entries_of c.take_out.new.links in
    let was : entries_of c.deref_mut.result.now ≡ c.args.self.now.entries =
    ap entries_of c.deref_mut.ensures.value ∙ ap (λ (r : Row). r.entries) c.self.view_is in
    let is = entries_written c.self.inside c.take_out.new.links c.take_out.new.heads
    (omega (arith, c.take_out.auto.links, c.deref_mut.ensures.len))
    (omega (arith, c.take_out.auto.heads, c.deref_mut-2.ensures.len)) in
    subst (λ (es : List Entry). IsTakenOut c.args.place c.args.self.now.entries es) (sym is)
    (subst (λ (es : List Entry). IsTakenOut c.args.place es rest) was c.take_out.ensures.place)

pub returns-clause-key : goal.returns-clause-key
returns-clause-key c = λ key stood.
    let there = subst (λ (r : Row). StandsAt key r.entries c.args.place) (sym c.self.view_is) stood in
    subst (λ (r : Row). key < r.keys) c.self.view_is (c.self.invariant.rings.keys key c.args.place there)

pub returns-clause-rest : goal.returns-clause-rest
returns-clause-rest c =
    row_written c.self.inside c.take_out.new.links c.take_out.new.heads
    (omega (arith, c.take_out.auto.links, c.deref_mut.ensures.len))
    (omega (arith, c.take_out.auto.heads, c.deref_mut-2.ensures.len)) c.args.self.now c.self.view_is
