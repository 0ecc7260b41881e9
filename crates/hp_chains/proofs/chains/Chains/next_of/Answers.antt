use Rattle.std.proofs.Common.{◌≡◌, ◌∙◌, ℕ, ◌+◌, ◌<◌, List, Option, Some, None, length, get_or, sym, ap, subst, arith}
use Rattle.std.proofs.lemmas.List.{get_or_read, length-map}
use Rattle.hp_chains.specs.declared.link.Link.{Link}
use Rattle.hp_chains.specs.declared.link.Link.TheVariants as kinds
use Rattle.hp_chains.specs.declared.link.Sides.{Sides}
use Rattle.hp_chains.specs.Entries.{Entry, StandsAt, IsNear, IsNext}
use Rattle.hp_chains.specs.Chained.{Row, entry_of, entries_of, sides_of, AreRings}
use Rattle.hp_chains.proofs.StandingLemmas.{stands_within}
use Rattle.hp_chains.proofs.TellingLemmas.{stepped}
use Rattle.hp_chains.proofs.chains.Chains.next_of.Invariants.{left}
use Rattle.hp_chains.proofs.chains.Chains.next_of.Goals as goal

-- a place that is near stands
near_stands : (key : ℕ) (es : List Entry) (from : ℕ) (at : Option ℕ) (place : ℕ) → IsNear key es from at
    → at ≡ Some place → StandsAt key es place
near_stands key es from at place h e =
    let near = subst (λ (x : Option ℕ). IsNear key es from x) e h in near.2.1

-- fewer places are left from the next one on
left_smaller : (key : ℕ) (es : List Entry) (place : ℕ) (n : Option ℕ) → StandsAt key es place
    → IsNext key es (place + 1) n → left (length es) n < left (length es) (Some place)
left_smaller key es place None stood h = omega (arith, stands_within es place key stood)
left_smaller key es place (Some i) stood h =
    omega (arith, stands_within es place key stood, stands_within es i key h.1, h.0)

-- what a link that is read tells is the next place of its key
next_read : (links : List Link) (heads : List Sides) (r : Row) (key place : ℕ) (link : Link) (sides : Sides)
    → AreRings links heads → entries_of links ≡ r.entries → StandsAt key r.entries place
    → link ≡ get_or links place link → sides ≡ sides_of link → IsNext key r.entries (place + 1) sides.next
next_read links heads r key place link sides h shown stood read e =
    let there : StandsAt key (entries_of links) place =
    subst (λ (es : List Entry). StandsAt key es place) (sym shown) stood in
    let within : place < length links =
    omega (arith, stands_within (entries_of links) place key there, length-map links entry_of) in
    subst (λ (es : List Entry). IsNext key es (place + 1) sides.next) shown
    (stepped links heads key place sides h there
    (e ∙ ap sides_of (get_or_read links place link within read kinds.Bare)))

pub loop-at-smaller : goal.loop-at-smaller
loop-at-smaller c =
    let r : Row = c.args.self.now in
    let stood = near_stands c.args.key r.entries c.args.from c.loop-at.at c.in-Some.place c.loop-at.invariant
    c.in-Some.is in
    subst (λ (at : Option ℕ). left (length r.entries) c.sides-at.result.next < left (length r.entries) at)
    (sym c.in-Some.is)
    (left_smaller c.args.key r.entries c.in-Some.place c.sides-at.result.next stood
    (next_read c.self.inside.links.items c.self.inside.heads.items r c.args.key c.in-Some.place c.index.result.now
    c.sides-at.result c.self.invariant.rings (ap (λ (r : Row). r.entries) c.self.view_is) stood c.index.ensures
    c.sides-at.ensures))

pub loop-at-preserved : goal.loop-at-preserved
loop-at-preserved c =
    let r : Row = c.args.self.now in
    let stood = near_stands c.args.key r.entries c.args.from c.loop-at.at c.in-Some.place c.loop-at.invariant
    c.in-Some.is in (
      c.in-Some.place + 1,
      omega (arith, c.if-from-place.false),
      next_read c.self.inside.links.items c.self.inside.heads.items r c.args.key c.in-Some.place c.index.result.now
          c.sides-at.result c.self.invariant.rings (ap (λ (r : Row). r.entries) c.self.view_is) stood c.index.ensures
          c.sides-at.ensures,
    )
