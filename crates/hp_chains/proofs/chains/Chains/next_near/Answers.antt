use Rattle.std.proofs.Common.{◌≡◌, ◌∙◌, ℕ, ◌+◌, ◌-◌, ◌<◌, List, length, get_or, sym, ap, subst, arith}
use Rattle.std.proofs.lemmas.List.{get_or_read}
use Rattle.hp_chains.specs.declared.link.Link.{Link}
use Rattle.hp_chains.specs.declared.link.Link.TheVariants as kinds
use Rattle.hp_chains.specs.declared.link.Sides.{Sides}
use Rattle.hp_chains.specs.Entries.{StandsAt, IsNear}
use Rattle.hp_chains.specs.Chained.{Row, entry_of, entries_of, no_sides, sides_of}
use Rattle.hp_chains.proofs.StandingLemmas.{entry_shown}
use Rattle.hp_chains.proofs.TellingLemmas.{first_told, stepped}
use Rattle.hp_chains.proofs.chains.Chains.next_near.Goals as goal

pub returns-in-Some : goal.returns-in-Some
returns-in-Some c =
    let links : List Link = c.self.inside.links.items in
    let key : ℕ = c.args.key in
    let place : ℕ = c.args.from - 1 in
    let sides : Sides = c.sides.result in
    let read : c.in-Some.link.now ≡ get_or links place kinds.Bare =
    c.in-Some.ensures.lookup.3.1 kinds.Bare
    ∙ ap (λ (xs : List Link). get_or xs c.saturating_sub.result kinds.Bare) c.deref.ensures.value
    ∙ ap (λ (k : ℕ). get_or links k kinds.Bare) c.saturating_sub.ensures in
    let stood : StandsAt key (entries_of links) place =
    entry_shown links place ∙ ap entry_of (sym read) ∙ c.stands_among.ensures.0 c.if-stands_among.true in
    subst (λ (r : Row). IsNear key r.entries c.args.from sides.next) c.self.view_is (
      place + 1,
      omega (arith, c.if-from-gt0.true),
      stepped links c.self.inside.heads.items key place sides c.self.invariant.rings stood
          (c.sides.ensures ∙ ap sides_of read),
    )

pub returns-in_default : goal.returns-in_default
returns-in_default c =
    let heads : List Sides = c.self.inside.heads.items in
    let head : Sides = c.index.result.now in
    let within : c.args.key < length heads =
    subst (λ (r : Row). c.args.key < r.keys) (sym c.self.view_is) c.requires in
    subst (λ (r : Row). IsNear c.args.key r.entries c.args.from head.next) c.self.view_is (
      0,
      omega arith,
      first_told c.self.inside.links.items heads c.args.key head c.self.invariant.rings within
          (sym (get_or_read heads c.args.key head within c.index.ensures no_sides)),
    )
