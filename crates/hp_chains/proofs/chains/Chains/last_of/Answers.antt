use Rattle.std.proofs.Common.{◌<◌, List, length, sym, subst}
use Rattle.std.proofs.lemmas.List.{get_or_read}
use Rattle.hp_chains.specs.declared.link.Sides.{Sides}
use Rattle.hp_chains.specs.Entries.{IsPrevious}
use Rattle.hp_chains.specs.Chained.{Row, no_sides}
use Rattle.hp_chains.proofs.TellingLemmas.{last_told}
use Rattle.hp_chains.proofs.chains.Chains.last_of.Goals as goal

pub returns : goal.returns
returns c =
    let heads : List Sides = c.self.inside.heads.items in
    let last : Sides = c.index.result.now in
    let within : c.args.key < length heads =
    subst (λ (r : Row). c.args.key < r.keys) (sym c.self.view_is) c.requires in
    subst (λ (r : Row). IsPrevious c.args.key r.entries (length r.entries) last.previous) c.self.view_is
    (last_told c.self.inside.links.items heads c.args.key last c.self.invariant.rings within
    (sym (get_or_read heads c.args.key last within c.index.ensures no_sides)))
