use Rattle.std.proofs.Common.{◌<◌, List, length, sym, ap, subst, arith}
use Rattle.std.proofs.lemmas.List.{length-map, length_push}
use Rattle.hp_chains.specs.declared.link.Link.{Link}
use Rattle.hp_chains.specs.Chained.{Row, entry_of, AreRings}
use Rattle.hp_chains.proofs.AppendingLemmas.{rings_longer}
use Rattle.hp_chains.proofs.chains.Chains.append.Goals as goal

pub invariant_of-self : goal.invariant_of-self
invariant_of-self c =
    let links : List Link = c.self.inside.links.items in
    let room = subst (λ (r : Row). length r.entries < r.room) (sym c.self.view_is) c.requires.room in
    record {
      rings =
          subst (λ (links : List Link). AreRings links c.self.inside.heads.items) (sym c.push_reserved.ensures.items)
          (rings_longer links c.args.link c.self.inside.heads.items c.requires.apart c.self.invariant.rings);
      few =
          omega (
            arith,
            room,
            length-map links entry_of,
            ap length c.push_reserved.ensures.items,
            length_push links c.args.link,
          );
    }
