use Rattle.std.proofs.Common.{arith}
use Rattle.hp_links.specs.Undoing.{stage_of}
use Rattle.hp_links.proofs.StepLemmas.{has_span, stands_later, second_within}
use Rattle.hp_links.proofs.store.Store.take_from.Goals as goal

pub span-span-requires : goal.span-span-requires
span-span-requires c =
    has_span (stage_of c.args.self.now) c.args.id c.args.list c.requires.stage c.requires.names c.requires.list

pub place_in-place-requires : goal.place_in-place-requires
place_in-place-requires c =
    stands_later (stage_of c.args.self.now) c.args.id c.args.list c.requires.stage c.requires.names c.requires.list
    c.span-span.result c.span-span.ensures

pub other-rest-requires : goal.other-rest-requires
other-rest-requires c =
    let within = second_within (stage_of c.args.self.now) c.args.id c.args.list c.requires.stage c.requires.names
    c.requires.list c.span-span.result c.span-span.ensures c.if-span-eq2.true in
    omega (arith, within, c.args.self.now.links.rows.ok.0)
