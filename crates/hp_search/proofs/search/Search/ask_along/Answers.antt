use Rattle.std.proofs.Common.{sym, subst}
use Rattle.hp_world.specs.Recorded.{Knows}
use Rattle.hp_search.proofs.search.Search.ask_along.Goals as goal

pub ask_along-prefix-requires-clause-knows : goal.ask_along-prefix-requires-clause-knows
ask_along-prefix-requires-clause-knows c =
    subst (Knows c.args.self.now.cells) (sym c.replace-world.ensures.value) c.requires.search.site.knows
