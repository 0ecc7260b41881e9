use Rattle.std.proofs.Common.{sym, subst}
use Rattle.hp_world.specs.Recorded.{Knows}
use Rattle.hp_search.proofs.search.Search.ask.Goals as goal

pub ask-found-requires-clause-knows : goal.ask-found-requires-clause-knows
ask-found-requires-clause-knows c =
    subst (Knows c.args.self.now.cells) (sym c.replace-world.ensures.value) c.requires.search.site.knows
