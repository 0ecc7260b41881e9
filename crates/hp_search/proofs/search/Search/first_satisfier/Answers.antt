use Rattle.std.proofs.Common.{sym, subst}
use Rattle.hp_world.specs.Recorded.{Knows}
use Rattle.hp_search.proofs.search.Search.first_satisfier.Goals as goal

pub first_satisfier-values-requires-clause-knows : goal.first_satisfier-values-requires-clause-knows
first_satisfier-values-requires-clause-knows c =
    subst (Knows c.args.self.now.cells) (sym c.replace-world.ensures.value) c.requires.search.site.knows
