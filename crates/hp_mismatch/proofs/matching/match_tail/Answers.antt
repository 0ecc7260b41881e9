use Rattle.std.proofs.Common.{ap, ◌∙◌}
use Rattle.hp_syntax.specs.GroundViews.{grounds_of}
use Rattle.hp_syntax.specs.Matching.{match_tail}
use Rattle.hp_mismatch.specs.ValueViews.{bindings_of}
use Rattle.hp_mismatch.proofs.MatchSteps.{no_tail}
use Rattle.hp_mismatch.proofs.matching.match_tail.Goals as goal

pub returns-in-None : goal.returns-in-None
returns-in-None c =
    let e = bindings_of c.args.values.now.items in
    ap (λ t. match_tail t (grounds_of c.args.terms.now) e) c.in-None.is
    ∙ no_tail c.args.terms.now e c.is_empty.result c.is_empty.ensures
