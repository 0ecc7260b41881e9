use Rattle.std.proofs.Common.{sym, ◌∙◌, Some, None, ◌≡◌}
use Rattle.hp_code.specs.Codes.{code_of}
use Rattle.hp_syntax.specs.Views.{domain_of}
use Rattle.hp_obstacles.proofs.ObstacleSteps.{node_there, serves}
use Rattle.hp_obstacles.proofs.obstacles.node_of.Goals as goal

pub unreachable-requires : goal.unreachable-requires
unreachable-requires c =
    let rules = (domain_of c.args.domain.now).rules in
    let node = node_there rules (code_of c.args.code.now) c.requires.code c.args.rule c.requires.there in
    let e : None ≡ Some node.0 = c.in-None.ensures ∙ node.1 in
    cc

pub returns : goal.returns
returns c =
    serves (domain_of c.args.domain.now).rules (code_of c.args.code.now) c.requires.code c.args.rule c.requires.there
    c.in-Some.node (sym c.in-Some.ensures)
