-- The parts are those of the expression.
use Rattle.std.proofs.Common.{subst}
use Rattle.hp_code.specs.Codes.{code_of}
use Rattle.hp_unmet.specs.Conjunctions.{body_of}
use Rattle.hp_unmet.specs.PartNodes.{StandBetween}
use Rattle.hp_unmet.proofs.nodes.parts_asked.Goals as goal

pub expression_node-requires-clause-has : goal.expression_node-requires-clause-has
expression_node-requires-clause-has c = let h = c.requires.asks.1 in (h.pre, h.has)

pub parts_at-requires : goal.parts_at-requires
parts_at-requires c = let h = c.requires.asks.1 in (body_of h.pre, c.expression_node.ensures h.pre h.has)

pub returns-clause-parts : goal.returns-clause-parts
returns-clause-parts c = λ parts h.
    let code = code_of c.args.code.now in
    subst (StandBetween code c.parts_at.result.first c.parts_at.result.end) h.are
    (c.parts_at.ensures.parts (body_of h.pre) (c.expression_node.ensures h.pre h.has))
