use Rattle.std.proofs.Common.{map, refl}
use Rattle.hp_syntax.specs.Views.{clause_of}
use Rattle.hp_nodes.specs.Compiled.{clause_tree, clause_trees}
use Rattle.hp_nodes.proofs.LayingSteps.{laid_one_more, all_parts_laid}
use Rattle.hp_nodes.proofs.rules.lay_clauses.Goals as goal

pub loop-clause-preserved : goal.loop-clause-preserved
loop-clause-preserved c =
    let span = c.args.span in
    laid_one_more (λ cs. clause_trees span (map clause_of cs)) (λ d. clause_tree span (clause_of d))
    c.args.clauses.now c.loop-clause.clause-index c.clause-item.result c.loop-clause.nodes.items
    c.lay_clause.new.nodes.items (λ d cs. refl) c.loop-clause-test.true c.clause-item.is c.in_ok-lay_clause.ensures _
    c.loop-clause.invariant

pub returns : goal.returns
returns c =
    all_parts_laid (λ cs. clause_trees c.args.span (map clause_of cs)) c.args.clauses.now c.loop-clause.clause-index
    c.loop-clause-test.false refl c.loop-clause.nodes.items _ c.loop-clause.invariant
