use Rattle.std.proofs.Common.{codes, map}
use Rattle.hp_syntax.specs.Views.{clause_of}
use Rattle.hp_syntax.specs.Written as written
use Rattle.hp_syntax.specs.Written.{rest_text}
use Rattle.hp_syntax.proofs.ListLemmas.{made_on}
use Rattle.hp_print.proofs.WrittenLists.{all_and_more}
use Rattle.hp_print.proofs.WrittenTexts.{rest_of_clauses, rest_of_no_clauses}
use Rattle.hp_print.proofs.rules.push_clauses.Goals as goal

pub loop-clause-preserved : goal.loop-clause-preserved
loop-clause-preserved c =
    let vars = c.args.vars.now in
    made_on (λ cs. rest_text (written.clauses vars (map clause_of cs)))
    (λ d. rest_text (written.clause vars (clause_of d))) c.args.list.now c.loop-clause.clause-index
    c.clause-item.result c.loop-clause.text.items _ _
    (λ d cs. rest_of_clauses vars (clause_of d) (map clause_of cs)) c.loop-clause-test.true c.clause-item.is
    c.loop-clause.invariant c.in_ok-push_clause.ensures

pub returns : goal.returns
returns c =
    all_and_more c.extend_from_slice.result (λ cs. rest_text (written.clauses c.args.vars.now (map clause_of cs)))
    c.args.list.now c.loop-clause.clause-index c.loop-clause.text.items _ _ c.loop-clause-test.false
    c.loop-clause.invariant (codes ")") (rest_of_no_clauses c.args.vars.now) c.extend_from_slice.ensures.items
