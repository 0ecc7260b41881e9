use Rattle.std.proofs.Common.{FitsSigned, ap, rules}
use Rattle.std.specs.Int.{w128}
use Rattle.std.proofs.lemmas.Int.{to_z-of_z}
use Rattle.hp_out.specs.Lines.{derived_text}
use Rattle.hp_out.proofs.PageSteps.{first_not_written, page_written}
use Rattle.hp_out.proofs.WriteSteps.{writes_same}
use Rattle.hp_out.proofs.pen.Pen.derived_line.Goals as goal

pub returns-in_err-push_derived-clause-writes : goal.returns-in_err-push_derived-clause-writes
returns-in_err-push_derived-clause-writes g c =
    let fits : FitsSigned w128 c.args.cost = search rules in
    writes_same c.from_residual.result _ _ _ _
    (ap (λ cost. derived_text cost c.args.path.now c.args.expansions) (to_z-of_z w128 c.args.cost fits))
    (first_not_written _ _ _ _ _ _ _ _ c.new-line.ensures c.from_residual.ensures.0 c.in_err-push_derived.was
    c.push_derived.ensures.puts)

-- the line was put on the page, and then the page is written
pub returns-clause-writes : goal.returns-clause-writes
returns-clause-writes g c =
    let fits : FitsSigned w128 c.args.cost = search rules in
    writes_same c.flush.result _ _ _ _
    (ap (λ cost. derived_text cost c.args.path.now c.args.expansions) (to_z-of_z w128 c.args.cost fits))
    (page_written _ _ _ _ _ _ _ c.new-line.ensures c.in_ok-push_derived.ensures.puts c.flush.ensures.writes)
