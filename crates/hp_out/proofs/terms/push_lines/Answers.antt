use Rattle.std.proofs.Common.{ℕ, ◌<◌, length, subst, sym, arith}
use Rattle.std.proofs.lemmas.List.Elements.{All-get_or}
use Rattle.hp_out.proofs.PageSteps.{put_more, next_not_put, put_all}
use Rattle.hp_out.proofs.TermSteps.{cells_text, line_at, lines_joined, one_line}
use Rattle.hp_out.proofs.terms.push_lines.Goals as goal

pub push_line-requires : goal.push_line-requires
push_line-requires g c =
    let below : ℕ → Type 0 = λ a. a < length c.args.cells.now in
    subst below (sym c.cell-item.is)
    (All-get_or below c.args.list.now c.loop-cell.cell-index c.cell-item.result c.loop-cell-test.true c.requires)

-- the earlier lines were put, and this one couldn't be
pub returns-in_err-push_line-clause-puts : goal.returns-in_err-push_line-clause-puts
returns-in_err-push_line-clause-puts g c =
    let terms = c.args.cells.now in
    next_not_put (cells_text terms) (lines_joined terms) _ _ _ c.args.list.now c.loop-cell.cell-index c.cell-item.result
    (line_at terms c.cell-item.result) _ _ _ c.from_residual.ensures.0 c.in_err-push_line.was c.loop-cell-test.true
    (one_line terms c.args.list.now c.loop-cell.cell-index c.cell-item.result c.cell-item.is)
    c.loop-cell.invariant.put c.push_line.ensures.puts

pub loop-cell-preserved : goal.loop-cell-preserved
loop-cell-preserved g c =
    let terms = c.args.cells.now in
    record {
      put =
          put_more (cells_text terms) (lines_joined terms) c.args.list.now c.loop-cell.cell-index c.cell-item.result
          (line_at terms c.cell-item.result) _ _ _ c.loop-cell-test.true
          (one_line terms c.args.list.now c.loop-cell.cell-index c.cell-item.result c.cell-item.is)
          c.loop-cell.invariant.put c.in_ok-push_line.ensures.puts;
      later = omega (arith, c.loop-cell.invariant.later, c.in_ok-push_line.ensures.later);
    }

pub returns-clause-puts : goal.returns-clause-puts
returns-clause-puts g c =
    let terms = c.args.cells.now in
    put_all (cells_text terms) (lines_joined terms) c.args.list.now c.loop-cell.cell-index _ _ c.loop-cell-test.false
    c.loop-cell.invariant.put
