use Rattle.std.proofs.Common.{◌∙◌}
use Rattle.hp_out.proofs.PageSteps.{puts_same}
use Rattle.hp_out.proofs.ReportSteps.{counts_words}
use Rattle.hp_out.proofs.endings.push_counts.Goals as goal

-- the words and the counts, one behind the other
pub returns-clause-puts : goal.returns-clause-puts
returns-clause-puts g c =
    puts_same c.push_all.result _ _ _ _
    (counts_words c.args.plans c.args.expansions c.as_bytes.result.now c.as_bytes-2.result.now
    (c.as_bytes.ensures.value ∙ c.format.ensures.text) (c.as_bytes-2.ensures.value ∙ c.format-2.ensures.text))
    c.push_all.ensures.puts
