use Rattle.std.proofs.Common.{◌∙◌}
use Rattle.hp_syntax.specs.Report.{fault_word}
use Rattle.hp_out.proofs.PageSteps.{puts_same}
use Rattle.hp_out.proofs.ReportSteps.{fault_words}
use Rattle.hp_out.proofs.endings.push_fault.Goals as goal

-- the words and the numbers of a fault, one behind the other
pub returns-clause-puts : goal.returns-clause-puts
returns-clause-puts g c =
    puts_same c.push_all.result _ _ _ _
    (fault_words (fault_word c.args.fault.kind) c.args.fault.span c.fault_word.result.now c.as_bytes.result.now
    c.as_bytes-2.result.now c.fault_word.ensures (c.as_bytes.ensures.value ∙ c.format.ensures.text)
    (c.as_bytes-2.ensures.value ∙ c.format-2.ensures.text))
    c.push_all.ensures.puts
