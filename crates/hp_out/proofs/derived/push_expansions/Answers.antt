use Rattle.std.proofs.Common.{◌∙◌}
use Rattle.hp_out.proofs.AnswerSteps.{expansions_words}
use Rattle.hp_out.proofs.PageSteps.{puts_same}
use Rattle.hp_out.proofs.derived.push_expansions.Goals as goal

-- the word and the count, one behind the other
pub returns-clause-puts : goal.returns-clause-puts
returns-clause-puts g c =
    puts_same c.push_all.result _ _ _ _
    (expansions_words c.args.expansions c.as_bytes.result.now (c.as_bytes.ensures.value ∙ c.format.ensures.text))
    c.push_all.ensures.puts
