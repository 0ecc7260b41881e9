use Rattle.std.proofs.Common.{map, Some, ◌∙◌, ap, sym}
use Rattle.std.specs.Option.{option_copied}
use Rattle.hp_code.specs.Codes.{code_of}
use Rattle.hp_code.specs.CodeViews.{rules_in}
use Rattle.hp_code.proofs.CodeLemmas.{tasks_found}
use Rattle.hp_laws.specs.RulesByName.{relevant}
use Rattle.hp_agenda.specs.Queues.{rule_of}
use Rattle.hp_agenda.proofs.queue.relevant_rules.Goals as goal

pub returns-in-Some : goal.returns-in-Some
returns-in-Some c =
    let code = code_of c.args.code.now in
    let name = ap option_copied (sym c.in-Some.is) ∙ c.task_name.ensures in
    ap (map (rule_of code)) c.task_rules.ensures
    ∙ (tasks_found code c.args.code.now.kept c.in-Some.name.now
    ∙ ap (λ o. map Some (relevant o (rules_in code))) name)
