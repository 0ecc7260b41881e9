use Rattle.std.proofs.Common.{ap}
use Rattle.hp_syntax.specs.Report.{nothing_seen, end_of, answer_at}
use Rattle.hp_laws.proofs.ReportLemmas.{first_texts, first_count}
use Rattle.hp_laws.proofs.tree_laws.reports_tell_the_first_plans.Goals as goal

pub returns-clause-texts : goal.returns-clause-texts
returns-clause-texts c = λ walk tell k l.
    ap (λ texts. answer_at texts (end_of k nothing_seen walk)) (first_texts tell walk k l)

pub returns-clause-count : goal.returns-clause-count
returns-clause-count c = first_count
