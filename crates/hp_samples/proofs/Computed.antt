-- Runs on the texts of the samples, computed by the definitions of the language.
use Rattle.std.proofs.Common.{◌≡◌, ℕ, List, length}
use Rattle.std.specs.Fmt.{digits}
use Rattle.hp_syntax.specs.Calls as calls
use Rattle.hp_syntax.specs.Changes as changes
use Rattle.hp_syntax.specs.Events as events
use Rattle.hp_syntax.specs.Forest.{Forest, IsForest}
use Rattle.hp_syntax.specs.Goals as goals
use Rattle.hp_syntax.specs.Grammar as grammar
use Rattle.hp_syntax.specs.Grammar.{domain_form, problem_form}
use Rattle.hp_syntax.specs.GroundPatterns as ground_patterns
use Rattle.hp_syntax.specs.Matching as matching
use Rattle.hp_syntax.specs.Networks as networks
use Rattle.hp_syntax.specs.Preconditions as preconditions
use Rattle.hp_syntax.specs.Report as report
use Rattle.hp_syntax.specs.Values as values
use Rattle.hp_syntax.specs.Walk as walk
use Rattle.hp_samples.specs.Runs.{Asked, Writes, text_of_forms}

-- a proof that names this on its line has all definitions of the language unfolded
unfoldable pub the_language : Unit {0}
unfolding digits grammar.assigned grammar.atoms grammar.axiom_rule grammar.branch_name grammar.branch_tasks
    grammar.branches grammar.called grammar.clauses grammar.cost grammar.domain_list grammar.dotted
    grammar.effect grammar.effects grammar.expression grammar.expressions grammar.file grammar.file_list
    grammar.for_each grammar.headed grammar.immediate grammar.items grammar.keyed_effect grammar.keyed_rule
    grammar.list grammar.list_expression grammar.list_precondition grammar.list_tail grammar.list_tasks
    grammar.list_term grammar.method grammar.name grammar.named_atom grammar.named_branch grammar.named_clause
    grammar.one_expression grammar.operator grammar.order grammar.pair_tasks grammar.pairs grammar.precondition
    grammar.problem_list
    grammar.protection grammar.quantified grammar.rule grammar.sorted grammar.tail grammar.task_list
    grammar.tasks grammar.term grammar.terms grammar.two_expressions grammar.variable grammar.variables
    grammar.word_tail grammar.word_term calls.call values.value values.values matching.match_pattern
    matching.match_parts goals.fill goals.fill_parts goals.match_filled goals.match_fillings goals.start
    goals.start_parts events.events events.events_of_all events.events_of_any events.all_bound
    events.parts_bound events.sat preconditions.precondition_events networks.tasks_value
    networks.task_list_value networks.normal networks.normal_parts networks.firsts networks.firsts_of_first
    networks.firsts_from networks.part_at networks.nth_part_at networks.with_part networks.with_nth_part
    networks.candidates networks.finish networks.expand changes.apply changes.effects ground_patterns.term_said
    ground_patterns.terms_said ground_patterns.network_said ground_patterns.networks_said walk.children
    walk.visits_within walk.visits walk.root walk.walk walk.node_at report.plan_line report.path_line report.state_text
    report.ending_text report.plan_report report.pair_line
the_language = tt

-- a run writes what is computed of the forests that its texts spell
pub run : {a : Asked} {domain problem text : List ℕ} {d p : Forest} → IsForest domain d → IsForest problem p
    → text_of_forms a (domain_form (length domain) d) (problem_form (length problem) p) ≡ text
    → Writes a domain problem text
run {a} {domain} {problem} {text} {d} {p} of_domain of_problem e = record {
  domain_forest = d;
  problem_forest = p;
  domain_spelled = of_domain;
  problem_spelled = of_problem;
  written = e;
}
