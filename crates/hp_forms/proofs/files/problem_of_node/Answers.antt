use Rattle.std.proofs.Common.{◌∙◌, ap, [], codes}
use Rattle.std.proofs.lemmas.Result.{err_from_is_err_and}
use Rattle.hp_syntax.specs.declared.form.What.TheVariants as wants
use Rattle.hp_syntax.specs.Forest.{span_of}
use Rattle.hp_syntax.specs.Steps.{and_then, value_in}
use Rattle.hp_syntax.specs.Grammar.{file_list, problem_list}
use Rattle.hp_syntax.specs.Views.{problem_of}
use Rattle.hp_text.specs.Nodes.{node_of, nodes_of}
use Rattle.hp_text.specs.NodeLaws.{node_of-span}
use Rattle.hp_terms.proofs.Turns.{refused_same, refused_next}
use Rattle.hp_terms.proofs.PartSteps.{gives_same}
use Rattle.hp_forms.proofs.FileSteps.{list_behind, value_refused}
use Rattle.hp_forms.proofs.files.problem_of_node.Goals as goal

pub returns-in_err-rest : goal.returns-in_err-rest
returns-in_err-rest c =
    let p = err_from_is_err_and c.from_residual.result c.from_residual.ensures.1 in
    rw (p.1, p.2) (value_refused c.in_err-rest.field-0.0
    (file_list wants.Problem (codes "defproblem") problem_list (node_of c.args.node) [])
    (refused_same c.in_err-rest.field-0.0 _ _
    (list_behind wants.Problem (codes "defproblem") problem_list (node_of c.args.node) [])
    (refused_next c.in_err-rest.field-0.0 _ _ (c.in_err-rest.ensures []))))

pub returns : goal.returns
returns c =
    gives_same problem_of c.problem_list.result _
    (value_in (file_list wants.Problem (codes "defproblem") problem_list (node_of c.args.node) []))
    (ap value_in (list_behind wants.Problem (codes "defproblem") problem_list (node_of c.args.node) []
    ∙ ap (λ r. and_then r (problem_list (span_of (node_of c.args.node)))) (c.in_ok-rest.ensures [])
    ∙ ap (λ s. problem_list s (nodes_of c.in_ok-rest.rest.items) []) (node_of-span c.args.node)))
    c.problem_list.ensures
