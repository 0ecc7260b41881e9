use Rattle.std.proofs.Common.{◌∙◌, ap, codes}
use Rattle.std.proofs.lemmas.Result.{err_from_is_err_and}
use Rattle.hp_syntax.specs.declared.form.What.TheVariants as wants
use Rattle.hp_syntax.specs.Forest.{span_of}
use Rattle.hp_syntax.specs.Steps.{and_then}
use Rattle.hp_syntax.specs.Grammar.{file_list, domain_list}
use Rattle.hp_syntax.specs.Views.{domain_of}
use Rattle.hp_text.specs.Nodes.{node_of, nodes_of}
use Rattle.hp_text.specs.NodeLaws.{node_of-span}
use Rattle.hp_terms.proofs.Turns.{refused_same, refused_next}
use Rattle.hp_terms.proofs.PartSteps.{reads_same}
use Rattle.hp_forms.proofs.FileSteps.{list_behind}
use Rattle.hp_forms.proofs.files.domain_of_node.Goals as goal

pub returns-in_err-rest : goal.returns-in_err-rest
returns-in_err-rest c = λ names.
    let p = err_from_is_err_and c.from_residual.result c.from_residual.ensures.1 in
    rw (p.1, p.2) (refused_same c.in_err-rest.field-0.0 _ _
    (list_behind wants.Domain (codes "defdomain") domain_list (node_of c.args.node) names)
    (refused_next c.in_err-rest.field-0.0 _ _ (c.in_err-rest.ensures names)))

pub returns : goal.returns
returns c = λ names.
    reads_same domain_of c.domain_list.result _
    (file_list wants.Domain (codes "defdomain") domain_list (node_of c.args.node)) names names
    (list_behind wants.Domain (codes "defdomain") domain_list (node_of c.args.node) names
    ∙ ap (λ r. and_then r (domain_list (span_of (node_of c.args.node)))) (c.in_ok-rest.ensures names)
    ∙ ap (λ s. domain_list s (nodes_of c.in_ok-rest.rest.items) names) (node_of-span c.args.node))
    (c.domain_list.ensures names)
