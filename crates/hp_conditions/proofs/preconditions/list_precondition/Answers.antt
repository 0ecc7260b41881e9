use Rattle.std.proofs.Common.{◌≡◌, ◌∙◌, ap, sym, codes, option_map, Some, None}
use Rattle.std.proofs.lemmas.Result.{err_from_is_err_and}
use Rattle.hp_syntax.specs.Syntax.{Plain}
use Rattle.hp_syntax.specs.Steps.{and_then, pure}
use Rattle.hp_syntax.specs.Views.{precondition_of}
use Rattle.hp_text.specs.Nodes.{nodes_of}
use Rattle.hp_terms.specs.Words.{behind}
use Rattle.hp_terms.proofs.PartSteps.{reads_same}
use Rattle.hp_terms.proofs.Turns.{refused_same, refused_next}
use Rattle.hp_terms.proofs.WordLemmas.{precondition-by_word}
use Rattle.hp_conditions.proofs.preconditions.list_precondition.Goals as goal

pub returns-in-Some : goal.returns-in-Some
returns-in-Some c =
    let f = nodes_of c.args.nodes.now in
    let first : behind (codes ":first") f ≡ Some (nodes_of c.in-Some.rest.now) =
    sym c.behind.ensures ∙ ap (option_map (λ rest. nodes_of rest.now)) c.in-Some.is in
    reads_same precondition_of c.first.result _ _ _ _
    (rw first at (precondition-by_word c.args.span f c.args.scope.now.names.keys)) c.first.ensures

pub returns-in-Some-behind : goal.returns-in-Some-behind
returns-in-Some-behind c =
    let f = nodes_of c.args.nodes.now in
    let first : behind (codes ":first") f ≡ None =
    sym c.behind.ensures ∙ ap (option_map (λ rest. nodes_of rest.now)) c.in_default.is in
    let sorted : behind (codes ":sort-by") f ≡ Some (nodes_of c.in-Some-behind.rest.now) =
    sym c.behind-2.ensures ∙ ap (option_map (λ rest. nodes_of rest.now)) c.in-Some-behind.is in
    reads_same precondition_of c.sorted.result _ _ _ _
    (rw (first, sorted) at (precondition-by_word c.args.span f c.args.scope.now.names.keys)) c.sorted.ensures

pub returns-in_err-list_expression : goal.returns-in_err-list_expression
returns-in_err-list_expression c =
    let f = nodes_of c.args.nodes.now in
    let first : behind (codes ":first") f ≡ None =
    sym c.behind.ensures ∙ ap (option_map (λ rest. nodes_of rest.now)) c.in_default.is in
    let sorted : behind (codes ":sort-by") f ≡ None =
    sym c.behind-2.ensures ∙ ap (option_map (λ rest. nodes_of rest.now)) c.in_default-behind.is in
    let p = err_from_is_err_and c.from_residual.result c.from_residual.ensures.1 in
    rw (p.1, p.2) (refused_same c.in_err-list_expression.field-0.0 _ _
    (rw (first, sorted) at (precondition-by_word c.args.span f c.args.scope.now.names.keys))
    (refused_next c.in_err-list_expression.field-0.0 _ _ c.in_err-list_expression.ensures))

pub returns : goal.returns
returns c =
    let f = nodes_of c.args.nodes.now in
    let first : behind (codes ":first") f ≡ None =
    sym c.behind.ensures ∙ ap (option_map (λ rest. nodes_of rest.now)) c.in_default.is in
    let sorted : behind (codes ":sort-by") f ≡ None =
    sym c.behind-2.ensures ∙ ap (option_map (λ rest. nodes_of rest.now)) c.in_default-behind.is in
    rw (first, sorted) at (precondition-by_word c.args.span f c.args.scope.now.names.keys)
    ∙ ap (λ r. and_then r (λ e. pure (Plain e))) c.in_ok-list_expression.ensures
