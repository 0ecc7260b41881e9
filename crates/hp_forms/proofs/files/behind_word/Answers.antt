use Rattle.std.proofs.Common.{◌∙◌, ap, sym, option_map, Err}
use Rattle.std.proofs.lemmas.Result.{err_from_is_err_and}
use Rattle.hp_syntax.specs.Forest.{Group}
use Rattle.hp_syntax.specs.Steps.{Expected, pure}
use Rattle.hp_syntax.specs.Grammar.{file_list}
use Rattle.hp_text.specs.Nodes.{node_of, nodes_of}
use Rattle.hp_text.specs.NodeLaws.{node_of-parts, node_of-span}
use Rattle.hp_terms.proofs.Turns.{refused_same}
use Rattle.hp_forms.proofs.FileSteps.{next_is, list_refused, list_named, list_unnamed, partless_refused}
use Rattle.hp_forms.proofs.files.behind_word.Goals as goal

pub returns-in_default : goal.returns-in_default
returns-in_default c = λ names.
    rw c.expected.ensures
    (partless_refused c.args.what c.args.word.now (λ s rest. pure rest) (node_of c.args.node) names
    (sym c.into_parts.ensures ∙ ap (option_map (λ parts. nodes_of parts.items)) c.in_default.is)
    ∙ ap (λ s. Err (Expected c.args.what s)) (node_of-span c.args.node))

pub returns-in_err-first : goal.returns-in_err-first
returns-in_err-first c = λ names.
    let p = err_from_is_err_and c.from_residual.result c.from_residual.ensures.1 in
    let at = node_of-parts c.args.node (nodes_of c.in-Some.parts.items)
    (sym c.into_parts.ensures ∙ ap (option_map (λ parts. nodes_of parts.items)) c.in-Some.is) in
    rw (p.1, p.2) (refused_same c.in_err-first.field-0.0 _ _
    (ap (λ n. file_list c.args.what c.args.word.now (λ s rest. pure rest) n names) at)
    (list_refused c.args.what c.args.word.now (λ s rest. pure rest) c.args.node.span names
    c.in_err-first.field-0.0 (nodes_of c.in-Some.parts.items) (c.in_err-first.ensures names)))

pub returns-then-not-is_word : goal.returns-then-not-is_word
returns-then-not-is_word c = λ names.
    let at = node_of-parts c.args.node (nodes_of c.in-Some.parts.items)
    (sym c.into_parts.ensures ∙ ap (option_map (λ parts. nodes_of parts.items)) c.in-Some.is) in
    let begins = next_is c.args.what c.args.node.span (nodes_of c.in-Some.parts.items)
    (node_of c.in_ok-first.first) _ names (c.in_ok-first.ensures names) in
    rw c.expected-then-not-is_word.ensures
    (ap (λ n. file_list c.args.what c.args.word.now (λ s rest. pure rest) n names)
    (at ∙ ap (Group c.args.node.span) begins)
    ∙ list_unnamed c.args.what c.args.word.now (λ s rest. pure rest) c.args.node.span names
    (node_of c.in_ok-first.first) _ (sym c.is_word.ensures ∙ c.if-not-is_word.true))

pub returns : goal.returns
returns c = λ names.
    let at = node_of-parts c.args.node (nodes_of c.in-Some.parts.items)
    (sym c.into_parts.ensures ∙ ap (option_map (λ parts. nodes_of parts.items)) c.in-Some.is) in
    let begins = next_is c.args.what c.args.node.span (nodes_of c.in-Some.parts.items)
    (node_of c.in_ok-first.first) _ names (c.in_ok-first.ensures names) in
    ap (λ n. file_list c.args.what c.args.word.now (λ s rest. pure rest) n names)
    (at ∙ ap (Group c.args.node.span) begins)
    ∙ list_named c.args.what c.args.word.now (λ s rest. pure rest) c.args.node.span names
    (node_of c.in_ok-first.first) _ (sym c.is_word.ensures ∙ c.if-not-is_word.false)
