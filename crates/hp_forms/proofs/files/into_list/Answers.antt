use Rattle.std.proofs.Common.{◌∙◌, ap, sym, option_map}
use Rattle.hp_text.specs.Nodes.{node_of, nodes_of}
use Rattle.hp_forms.proofs.FileSteps.{list-parts, list-none}
use Rattle.hp_forms.proofs.files.into_list.Goals as goal

pub returns-in-Some : goal.returns-in-Some
returns-in-Some c = λ names.
    list-parts c.args.what (node_of c.args.node) _ names
    (sym c.into_parts.ensures ∙ ap (option_map (λ parts. nodes_of parts.items)) c.in-Some.is)

pub returns-in-None : goal.returns-in-None
returns-in-None c = λ names. rw c.new.ensures.items
    (list-none c.args.what (node_of c.args.node) _ names
    (sym c.into_parts.ensures ∙ ap (option_map (λ parts. nodes_of parts.items)) c.in-None.is)
    (c.in_ok-list.ensures names))
