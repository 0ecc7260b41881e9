use Rattle.std.proofs.Common.{length, ap, sym, ◌∙◌, rules}
use Rattle.std.specs.Prelude.{◌==◌, not}
use Rattle.hp_nodes.specs.NodeViews.{operation_of}
use Rattle.hp_tables.specs.Tables.{places_in}
use Rattle.hp_code.specs.CodeViews.{concludes}
use Rattle.hp_code.proofs.lowering.concludes.Goals as goal

pub returns-in-Atom : goal.returns-in-Atom
returns-in-Atom c =
    ap not (c.is_empty.ensures ∙ ap (λ xs. length xs == 0) c.get.ensures)
    ∙ sym (ap (λ op. concludes (places_in c.args.axiom_rules.now) (operation_of op)) c.in-Atom.is)

pub returns-in_default : goal.returns-in_default
returns-in_default c = search rules
