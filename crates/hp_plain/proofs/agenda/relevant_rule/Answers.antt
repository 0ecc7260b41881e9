use Rattle.std.proofs.Common.{length, Some, option_map, slice_get, ap, sym, ◌∙◌}
use Rattle.hp_laws.specs.RulesByName.{relevant_to}
use Rattle.hp_tree.specs.Children.{place_in}
use Rattle.hp_plain.specs.Agendas.{rules_of}
use Rattle.hp_plain.proofs.agenda.relevant_rule.Goals as goal

pub relevant_at-requires : goal.relevant_at-requires
relevant_at-requires c = record { task = c.task-task.ensures.below (length c.args.cells.now) c.requires.node.network }

pub returns : goal.returns
returns c =
    let node = c.args.node.now in
    let p = place_in node.net.now c.args.id in
    let part = c.task-task.ensures.task c.args.cells.now p c.requires.candidate.stands in
    c.relevant_at.ensures
    ∙ sym (ap (λ o. option_map Some (slice_get (relevant_to o (rules_of c.args.context.now)) c.args.number)) part.1)
