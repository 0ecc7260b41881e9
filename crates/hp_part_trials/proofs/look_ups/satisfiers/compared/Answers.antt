use Rattle.hp_syntax.specs.Views.{domain_of}
use Rattle.hp_plain.proofs.SearchSteps.{few_axioms}
use Rattle.hp_part_trials.proofs.look_ups.satisfiers.compared.Goals as goal

pub new-requires : goal.new-requires
new-requires c =
    let domain = domain_of c.args.domain.now in
    record { few = few_axioms domain.rules (c.checked_rules_have_few_variables.ensures domain c.requires.checked) }

pub compare_rounds-requires : goal.compare_rounds-requires
compare_rounds-requires c = c.in_ok-world.ensures.knows c.args.cells.now
