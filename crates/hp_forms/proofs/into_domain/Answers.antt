use Rattle.hp_syntax.specs.Grammar.{domain_form}
use Rattle.hp_syntax.specs.Numbered.{IsNumberedDomain}
use Rattle.hp_syntax.specs.Views.{domain_of}
use Rattle.hp_text.specs.Nodes.{forest_of}
use Rattle.hp_forms.proofs.NumberedForms.{given}
use Rattle.hp_forms.proofs.into_domain.Goals as goal

pub returns-clause-numbered : goal.returns-clause-numbered
returns-clause-numbered c =
    given domain_of IsNumberedDomain c.domain.result (domain_form c.args.forest.len (forest_of c.args.forest))
    (c.forms_are_numbered.ensures.domain c.args.forest.len (forest_of c.args.forest)) c.domain.ensures
