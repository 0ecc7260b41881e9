use Rattle.hp_syntax.specs.Grammar.{domain_form}
use Rattle.hp_syntax.specs.Numbered.{IsNumberedDomain}
use Rattle.hp_syntax.specs.Views.{domain_of}
use Rattle.hp_forms.proofs.NumberedForms.{given_read}
use Rattle.hp_forms.proofs.read_domain.Goals as goal

pub returns-clause-numbered : goal.returns-clause-numbered
returns-clause-numbered c =
    given_read domain_of IsNumberedDomain domain_form c.args.bytes.now c.domain.result c.forms_are_numbered.ensures.domain
    c.domain.ensures.domain
