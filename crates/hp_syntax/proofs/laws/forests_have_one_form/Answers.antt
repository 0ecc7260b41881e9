use Rattle.hp_syntax.proofs.FormLemmas.{not_both_forms}
use Rattle.hp_syntax.proofs.laws.forests_have_one_form.Goals as goal

pub returns : goal.returns
returns c = not_both_forms
