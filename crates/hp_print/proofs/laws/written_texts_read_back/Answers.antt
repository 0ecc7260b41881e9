use Rattle.std.proofs.Common.{length}
use Rattle.hp_syntax.specs.Grammar.{domain_form, problem_form}
use Rattle.hp_syntax.specs.Unplaced as unplaced
use Rattle.hp_syntax.specs.Written as written
use Rattle.hp_print.proofs.AgainFiles.{domain_again, problem_again, domain_can_spell, problem_can_spell}
use Rattle.hp_print.proofs.ReadBackLemmas.{reads_back}
use Rattle.hp_print.proofs.SpelledNodes.{can_spell}
use Rattle.hp_print.proofs.SpelledTexts.{domain_spelled, problem_spelled}
use Rattle.hp_print.proofs.UnplacedForms.{domain_placed, problem_placed}
use Rattle.hp_print.proofs.laws.written_texts_read_back.Goals as goal

pub returns-clause-domain : goal.returns-clause-domain
returns-clause-domain c =
    λ text d r l n.
    (let can = domain_can_spell (length text) r.forest d r.form_is (can_spell text r.forest r.spelled) in
    reads_back domain_form unplaced.domain (written.domain_text d) d (written.domain d) domain_placed
    (domain_again (length text) r.forest d r.form_is) (domain_spelled d can l n))

pub returns-clause-problem : goal.returns-clause-problem
returns-clause-problem c =
    λ text p r l n.
    (let can = problem_can_spell (length text) r.forest p r.form_is (can_spell text r.forest r.spelled) in
    reads_back problem_form unplaced.problem (written.problem_text p) p (written.problem p) problem_placed
    (problem_again (length text) r.forest p r.form_is) (problem_spelled p can l n))
