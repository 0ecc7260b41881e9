-- The readings of the texts of the samples.
use Rattle.std.proofs.Common.{◌≡◌, ℕ, false, List, [], length, Some, Result, Ok, Err, refl, sym, codes}
use Rattle.hp_samples.proofs.Computed.{the_language}
use Rattle.hp_syntax.specs.Checks as checks
use Rattle.hp_syntax.specs.Forest.{IsForest}
use Rattle.hp_syntax.specs.Grammar.{domain_form, problem_form}
use Rattle.hp_syntax.specs.Report.{Answer}
use Rattle.hp_syntax.specs.Samples.{basic_text, basic_forest, swap_text, swap_forest, empty_text, empty_forest}
use Rattle.hp_syntax.specs.Steps.{Misform}
use Rattle.hp_syntax.specs.Syntax.{Domain, Problem}
use Rattle.hp_syntax.specs.TextForms.{IsRead}
use Rattle.hp_words.specs.Command.{Command, OnFiles, Planning, accepts, make_command, options}
use Rattle.hp_top.specs.Outcome.{ByCommand, Outcome, answer_of_read}
use Rattle.hp_top.specs.Samples.{basic_files}
use Rattle.hp_top.proofs.Outcomes.{judged_comes}

abbrev domain_or_none : Result Domain Misform → Domain
domain_or_none (Ok d) = d
domain_or_none (Err m) = record { name = []; rules = [] }

abbrev problem_or_none : Result Problem Misform → Problem
problem_or_none (Ok p) = p
problem_or_none (Err m) =
    record { name = []; domain = []; domain_span = record { from = 0; to = 0 }; vars = []; pairs = [] }

-- the reading of the text of the sample basic
unfoldable pub basic_read : Domain
basic_read = domain_or_none (domain_form (length basic_text) basic_forest)

-- the reading of the text of the sample swap
unfoldable pub swap_read : Problem
swap_read = problem_or_none (problem_form (length swap_text) swap_forest)

-- the reading of the text of the sample empty
unfoldable pub empty_read : Problem
empty_read = problem_or_none (problem_form (length empty_text) empty_forest)

-- the text of the sample basic is read as a domain
pub basic_is_read : IsForest basic_text basic_forest → IsRead domain_form basic_text basic_read
unfolding basic_read the_language
basic_is_read h = record { forest = basic_forest; spelled = h; form_is = refl }

-- the text of the sample swap is read as a problem
pub swap_is_read : IsForest swap_text swap_forest → IsRead problem_form swap_text swap_read
unfolding swap_read the_language
swap_is_read h = record { forest = swap_forest; spelled = h; form_is = refl }

-- the text of the sample empty is read as a problem
pub empty_is_read : IsForest empty_text empty_forest → IsRead problem_form empty_text empty_read
unfolding empty_read the_language
empty_is_read h = record { forest = empty_forest; spelled = h; form_is = refl }

-- the command that plans the domain `d` and the problem `p`
abbrev pub plan_of : ℕ → ℕ → Command
plan_of plans depth = make_command (codes "d") (codes "p") (Planning plans depth (options 64 false false false))

-- a proof that names this on its line has unfolded what the samples are read as, the checks and the language
unfoldable pub the_samples : Unit {0}
unfolding basic_read swap_read empty_read checks.domain_faults checks.problem_faults checks.pattern_faults
    checks.patterns_faults checks.expression_faults checks.expressions_faults checks.tasks_faults
    checks.task_list_faults the_language
the_samples = tt

-- to plan the sample basic and a problem that is read comes to what is computed of both
pub basic_comes : {words : List (List ℕ)} {text : List ℕ} {p : Problem} {a : Answer} (plans depth : ℕ)
    → accepts words ≡ Some (OnFiles (plan_of plans depth)) → IsForest basic_text basic_forest
    → IsRead problem_form text p → answer_of_read (plan_of plans depth) basic_read p ≡ a
    → Outcome words (basic_files text) a
basic_comes {words} {text} {p} {a} plans depth asked spelled read e =
    ByCommand (plan_of plans depth) asked
    (judged_comes (basic_files text) (plan_of plans depth) basic_text text basic_read p a refl (basic_is_read spelled)
    refl read (sym e))
