-- The outcome of a run on two texts by the definitions alone.
use Rattle.std.specs.Prelude.{◌≡◌, ℕ, Bool, true, false, List, [], length, map, Result, Ok, Err}
use Rattle.hp_syntax.specs.Forest.{Forest, IsForest}
use Rattle.hp_syntax.specs.Grammar.{domain_form, problem_form}
use Rattle.hp_syntax.specs.Report.{Answer, Shown, shown, plan_report, told_pairs}
use Rattle.hp_syntax.specs.Steps.{Misform}
use Rattle.hp_syntax.specs.Syntax.{Domain, Pair, Problem, Rule}
use Rattle.hp_syntax.specs.Walk.{walk}

-- a request for a run: so many plans, down to a depth, with so many axiom levels, and what is shown of a plan
pub record Asked : Type 0 where
  pub plans : ℕ
  pub depth : ℕ
  pub nest : ℕ
  pub shown : Shown

-- with states or without
abbrev pub asked : ℕ → ℕ → ℕ → Bool → Asked
asked k d n states = record { plans = k; depth = d; nest = n; shown = shown states false }

-- with paths
abbrev pub asked_paths : ℕ → ℕ → ℕ → Asked
asked_paths k d n = record { plans = k; depth = d; nest = n; shown = shown false true }

-- the report of the walk of a pair
abbrev pub report_of_pair : Asked → List Rule → Pair → Answer
report_of_pair a rules pair = plan_report a.plans a.shown (walk rules a.nest pair a.depth)

-- the reports of the walks of pairs, one behind the other
abbrev pub text_of_pairs : Asked → List Rule → List Pair → List ℕ
text_of_pairs a rules pairs = (told_pairs (map (report_of_pair a rules) pairs)).0

-- the text of a run, where the domain and the problem have forms
abbrev pub text_of_forms : Asked → Result Domain Misform → Result Problem Misform → List ℕ
text_of_forms a (Err m) p = []
text_of_forms a (Ok d) (Err m) = []
text_of_forms a (Ok d) (Ok p) = text_of_pairs a d.rules p.pairs

-- a run on the texts of a domain and of a problem, which spell their forests, writes this
pub record Writes (a : Asked) (domain problem text : List ℕ) : Type 0 where
  pub domain_forest : Forest
  pub problem_forest : Forest
  pub domain_spelled : IsForest domain domain_forest
  pub problem_spelled : IsForest problem problem_forest
  pub written : text_of_forms a (domain_form (length domain) domain_forest)
      (problem_form (length problem) problem_forest) ≡ text
