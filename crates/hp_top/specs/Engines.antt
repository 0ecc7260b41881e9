-- The engines that plan pairs, and what is told of each pair.
use Rattle.std.specs.Prelude.{◌≡◌, ℕ, ◌<◌, ◌≤◌, ◌-◌, ◌^◌, true, List, [], ◌∷◌, map, Option, None, Some}
use Rattle.std.specs.List.{All}
use Rattle.hp_best.specs.Bounded.{NeverFalls, is_priced}
use Rattle.hp_code.specs.CodeViews.{IsCodeOf}
use Rattle.hp_code.specs.Codes.{code_of}
use Rattle.hp_syntax.specs.declared.limits.TheConstants.{GREATEST_DEPTH, GREATEST_PLAIN_DEPTH, MOST_LEVELS}
use Rattle.hp_syntax.specs.Checks.{domain_faults, first_of}
use Rattle.hp_syntax.specs.GroundViews.{ground_of}
use Rattle.hp_syntax.specs.Report.{Answer, told_pairs}
use Rattle.hp_syntax.specs.Syntax.{Pair, Rule}
use Rattle.hp_syntax.specs.Views.{domain_of}
use Rattle.hp_syntax.specs.Walk.{Visit}
use Rattle.hp_top.specs.declared.pairs.Engine.{Engine}
use Rattle.hp_top.specs.declared.pairs.Engine.TheVariants.{Copies, InPlace}
use Rattle.hp_top.specs.declared.pairs.Sought.{Sought}
use Rattle.hp_top.specs.declared.pairs.Sought.TheVariants.{Plans, Cheapest, After, Derivation, Shallowest}
use Rattle.hp_top.specs.declared.pairs.Wanted.{Wanted}
use Rattle.hp_telling.specs.declared.planning.Detail.TheVariants as details
use Rattle.hp_telling.specs.AfterReports.{after_report, heard_report}
use Rattle.hp_telling.specs.BestReports.{best_report}
use Rattle.hp_top.specs.Outcome.{pair_visits}
use Rattle.hp_top.specs.ShallowReports.{shallow_report}
use Rattle.hp_telling.specs.VerifyReports.{verify_report}
use Rattle.hp_telling.specs.Telling.{telling}
use Rattle.hp_words.specs.declared.words.Asked.{Asked}

-- an engine can plan: the checks find no fault in the domain that it goes by, or it goes by a code
abbrev pub CanPlan : Engine → Type 0
CanPlan (Copies domain) = first_of (domain_faults (domain_of domain.now)) ≡ None
CanPlan (InPlace code) = Unit {0}

-- an engine plans by these rules: they are those of its domain, or its code is one of them
abbrev pub PlansBy : List Rule → Engine → Type 0
PlansBy rules (Copies domain) = rules ≡ (domain_of domain.now).rules
PlansBy rules (InPlace code) = IsCodeOf rules (code_of code.now)

-- the greatest depth to which an engine looks for plans
abbrev pub deepest : Engine → ℕ
deepest (Copies domain) = GREATEST_PLAIN_DEPTH
deepest (InPlace code) = GREATEST_DEPTH

-- rules by which an engine plans are priced
pub record PlansPriced (engine : Engine) : Type 0 where
  pub rules : List Rule
  pub by : PlansBy rules engine
  pub priced : is_priced rules ≡ true

-- an engine can look for this: for one plan at least, for the cheapest, by priced rules where it is to leave out what
-- costs too much, for one plan at least behind a path whose numbers a walk tells as themselves, or for a plan that is
-- given; the search in place can look for the first plan of the least depth
abbrev pub IsSought : Engine → Sought → Type 0
IsSought engine (Plans k detail) = 0 < k
IsSought engine (Cheapest priced) = priced ≡ true → PlansPriced engine
IsSought engine (After k detail path) = (0 < k) × All (λ i. i < 2 ^ 64 - 1) path.now
IsSought engine (Derivation steps) = Unit {0}
IsSought (Copies domain) (Shallowest states) = ⊥
IsSought (InPlace code) (Shallowest states) = Unit {0}

-- an engine can look for what is wanted
pub record IsWanted (engine : Engine) (wanted : Wanted) : Type 0 where
  pub sought : IsSought engine wanted.sought
  pub depth : wanted.depth ≤ deepest engine
  pub levels : wanted.levels ≤ MOST_LEVELS

-- the search in place can look for what is wanted, by every code
pub record IsWantedInPlace (wanted : Wanted) : Type 0 where
  pub sought : (engine : Engine) → IsSought engine wanted.sought
  pub depth : wanted.depth ≤ GREATEST_DEPTH
  pub levels : wanted.levels ≤ MOST_LEVELS

-- this can be looked for among visits: one plan at least, the cheapest, where costs never fall if what costs too much
-- is left out, one plan at least behind a path whose numbers a walk tells as themselves, or a plan that is given; for
-- the least depth one tree isn't enough
abbrev pub CanBeFound : Sought → List Visit → Type 0
CanBeFound (Plans k detail) vs = 0 < k
CanBeFound (Cheapest priced) vs = priced ≡ true → NeverFalls vs
CanBeFound (After k detail path) vs = (0 < k) × All (λ i. i < 2 ^ 64 - 1) path.now
CanBeFound (Derivation steps) vs = Unit {0}
CanBeFound (Shallowest states) vs = ⊥

-- one tree is enough to look for this
abbrev pub IsOfOneTree : Sought → Type 0
IsOfOneTree (Plans k detail) = Unit {0}
IsOfOneTree (Cheapest priced) = Unit {0}
IsOfOneTree (After k detail path) = Unit {0}
IsOfOneTree (Derivation steps) = Unit {0}
IsOfOneTree (Shallowest states) = ⊥

-- what is told of the visits of the trees down to each depth, where this is the depth or its limit
abbrev pub told_at : Sought → ℕ → (ℕ → List Visit) → Answer
told_at (Plans k detail) n at = heard_report (telling detail) k (at n)
told_at (Cheapest priced) n at = best_report priced (at n)
told_at (After k detail path) n at = after_report (heard_report (telling detail) k) path.now (at n)
told_at (Derivation steps) n at = verify_report (map ground_of steps.now) (at n)
told_at (Shallowest states) n at = shallow_report states n at

-- what is told of the visits of one tree
abbrev pub told_visits : Sought → List Visit → Answer
told_visits sought vs = told_at sought 0 (λ n. vs)

-- what is told of a pair, by rules
abbrev pub told_pair : Wanted → List Rule → Pair → Answer
told_pair wanted rules pair = told_at wanted.sought wanted.depth (λ n. pair_visits rules wanted.levels n pair)

-- what is told of pairs
abbrev pub told_of_pairs : Wanted → List Rule → List Pair → Answer
told_of_pairs wanted rules pairs = told_pairs (map (told_pair wanted rules) pairs)

-- what a request for plans wants
abbrev pub wanted_plans : Asked → Wanted
wanted_plans a = record {
  sought = Plans a.plans (details.Steps a.options.states a.options.paths);
  depth = a.depth;
  levels = a.options.levels;
}

-- pairs that are the one that was found
abbrev pub IsOnePair : Option Pair → List Pair → Type 0
IsOnePair found pairs = (pair : Pair) × (found ≡ Some pair) × (pairs ≡ pair ∷ [])
