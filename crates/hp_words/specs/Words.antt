-- The views of requests.
use Rattle.std.specs.Prelude.{ℕ, ◌≡◌, ◌<◌, ◌≤◌, List, true, false, IfSome}
use Rattle.hp_syntax.specs.declared.limits.TheConstants.{GREATEST_DEPTH, MOST_LEVELS}
use Rattle.hp_words.specs.declared.words.TheConstants.{LARGEST_SEED, MOST_PACKAGES}
use Rattle.hp_words.specs.Command.{CommandOption, Nest, Pair, States, Paths, Plain, Given, given, Job, Options, Planning, Continuing, Choosing, Deepening, Checking, Showing, Summing, Request, Verifying, Verification, Listing, Making, greatest_depth, on_files, options, verification_over}
use Rattle.hp_words.specs.PathWords.{is_path, path_of}
use Rattle.hp_words.specs.declared.words.Asked.{Asked}
use Rattle.hp_words.specs.declared.words.Job as asked
use Rattle.hp_words.specs.declared.options.CommandOption as asked_option
use Rattle.hp_words.specs.declared.options.CommandOption.TheVariants as option_words
use Rattle.hp_words.specs.declared.options.Given as asked_given
use Rattle.hp_words.specs.declared.options.Options as asked_options
use Rattle.hp_words.specs.declared.words.Job.TheVariants as jobs
use Rattle.hp_words.specs.declared.words.Verification as asked_verification
use Rattle.hp_words.specs.declared.words.Request as asked_request
use Rattle.hp_words.specs.declared.words.Request.TheVariants as requests

-- an option
abbrev pub option_of : asked_option.CommandOption → CommandOption
option_of (option_words.Nest levels) = Nest levels
option_of (option_words.Pair number) = Pair number
option_of option_words.States = States
option_of option_words.Paths = Paths
option_of option_words.Plain = Plain

-- what was given by options
abbrev pub given_of : asked_given.Given → Given
given_of g = given g.levels g.states g.paths g.plain g.pair

-- no more axiom levels than there may be, and pairs are counted from one
abbrev pub IsOption : asked_option.CommandOption → Type 0
IsOption (option_words.Nest levels) = levels ≤ MOST_LEVELS
IsOption (option_words.Pair number) = 1 ≤ number
IsOption option_words.States = Unit {0}
IsOption option_words.Paths = Unit {0}
IsOption option_words.Plain = Unit {0}

pub record IsGiven (g : asked_given.Given) : Type 0 where
  pub levels : IfSome g.levels (λ levels. levels ≤ MOST_LEVELS)
  pub pair : IfSome g.pair (λ number. 1 ≤ number)

-- the options of a command
abbrev pub options_of : asked_options.Options → Options
options_of o = options o.levels o.states o.paths o.plain

abbrev pub job_of : asked.Job → Job
job_of (jobs.Plan a) = Planning a.plans a.depth (options_of a.options)
job_of (jobs.After a path pair) = Continuing a.plans a.depth (path_of path.now) (options_of a.options) pair
job_of (jobs.Best depth levels) = Choosing depth levels
job_of (jobs.Shallow limit levels states) = Deepening limit levels states
job_of jobs.Check = Checking
job_of jobs.Show = Showing
job_of (jobs.Sum seed packages) = Summing seed packages

-- at least one plan is asked for, down to a depth and with so many axiom levels as may be asked
pub record IsPlanned (a : Asked) : Type 0 where
  pub plans : 0 < a.plans
  pub depth : a.depth ≤ greatest_depth (options_of a.options)
  pub levels : a.options.levels ≤ MOST_LEVELS

-- such plans of the engine over one world, behind the plan that a word tells, of one of the pairs
pub record IsContinued (a : Asked) (w : List ℕ) (n : ℕ) : Type 0 where
  pub planned : IsPlanned a
  pub quick : a.options.plain ≡ false
  pub path : is_path w ≡ true
  pub pair : 1 ≤ n

-- a depth that may be asked for, with so many axiom levels
pub record IsSearchable (n m : ℕ) : Type 0 where
  pub depth : n ≤ GREATEST_DEPTH
  pub levels : m ≤ MOST_LEVELS

-- a seed and a number of packages of which a problem can be made
pub record IsMakeable (seed packages : ℕ) : Type 0 where
  pub small : seed ≤ LARGEST_SEED
  pub some : 1 ≤ packages
  pub few : packages ≤ MOST_PACKAGES

-- a job that may be asked for
abbrev pub IsAsked : asked.Job → Type 0
IsAsked (jobs.Plan a) = IsPlanned a
IsAsked (jobs.After a path pair) = IsContinued a path.now pair
IsAsked (jobs.Best depth levels) = IsSearchable depth levels
IsAsked (jobs.Shallow limit levels states) = IsSearchable limit levels
IsAsked jobs.Check = Unit {0}
IsAsked jobs.Show = Unit {0}
IsAsked (jobs.Sum seed packages) = IsMakeable seed packages

-- a verification that may be asked for; pairs are counted from one
pub record IsVerifiable (v : asked_verification.Verification) : Type 0 where
  pub search : IsSearchable v.depth v.levels
  pub pair : 1 ≤ v.pair

abbrev pub IsRequested : asked_request.Request → Type 0
IsRequested (requests.Files domain problem job) = IsAsked job
IsRequested (requests.Verify v) = IsVerifiable v
IsRequested (requests.Code domain) = Unit {0}
IsRequested (requests.Make seed packages) = IsMakeable seed packages

-- a verification, by the names of its files
abbrev pub verification_of : asked_verification.Verification → Verification
verification_of v = verification_over v.domain.now v.problem.now v.plan.now v.depth v.levels v.pair

-- a request, by the names of its files
abbrev pub request_of : asked_request.Request → Request
request_of (requests.Files domain problem job) = on_files domain.now problem.now (job_of job)
request_of (requests.Verify v) = Verifying (verification_of v)
request_of (requests.Code domain) = Listing domain.now
request_of (requests.Make seed packages) = Making seed packages
