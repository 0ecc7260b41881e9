-- The words of a command.
use Rattle.std.specs.Prelude.{ℕ, Bool, true, false, ◌&&◌, not, cond, List, [], ◌∷◌, Option, Some, None, is_some, unwrap_or, option_map, bytes_eq, codes}
use Rattle.std.specs.Option.{option_and_then}
use Rattle.hp_io.specs.declared.folder.Input.{Input}
use Rattle.hp_io.specs.declared.folder.Input.TheVariants as inputs
use Rattle.hp_syntax.specs.declared.limits.TheConstants.{MOST_PLANS, GREATEST_DEPTH, GREATEST_PLAIN_DEPTH, MOST_LEVELS, USUAL_LEVELS}
use Rattle.hp_words.specs.Numbers.{only_if, number_within}
use Rattle.hp_words.specs.PathWords.{is_path, path_of}
use Rattle.hp_words.specs.declared.words.TheConstants.{LARGEST_SEED, MOST_PACKAGES, MOST_PAIRS}

-- ---- options

-- an option of a command
pub data CommandOption : Type 0 where
  Nest : (levels : ℕ) → CommandOption
  Pair : (number : ℕ) → CommandOption
  States : CommandOption
  Paths : CommandOption
  Plain : CommandOption

-- the option of one word, where it is one
abbrev pub flag_of : List ℕ → Option CommandOption
flag_of w =
    cond (bytes_eq w (codes "--states")) (Some States)
    (cond (bytes_eq w (codes "--paths")) (Some Paths) (only_if (bytes_eq w (codes "--plain")) (Some Plain)))

-- the option of a word with a number behind it, where it is one
abbrev pub numbered_option : List ℕ → List ℕ → Option CommandOption
numbered_option w x =
    cond (bytes_eq w (codes "--nest")) (option_map Nest (number_within 0 MOST_LEVELS x))
    (only_if (bytes_eq w (codes "--pair")) (option_map Pair (number_within 1 MOST_PAIRS x)))

-- an option before others, where there is one and they are options
abbrev pub option_before : Option CommandOption → Option (List CommandOption) → Option (List CommandOption)
option_before None others = None
option_before (Some o) others = option_map (λ os. o ∷ os) others

-- a flag before others; where there is no flag, this
abbrev pub flag_before : Option CommandOption → Option (List CommandOption) → Option (List CommandOption)
    → Option (List CommandOption)
flag_before None others else = else
flag_before (Some o) others else = option_map (λ os. o ∷ os) others

-- the options that words spell, in order: `--states`, `--paths`, `--plain`, `--nest N` and `--pair I`
abbrev pub options_spelled : List (List ℕ) → Option (List CommandOption)
options_spelled [] = Some []
options_spelled (w ∷ []) = option_before (flag_of w) (Some [])
options_spelled (w ∷ x ∷ ws) =
    flag_before (flag_of w) (options_spelled (x ∷ ws)) (option_before (numbered_option w x) (options_spelled ws))

-- what was given by options: how deep axioms may call one another, where it was, which of the flags, and which pair of
-- a problem, where one was
pub record Given : Type 0 where
  pub levels : Option ℕ
  pub states : Bool
  pub paths : Bool
  pub plain : Bool
  pub pair : Option ℕ

abbrev pub given : Option ℕ → Bool → Bool → Bool → Option ℕ → Given
given levels states paths plain pair =
    record { levels = levels; states = states; paths = paths; plain = plain; pair = pair }

abbrev pub nothing_given : Given
nothing_given = given None false false false None

-- one more option, where it wasn't given yet
abbrev pub given_with : Given → CommandOption → Option Given
given_with g (Nest n) = only_if (not (is_some g.levels)) (Some (given (Some n) g.states g.paths g.plain g.pair))
given_with g (Pair n) = only_if (not (is_some g.pair)) (Some (given g.levels g.states g.paths g.plain (Some n)))
given_with g States = only_if (not g.states) (Some (given g.levels true g.paths g.plain g.pair))
given_with g Paths = only_if (not g.paths) (Some (given g.levels g.states true g.plain g.pair))
given_with g Plain = only_if (not g.plain) (Some (given g.levels g.states g.paths true g.pair))

-- more options, each given once
abbrev pub given_all : Given → List CommandOption → Option Given
given_all g [] = Some g
given_all g (o ∷ os) = option_and_then (λ h. given_all h os) (given_with g o)

-- what words give by the options that they spell, each once
abbrev pub given_by : List (List ℕ) → Option Given
given_by words = option_and_then (given_all nothing_given) (options_spelled words)

-- how deep axioms may call one another: as deep as is usual, where none was given
abbrev pub levels_of : Given → ℕ
levels_of g = unwrap_or g.levels USUAL_LEVELS

-- how deep axioms may call one another, whether states and paths are told, and whether by the engine of copies
pub record Options : Type 0 where
  pub levels : ℕ
  pub states : Bool
  pub paths : Bool
  pub plain : Bool

abbrev pub options : ℕ → Bool → Bool → Bool → Options
options levels states paths plain = record { levels = levels; states = states; paths = paths; plain = plain }

-- the options that were given, but for the pair
abbrev pub options_given : Given → Options
options_given g = options (levels_of g) g.states g.paths g.plain

-- the options of `plan`, which has none for a pair
abbrev pub plan_options : List (List ℕ) → Option Options
plan_options words = option_and_then (λ g. only_if (not (is_some g.pair)) (Some (options_given g))) (given_by words)

-- whether nothing was given but how deep axioms may call one another
abbrev pub has_levels_alone : Given → Bool
has_levels_alone g = not g.states && (not g.paths && (not g.plain && not (is_some g.pair)))

-- the option of `best`: how deep axioms may call one another
abbrev pub best_levels : List (List ℕ) → Option ℕ
best_levels words = option_and_then (λ g. only_if (has_levels_alone g) (Some (levels_of g))) (given_by words)

-- the pair of a problem: the first, where none was given
abbrev pub pair_of : Given → ℕ
pair_of g = unwrap_or g.pair 1

-- the options of `verify`: how deep axioms may call one another, and the pair
abbrev pub verify_options : List (List ℕ) → Option (ℕ × ℕ)
verify_options words =
    option_and_then
    (λ g. only_if (not g.states && (not g.paths && not g.plain)) (Some (levels_of g, pair_of g))) (given_by words)

-- the options of `shallow`: how deep axioms may call one another, and whether states are told
abbrev pub shallow_options : List (List ℕ) → Option (ℕ × Bool)
shallow_options words =
    option_and_then
    (λ g. only_if (not g.paths && (not g.plain && not (is_some g.pair))) (Some (levels_of g, g.states)))
    (given_by words)

-- the options of `after`, and the pair: not the engine of copies
abbrev pub after_options : List (List ℕ) → Option (Options × ℕ)
after_options words = option_and_then (λ g. only_if (not g.plain) (Some (options_given g, pair_of g))) (given_by words)

-- ---- commands

-- a job over two files: plans are looked for, so many and down to this depth; or those behind the plan at a path, of
-- one pair by its number; or the cheapest plan; or the first plan of the least depth, up to a limit, that has one; or
-- they are checked, or shown; or the first plan is summed up, where the files were made from a seed with so many
-- packages
pub data Job : Type 0 where
  Planning : (plans depth : ℕ) → (options : Options) → Job
  Continuing : (plans depth : ℕ) → (path : List ℕ) → (options : Options) → (pair : ℕ) → Job
  Choosing : (depth levels : ℕ) → Job
  Deepening : (limit levels : ℕ) → (states : Bool) → Job
  Checking : Job
  Showing : Job
  Summing : (seed packages : ℕ) → Job

-- a command over files
pub record Command : Type 0 where
  pub domain : List ℕ
  pub problem : List ℕ
  pub job : Job

abbrev pub make_command : List ℕ → List ℕ → Job → Command
make_command d p j = record { domain = d; problem = p; job = j }

-- a question in words: whether the plan of a file is one of the tree of a pair, by its number, down to a depth, where
-- axioms may call one another over so many levels
pub record Verification : Type 0 where
  pub domain : List ℕ
  pub problem : List ℕ
  pub plan : List ℕ
  pub depth : ℕ
  pub levels : ℕ
  pub pair : ℕ

-- the verification of three files, of a depth, of a number of axiom levels, and of a pair
abbrev pub verification_over : List ℕ → List ℕ → List ℕ → ℕ → ℕ → ℕ → Verification
verification_over d p plan n levels pair =
    record { domain = d; problem = p; plan = plan; depth = n; levels = levels; pair = pair }

-- a request in words: a command over two files, the verification of a plan, the listing of the code of a domain, or a
-- problem that is made
pub data Request : Type 0 where
  OnFiles : (command : Command) → Request
  Verifying : (verification : Verification) → Request
  Listing : (domain : List ℕ) → Request
  Making : (seed packages : ℕ) → Request

-- the file that a command names for an input
abbrev pub named : Command → Input → Option (List ℕ)
named c inputs.Domain = Some c.domain
named c inputs.Problem = Some c.problem
named c inputs.Plan = None

-- the file that a verification names for an input
abbrev pub named_by : Verification → Input → List ℕ
named_by v inputs.Domain = v.domain
named_by v inputs.Problem = v.problem
named_by v inputs.Plan = v.plan

-- the file that a request names for an input
abbrev pub file_named : Request → Input → Option (List ℕ)
file_named (OnFiles c) which = named c which
file_named (Verifying v) which = Some (named_by v which)
file_named (Listing d) inputs.Domain = Some d
file_named (Listing d) inputs.Problem = None
file_named (Listing d) inputs.Plan = None
file_named (Making s n) which = None

-- the job of a word that has two files behind it and nothing else
abbrev pub job_by_word : List ℕ → Option Job
job_by_word word =
    cond (bytes_eq word (codes "check")) (Some Checking) (cond (bytes_eq word (codes "show")) (Some Showing) None)

-- the greatest depth that may be asked for: less by the engine of copies
abbrev pub greatest_depth : Options → ℕ
greatest_depth o = cond o.plain GREATEST_PLAIN_DEPTH GREATEST_DEPTH

-- the job of a number of plans, of a depth in words, and of options
abbrev pub planning : Option ℕ → List ℕ → Option Options → Option Job
planning (Some k) depth (Some o) = option_map (λ n. Planning k n o) (number_within 0 (greatest_depth o) depth)
planning (Some k) depth None = None
planning None depth o = None

-- the request of a job over two files
abbrev pub on_files : List ℕ → List ℕ → Job → Request
on_files d p j = OnFiles (make_command d p j)

-- the request of a seed and a number of packages
abbrev pub making : Option ℕ → Option ℕ → Option Request
making (Some s) (Some n) = Some (Making s n)
making (Some s) None = None
making None n = None

-- the request of a word with two words behind it, and nothing else
abbrev pub asked_by_three : List ℕ → List ℕ → List ℕ → Option Request
asked_by_three word x y =
    cond (bytes_eq word (codes "make")) (making (number_within 0 LARGEST_SEED x) (number_within 1 MOST_PACKAGES y))
    (option_map (on_files x y) (job_by_word word))

-- the job of `plan` with these words behind its files
abbrev pub planning_asked : List (List ℕ) → Option Job
planning_asked (k ∷ n ∷ more) = planning (number_within 1 MOST_PLANS k) n (plan_options more)
planning_asked _ = None

-- the job of a number of plans, of a depth, of a path, and of options with a pair
abbrev pub continuing : Option ℕ → Option ℕ → List ℕ → Option (Options × ℕ) → Option Job
continuing (Some k) (Some n) path (Some x) = Some (Continuing k n path x.0 x.1)
continuing (Some k) (Some n) path None = None
continuing (Some k) None path o = None
continuing None depth path o = None

-- the job of `after` with these words behind its files
abbrev pub continuing_asked : List (List ℕ) → Option Job
continuing_asked (k ∷ n ∷ w ∷ more) =
    only_if (is_path w)
    (continuing (number_within 1 MOST_PLANS k) (number_within 0 GREATEST_DEPTH n) (path_of w) (after_options more))
continuing_asked _ = None

-- the job of a depth and a number of axiom levels
abbrev pub choosing : Option ℕ → Option ℕ → Option Job
choosing (Some n) (Some levels) = Some (Choosing n levels)
choosing (Some n) None = None
choosing None levels = None

-- the job of `best` with these words behind its files
abbrev pub choosing_asked : List (List ℕ) → Option Job
choosing_asked (n ∷ more) = choosing (number_within 0 GREATEST_DEPTH n) (best_levels more)
choosing_asked [] = None

-- the job of a limit of depth, and of options
abbrev pub deepening : Option ℕ → Option (ℕ × Bool) → Option Job
deepening (Some limit) (Some x) = Some (Deepening limit x.0 x.1)
deepening (Some limit) None = None
deepening None x = None

-- the job of `shallow` with these words behind its files
abbrev pub deepening_asked : List (List ℕ) → Option Job
deepening_asked (n ∷ more) = deepening (number_within 0 GREATEST_DEPTH n) (shallow_options more)
deepening_asked [] = None

-- the job of a word that has two files and more words behind it
abbrev pub job_by_more : List ℕ → List (List ℕ) → Option Job
job_by_more word more =
    cond (bytes_eq word (codes "plan")) (planning_asked more)
    (cond (bytes_eq word (codes "best")) (choosing_asked more)
    (cond (bytes_eq word (codes "after")) (continuing_asked more)
    (only_if (bytes_eq word (codes "shallow")) (deepening_asked more))))

-- the verification of three files, of a depth, and of options with a pair
abbrev pub verification : List ℕ → List ℕ → List ℕ → Option ℕ → Option (ℕ × ℕ) → Option Verification
verification d p plan (Some n) (Some x) = Some (verification_over d p plan n x.0 x.1)
verification d p plan (Some n) None = None
verification d p plan None x = None

-- the verification of two files with these words behind them
abbrev pub verifying_asked : List ℕ → List ℕ → List (List ℕ) → Option Verification
verifying_asked d p (plan ∷ n ∷ more) =
    verification d p plan (number_within 0 GREATEST_DEPTH n) (verify_options more)
verifying_asked d p _ = None

-- the request of a word with two files behind it, and then these words
abbrev pub asked_by_more : List ℕ → List ℕ → List ℕ → List (List ℕ) → Option Request
asked_by_more word d p more =
    cond (bytes_eq word (codes "verify")) (option_map Verifying (verifying_asked d p more))
    (option_map (on_files d p) (job_by_more word more))

-- `plan DOMAIN PROBLEM K DEPTH`, `after DOMAIN PROBLEM K DEPTH PATH`, `best DOMAIN PROBLEM DEPTH`,
-- `shallow DOMAIN PROBLEM LIMIT` and `verify DOMAIN PROBLEM PLAN DEPTH` and then options, `check DOMAIN PROBLEM`,
-- `show DOMAIN PROBLEM`, `code DOMAIN` and `make SEED N`
abbrev pub accepts : List (List ℕ) → Option Request
accepts (word ∷ d ∷ []) = only_if (bytes_eq word (codes "code")) (Some (Listing d))
accepts (word ∷ x ∷ y ∷ []) = asked_by_three word x y
accepts (word ∷ d ∷ p ∷ x ∷ more) = asked_by_more word d p (x ∷ more)
accepts _ = None
