-- What fails at a dead end, line by line.
use Rattle.std.specs.Prelude.{◌≡◌, ℕ, ◌-◌, ◌==◌, cond, List, [], ◌∷◌, ◌++◌, length, map, replicate, take, Option, Some, None, option_map, slice_get, codes, decimal}
use Rattle.std.specs.List.{flat_map}
use Rattle.hp_doctor.specs.Texts.{File}
use Rattle.hp_doctor_tree.specs.Words.{marked, place_text}
use Rattle.hp_doctor_why.specs.Filled.{filled_names, names_if, part_text}
use Rattle.hp_lint.specs.Branches.{expression_span}
use Rattle.hp_obstacles.specs.Obstacles.{Obstacle, Stuck, is_part, obstacle_of}
use Rattle.hp_syntax.specs.declared.pattern.Span.{Span}
use Rattle.hp_syntax.specs.GroundViews.{ground_of}
use Rattle.hp_syntax.specs.Syntax.{Expression, Rule}
use Rattle.hp_syntax.specs.Terms.{Term}
use Rattle.hp_syntax.specs.TermTexts.{term_text}
use Rattle.hp_unmet.specs.Conjunctions.{part_at}
use Rattle.hp_unmet.specs.declared.unmet.Unmet.{Unmet}
use Rattle.hp_unmet.specs.declared.unmet.Unmet.TheVariants as unmets
use Rattle.hp_doctor_trace.specs.declared.stuck.Failing as made
use Rattle.hp_doctor_trace.specs.declared.stuck.TheConstants.{LINES_SHOWN}

-- two blanks for each level
abbrev pub indent : ℕ → List ℕ
indent level = replicate level 32 ++ replicate level 32

-- ---- which lines there are

-- a task that may be done next, with an operator or a branch of which a part is unmet, or with none where no rule has its
-- name
pub record Failing : Type 0 where
  pub task : Term
  pub obstacle : Option Obstacle

abbrev pub failing_by : Term → Obstacle → List Failing
failing_by t o = cond (is_part o.unmet) (record { task = t; obstacle = Some o } ∷ []) []

abbrev pub failing_in : Term → List Obstacle → List Failing
failing_in t [] = record { task = t; obstacle = None } ∷ []
failing_in t (o ∷ os) = flat_map (failing_by t) (o ∷ os)

abbrev pub failing_at : Stuck → List Failing
failing_at s = failing_in s.task s.obstacles

abbrev pub all_failing : List Stuck → List Failing
all_failing ss = flat_map failing_at ss

-- ---- one line

abbrev pub place_if : File → Option Span → List ℕ
place_if f None = []
place_if f (Some s) = place_text f s.from

abbrev pub text_if : List (List ℕ) → Option Expression → List ℕ
text_if names None = []
text_if names (Some e) = part_text names e

module _ (f : File) (rules : List Rule) where
  -- where the part begins that nothing satisfies, and its text with the values of the parts before it
  abbrev pub part_words : Obstacle → ℕ → List ℕ
  part_words o place =
      let part = part_at rules o.rule o.branch place in
      place_if f (option_map expression_span part) ++ codes " nothing satisfies"
      ++ marked (codes " ") (text_if (filled_names (names_if (slice_get rules o.rule)) o.values) part)

  abbrev pub unmet_words : Obstacle → Unmet → List ℕ
  unmet_words o unmets.None = []
  unmet_words o unmets.Head = []
  unmet_words o (unmets.Part place) = part_words o place
  unmet_words o unmets.Unknown = []

  abbrev pub failing_words : Option Obstacle → List ℕ
  failing_words None = codes "no operator and no method has this name"
  failing_words (Some o) = unmet_words o o.unmet

  -- one level further in than the dead end
  abbrev pub failing_line : ℕ → Failing → List ℕ
  failing_line level x =
      indent level ++ codes "  " ++ term_text x.task ++ codes "  " ++ failing_words x.obstacle ++ codes "\n"

-- ---- the first lines

-- how many lines are left out
abbrev pub more_line : ℕ → ℕ → List ℕ
more_line level n = cond (n == 0) [] (indent level ++ codes "  and " ++ decimal n ++ codes " more\n")

module _ (f : File) (rules : List Rule) (level : ℕ) where
  abbrev pub failing_text : List Failing → List ℕ
  failing_text xs =
      flat_map (failing_line f rules level) (take LINES_SHOWN xs) ++ more_line level (length xs - LINES_SHOWN)

  abbrev pub stuck_text : List Stuck → List ℕ
  stuck_text ss = failing_text (all_failing ss)

-- ---- as the code holds it

abbrev pub failing_of : made.Failing → Failing
failing_of x =
    record { task = ground_of x.task.now; obstacle = option_map (λ o. obstacle_of o.now) x.obstacle }

-- after some came these
abbrev pub Adds : List Failing → List made.Failing → List made.Failing → Type 0
Adds more old new = map failing_of new ≡ map failing_of old ++ more
