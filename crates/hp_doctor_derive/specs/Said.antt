-- What is said of where a plan stops.
use Rattle.std.specs.Prelude.{ℕ, ◌==◌, cond, List, [], ◌∷◌, ◌++◌, length, map, Option, Some, None, option_map, codes, decimal}
use Rattle.std.specs.List.{flat_map}
use Rattle.hp_doctor.specs.declared.finding.Finding.TheVariants.{Met}
use Rattle.hp_doctor.specs.Explained.{finding_text, told_in}
use Rattle.hp_doctor.specs.Texts.{Texts}
use Rattle.hp_doctor_derive.specs.declared.phrases.TheConstants as says
use Rattle.hp_doctor_derive.specs.declared.stops.Found.{Found}
use Rattle.hp_doctor_derive.specs.Plans.{Plan, span_in}
use Rattle.hp_doctor_why.specs.Said.{head_span_at, obstacle_text, spaced}
use Rattle.hp_doctor_why.specs.Whys.{Reason, kept}
use Rattle.hp_following.specs.declared.following.FollowEnd.{FollowEnd}
use Rattle.hp_following.specs.declared.following.FollowEnd.TheVariants as ends
use Rattle.hp_following.specs.declared.following.Following.{Following}
use Rattle.hp_obstacles.specs.Obstacles.{Obstacle, Stuck}
use Rattle.hp_syntax.specs.Report.{path_text}
use Rattle.hp_syntax.specs.Syntax.{Domain}
use Rattle.hp_syntax.specs.Terms.{Term}
use Rattle.hp_syntax.specs.TermTexts.{term_text}
use Rattle.hp_unmet.specs.declared.unmet.Unmet.{Unmet}
use Rattle.hp_unmet.specs.declared.unmet.Unmet.TheVariants as unmets

-- ---- the tasks there

-- what keeps an operator or a branch from doing a task, or that nothing does
abbrev pub way_by : Texts → Domain → Term → Obstacle → Unmet → List ℕ
way_by t d task o unmets.None = told_in (Some t.domain) (head_span_at d o.rule) says.GOES_ON.now
way_by t d task o unmets.Head = obstacle_text t d task [] o
way_by t d task o (unmets.Part place) = obstacle_text t d task [] o
way_by t d task o unmets.Unknown = obstacle_text t d task [] o

abbrev pub way_text : Texts → Domain → Term → Obstacle → List ℕ
way_text t d task o = way_by t d task o o.unmet

-- where no operator and no method has the task's name, that is said
abbrev pub ways_text : Texts → Domain → Term → List Obstacle → List ℕ
ways_text t d task [] = says.NO_RULE.now
ways_text t d task (o ∷ os) = flat_map (way_text t d task) (o ∷ os)

abbrev pub task_line : Term → List ℕ
task_line x = says.TO_DO.now ++ term_text x ++ codes ":\n"

abbrev pub task_text : Texts → Domain → Stuck → List ℕ
task_text t d s = task_line s.task ++ ways_text t d s.task s.obstacles

-- the tasks in a line
abbrev pub spaced_task : Term → List ℕ
spaced_task x = spaced x

abbrev pub in_line : List Stuck → List ℕ
in_line ss = flat_map (λ s. spaced s.task) ss

abbrev pub some_next : List Stuck → List ℕ
some_next ss = says.NEXT.now ++ in_line ss ++ codes "\n"

-- the tasks that may be done next
abbrev pub next_line : List Stuck → List ℕ
next_line [] = says.NO_TASK.now
next_line (s ∷ ss) = some_next (s ∷ ss)

abbrev pub tasks_text : Texts → Domain → List Stuck → List ℕ
tasks_text t d ss = next_line ss ++ flat_map (task_text t d) ss

abbrev pub reason_text : Texts → Domain → Option Reason → List ℕ
reason_text t d None = says.TOO_WIDE.now
reason_text t d (Some r) = tasks_text t d r.tasks

-- the tasks that are left, where all steps are done
abbrev pub left_text : Option Reason → List ℕ
left_text None = codes "\n"
left_text (Some r) = in_line r.tasks ++ codes "\n"

-- ---- the steps there

abbrev pub are_done : ℕ → List ℕ → List ℕ
are_done n path = decimal n ++ says.ARE_DONE.now ++ path_text path

abbrev pub all_done : ℕ → List ℕ → List ℕ
all_done n path = codes "all " ++ are_done n path ++ says.LEFT.now

abbrev pub some_done : ℕ → ℕ → List ℕ → List ℕ
some_done k n path = decimal k ++ says.OF_ITS.now ++ are_done n path ++ codes "\n"

-- the step that comes next in the plan, at its place
abbrev pub step_text : Texts → Plan → ℕ → List ℕ
step_text t p k = told_in t.plan (span_in k p.forest) says.NOT_NEXT.now

-- all steps are done, but tasks are left
abbrev pub whole_text : ℕ → Following → Option Reason → List ℕ
whole_text n f r = all_done n f.path.items ++ left_text r

-- some steps are done, and the next one can't be
abbrev pub part_text : Texts → Domain → Plan → Following → Option Reason → List ℕ
part_text t d p f r =
    some_done f.steps (length p.steps) f.path.items ++ step_text t p f.steps ++ reason_text t d r

abbrev pub stop_text : Texts → Domain → Plan → Following → Option Reason → List ℕ
stop_text t d p f r =
    cond (f.steps == length p.steps) (whole_text (length p.steps) f r) (part_text t d p f r)

-- ---- a pair

abbrev pub derived_text : List ℕ → List ℕ
derived_text path = says.DERIVED.now ++ path_text path ++ codes "\n"

abbrev pub within_text : ℕ → List ℕ
within_text depth = says.NOT_WITHIN.now ++ decimal depth ++ codes ": "

abbrev pub end_text : Texts → Domain → Plan → ℕ → Following → Option Reason → FollowEnd → List ℕ
end_text t d p depth f r ends.Derived = derived_text f.path.items
end_text t d p depth f r ends.Whole = says.AT_NO_DEPTH.now ++ stop_text t d p f r
end_text t d p depth f r ends.Cut = within_text depth ++ stop_text t d p f r
end_text t d p depth f r (ends.Fault x) = finding_text t (Met x)

abbrev pub derive_text : Texts → Domain → Plan → ℕ → Found → List ℕ
derive_text t d p depth w =
    end_text t d p depth w.following (option_map kept w.reason) w.following.end
