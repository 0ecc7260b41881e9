-- What is said of a pair: how the search for its plan ended, and what keeps the furthest dead ends from going on.
use Rattle.std.specs.Prelude.{ℕ, ◌-◌, ◌==◌, nat_lt, Bool, true, false, cond, List, [], ◌∷◌, ◌++◌, length, map, filter, drop, take, zip, slice_get, Option, Some, None, option_map, bytes_eq, codes, decimal}
use Rattle.std.specs.List.{flat_map, list_any}
use Rattle.std.specs.Option.{option_and_then}
use Rattle.hp_syntax.specs.declared.limits.TheConstants.{USUAL_LEVELS}
use Rattle.hp_syntax.specs.declared.pattern.Span.{Span}
use Rattle.hp_syntax.specs.Report.{path_text}
use Rattle.hp_syntax.specs.Syntax.{Domain, Problem, Rule, Does, Refines, Concludes}
use Rattle.hp_syntax.specs.Terms.{Term}
use Rattle.hp_syntax.specs.TermTexts.{term_text}
use Rattle.hp_syntax.specs.Values.{Bindings}
use Rattle.hp_lint.specs.declared.report.Concern.{Concern}
use Rattle.hp_lint.specs.declared.report.Concern.TheVariants as concerns
use Rattle.hp_lint.specs.Branches.{expression_span, precondition_span}
use Rattle.hp_lint.specs.Remarked.{Remark}
use Rattle.hp_lint.specs.Remarks.{remarks}
use Rattle.hp_dead_ends.specs.declared.searching.DeadEnd.{DeadEnd}
use Rattle.hp_dead_ends.specs.declared.searching.DeadEnds.{DeadEnds}
use Rattle.hp_dead_ends.specs.declared.searching.SearchEnd.{SearchEnd}
use Rattle.hp_dead_ends.specs.declared.searching.SearchEnd.TheVariants as search_ends
use Rattle.hp_doctor.specs.declared.finding.Finding.TheVariants.{Met}
use Rattle.hp_doctor.specs.Explained.{finding_text, told_in}
use Rattle.hp_doctor.specs.Linted.{remark_text}
use Rattle.hp_doctor.specs.Texts.{Texts}
use Rattle.hp_unmet.specs.Conjunctions.{part_at}
use Rattle.hp_unmet.specs.declared.unmet.Unmet.{Unmet}
use Rattle.hp_unmet.specs.declared.unmet.Unmet.TheVariants as unmets
use Rattle.hp_obstacles.specs.Facts.{Facts}
use Rattle.hp_obstacles.specs.Obstacles.{Obstacle, Stuck, Unconcluded, is_negated_at, name_unmet, task_name}
use Rattle.hp_blame.specs.Blames.{blame_kept}
use Rattle.hp_doctor_why.specs.declared.ends.TheConstants.{STEPS_SHOWN}
use Rattle.hp_doctor_why.specs.declared.cuts.TheConstants.{TASKS_SHOWN}
use Rattle.hp_doctor_why.specs.declared.reasons.Why.{Why}
use Rattle.hp_doctor_why.specs.declared.phrases.TheConstants as says
use Rattle.hp_doctor_why.specs.Against.{against_at}
use Rattle.hp_doctor_why.specs.Blamed.{blame_text}
use Rattle.hp_doctor_why.specs.Filled.{filled_at, protected_text}
use Rattle.hp_doctor_why.specs.Heads.{mismatch_at}
use Rattle.hp_doctor_why.specs.Whys.{Cut, Reason, cut_of, kept}

-- ---- places

-- where the precondition of a rule begins and ends, of a method and of an axiom that of a branch
abbrev pub span_in : ℕ → Rule → Option Span
span_in branch (Does o) = Some (precondition_span o.pre)
span_in branch (Refines m) = option_map (λ b. precondition_span b.pre) (slice_get m.branches branch)
span_in branch (Concludes x) = option_map (λ c. expression_span c.body) (slice_get x.clauses branch)

abbrev pub span_at : Domain → ℕ → ℕ → Option Span
span_at d rule branch = option_and_then (span_in branch) (slice_get d.rules rule)

-- where a part of it begins and ends
abbrev pub part_span_at : Domain → ℕ → ℕ → ℕ → Option Span
part_span_at d rule branch place = option_map expression_span (part_at d.rules rule branch place)

-- where the head of a rule begins and ends
abbrev pub head_span : Rule → Span
head_span (Does o) = o.head.span
head_span (Refines m) = m.head.span
head_span (Concludes x) = x.head.span

abbrev pub head_span_at : Domain → ℕ → Option Span
head_span_at d rule = option_map head_span (slice_get d.rules rule)

-- ---- tasks

abbrev pub spaced : Term → List ℕ
spaced t = codes " " ++ term_text t

abbrev pub more_text : ℕ → List ℕ
more_text n = cond (n == 0) [] (codes " and " ++ decimal n ++ codes " more")

-- some facts of a name, and how many more there are
abbrev pub some_facts_line : List Term → ℕ → List ℕ
some_facts_line first more = says.FACTS.now ++ flat_map spaced first ++ more_text more ++ codes "\n"

abbrev pub more_facts : Facts → ℕ
more_facts f = f.count - length f.first

-- the facts of a name that are there
abbrev pub facts_line : Facts → List ℕ
facts_line f = cond (f.count == 0) says.NO_FACT.now (some_facts_line f.first (more_facts f))

abbrev pub facts_text : Option Facts → List ℕ
facts_text None = []
facts_text (Some f) = facts_line f

-- a sentence at the head of an axiom that concludes atoms of a name
abbrev pub axiom_text : Texts → List ℕ → List ℕ → Rule → List ℕ
axiom_text t sentence name (Does o) = []
axiom_text t sentence name (Refines m) = []
axiom_text t sentence name (Concludes x) =
    cond (bytes_eq x.head.name name) (told_in (Some t.domain) (Some x.head.span) sentence) []

abbrev pub axioms_text : Texts → Domain → List ℕ → Option (List ℕ) → List ℕ
axioms_text t d sentence None = []
axioms_text t d sentence (Some name) = flat_map (axiom_text t sentence name) d.rules

-- of a negation, the axioms that conclude atoms of the name in it
abbrev pub concluding_at : Texts → Domain → ℕ → ℕ → ℕ → List ℕ
concluding_at t d rule branch place =
    cond (is_negated_at d.rules rule branch place)
    (axioms_text t d says.CONCLUDES.now (name_unmet d.rules rule branch (unmets.Part place))) []

-- what keeps a branch of an axiom from concluding the atom for which a part asks, at its place in the domain
abbrev pub unconcluded_by : Texts → Domain → Unconcluded → Unmet → List ℕ
unconcluded_by t d x unmets.None = told_in (Some t.domain) (span_at d x.rule x.branch) says.OTHER_CONCLUDED.now
unconcluded_by t d x unmets.Head = told_in (Some t.domain) (head_span_at d x.rule) says.NOT_CONCLUDED.now
unconcluded_by t d x (unmets.Part place) =
    told_in (Some t.domain) (part_span_at d x.rule x.branch place) says.AXIOM_UNMET.now
    ++ filled_at d x.rule x.branch place x.values ++ facts_text x.facts
unconcluded_by t d x unmets.Unknown = told_in (Some t.domain) (span_at d x.rule x.branch) says.UNKNOWN.now

abbrev pub unconcluded_text : Texts → Domain → Unconcluded → List ℕ
unconcluded_text t d x = unconcluded_by t d x x.unmet

-- that nothing satisfies the part at a place, of the first part without a word of those before it
abbrev pub part_sentence : ℕ → List ℕ
part_sentence place = cond (place == 0) says.FIRST_UNMET.now says.LATER_UNMET.now

-- what is said of the part at a place of a precondition, which nothing satisfies
abbrev pub unmet_part_text : Texts → Domain → Obstacle → ℕ → List ℕ
unmet_part_text t d o place =
    told_in (Some t.domain) (part_span_at d o.rule o.branch place) (part_sentence place)
    ++ filled_at d o.rule o.branch place o.values ++ against_at d o.rule o.values o.against ++ facts_text o.facts
    ++ concluding_at t d o.rule o.branch place ++ flat_map (unconcluded_text t d) o.axioms

-- what keeps an operator or a branch from doing a task, at its place in the domain, where some atoms are protected;
-- that a head doesn't match is said once of a method
abbrev pub obstacle_by : Texts → Domain → Term → List Term → Obstacle → Unmet → List ℕ
obstacle_by t d task guards o unmets.None =
    told_in (Some t.domain) (head_span_at d o.rule) says.PROTECTED.now ++ protected_text d o.rule o.values guards
obstacle_by t d task guards o unmets.Head = cond (o.branch == 0) (mismatch_at t d task o.rule) []
obstacle_by t d task guards o (unmets.Part place) = unmet_part_text t d o place
obstacle_by t d task guards o unmets.Unknown = told_in (Some t.domain) (span_at d o.rule o.branch) says.UNKNOWN.now

abbrev pub obstacle_text : Texts → Domain → Term → List Term → Obstacle → List ℕ
obstacle_text t d task guards o = obstacle_by t d task guards o o.unmet

-- where no operator and no method has the task's name, that is said
abbrev pub obstacles_text : Texts → Domain → Term → List Term → List Obstacle → List ℕ
obstacles_text t d task guards [] = says.NO_RULE.now
obstacles_text t d task guards (o ∷ os) = flat_map (obstacle_text t d task guards) (o ∷ os)

abbrev pub stuck_line : Term → List ℕ
stuck_line t = says.NOTHING_DOES.now ++ term_text t ++ codes " here\n"

abbrev pub stuck_text : Texts → Domain → List Term → Stuck → List ℕ
stuck_text t d guards s = stuck_line s.task ++ obstacles_text t d s.task guards s.obstacles

-- ---- dead ends

-- the last of some steps, at most so many as are shown
abbrev pub last_steps : List Term → List Term
last_steps ts = drop (length ts - STEPS_SHOWN) ts

abbrev pub last_line : List Term → List ℕ
last_line ts = says.LAST_STEPS.now ++ flat_map spaced ts ++ codes "\n"

abbrev pub steps_line : List Term → List ℕ
steps_line ts = cond (length ts == 0) says.NO_STEP.now (last_line (last_steps ts))

abbrev pub known_text : Texts → Domain → Reason → List ℕ
known_text t d r = steps_line r.steps ++ flat_map (stuck_text t d r.guards) r.tasks

abbrev pub reason_text : Texts → Domain → Option Reason → List ℕ
reason_text t d None = says.TOO_WIDE.now
reason_text t d (Some r) = known_text t d r

-- how far a dead end came
abbrev pub decompositions_text : ℕ → List ℕ
decompositions_text n = says.DECOMPOSITIONS.now ++ decimal n ++ codes "\n"

abbrev pub far_text : ℕ → ℕ → List ℕ
far_text steps decompositions = codes ": steps " ++ decimal steps ++ decompositions_text decompositions

abbrev pub end_line : DeadEnd → List ℕ
end_line e = says.DEAD_END.now ++ path_text e.path.items ++ far_text e.steps e.decompositions

abbrev pub end_text : Texts → Domain → DeadEnd × Option Reason → List ℕ
end_text t d (e, r) = end_line e ++ reason_text t d r

-- how many there are, and how many of these came furthest
abbrev pub count_line : DeadEnds → List ℕ
count_line f =
    cond (f.all == 0) []
    (codes "dead ends " ++ decimal f.all ++ codes " furthest " ++ decimal f.as_far ++ codes "\n")

-- ---- tasks that recur

abbrev pub has_name : List ℕ → Option (List ℕ) → Bool
has_name name None = false
has_name name (Some own) = bytes_eq own name

abbrev pub is_named : List ℕ → Term → Bool
is_named name t = has_name name (task_name t)

abbrev pub times : List ℕ → List Term → ℕ
times name ts = length (filter (is_named name) ts)

abbrev pub count_text : List ℕ → ℕ → List ℕ
count_text name n = cond (nat_lt n 2) [] (codes " " ++ name ++ codes " (" ++ decimal n ++ codes " times)")

-- a name that no task before has, and how many of all tasks have it, where several have
abbrev pub recurring_name : List Term → List Term → Option (List ℕ) → List ℕ
recurring_name all before None = []
recurring_name all before (Some name) = cond (list_any (is_named name) before) [] (count_text name (times name all))

-- the names that several of all tasks have, of those after some
abbrev pub recurring_after : List Term → List Term → List Term → List ℕ
recurring_after all before [] = []
recurring_after all before (t ∷ ts) =
    recurring_name all before (task_name t) ++ recurring_after all (before ++ t ∷ []) ts

abbrev pub recurring : List Term → List ℕ
recurring ts = recurring_after ts [] ts

abbrev pub recurring_line : List ℕ → List ℕ
recurring_line [] = []
recurring_line (b ∷ bs) = says.RECUR.now ++ (b ∷ bs) ++ codes "\n"

-- ---- cuts

-- the first of some tasks, at most so many as are shown
abbrev pub first_tasks : List Term → List Term
first_tasks ts = take TASKS_SHOWN ts

abbrev pub others : ℕ → ℕ
others n = n - TASKS_SHOWN

-- the tasks that are left to do
abbrev pub left_line : List Term → List ℕ
left_line ts = says.LEFT.now ++ flat_map spaced (first_tasks ts) ++ more_text (others (length ts)) ++ codes "\n"

abbrev pub known_cut : Cut → List ℕ
known_cut c = recurring_line (recurring c.way) ++ left_line c.left

abbrev pub cut_text : Option Cut → List ℕ
cut_text None = []
cut_text (Some c) = known_cut c

-- ---- how the search ended

abbrev pub expansions_text : ℕ → List ℕ
expansions_text n = codes ", after " ++ decimal n ++ codes " expansions\n"

abbrev pub nest_option : ℕ → List ℕ
nest_option nest = cond (nest == USUAL_LEVELS) [] (codes " --nest " ++ decimal nest)

abbrev pub files_text : Texts → List ℕ
files_text t = t.domain.name ++ codes " " ++ t.problem.name

abbrev pub first_plan_text : ℕ → ℕ → List ℕ
first_plan_text depth nest = codes " 1 " ++ decimal depth ++ nest_option nest

-- the command that prints the plan
abbrev pub plan_line : Texts → ℕ → ℕ → List ℕ
plan_line t depth nest = says.PLAN.now ++ files_text t ++ first_plan_text depth nest ++ codes "\n"

abbrev pub cut_by_depth : Option (List ℕ) → ℕ → List ℕ
cut_by_depth None depth = []
cut_by_depth (Some p) depth =
    codes "depth " ++ decimal depth ++ says.DEPTH_CUT.now ++ path_text p
    ++ says.DEEPER.now

abbrev pub cut_by_levels : Option (List ℕ) → ℕ → List ℕ
cut_by_levels None nest = []
cut_by_levels (Some p) nest =
    decimal nest ++ says.LEVEL_CUT.now ++ path_text p
    ++ says.MORE_LEVELS.now

abbrev pub within_depth : ℕ → List ℕ
within_depth depth = says.NO_PLAN_WITHIN.now ++ decimal depth

-- where all of the tree was searched there is none at any depth
abbrev pub ending_text : Texts → ℕ → ℕ → SearchEnd → ℕ → List ℕ
ending_text t depth nest search_ends.Plan n = plan_line t depth nest
ending_text t depth nest search_ends.Whole n = says.NO_PLAN.now ++ expansions_text n
ending_text t depth nest search_ends.Cut n = within_depth depth ++ expansions_text n
ending_text t depth nest (search_ends.Fault f) n =
    says.FAULT_WITHIN.now ++ decimal depth ++ expansions_text n ++ finding_text t (Met f)

-- ---- tasks that no rule does

-- a remark tells of a task that no rule does
abbrev pub is_unserved : Concern → Bool
is_unserved concerns.NothingGives = false
is_unserved concerns.NoRule = true
is_unserved concerns.StandsOnce = false
is_unserved concerns.Unbound = false
is_unserved concerns.NamedLikeCall = false
is_unserved concerns.NeverReached = false
is_unserved concerns.NeverAsked = false

abbrev pub unserved_text : Texts → Remark → List ℕ
unserved_text t r = cond (is_unserved r.concern) (remark_text t r) []

-- no operator and no method has the name of a task
abbrev pub lacks_rules : Stuck → Bool
lacks_rules s = length s.obstacles == 0

-- so it is of some task among those of some dead end
abbrev pub has_unserved : Option Reason → Bool
has_unserved None = false
has_unserved (Some r) = list_any lacks_rules r.tasks

abbrev pub all_unserved : Texts → Domain → Problem → List ℕ
all_unserved t d p = flat_map (unserved_text t) (remarks d p)

-- ---- a pair

abbrev pub cuts_text : Why → ℕ → ℕ → List ℕ
cuts_text w depth nest =
    cut_by_depth (option_map (λ p. p.items) w.found.depth_cut) depth ++ cut_text (option_map cut_of w.cut)
    ++ cut_by_levels (option_map (λ p. p.items) w.found.level_cut) nest

abbrev pub ends_text : Texts → Domain → Why → List ℕ
ends_text t d w =
    count_line w.found ++ flat_map (end_text t d) (zip w.found.furthest.items (map (option_map kept) w.reasons.items))

-- where no operator and no method has the name of a task there, all such tasks of both files are shown at their places
abbrev pub rules_text : Texts → Domain → Problem → List (Option Reason) → List ℕ
rules_text t d p rs = cond (list_any has_unserved rs) (all_unserved t d p) []

abbrev pub no_plan_text : Texts → Domain → Problem → ℕ → ℕ → Why → List ℕ
no_plan_text t d p depth nest w = cuts_text w depth nest ++ ends_text t d w ++ rules_text t d p (map (option_map kept) w.reasons.items)

-- where there is a plan, nothing else is said; after a fault what was at fault is said first
abbrev pub others_text : Texts → Domain → Problem → ℕ → ℕ → Why → SearchEnd → List ℕ
others_text t d p depth nest w search_ends.Plan = []
others_text t d p depth nest w search_ends.Whole = no_plan_text t d p depth nest w
others_text t d p depth nest w search_ends.Cut = no_plan_text t d p depth nest w
others_text t d p depth nest w (search_ends.Fault f) =
    blame_text t d (span_at d) (option_map blame_kept w.blame) ++ no_plan_text t d p depth nest w

abbrev pub why_text : Texts → Domain → Problem → ℕ → ℕ → Why → List ℕ
why_text t d p depth nest w =
    ending_text t depth nest w.found.end w.found.expansions ++ others_text t d p depth nest w w.found.end
