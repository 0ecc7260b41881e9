-- The lines of the visits of a walk.
use Rattle.std.specs.Prelude.{ℕ, zero, suc, ◌+◌, ◌-◌, nat_lt, min, Bool, cond, List, [], ◌∷◌, ◌++◌, length, map, Option, Some, None, slice_get, codes, decimal}
use Rattle.hp_syntax.specs.Syntax.{Rule, Does, Refines, Concludes}
use Rattle.hp_syntax.specs.TermTexts.{term_text}
use Rattle.hp_way.specs.Ways.{Deed, deed_of}
use Rattle.hp_obstacles.specs.Obstacles.{Stuck, stuck_of}
use Rattle.hp_trace.specs.declared.tracing.Seen.{Seen}
use Rattle.hp_trace.specs.declared.tracing.Seen.TheVariants as seen
use Rattle.hp_trace.specs.declared.tracing.TracedVisit.{TracedVisit}
use Rattle.hp_trace.specs.Traces.{is_dead_end}
use Rattle.hp_doctor.specs.Texts.{File, Texts}
use Rattle.hp_doctor_tree.specs.Deeds.{branch_words}
use Rattle.hp_doctor_tree.specs.TreeTold.{fault_text}
use Rattle.hp_doctor_tree.specs.Words.{marked, place_text}
use Rattle.hp_doctor_trace.specs.Failing.{indent, stuck_text}

-- ---- a decomposition

-- where the head of the rule is, and of a method the branch
abbrev pub rule_words : File → ℕ → Option Rule → List ℕ
rule_words f b None = []
rule_words f b (Some (Does o)) = codes "  " ++ place_text f o.head.span.from
rule_words f b (Some (Refines m)) =
    codes "  " ++ place_text f m.head.span.from ++ marked (codes " ") (branch_words m.branches b)
rule_words f b (Some (Concludes a)) = []

abbrev pub done_words : File → List Rule → Deed → List ℕ
done_words f rules d = term_text d.task ++ rule_words f d.branch (slice_get rules d.rule)

-- the decompositions of the root are at its own level
abbrev pub deed_text : File → List Rule → ℕ → Deed → List ℕ
deed_text f rules level d = indent (level - 1) ++ done_words f rules d ++ codes "\n"

-- a dead end, and what fails there
abbrev pub dead_text : File → List Rule → ℕ → List Stuck → List ℕ
dead_text f rules level ss = indent level ++ codes "dead end\n" ++ stuck_text f rules level ss

abbrev pub end_text : File → List Rule → ℕ → Bool → List Stuck → List ℕ
end_text f rules level dead ss = cond dead (dead_text f rules level ss) []

-- ---- a visit

abbrev pub seen_text : Texts → List Rule → ℕ → Bool → List Stuck → Seen → List ℕ
seen_text t rules level dead ss (seen.Did d) =
    deed_text t.domain rules level (deed_of d) ++ end_text t.domain rules level dead ss
seen_text t rules level dead ss seen.Plan = indent level ++ codes "plan\n"
seen_text t rules level dead ss seen.DepthCut = indent level ++ codes "depth cut\n"
seen_text t rules level dead ss seen.LevelCut = indent level ++ codes "level cut\n"
seen_text t rules level dead ss (seen.Fault f) = indent level ++ fault_text t f

-- with the visit after it, if there is one
abbrev pub visit_text : Texts → List Rule → TracedVisit → Option TracedVisit → List ℕ
visit_text t rules v next =
    seen_text t rules v.level (is_dead_end v.level next) (map stuck_of v.stuck.items) v.seen

abbrev pub line_by : Texts → List Rule → Option TracedVisit → Option TracedVisit → List ℕ
line_by t rules None next = []
line_by t rules (Some v) next = visit_text t rules v next

abbrev pub line_at : Texts → List Rule → List TracedVisit → ℕ → List ℕ
line_at t rules vs i = line_by t rules (slice_get vs i) (slice_get vs (i + 1))

-- the lines of so many of the first visits
abbrev pub lines_text : Texts → List Rule → List TracedVisit → ℕ → List ℕ
lines_text t rules vs zero = []
lines_text t rules vs (suc n) = lines_text t rules vs n ++ line_at t rules vs n

-- ---- all of it

-- without any visit the root is a dead end
abbrev pub opening : List TracedVisit → List ℕ
opening [] = codes "dead end\n"
opening (v ∷ vs) = []

-- how many visits there are, or that these are the first ones
abbrev pub closing : ℕ → ℕ → List ℕ
closing most count =
    cond (nat_lt most count) (codes "first " ++ decimal most ++ codes " visits\n")
    (codes "visits " ++ decimal count ++ codes "\n")

-- so many of the visits that are known
abbrev pub trace_text : Texts → List Rule → ℕ → List TracedVisit → List ℕ
trace_text t rules most vs =
    opening vs ++ (lines_text t rules vs (min most (length vs)) ++ closing most (length vs))
