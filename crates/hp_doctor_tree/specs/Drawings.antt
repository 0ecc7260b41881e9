-- What is drawn of a plan: a line for each task, or a graph.
use Rattle.std.specs.Prelude.{ℕ, Bool, cond, List, [], ◌++◌, flat_map, replicate, Option, Some, None, map, slice_get, codes, decimal}
use Rattle.hp_changes.specs.Changes.{Changed, changed_of}
use Rattle.hp_derivation.specs.declared.roll.Stood.{Stood}
use Rattle.hp_syntax.specs.Syntax.{Rule, Does, Refines, Concludes}
use Rattle.hp_syntax.specs.Terms.{Term}
use Rattle.hp_syntax.specs.TermTexts.{term_text}
use Rattle.hp_syntax.specs.Views.{domain_of}
use Rattle.hp_way.specs.Ways.{Deed, deed_of}
use Rattle.hp_doctor.specs.Texts.{File}
use Rattle.hp_doctor_tree.specs.declared.drawing.Drawing as drawn
use Rattle.hp_doctor_tree.specs.Deeds.{branch_words, step_words, sum_words}
use Rattle.hp_doctor_tree.specs.Words.{escaped, marked, place_text}

-- the rules of a domain, the deeds that lead to a plan, how many steps there are up to each, what each changes where
-- that is asked for, all tasks by their numbers, and whether a graph is wanted
pub record Drawing : Type 0 where
  pub rules : List Rule
  pub deeds : List Deed
  pub steps : List ℕ
  pub changes : List Changed
  pub tasks : List Stood
  pub dot : Bool

abbrev pub drawing_of : drawn.Drawing → Drawing
drawing_of w = record {
  rules = (domain_of w.domain.now).rules;
  deeds = map deed_of w.deeds.now;
  steps = w.steps.now;
  changes = map changed_of w.changes.now;
  tasks = w.tasks.now;
  dot = w.dot;
}

-- ---- a line

-- behind the task: of an operator which step it is, what it costs and where it is, of a method where it is and its
-- branch
abbrev pub rule_line : File → Drawing → ℕ → ℕ → Option Rule → List ℕ
rule_line f w k b None = []
rule_line f w k b (Some (Does o)) =
    codes "  " ++ step_words w.steps w.deeds k ++ codes " " ++ place_text f o.head.span.from
rule_line f w k b (Some (Refines m)) =
    codes "  " ++ place_text f m.head.span.from ++ marked (codes " ") (branch_words m.branches b)
rule_line f w k b (Some (Concludes a)) = []

abbrev pub deed_line : File → Drawing → ℕ → Option Deed → List ℕ
deed_line f w k None = []
deed_line f w k (Some d) = term_text d.task ++ rule_line f w k d.branch (slice_get w.rules d.rule)

abbrev pub done_line : File → Drawing → Option ℕ → List ℕ
done_line f w None = []
done_line f w (Some k) = deed_line f w k (slice_get w.deeds k)

-- two blanks for each level
abbrev pub margin : ℕ → List ℕ
margin level = replicate level 32 ++ replicate level 32

-- a term behind a mark, two blanks deeper than its step
abbrev pub change_line : ℕ → List ℕ → Term → List ℕ
change_line level mark t = margin level ++ codes "  " ++ mark ++ term_text t ++ codes "\n"

abbrev pub change_lines : ℕ → List ℕ → List Term → List ℕ
change_lines level mark ts = flat_map (change_line level mark) ts

-- what a step takes, adds, protects and frees, each on a line of its own
abbrev pub changed_text : ℕ → Changed → List ℕ
changed_text level c =
    change_lines level (codes "- ") c.taken ++ change_lines level (codes "+ ") c.added
    ++ change_lines level (codes "protects ") c.protected ++ change_lines level (codes "frees ") c.freed

abbrev pub changed_lines : ℕ → Option Changed → List ℕ
changed_lines level None = []
changed_lines level (Some c) = changed_text level c

-- what a deed changes, by its number
abbrev pub deed_changes : List Changed → ℕ → Option ℕ → List ℕ
deed_changes cs level None = []
deed_changes cs level (Some k) = changed_lines level (slice_get cs k)

-- the margin, the task, and what it changes
abbrev pub line_text : File → Drawing → Stood → List ℕ
line_text f w s = margin s.level ++ done_line f w s.deed ++ codes "\n" ++ deed_changes w.changes s.level s.deed

-- ---- a node of a graph

abbrev pub rule_label : Drawing → ℕ → ℕ → Option Rule → List ℕ
rule_label w k b None = codes "\"];\n"
rule_label w k b (Some (Does o)) = codes "\\n" ++ step_words w.steps w.deeds k ++ codes "\", shape=box];\n"
rule_label w k b (Some (Refines m)) =
    marked (codes "\\n") (escaped (branch_words m.branches b)) ++ codes "\", shape=ellipse];\n"
rule_label w k b (Some (Concludes a)) = codes "\"];\n"

abbrev pub deed_label : Drawing → ℕ → Option Deed → List ℕ
deed_label w k None = codes "\"];\n"
deed_label w k (Some d) = escaped (term_text d.task) ++ rule_label w k d.branch (slice_get w.rules d.rule)

abbrev pub done_label : Drawing → Option ℕ → List ℕ
done_label w None = codes "\"];\n"
done_label w (Some k) = deed_label w k (slice_get w.deeds k)

abbrev pub node_text : Drawing → ℕ → Stood → List ℕ
node_text w i s = codes "  t" ++ decimal i ++ codes " [label=\"" ++ done_label w s.deed

abbrev pub edge_text : ℕ → Option ℕ → List ℕ
edge_text i None = []
edge_text i (Some p) = codes "  t" ++ decimal p ++ codes " -> t" ++ decimal i ++ codes ";\n"

-- ---- all of it

abbrev pub entry_by : File → Drawing → ℕ → Option Stood → List ℕ
entry_by f w i None = []
entry_by f w i (Some s) = cond w.dot (node_text w i s ++ edge_text i s.parent) (line_text f w s)

-- a task, by its number
abbrev pub entry_text : File → Drawing → ℕ → List ℕ
entry_text f w i = entry_by f w i (slice_get w.tasks i)

abbrev pub opening : Bool → List ℕ
opening dot = cond dot (codes "digraph plan {\n") []

-- of lines the last one tells what all steps cost, and how many they are
abbrev pub closing : Drawing → List ℕ
closing w = cond w.dot (codes "}\n") (sum_words w.steps w.deeds ++ codes "\n")

-- the tasks in this order
abbrev pub drawing_text : File → Drawing → List ℕ → List ℕ
drawing_text f w order = opening w.dot ++ (flat_map (entry_text f w) order ++ closing w)
