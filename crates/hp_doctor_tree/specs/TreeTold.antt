-- What `tree` writes of two files: what they are refused for, or how the plan that is asked for came about.
use Rattle.std.specs.Prelude.{◌≡◌, ◌<◌, ◌-◌, ◌^◌, ℕ, zero, suc, Bool, true, false, List, [], ◌++◌, length, map, slice_get, Option, Some, None, codes, decimal}
use Rattle.std.specs.List.{All}
use Rattle.hp_changes.specs.Changes.{Changed, changes_along}
use Rattle.hp_changes.specs.Changing.{IsMet}
use Rattle.hp_code.specs.Lowered.{lowered_rules}
use Rattle.hp_dead_ends.specs.Arriving.{is_small}
use Rattle.hp_derivation.specs.declared.roll.Stood.{Stood}
use Rattle.hp_derivation.specs.Derived.{derived}
use Rattle.hp_io.specs.declared.folder.Input.TheVariants as inputs
use Rattle.hp_out.specs.RefusalTexts.{refusal_text}
use Rattle.hp_out.specs.Writing.{SinkRun, Wrote}
use Rattle.hp_out.specs.declared.refusal.Refusal.{Refusal}
use Rattle.hp_out.specs.declared.refusal.Refusal.TheVariants.{NoPair}
use Rattle.hp_syntax.specs.declared.fault.RunFault.{RunFault}
use Rattle.hp_syntax.specs.declared.status.Status.{Status}
use Rattle.hp_syntax.specs.declared.status.Status.TheVariants as status
use Rattle.hp_syntax.specs.PlaceTexts.{at_span}
use Rattle.hp_syntax.specs.Report.{Answer, fault_word}
use Rattle.hp_syntax.specs.Syntax.{Domain, Pair, Problem, Rule}
use Rattle.hp_syntax.specs.Walk.{Node, root}
use Rattle.hp_way.specs.Ways.{Deed, IsWay, IsWayOfPlan, LeadAlong, deed_of, tree_of}
use Rattle.hp_way.specs.declared.ways.Way.{Way}
use Rattle.hp_way.specs.declared.ways.Way.TheVariants as ways
use Rattle.hp_doctor.specs.Accepting.{AreRefused, IsAccepted, refusal_status}
use Rattle.hp_doctor.specs.Explained.{explained, told_in}
use Rattle.hp_doctor.specs.Linted.{Tells}
use Rattle.hp_doctor.specs.Sentences.{fault_sentence}
use Rattle.hp_doctor.specs.Texts.{File, Texts, chosen}
use Rattle.hp_doctor_tree.specs.declared.trees.Asked.{Asked}
use Rattle.hp_doctor_tree.specs.declared.trees.Wanted.{Wanted}
use Rattle.hp_doctor_tree.specs.declared.trees.Wanted.TheVariants as wanted
use Rattle.hp_doctor_tree.specs.Deeds.{steps_from}
use Rattle.hp_doctor_tree.specs.Drawings.{drawing_text}

-- ---- the plan that is asked for

-- no number of a path is the greatest
abbrev pub HasSmallNumbers : Wanted → Type 0
HasSmallNumbers (wanted.At path) = All (λ i. i < 2 ^ 64 - 1) path.now
HasSmallNumbers (wanted.Nth number) = Unit {0}

-- a way leads to the plan at the path, or to that of the number
abbrev pub IsWantedWay : List Rule → ℕ → Node → Wanted → Way → Type 0
IsWantedWay rules nest root (wanted.At path) way = IsWay rules nest root path.now way
IsWantedWay rules nest root (wanted.Nth number) way = IsWayOfPlan rules nest root number way

-- deeds lead along a path of small numbers, to which a walk comes before any fault
pub record LeadsThere (rules : List Rule) (nest : ℕ) (root : Node) (ds : List Deed) (path : List ℕ) : Type 0 where
  pub node : Node
  pub lead : LeadAlong rules nest ds path root node
  pub met : IsMet (tree_of rules nest root) path

-- the path of the way, where it leads to a plan; where a number of it may mean a greater one, nothing is known
abbrev pub IsPathOfWay : List Rule → ℕ → Node → Way → List ℕ → Type 0
IsPathOfWay rules nest root (ways.Plan ds) path =
    is_small path ≡ true → LeadsThere rules nest root (map deed_of ds.items) path
IsPathOfWay rules nest root ways.Absent path = Unit {0}
IsPathOfWay rules nest root (ways.Fault f) path = Unit {0}

-- what deeds change: the changes along the path that they lead along
pub record AreChangesOf (rules : List Rule) (nest : ℕ) (root : Node) (ds : List Deed) (cs : List Changed) : Type 0 where
  pub path : List ℕ
  pub node : Node
  pub lead : LeadAlong rules nest ds path root node
  pub are : cs ≡ changes_along rules nest root path

-- what the deeds of a way change, where that is asked for
abbrev pub HasChanges : List Rule → ℕ → Node → Bool → Way → List Changed → Type 0
HasChanges rules nest root false way cs = cs ≡ []
HasChanges rules nest root true (ways.Plan ds) cs = AreChangesOf rules nest root (map deed_of ds.items) cs
HasChanges rules nest root true ways.Absent cs = cs ≡ []
HasChanges rules nest root true (ways.Fault f) cs = cs ≡ []

-- a plan: all tasks on its way, and nothing where deeds have no derivation
abbrev pub parts_or_none : Option (List Stood × List ℕ) → List Stood × List ℕ
parts_or_none None = ([], [])
parts_or_none (Some parts) = parts

abbrev pub parts_text : File → List Rule → List Deed → List Changed → Bool → List Stood × List ℕ → List ℕ
parts_text f rules ds cs dot parts =
    drawing_text f
    (record { rules = rules; deeds = ds; steps = steps_from rules 0 ds; changes = cs; tasks = parts.0; dot = dot })
    parts.1

abbrev pub plan_text : File → List Rule → Pair → List Deed → List Changed → Bool → List ℕ
plan_text f rules pair ds cs dot = parts_text f rules ds cs dot (parts_or_none (derived rules pair ds))

-- there is no such plan; at a path in the planner's words
abbrev pub absent_text : Wanted → ℕ → List ℕ
absent_text (wanted.At path) depth = codes "no plan at path\n"
absent_text (wanted.Nth number) depth =
    codes "no plan " ++ decimal number ++ codes " within depth " ++ decimal depth ++ codes "\n"

-- a fault comes before: the planner's words for it, and what it means
abbrev pub fault_text : Texts → RunFault → List ℕ
fault_text t f =
    codes "fault " ++ at_span (fault_word f.kind) f.span ++ codes "\n"
    ++ told_in (chosen t inputs.Domain) (Some f.span) (fault_sentence f.kind)

abbrev pub way_answer : Texts → Asked → List Rule → Pair → Way → List Changed → Answer
way_answer t a rules pair (ways.Plan ds) cs =
    (plan_text t.domain rules pair (map deed_of ds.items) cs a.dot, status.Done)
way_answer t a rules pair ways.Absent cs = (absent_text a.wanted a.depth, status.NoSuchPath)
way_answer t a rules pair (ways.Fault f) cs = (fault_text t f, status.RunFault)

-- what is told of a pair: that of the way to the plan that is asked for, and of its changes where these are asked for,
-- in the tree of the lowered rules, which is that of the rules
pub record IsTreeOf (t : Texts) (a : Asked) (rules : List Rule) (pair : Pair) (answer : Answer) : Type 0 where
  pub way : Way
  pub there : IsWantedWay (lowered_rules rules) a.nest (root pair a.depth) a.wanted way
  pub changes : List Changed
  pub changed : HasChanges (lowered_rules rules) a.nest (root pair a.depth) a.changes way changes
  pub is : answer ≡ way_answer t a rules pair way changes

-- ---- what is told of the files

-- the pair of a number, from 1 on
abbrev pub pair_at : ℕ → List Pair → Option Pair
pair_at zero ps = None
pair_at (suc i) ps = slice_get ps i

-- the line by which the planner refuses the files, as it is explained; or that there is no such pair; or what is told
-- of the pair
pub data IsTree (t : Texts) (a : Asked) (answer : Answer) : Type 0 where
  Refused : (r : Refusal) → AreRefused t r → answer ≡ (explained t (refusal_text r), refusal_status r)
      → IsTree t a answer
  Pairless : (d : Domain) (p : Problem) → IsAccepted t d p → pair_at a.pair p.pairs ≡ None
      → answer ≡ (explained t (refusal_text (NoPair a.pair (length p.pairs))), status.ProblemRefused)
      → IsTree t a answer
  Accepted : (d : Domain) (p : Problem) (pair : Pair) → IsAccepted t d p → pair_at a.pair p.pairs ≡ Some pair
      → IsTreeOf t a d.rules pair answer → IsTree t a answer

-- ---- how it is told

-- an answer of this kind was told, or memory was wanting before it was known, and nothing was written
pub data TellsOf (Is : Answer → Type 0) (s : Status) (r : SinkRun) : Type 0 where
  Told : (answer : Answer) → Is answer → Tells answer s r → TellsOf Is s r
  Unknown : s ≡ status.NoMemory → Wrote [] r.before r.after → TellsOf Is s r

abbrev pub TellsTree : Texts → Asked → Status → SinkRun → Type 0
TellsTree t a s r = TellsOf (IsTree t a) s r
