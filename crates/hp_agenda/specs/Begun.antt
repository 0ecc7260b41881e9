-- What the open choice of an agenda has given, and by which candidate, rule and branch.
use Rattle.std.specs.Prelude.{◌≡◌, ℕ, ◌<◌, List, [], ◌∷◌, ◌++◌, length, map, take, Option, Some, None, Box}
use Rattle.std.specs.Global.{Global}
use Rattle.hp_syntax.specs.Networks.{Place, candidates}
use Rattle.hp_syntax.specs.Syntax.{Rule}
use Rattle.hp_syntax.specs.Terms.{Term}
use Rattle.hp_syntax.specs.Walk.{Child, DidChild, Node, rule_children}
use Rattle.hp_laws.specs.Derivations.{IsNext, situation_at}
use Rattle.hp_code.specs.CodeViews.{CodeView, rules_in}
use Rattle.hp_eval.specs.GoalViews.{term_at}
use Rattle.hp_links.specs.Linked.{Linked, focused, place_of}
use Rattle.hp_links.specs.Placed.{candidates_in}
use Rattle.hp_suspended.specs.declared.scene.Scene.{Scene}
use Rattle.hp_suspended.specs.SceneViews.{code_in}
use Rattle.hp_tree.specs.Children.{place_in}
use Rattle.hp_tree.specs.SearchNodes.{HeldNode, node_of}
use Rattle.hp_choice.specs.declared.choice.Choice.{Choice}
use Rattle.hp_choice.specs.declared.choice.Given.{Given}
use Rattle.hp_choice.specs.declared.choice.Given.TheVariants.{Did, Cut, Fault}
use Rattle.hp_choice.specs.Choices.{held_children}
use Rattle.hp_choice.specs.Served.{ServesBy}
use Rattle.hp_agenda.specs.declared.agenda.Agenda.{Agenda}
use Rattle.hp_agenda.specs.Queues.{rule_of}

-- ---- candidates

-- numbers are those of the first candidates of a network; where there are any, all candidates stand at the places of
-- those of its nodes
pub record AreFirst (net : Linked) (ids : List ℕ) : Type 0 where
  pub listed : ids ≡ take (length ids) (candidates_in net)
  pub places : 0 < length ids → (terms : List Term) → map (place_of net) (candidates_in net)
      ≡ map Some (candidates (focused terms net).0 (focused terms net).1)

-- ---- children

-- a task at the place of the candidate of a number of a node, and the rule, by its node, and the branch that serve it
pub record Serving : Type 0 where
  pub node : Node
  pub number : ℕ
  pub place : Place
  pub task : Term
  pub rule : ℕ
  pub branch : ℕ

-- of the children that the rule gives, these were given, in their order, and those are left
pub record HasGiven (c : CodeView) (nest : ℕ) (v : Serving) (given left : List Child) : Type 0 where
  pub next : IsNext (situation_at v.node) v.number v.place v.task
  pub own : Rule
  pub is : rule_of c v.rule ≡ Some own
  pub serves : ServesBy (rules_in c) nest v.node.state v.task own v.branch
  pub children : rule_children (rules_in c) nest v.node v.place v.task own ≡ given ++ left

-- a choice serves its task, which is the candidate of a number of a search node
abbrev pub serving_of : List Term → HeldNode → ℕ → Choice → Serving
serving_of terms h number c = record {
  node = node_of terms h;
  number = number;
  place = place_in h.network c.id;
  task = term_at terms c.task;
  rule = c.rule;
  branch = c.branch;
}

abbrev pub ChoiceGave : Scene → ℕ → List Term → HeldNode → ℕ → Choice → List Child → Type 0
ChoiceGave s nest terms h number c given =
    HasGiven (code_in s) nest (serving_of terms h number c) given (held_children s nest terms h c)

-- the last children that the choice which is open gave are these; where none is open there are none
abbrev pub LastGiven : Scene → ℕ → List Term → HeldNode → ℕ → Option (Box Choice Global) → List Child → Type 0
LastGiven s nest terms h number None last = last ≡ []
LastGiven s nest terms h number (Some c) last =
    (earlier : List Child) × ChoiceGave s nest terms h number c.value (earlier ++ last)

-- the same of an agenda, whose queue has the candidates in their order
pub record HasLast (s : Scene) (nest : ℕ) (terms : List Term) (h : HeldNode) (a : Agenda) (last : List Child) : Type 0
  where
    pub first : AreFirst h.network a.queue.candidates.items
    pub given : LastGiven s nest terms h a.queue.at a.open last

-- the child that is this search node, where a decomposition led to it
abbrev pub did_given : List Term → HeldNode → Option Given → List Child
did_given terms h None = []
did_given terms h (Some (Did floor)) = DidChild (node_of terms h) ∷ []
did_given terms h (Some Cut) = []
did_given terms h (Some (Fault f)) = []
