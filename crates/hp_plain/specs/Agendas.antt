-- The children of a node that are left.
use Rattle.std.specs.Prelude.{◌≡◌, ℕ, ◌+◌, ◌-◌, ◌*◌, ◌<◌, ◌≤◌, List, [], ◌++◌, length, drop, Option, Some, None, flat_map, slice_get}
use Rattle.std.specs.List.{All}
use Rattle.hp_syntax.specs.Terms.{Term}
use Rattle.hp_syntax.specs.Syntax.{Rule}
use Rattle.hp_syntax.specs.Values.{Bindings}
use Rattle.hp_syntax.specs.Views.{domain_of}
use Rattle.hp_syntax.specs.Walk.{Child, child_of}
use Rattle.hp_eval.specs.GoalViews.{term_at}
use Rattle.hp_answers.specs.AnswerViews.{answer_events, BindsBelow}
use Rattle.hp_tree.specs.Children.{place_in, IsCandidate, done_by, by_candidates}
use Rattle.hp_plain.specs.declared.agenda.Agenda.{Agenda}
use Rattle.hp_plain.specs.declared.agenda.CandidateQueue.{CandidateQueue}
use Rattle.hp_plain.specs.declared.agenda.OpenChoice.{OpenChoice}
use Rattle.hp_plain.specs.declared.candidate.Child as made
use Rattle.hp_plain.specs.declared.candidate.Context.{Context}
use Rattle.hp_plain.specs.declared.search_node.SearchNode.{SearchNode}
use Rattle.hp_plain.specs.Children.{MaybeFits, children_in}
use Rattle.hp_plain.specs.SearchNodes.{node_in}

abbrev pub rules_of : Context → List Rule
rules_of c = (domain_of c.book.now.domain.now).rules

module _ (rules : List Rule) (nest : ℕ) where
  -- ---- choices

  -- the children that a satisfier of a choice gives
  abbrev pub done_in : List Term → SearchNode → OpenChoice → Bindings → List Child
  done_in terms s c =
      done_by rules nest (node_in terms s) (place_in s.net.now c.id) (term_at terms c.task)
      (slice_get rules c.rule) c.choice.branch

  -- the children that are left of a choice
  abbrev pub choice_children : List Term → SearchNode → OpenChoice → List Child
  choice_children terms s c =
      flat_map (child_of (done_in terms s c)) (answer_events terms (drop c.next c.choice.found.items))

  -- those of a choice, if one is open
  abbrev pub if_open : List Term → SearchNode → Option OpenChoice → List Child
  if_open terms s None = []
  if_open terms s (Some c) = choice_children terms s c

  -- ---- queues

  -- the children that are left of a queue
  abbrev pub queue_children : List Term → SearchNode → CandidateQueue → List Child
  queue_children terms s q =
      by_candidates rules nest (node_in terms s) s.net.now (drop q.at q.candidates.items) q.tried

  -- the children that are left of an agenda
  abbrev pub agenda_children : List Term → SearchNode → Agenda → List Child
  agenda_children terms s a = if_open terms s a.open ++ queue_children terms s a.queue

-- ---- invariants

-- a choice is of a candidate, its cells are below a count, and a decomposition may follow
pub record IsChoice (n : ℕ) (s : SearchNode) (c : OpenChoice) : Type 0 where
  pub candidate : IsCandidate s.net.now c.id
  pub task : c.task < n
  pub deep : 0 < s.depth
  pub below : All (BindsBelow n) c.choice.found.items

abbrev pub MaybeChoice : ℕ → SearchNode → Option OpenChoice → Type 0
MaybeChoice n s None = Unit {0}
MaybeChoice n s (Some c) = IsChoice n s c

-- a queue is of candidates, no more rules were tried than there are, and where a candidate is left, a decomposition may
-- follow
pub record IsQueue (rules : List Rule) (s : SearchNode) (q : CandidateQueue) : Type 0 where
  pub candidates : All (IsCandidate s.net.now) q.candidates.items
  pub tried : q.tried ≤ length rules
  pub deep : q.at < length q.candidates.items → 0 < s.depth

pub record IsAgenda (rules : List Rule) (n : ℕ) (s : SearchNode) (a : Agenda) : Type 0 where
  pub choice : MaybeChoice n s a.open
  pub queue : IsQueue rules s a.queue

-- the largest number of rules that are left to be tried, with one more for each candidate
abbrev pub work_left : List Rule → CandidateQueue → ℕ
work_left rules q = (length q.candidates.items - q.at) * (length rules + 1) - q.tried

-- ---- the next child

-- a child is the next of those that were left, and the others are left; where there is none, none was left
pub record Takes (terms : List Term) (child : Option made.Child) (before left : List Child) : Type 0 where
  pub next : before ≡ children_in terms child ++ left
  pub fits : MaybeFits (length terms) child
  pub all : child ≡ None → left ≡ []
