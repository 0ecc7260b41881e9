-- The children of a node that are left, step by step.
use Rattle.std.proofs.Common.{◌≡◌, ℕ, ◌+◌, ◌<◌, ◌≤◌, true, false, List, [], ◌++◌, length, drop, get_or, Option, Some, None, refl, sym, ◌∙◌, ap, ap₂, subst, arith, append_assoc}
use Rattle.std.specs.Prelude.{flat_map, is_some, slice_get}
use Rattle.std.proofs.lemmas.List.{drop_all}
use Rattle.std.proofs.lemmas.List.Elements.{All-drop}
use Rattle.hp_syntax.specs.Syntax.{Rule}
use Rattle.hp_syntax.specs.Terms.{Term}
use Rattle.hp_syntax.specs.Walk.{Child, child_of}
use Rattle.hp_eval.proofs.Loops.{left_more}
use Rattle.hp_eval.specs.Growth.{Grows}
use Rattle.hp_eval.proofs.GrowthLemmas.{grows_length}
use Rattle.hp_answers.specs.declared.answer.Answer.{Answer}
use Rattle.hp_answers.specs.AnswerViews.{answer_event, answer_events, BindsBelow}
use Rattle.hp_tree.specs.Children.{place_in, done_by, by_candidates}
use Rattle.hp_tree.proofs.SearchNodeLemmas.{node_stays, term_stays}
use Rattle.hp_plain.specs.declared.agenda.Agenda.{Agenda}
use Rattle.hp_plain.specs.declared.agenda.CandidateQueue.{CandidateQueue}
use Rattle.hp_plain.specs.declared.agenda.OpenChoice.{OpenChoice}
use Rattle.hp_plain.specs.declared.candidate.Child as made
use Rattle.hp_plain.specs.declared.search_node.SearchNode.{SearchNode}
use Rattle.hp_plain.specs.Agendas.{done_in, choice_children, if_open, queue_children, agenda_children, IsChoice, MaybeChoice, IsQueue, IsAgenda, Takes}
use Rattle.hp_plain.specs.Children.{Makes, children_in}
use Rattle.hp_plain.specs.SearchNodes.{held, node_in, IsSearchNode}
use Rattle.hp_answers.proofs.AnswerLemmas.{all_bind_below, found_stays}

-- ---- the next child

-- a child that isn't there is none
pub none_made : (child : Option made.Child) → is_some child ≡ false → child ≡ None
none_made None e = refl
none_made (Some c) e = absurd cc

-- where a child is there, nothing follows from its being none
some_made : (child : Option made.Child) {X : Type 0} → is_some child ≡ true → child ≡ None → X
some_made None e h = absurd cc
some_made (Some c) e h = absurd cc

-- a child that is made is taken from those before
pub takes_next : (terms : List Term) (child : Option made.Child) (first before left : List Child)
    → before ≡ first ++ left → Makes terms child first → is_some child ≡ true → Takes terms child before left
takes_next terms child first before left e h some = record {
  next = e ∙ ap (λ xs. xs ++ left) (sym h.are);
  fits = h.fits;
  all = λ k. some_made child some k;
}

-- where none is made, the others are left
pub passes_next : (terms : List Term) (child : Option made.Child) (first before left : List Child)
    → before ≡ first ++ left → Makes terms child first → is_some child ≡ false → before ≡ left
passes_next terms child first before left e h none =
    e ∙ ap (λ xs. xs ++ left) (sym h.are ∙ ap (children_in terms) (none_made child none))

-- where nothing is left, nothing is taken
pub takes_none : (terms : List Term) (before left : List Child) → before ≡ left → left ≡ []
    → Takes terms None before left
takes_none terms before left e h = record { next = e; fits = tt; all = λ k. h }

-- ---- choices

module _ (old new : List Term) (g : Grows old new) where
  -- a choice stays one where terms are added
  pub choice_grows : (s : SearchNode) (c : OpenChoice) → IsChoice (length old) s c → IsChoice (length new) s c
  choice_grows s c h = record {
    candidate = h.candidate;
    task = (let l = grows_length old new g in let k = h.task in omega arith);
    deep = h.deep;
    below = all_bind_below old new g c.choice.found.items h.below;
  }

  pub maybe_choice_grows : (s : SearchNode) (c : Option OpenChoice) → MaybeChoice (length old) s c
      → MaybeChoice (length new) s c
  maybe_choice_grows s None h = h
  maybe_choice_grows s (Some c) h = choice_grows s c h

  module _ (rules : List Rule) (nest : ℕ) (s : SearchNode) (node : IsSearchNode (length old) s) where
    -- a satisfier of a choice gives the same children
    done_keeps : (c : OpenChoice) → c.task < length old → done_in rules nest new s c ≡ done_in rules nest old s c
    done_keeps c l =
        ap₂ (λ n t. done_by rules nest n (place_in s.net.now c.id) t (slice_get rules c.rule) c.choice.branch)
        (node_stays old new g (held s) node) (term_stays old new g c.task l)

    -- a choice has the same children left
    pub choice_stays : (c : OpenChoice) → IsChoice (length old) s c
        → choice_children rules nest new s c ≡ choice_children rules nest old s c
    choice_stays c h =
        ap₂ (λ f xs. flat_map (child_of f) xs) (done_keeps c h.task)
        (found_stays old new g (drop c.next c.choice.found.items)
        (All-drop (BindsBelow (length old)) c.next c.choice.found.items h.below))

    -- so has one that may not be there
    pub maybe_choice_stays : (c : Option OpenChoice) → MaybeChoice (length old) s c
        → if_open rules nest new s c ≡ if_open rules nest old s c
    maybe_choice_stays None h = refl
    maybe_choice_stays (Some c) h = choice_stays c h

    -- a queue has the same children left
    pub queue_stays : (q : CandidateQueue) → queue_children rules nest new s q ≡ queue_children rules nest old s q
    queue_stays q =
        ap (λ n. by_candidates rules nest n s.net.now (drop q.at q.candidates.items) q.tried)
        (node_stays old new g (held s) node)

module _ (rules : List Rule) (nest : ℕ) (terms : List Term) (s : SearchNode) (c : OpenChoice) where
  -- the children by the next event are first
  choice_next : (x : Answer) → c.next < length c.choice.found.items → x ≡ get_or c.choice.found.items c.next x
      → choice_children rules nest terms s c
      ≡ child_of (done_in rules nest terms s c) (answer_event terms x)
      ++ choice_children rules nest terms s (record c { next = c.next + 1 })
  choice_next x l is =
      ap (λ xs. flat_map (child_of (done_in rules nest terms s c)) (answer_events terms xs))
      (left_more c.choice.found.items c.next x l is)

  -- where no event is left there are none
  pub choice_end : length c.choice.found.items ≤ c.next → choice_children rules nest terms s c ≡ []
  choice_end l =
      ap (λ xs. flat_map (child_of (done_in rules nest terms s c)) (answer_events terms xs))
      (drop_all c.next c.choice.found.items l)

-- a choice stays one from any event on
pub choice_from : (n k : ℕ) (s : SearchNode) (c : OpenChoice) → IsChoice n s c → IsChoice n s (record c { next = k })
choice_from n k s c h = record { candidate = h.candidate; task = h.task; deep = h.deep; below = h.below }

module _ (old new : List Term) (g : Grows old new) (rules : List Rule) (nest : ℕ) (s : SearchNode)
    (node : IsSearchNode (length old) s) (c : OpenChoice) (choice : IsChoice (length old) s c) (x : Answer)
    (within : c.next < length c.choice.found.items) (is : x ≡ get_or c.choice.found.items c.next x)
    (child : Option made.Child) (before : List Child) (so_far : before ≡ choice_children rules nest old s c)
    (makes : Makes new child (child_of (done_in rules nest old s c) (answer_event old x))) where
  -- the children by the next event are the first of those that are left
  choice_step : before
      ≡ child_of (done_in rules nest old s c) (answer_event old x)
      ++ choice_children rules nest new s (record c { next = c.next + 1 })
  choice_step =
      so_far
      ∙ (choice_next rules nest old s c x within is
      ∙ ap (λ xs. child_of (done_in rules nest old s c) (answer_event old x) ++ xs)
      (sym (choice_stays old new g rules nest s node (record c { next = c.next + 1 }) (choice_from (length old)
      (c.next + 1) s c choice))))

  -- where the event gives a child, this is taken
  pub choice_takes : is_some child ≡ true
      → Takes new child before (choice_children rules nest new s (record c { next = c.next + 1 }))
  choice_takes some = takes_next new child _ before _ choice_step makes some

  -- where it gives none, the others are left
  pub choice_passes : is_some child ≡ false
      → before ≡ choice_children rules nest new s (record c { next = c.next + 1 })
  choice_passes none = passes_next new child _ before _ choice_step makes none

-- ---- agendas

module _ (old new : List Term) (g : Grows old new) (rules : List Rule) (nest : ℕ) (s : SearchNode)
    (node : IsSearchNode (length old) s) (before after : Agenda) (child : Option made.Child) (all : List Child)
    (so_far : all ≡ agenda_children rules nest old s before)
    (takes : Takes new child (if_open rules nest old s before.open) (if_open rules nest new s after.open))
    (same : after.queue ≡ before.queue) where
  -- the queue is left behind what is left of the open choice
  agenda_next : all ≡ children_in new child ++ agenda_children rules nest new s after
  agenda_next =
      so_far
      ∙ (ap (λ xs. xs ++ queue_children rules nest old s before.queue) takes.next
      ∙ (append_assoc (children_in new child) (if_open rules nest new s after.open)
      (queue_children rules nest old s before.queue)
      ∙ ap (λ xs. children_in new child ++ (if_open rules nest new s after.open ++ xs))
      (sym (queue_stays old new g rules nest s node before.queue)
      ∙ ap (queue_children rules nest new s) (sym same))))

  -- a child of the open choice is taken
  pub agenda_takes : is_some child ≡ true → Takes new child all (agenda_children rules nest new s after)
  agenda_takes some = record {
    next = agenda_next;
    fits = takes.fits;
    all = λ k. some_made child some k;
  }

  -- where the open choice has none, the queue is left
  pub agenda_passes : is_some child ≡ false → all ≡ queue_children rules nest new s after.queue
  agenda_passes none =
      agenda_next
      ∙ ap₂ (λ xs ys. xs ++ (ys ++ queue_children rules nest new s after.queue))
      (ap (children_in new) (none_made child none)) (takes.all (none_made child none))

  -- where no candidate is left either, nothing is
  pub agenda_ends : is_some child ≡ false → length after.queue.candidates.items ≤ after.queue.at
      → Takes new None all (agenda_children rules nest new s after)
  agenda_ends none l =
      let empty : queue_children rules nest new s after.queue ≡ [] =
      ap (λ ks. by_candidates rules nest (node_in new s) s.net.now ks after.queue.tried)
      (drop_all after.queue.at after.queue.candidates.items l) in
      takes_none new all (agenda_children rules nest new s after)
      (agenda_next ∙ ap (λ xs. xs ++ agenda_children rules nest new s after)
      (ap (children_in new) (none_made child none)))
      (ap₂ ◌++◌ (takes.all (none_made child none)) empty)

-- an agenda whose choice and queue are as they must be is one
pub agenda_from : (rules : List Rule) (n : ℕ) (s : SearchNode) (before after : Agenda) → IsQueue rules s before.queue
    → MaybeChoice n s after.open → after.queue ≡ before.queue → IsAgenda rules n s after
agenda_from rules n s before after queue choice same =
    record { choice = choice; queue = subst (IsQueue rules s) (sym same) queue }
