-- The next child of an agenda, step by step.
use Rattle.std.proofs.Common.{◌≡◌, ℕ, ◌<◌, ◌≤◌, true, false, List, [], ◌++◌, length, Option, Some, None, inl, inr, refl, sym, ◌∙◌, ap, ap₂, subst, append_assoc, arith}
use Rattle.std.specs.Prelude.{Box, is_some}
use Rattle.std.proofs.lemmas.Bool.{cases_lt}
use Rattle.std.proofs.lemmas.List.Elements.{All-weaker}
use Rattle.std.specs.Global.{Global}
use Rattle.hp_syntax.specs.Terms.{Term}
use Rattle.hp_eval.specs.Growth.{Grows}
use Rattle.hp_eval.proofs.GrowthLemmas.{grows_length}
use Rattle.hp_world.specs.Histories.{mark_of, past_at}
use Rattle.hp_world.specs.Pasts.{PastsBelow}
use Rattle.hp_world.specs.Recorded.{history_in}
use Rattle.hp_world.specs.Stages.{AllBelow, Stage, live_atoms}
use Rattle.hp_world.proofs.PastLemmas.{past_end}
use Rattle.hp_suspended.specs.declared.scene.Scene.{Scene}
use Rattle.hp_suspended.specs.SceneViews.{code_in}
use Rattle.hp_suspended.proofs.CallLemmas.{knows_grow}
use Rattle.hp_tree.specs.SearchNodes.{HeldNode, IsHeldNode, node_of}
use Rattle.hp_tree.proofs.SearchNodeLemmas.{node_grows, node_stays}
use Rattle.hp_site.specs.declared.site.Site.{Site}
use Rattle.hp_site.specs.Sites.{IsSite, Keeps, held_now, mark_now}
use Rattle.hp_site.proofs.SiteLemmas.{atoms_kept, keeps_after, keeps_now, pasts_within}
use Rattle.hp_choice.specs.declared.choice.Choice.{Choice}
use Rattle.hp_choice.specs.declared.choice.Given.{Given}
use Rattle.hp_choice.specs.Choices.{given_children}
use Rattle.hp_agenda.specs.declared.agenda.Agenda.{Agenda}
use Rattle.hp_agenda.specs.declared.queue.Queue.{Queue}
use Rattle.hp_agenda.specs.Agendas.{IsAgenda, TakesChild, TakesOpen, agenda_children}
use Rattle.hp_agenda.specs.Queues.{IsQueue, MaybeOpen, by_queue, if_open, queue_children, work_left}
use Rattle.hp_agenda.proofs.AgreeSteps.{agenda_in_scene, agenda_scene, code_same, open_in_scene, open_scene}
use Rattle.hp_agenda.proofs.QueueLemmas.{queue_ends}

-- ---- sites at the same moment

-- the moment of now is kept, and is that of now again
pub record Resumes (old new : Site) : Type 0 where
  pub keeps : Keeps (mark_now old) old new
  pub mark : mark_now new ≡ mark_now old

-- what is kept from a moment that is that of now again is kept from now
pub keeps_behind : (a b c : Site) → Resumes a b → Keeps (mark_now b) b c → Keeps (mark_now a) a c
keeps_behind a b c h k = keeps_after (mark_now a) a b c h.keeps (subst (λ m. Keeps m b c) h.mark k)

pub resumes_behind : (a b c : Site) → Resumes a b → Resumes b c → Resumes a c
resumes_behind a b c h k = record { keeps = keeps_behind a b c h k.keeps; mark = k.mark ∙ h.mark }

-- the search node is the same
pub resumed_node : (old new : Site) → Resumes old new → held_now new ≡ held_now old
resumed_node old new h = keeps_now old new h.keeps h.mark

-- the atoms of all pasts stay below a count
pub resumed_pasts : (n : ℕ) (old new : Site) → Resumes old new → PastsBelow n (history_in old.scene.world)
    → PastsBelow n (history_in new.scene.world)
resumed_pasts n old new h below m =
    let past = history_in new.scene.world in
    let last = mark_of past in
    let same : last ≡ mark_of (history_in old.scene.world) = ap (λ k. k.world) h.mark in
    let kept =
    atoms_kept n (mark_now old) old new h.keeps
    (pasts_within n (mark_now old).world (history_in old.scene.world) below) in
    elim (cases_lt last m) [
      | inl late ↦
          subst (λ (s : Stage). AllBelow n (live_atoms s.places))
          (past_end past last (omega arith) ∙ sym (past_end past m (omega (arith, late))))
          (kept last (omega (arith, same)))
      | inr soon ↦ kept m (omega (arith, soon, same))
    ]

-- where terms are added, each cell of a site stays one
pub site_grows : (old new : List Term) (s : Site) → Grows old new → IsSite old s → IsSite new s
site_grows old new s g is =
    let l = grows_length old new g in
    record {
      node = node_grows old new g (held_now s) is.node;
      pasts =
          λ m. All-weaker (λ c. c < length old) (λ c. c < length new) (λ c p. omega (arith, p, l))
          (live_atoms (past_at (history_in s.scene.world) m).places) (is.pasts m);
      knows = knows_grow s.scene old new g is.knows;
      stood = is.stood;
    }

-- a child that isn't there is none
pub given_none : (given : Option Given) → is_some given ≡ false → given ≡ None
given_none None e = refl
given_none (Some x) e = absurd cc

-- where a child is there, nothing follows from its being none
pub given_some : (given : Option Given) {X : Type 0} → is_some given ≡ true → given ≡ None → X
given_some None e h = absurd cc
given_some (Some x) e h = absurd cc

-- ---- scenes of the same code, and the same search node

module _ (s t : Scene) (code : s.code ≡ t.code) (h g : HeldNode) (node : h ≡ g) where
  pub open_at : (terms : List Term) (base n : ℕ) (o : Option (Box Choice Global)) → MaybeOpen s terms base n h o
      → MaybeOpen t terms base n g o
  open_at terms base n o is =
      subst (λ k. MaybeOpen t terms base n k o) node (open_in_scene s t code terms base n h o is)

  pub queue_at : (q : Queue) → IsQueue (code_in s) h q → IsQueue (code_in t) g q
  queue_at q is =
      subst (λ k. IsQueue (code_in t) k q) node (subst (λ k. IsQueue k h q) (code_same s t code) is)

  pub agenda_at : (terms : List Term) (base n : ℕ) (a : Agenda) → IsAgenda s terms base n h a
      → IsAgenda t terms base n g a
  agenda_at terms base n a is =
      subst (λ k. IsAgenda t terms base n k a) node (agenda_in_scene s t code terms base n h a is)

  pub queue_children_at : (nest : ℕ) (terms : List Term) (q : Queue)
      → queue_children (code_in s) nest (node_of terms h) h.network q
      ≡ queue_children (code_in t) nest (node_of terms g) g.network q
  queue_children_at nest terms q =
      ap₂ (λ c k. queue_children c nest (node_of terms k) k.network q) (code_same s t code) node

  pub work_at : (q : Queue) → work_left (code_in s) h.network q ≡ work_left (code_in t) g.network q
  work_at q = ap₂ (λ c k. work_left c k.network q) (code_same s t code) node

  pub agenda_children_at : (nest : ℕ) (terms : List Term) (a : Agenda)
      → agenda_children s nest terms h a ≡ agenda_children t nest terms g a
  agenda_children_at nest terms a =
      agenda_scene s t code nest terms h a ∙ ap (λ k. agenda_children t nest terms k a) node

  pub takes_at : (nest : ℕ) (old new : List Term) (before : Option (Box Choice Global)) (given : Option Given)
      (child : HeldNode) (left : Option (Box Choice Global)) → TakesOpen s nest old new h before given child left
      → TakesOpen t nest old new g before given child left
  takes_at nest old new before given child left takes =
      subst (λ k. TakesOpen t nest old new k before given child left) node (record {
        next =
            sym (open_scene s t code nest old h before)
            ∙ (takes.next
            ∙ ap (λ xs. given_children new child given ++ xs) (open_scene s t code nest new h left));
        all = λ e. sym (open_scene s t code nest new h left) ∙ takes.all e;
      })

-- ---- the next child

module _ (s : Scene) (nest : ℕ) (first old new : List Term) (g : Grows old new) (h : HeldNode)
    (node : IsHeldNode (length old) h) (start before after : Agenda) (given : Option Given) (child : HeldNode)
    (so_far : agenda_children s nest first h start ≡ agenda_children s nest old h before)
    (takes : TakesOpen s nest old new h before.open given child after.open) (same : after.queue ≡ before.queue) where
  -- the queue is left behind what is left of the open choice
  agenda_next : agenda_children s nest first h start
      ≡ given_children new child given ++ agenda_children s nest new h after
  agenda_next =
      so_far
      ∙ (ap (λ xs. xs ++ queue_children (code_in s) nest (node_of old h) h.network before.queue) takes.next
      ∙ (append_assoc (given_children new child given) (if_open s nest new h after.open)
      (queue_children (code_in s) nest (node_of old h) h.network before.queue)
      ∙ ap₂ (λ n q. given_children new child given ++ (if_open s nest new h after.open
      ++ queue_children (code_in s) nest n h.network q)) (sym (node_stays old new g h node)) (sym same)))

  -- a child of the open choice is taken
  pub agenda_takes : is_some given ≡ true → TakesChild s nest first new h start given child after
  agenda_takes some = record { next = agenda_next; all = λ e. given_some given some e }

  -- where the open choice has none, the queue is left
  pub agenda_passes : given ≡ None
      → agenda_children s nest first h start
      ≡ queue_children (code_in s) nest (node_of new h) h.network after.queue
  agenda_passes none =
      agenda_next
      ∙ ap₂ (λ xs ys. xs ++ (ys ++ queue_children (code_in s) nest (node_of new h) h.network after.queue))
      (ap (given_children new child) none) (takes.all none)

  -- where no candidate is left either, nothing is
  pub agenda_ends : given ≡ None → IsQueue (code_in s) h after.queue
      → length after.queue.candidates.items ≤ after.queue.at → TakesChild s nest first new h start None child after
  agenda_ends none is l =
      let empty : queue_children (code_in s) nest (node_of new h) h.network after.queue ≡ [] =
      ap (by_queue (code_in s) nest (node_of new h) h.network after.queue.rules.now)
      (queue_ends (code_in s) h after.queue is l) in
      record {
        next = agenda_next ∙ ap (λ o. given_children new child o ++ agenda_children s nest new h after) none;
        all = λ e. ap₂ ◌++◌ (takes.all none) empty;
      }
