-- Children of agendas over terms that agree below a count, and by scenes of the same code.
use Rattle.std.proofs.Common.{◌≡◌, ℕ, ◌≤◌, List, [], ◌++◌, take, Option, Some, None, refl, ap, ap₂, subst, arith}
use Rattle.std.specs.Prelude.{Box, flat_map}
use Rattle.std.specs.Global.{Global}
use Rattle.hp_syntax.specs.Terms.{Term}
use Rattle.hp_syntax.specs.Walk.{child_of}
use Rattle.hp_code.specs.CodeViews.{CodeView}
use Rattle.hp_code.specs.Codes.{code_of}
use Rattle.hp_eval.specs.GoalViews.{term_at}
use Rattle.hp_eval.specs.SlotLaws.{bindings_agree}
use Rattle.hp_eval.specs.Slotted.{bindings_of}
use Rattle.hp_precondition.specs.PickedLaws.{picked_hold, picked_same_base, picked_same_cells}
use Rattle.hp_precondition.specs.Picks.{PickedSuits, picked_kept, picked_rest}
use Rattle.hp_world.specs.Stages.{Stage}
use Rattle.hp_suspended.specs.declared.scene.Scene.{Scene}
use Rattle.hp_suspended.specs.SceneViews.{code_in}
use Rattle.hp_tree.specs.Children.{place_in}
use Rattle.hp_tree.specs.SearchNodes.{HeldNode, IsHeldNode, node_of}
use Rattle.hp_site.proofs.AgreeLemmas.{held_agrees, term_agrees}
use Rattle.hp_site.proofs.SiteLemmas.{begin_alike}
use Rattle.hp_choice.specs.declared.choice.Choice.{Choice}
use Rattle.hp_choice.specs.Choices.{FirstFits, IsChoice, events_left, first_before, held_children, scene_at}
use Rattle.hp_choice.specs.Deeds.{IsDeedIn, deed_done}
use Rattle.hp_agenda.specs.declared.agenda.Agenda.{Agenda}
use Rattle.hp_agenda.specs.declared.queue.Queue.{Queue}
use Rattle.hp_agenda.specs.Agendas.{IsAgenda, agenda_children}
use Rattle.hp_agenda.specs.Queues.{IsQueue, MaybeOpen, if_open, queue_children}

-- ---- terms that agree below a count

-- the events that are left of a choice are the same
events_agree : (n : ℕ) (c d : List Term) (s : Scene) (h : HeldNode) (x : Choice) → IsChoice s c n h.stage x
    → take n c ≡ take n d → events_left s c h.stage x ≡ events_left s d h.stage x
events_agree n c d s h x is same =
    let kept = begin_alike (picked_kept x.sats) n c d is.kept same in
    ap₂ (first_before x.first)
    (bindings_agree (picked_kept x.sats) c d x.slots (picked_hold x.sats x.slots is.fits).1 kept)
    (picked_same_cells x.sats (scene_at s h.stage) c d x.slots is.suits is.fits kept)

-- the children of a choice are the same
pub choice_agrees : (n : ℕ) (c d : List Term) (s : Scene) (nest : ℕ) (h : HeldNode) (x : Choice) → IsHeldNode n h
    → IsChoice s c n h.stage x → take n c ≡ take n d → held_children s nest c h x ≡ held_children s nest d h x
choice_agrees n c d s nest h x node is same =
    ap₂ (λ f xs. flat_map (child_of f) xs)
    (ap₂ (λ m t. deed_done (code_in s) nest m (place_in h.network x.id) t x.deed) (held_agrees n c d h node same)
    (term_agrees n c d same x.task is.task))
    (events_agree n c d s h x is same)

-- so are those of a choice, if one is open
pub open_agrees : (n : ℕ) (c d : List Term) (s : Scene) (nest base : ℕ) (h : HeldNode) (o : Option (Box Choice Global))
    → IsHeldNode n h → MaybeOpen s c base n h o → take n c ≡ take n d → if_open s nest c h o ≡ if_open s nest d h o
open_agrees n c d s nest base h None node is same = refl
open_agrees n c d s nest base h (Some x) node is same = choice_agrees n c d s nest h x.value node is.choice same

-- so are those of a queue
pub queue_agrees : (n : ℕ) (c d : List Term) (k : CodeView) (nest : ℕ) (h : HeldNode) (q : Queue) → IsHeldNode n h
    → take n c ≡ take n d
    → queue_children k nest (node_of c h) h.network q ≡ queue_children k nest (node_of d h) h.network q
queue_agrees n c d k nest h q node same =
    ap (λ m. queue_children k nest m h.network q) (held_agrees n c d h node same)

-- so are those of an agenda
pub agenda_agrees : (n : ℕ) (c d : List Term) (s : Scene) (nest base : ℕ) (h : HeldNode) (a : Agenda)
    → IsHeldNode n h → IsAgenda s c base n h a → take n c ≡ take n d
    → agenda_children s nest c h a ≡ agenda_children s nest d h a
agenda_agrees n c d s nest base h a node is same =
    ap₂ (λ xs ys. xs ++ ys) (open_agrees n c d s nest base h a.open node is.choice same)
    (queue_agrees n c d (code_in s) nest h a.queue node same)

-- a choice stays one
pub choice_below : (n : ℕ) (c d : List Term) (s : Scene) (h : HeldNode) (x : Choice) → IsChoice s c n h.stage x
    → take n c ≡ take n d → IsChoice s d n h.stage x
choice_below n c d s h x is same =
    let kept = begin_alike (picked_kept x.sats) n c d is.kept same in
    record {
      task = is.task;
      deed = is.deed;
      suits = picked_same_base x.sats (scene_at s h.stage) c d is.suits kept;
      fits = is.fits;
      kept = is.kept;
      live = is.live;
      opened = is.opened;
      first =
          subst (FirstFits x.first)
          (picked_same_cells x.sats (scene_at s h.stage) c d x.slots is.suits is.fits kept) is.first;
    }

-- so does one that is open, if it is
pub open_below : (n : ℕ) (c d : List Term) (s : Scene) (base : ℕ) (h : HeldNode) (o : Option (Box Choice Global))
    → MaybeOpen s c base n h o → take n c ≡ take n d → MaybeOpen s d base n h o
open_below n c d s base h None is same = tt
open_below n c d s base h (Some x) is same = record {
  choice = choice_below n c d s h x.value is.choice same;
  candidate = is.candidate;
  kept = is.kept;
  deep = is.deep;
}

-- and an agenda
pub agenda_below : (n : ℕ) (c d : List Term) (s : Scene) (base : ℕ) (h : HeldNode) (a : Agenda)
    → IsAgenda s c base n h a → take n c ≡ take n d → IsAgenda s d base n h a
agenda_below n c d s base h a is same =
    record { choice = open_below n c d s base h a.open is.choice same; queue = is.queue }

-- ---- other counts

-- cells below a count are below a greater one, and satisfiers keep no fewer than a smaller number
pub open_within : (s : Scene) (terms : List Term) (base low n m : ℕ) (h : HeldNode) (o : Option (Box Choice Global))
    → MaybeOpen s terms base n h o → low ≤ base → n ≤ m → MaybeOpen s terms low m h o
open_within s terms base low n m h None is l k = tt
open_within s terms base low n m h (Some x) is l k = record {
  choice = record {
    task = omega (arith, is.choice.task, k);
    deed = is.choice.deed;
    suits = is.choice.suits;
    fits = is.choice.fits;
    kept = omega (arith, is.choice.kept, k);
    live = is.choice.live;
    opened = is.choice.opened;
    first = is.choice.first;
  };
  candidate = is.candidate;
  kept = omega (arith, is.kept, l);
  deep = is.deep;
}

pub agenda_within : (s : Scene) (terms : List Term) (base low n m : ℕ) (h : HeldNode) (a : Agenda)
    → IsAgenda s terms base n h a → low ≤ base → n ≤ m → IsAgenda s terms low m h a
agenda_within s terms base low n m h a is l k =
    record { choice = open_within s terms base low n m h a.open is.choice l k; queue = is.queue }

-- ---- scenes of the same code

-- scenes of the same code are the same at a stage
scene_same : (s t : Scene) (g : Stage) → s.code ≡ t.code → scene_at s g ≡ scene_at t g
scene_same s t g e = ap (λ k. record s { world = record { past = []; now = g; parts = [] }; code = k }) e

pub code_same : (s t : Scene) → s.code ≡ t.code → code_in s ≡ code_in t
code_same s t e = ap (λ k. code_of k.now) e

-- the children of a choice are the same
pub choice_scene : (s t : Scene) → s.code ≡ t.code → (nest : ℕ) (terms : List Term) (h : HeldNode) (x : Choice)
    → held_children s nest terms h x ≡ held_children t nest terms h x
choice_scene s t e nest terms h x =
    ap₂ (λ k b. flat_map
    (child_of (deed_done k nest (node_of terms h) (place_in h.network x.id) (term_at terms x.task) x.deed))
    (first_before x.first (bindings_of terms x.slots) (picked_rest x.sats b terms x.slots)))
    (code_same s t e) (scene_same s t h.stage e)

-- so are those of a choice, if one is open
pub open_scene : (s t : Scene) → s.code ≡ t.code → (nest : ℕ) (terms : List Term) (h : HeldNode)
    (o : Option (Box Choice Global)) → if_open s nest terms h o ≡ if_open t nest terms h o
open_scene s t e nest terms h None = refl
open_scene s t e nest terms h (Some x) = choice_scene s t e nest terms h x.value

-- so are those of an agenda
pub agenda_scene : (s t : Scene) → s.code ≡ t.code → (nest : ℕ) (terms : List Term) (h : HeldNode) (a : Agenda)
    → agenda_children s nest terms h a ≡ agenda_children t nest terms h a
agenda_scene s t e nest terms h a =
    ap₂ (λ xs k. xs ++ queue_children k nest (node_of terms h) h.network a.queue)
    (open_scene s t e nest terms h a.open) (code_same s t e)

-- a choice of a scene is one of a scene of the same code
pub choice_in_scene : (s t : Scene) → s.code ≡ t.code → (terms : List Term) (n : ℕ) (g : Stage) (x : Choice)
    → IsChoice s terms n g x → IsChoice t terms n g x
choice_in_scene s t e terms n g x is = record {
  task = is.task;
  deed = subst (λ k. IsDeedIn k x.deed) (code_same s t e) is.deed;
  suits = subst (λ b. PickedSuits x.sats b terms) (scene_same s t g e) is.suits;
  fits = is.fits;
  kept = is.kept;
  live = is.live;
  opened = is.opened;
  first = subst (λ b. FirstFits x.first (picked_rest x.sats b terms x.slots)) (scene_same s t g e) is.first;
}

-- so is one that is open, if it is
pub open_in_scene : (s t : Scene) → s.code ≡ t.code → (terms : List Term) (base n : ℕ) (h : HeldNode)
    (o : Option (Box Choice Global)) → MaybeOpen s terms base n h o → MaybeOpen t terms base n h o
open_in_scene s t e terms base n h None is = tt
open_in_scene s t e terms base n h (Some x) is = record {
  choice = choice_in_scene s t e terms n h.stage x.value is.choice;
  candidate = is.candidate;
  kept = is.kept;
  deep = is.deep;
}

-- and an agenda
pub agenda_in_scene : (s t : Scene) → s.code ≡ t.code → (terms : List Term) (base n : ℕ) (h : HeldNode) (a : Agenda)
    → IsAgenda s terms base n h a → IsAgenda t terms base n h a
agenda_in_scene s t e terms base n h a is = record {
  choice = open_in_scene s t e terms base n h a.open is.choice;
  queue = subst (λ k. IsQueue k h a.queue) (code_same s t e) is.queue;
}
