-- The search node that is reached, and those of its pasts.
use Rattle.std.specs.Prelude.{◌≡◌, ℕ, ◌≤◌, List, [], ◌∷◌, length, take}
use Rattle.hp_syntax.specs.Terms.{Term}
use Rattle.hp_syntax.specs.Walk.{Child, DidChild}
use Rattle.hp_world.specs.declared.store.Applied.{Applied}
use Rattle.hp_world.specs.declared.store.Applied.TheVariants.{Done, Guarded}
use Rattle.hp_world.specs.Histories.{History, mark_of, past_at}
use Rattle.hp_world.specs.Pasts.{PastsBelow}
use Rattle.hp_world.specs.Recorded.{IndexesStood, Knows, history_in}
use Rattle.hp_world.specs.Stages.{AllBelow, Stage, live_atoms}
use Rattle.hp_tree.specs.SearchNodes.{HeldNode, IsHeldNode, node_of}
use Rattle.hp_site.specs.declared.mark.Mark.{Mark}
use Rattle.hp_site.specs.declared.site.Site.{Site}

-- ---- moments

-- the search node now
abbrev pub held_now : Site → HeldNode
held_now s = record {
  stage = s.scene.world.now;
  network = s.net.now;
  steps = s.steps.items;
  cost = s.cost;
  depth = s.depth;
}

-- that of a moment
abbrev pub held_at : Site → Mark → HeldNode
held_at s m = record {
  stage = past_at (history_in s.scene.world) m.world;
  network = past_at s.net m.net;
  steps = take m.steps s.steps.items;
  cost = m.cost;
  depth = m.depth;
}

-- this moment
abbrev pub mark_now : Site → Mark
mark_now s = record {
  world = mark_of (history_in s.scene.world);
  net = mark_of s.net;
  steps = length s.steps.items;
  cost = s.cost;
  depth = s.depth;
}

-- a moment isn't behind another
pub record IsWithin (m k : Mark) : Type 0 where
  pub world : m.world ≤ k.world
  pub net : m.net ≤ k.net
  pub steps : m.steps ≤ k.steps

-- a moment of a site is one that isn't behind this one
abbrev pub IsMark : Site → Mark → Type 0
IsMark s m = IsWithin m (mark_now s)

-- the search nodes up to a moment are kept, and so is the code
pub record Keeps (m : Mark) (old new : Site) : Type 0 where
  pub code : new.scene.code ≡ old.scene.code
  pub mark : IsMark new m
  pub world : (k : ℕ) → k ≤ m.world → past_at (history_in new.scene.world) k ≡ past_at (history_in old.scene.world) k
  pub net : (k : ℕ) → k ≤ m.net → past_at new.net k ≡ past_at old.net k
  pub steps : take m.steps new.steps.items ≡ take m.steps old.steps.items

-- ---- cells

-- the atoms up to a moment are below a count
abbrev pub AtomsWithin : ℕ → ℕ → History Stage → Type 0
AtomsWithin n m h = (k : ℕ) → k ≤ m → AllBelow n (live_atoms (past_at h k).places)

-- each cell of the search node and of the world's pasts is one, and the indexes of the world know their atoms
pub record IsSite (terms : List Term) (s : Site) : Type 0 where
  pub node : IsHeldNode (length terms) (held_now s)
  pub pasts : PastsBelow (length terms) (history_in s.scene.world)
  pub knows : Knows terms s.scene.world
  pub stood : IndexesStood s.scene.world

-- ---- children

-- the search node is the one child
abbrev pub MakesChild : List Term → Site → List Child → Type 0
MakesChild terms s children = DidChild (node_of terms (held_now s)) ∷ [] ≡ children

-- the search node is the one child, or where the changes are guarded there is none, and all is as it was
abbrev pub Operates : List Term → Site → Applied → Site → List Child → Type 0
Operates terms old Done new children = MakesChild terms new children
Operates terms old (Guarded a) new children = (children ≡ []) × (mark_now new ≡ mark_now old)
