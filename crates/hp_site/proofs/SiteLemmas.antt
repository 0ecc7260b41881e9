-- Moments of the search node that is reached, and what is kept up to them.
use Rattle.std.proofs.Common.{◌≡◌, ℕ, ◌≤◌, ℤ, List, length, take, refl, sym, ◌∙◌, ap, ap₂, subst, arith}
use Rattle.std.proofs.Math.Seq.{take-length, take-take}
use Rattle.hp_links.specs.Linked.{Linked}
use Rattle.hp_tree.specs.SearchNodes.{HeldNode}
use Rattle.hp_world.specs.Histories.{History, mark_of, undone_to}
use Rattle.hp_world.specs.Pasts.{PastsBelow}
use Rattle.hp_world.specs.Recorded.{history_in}
use Rattle.hp_world.specs.Stages.{AllBelow, Stage, live_atoms}
use Rattle.hp_world.proofs.PastLemmas.{past_end, pasts_undone}
use Rattle.hp_site.specs.declared.mark.Mark.{Mark}
use Rattle.hp_site.specs.declared.site.Site.{Site}
use Rattle.hp_site.specs.Sites.{AtomsWithin, IsMark, IsWithin, Keeps, held_at, held_now, mark_now}

-- a search node by its parts
held_by : Stage → Linked → List ℕ → ℤ → ℕ → HeldNode
held_by stage network steps cost depth = record {
  stage = stage;
  network = network;
  steps = steps;
  cost = cost;
  depth = depth;
}

-- lists that begin alike begin alike up to an earlier end
pub begin_alike : {A : Type 0} (k m : ℕ) (xs ys : List A) → k ≤ m → take m xs ≡ take m ys → take k xs ≡ take k ys
begin_alike k m xs ys l e = sym (take-take k m xs l) ∙ (ap (take k) e ∙ take-take k m ys l)

-- ---- moments

-- the search node at this moment is that of now
pub held_is_now : (s : Site) → held_at s (mark_now s) ≡ held_now s
unfolding held_by
held_is_now s =
    ap₂ (λ w n. held_by w n (take (length s.steps.items) s.steps.items) s.cost s.depth)
    (past_end (history_in s.scene.world) (mark_of (history_in s.scene.world)) (omega arith))
    (past_end s.net (mark_of s.net) (omega arith))
    ∙ ap (λ xs. held_by s.scene.world.now s.net.now xs s.cost s.depth) (take-length s.steps.items)

-- a moment isn't behind itself
pub within_itself : (m : Mark) → IsWithin m m
within_itself m = record { world = omega arith; net = omega arith; steps = omega arith }

-- a moment that isn't behind one that isn't behind a third isn't behind the third
pub within_after : (a b c : Mark) → IsWithin a b → IsWithin b c → IsWithin a c
within_after a b c h g = record {
  world = omega (arith, h.world, g.world);
  net = omega (arith, h.net, g.net);
  steps = omega (arith, h.steps, g.steps);
}

-- ---- what is kept

-- a site keeps all up to now
pub keeps_all : (s : Site) → Keeps (mark_now s) s s
keeps_all s = record {
  code = refl;
  mark = within_itself (mark_now s);
  world = λ k l. refl;
  net = λ k l. refl;
  steps = refl;
}

-- where a moment is kept, the search node of one that isn't behind it is the same
pub keeps_held : (m k : Mark) (old new : Site) → Keeps m old new → IsWithin k m → held_at new k ≡ held_at old k
unfolding held_by
keeps_held m k old new h l =
    let steps = begin_alike k.steps m.steps new.steps.items old.steps.items l.steps h.steps in
    ap₂ (λ w n. held_by w n (take k.steps new.steps.items) k.cost k.depth)
    (h.world k.world l.world) (h.net k.net l.net)
    ∙ ap (λ xs. held_by (held_at old k).stage (held_at old k).network xs k.cost k.depth) steps

-- where a moment is kept, one that isn't behind it is a moment of the site
pub keeps_mark : (m k : Mark) (old new : Site) → Keeps m old new → IsWithin k m → IsMark new k
keeps_mark m k old new h l = within_after k m (mark_now new) l h.mark

-- where a moment is kept, one that isn't behind it is kept
pub keeps_within : (m k : Mark) (old new : Site) → Keeps m old new → IsWithin k m → Keeps k old new
keeps_within m k old new h l = record {
  code = h.code;
  mark = keeps_mark m k old new h l;
  world = λ j p. h.world j (omega (arith, p, l.world));
  net = λ j p. h.net j (omega (arith, p, l.net));
  steps = begin_alike k.steps m.steps new.steps.items old.steps.items l.steps h.steps;
}

-- a moment that is kept twice is kept
pub keeps_after : (m : Mark) (a b c : Site) → Keeps m a b → Keeps m b c → Keeps m a c
keeps_after m a b c h g = record {
  code = g.code ∙ h.code;
  mark = g.mark;
  world = λ k l. g.world k l ∙ h.world k l;
  net = λ k l. g.net k l ∙ h.net k l;
  steps = g.steps ∙ h.steps;
}

-- where the moment of now is kept and is that of now again, the search node is the same
pub keeps_now : (old new : Site) → Keeps (mark_now old) old new → mark_now new ≡ mark_now old
    → held_now new ≡ held_now old
keeps_now old new h e =
    sym (held_is_now new)
    ∙ (ap (held_at new) e
    ∙ (keeps_held (mark_now old) (mark_now old) old new h (within_itself (mark_now old)) ∙ held_is_now old))

-- ---- atoms below a count

-- where a moment is kept, its atoms stay below a count
pub atoms_kept : (n : ℕ) (m : Mark) (old new : Site) → Keeps m old new
    → AtomsWithin n m.world (history_in old.scene.world) → AtomsWithin n m.world (history_in new.scene.world)
atoms_kept n m old new h below =
    λ k l. subst (λ (s : Stage). AllBelow n (live_atoms s.places)) (sym (h.world k l)) (below k l)

-- where the world is undone to a moment, all atoms are below a count that those up to it were below
pub atoms_undone : (n : ℕ) (m : Mark) (old new : Site)
    → history_in new.scene.world ≡ undone_to m.world (history_in old.scene.world)
    → AtomsWithin n m.world (history_in old.scene.world) → PastsBelow n (history_in new.scene.world)
atoms_undone n m old new e below =
    subst (PastsBelow n) (sym e) (pasts_undone n m.world (history_in old.scene.world) below)

-- where the atoms of all pasts are below a count, so are those up to a mark
pub pasts_within : (n m : ℕ) (h : History Stage) → PastsBelow n h → AtomsWithin n m h
pasts_within n m h below = λ k l. below k
