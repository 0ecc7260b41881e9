-- What applying an operator's changes to the world of a site comes to, and what finishing its task does.
use Rattle.std.proofs.Common.{◌≡◌, ℕ, ◌-◌, ℤ, ◌+ℤ◌, Vec, List, [], ◌∷◌, ◌++◌, length, refl, ap, ap₂, arith}
use Rattle.std.specs.Global.{Global}
use Rattle.hp_syntax.specs.Applying.{AppliedOf, Guarded, Now}
use Rattle.hp_syntax.specs.Changes as changes
use Rattle.hp_syntax.specs.Networks.{Place, finish}
use Rattle.hp_syntax.specs.Terms.{Term}
use Rattle.hp_syntax.specs.Walk.{DidChild, Node, operated}
use Rattle.hp_effect.specs.Puts.{IsApplied}
use Rattle.hp_links.specs.Linked.{Linked, focused}
use Rattle.hp_tree.specs.SearchNodes.{node_of}
use Rattle.hp_tree.proofs.SearchNodeLemmas.{node_is}
use Rattle.hp_world.specs.Answers.{Gives}
use Rattle.hp_world.specs.Histories.{History, KeepsPasts}
use Rattle.hp_world.specs.Pasts.{PastsBelow}
use Rattle.hp_world.specs.Recorded.{IndexesStood, Knows, Recorded, history_in}
use Rattle.hp_world.specs.Stages.{Stage, StageBelow, guards_of, state_of, terms_at}
use Rattle.hp_world.specs.declared.store.Applied.{Applied}
use Rattle.hp_world.specs.declared.store.Applied.TheVariants.{Done, Guarded as WasGuarded}
use Rattle.hp_site.specs.declared.site.Site.{Site}
use Rattle.hp_site.specs.Sites.{IsSite, Keeps, MakesChild, held_now, mark_now}

-- a site with another world
abbrev pub with_world : Site → Recorded → Site
with_world s w = record s { scene = record s.scene { world = w } }

-- its cells are cells where those of the world are
pub site_with : (terms : List Term) (s : Site) (w : Recorded) → IsSite terms s → StageBelow (length terms) w.now
    → PastsBelow (length terms) (history_in w) → Knows terms w → IndexesStood w → IsSite terms (with_world s w)
site_with terms s w is stage pasts knows stood = record {
  node =
      record {
        stage = stage;
        network = is.node.network;
        steps = is.node.steps;
        depth = is.node.depth;
        low = is.node.low;
        high = is.node.high;
      };
  pasts = pasts;
  knows = knows;
  stood = stood;
}

-- it keeps all up to now where the world keeps its pasts
pub keeps_with : (s : Site) (w : Recorded) → KeepsPasts (history_in s.scene.world) (history_in w)
    → Keeps (mark_now s) s (with_world s w)
keeps_with s w keeps = record {
  code = refl;
  mark = record { world = keeps.mark; net = omega arith; steps = omega arith };
  world = keeps.past;
  net = λ k l. refl;
  steps = refl;
}

-- where applying is done, it gives what stands then
pub applied_done : (terms : List Term) (stage : Stage) (a : Applied) (x : changes.Applied) → a ≡ Done
    → IsApplied a terms stage x → Now (state_of terms stage) (guards_of terms stage) ≡ x
applied_done terms stage Done (Now s g) e h = ap₂ Now h.0 h.1
applied_done terms stage Done (Guarded d) e h = absurd h
applied_done terms stage (WasGuarded d) x e h = absurd cc

-- where it meets what is protected, there is no child
pub applied_guarded : (terms : List Term) (stage : Stage) (a : Applied) (atom : ℕ) (x : changes.Applied) (n : Node)
    (p : Place) (task : Term) (cost : ℤ) → a ≡ WasGuarded atom → IsApplied a terms stage x
    → operated n p task cost x ≡ []
applied_guarded terms stage Done atom x n p task cost e h = absurd cc
applied_guarded terms stage (WasGuarded a) atom (Now s g) n p task cost e h = absurd h
applied_guarded terms stage (WasGuarded a) atom (Guarded d) n p task cost e h = refl

-- where it is done, the pasts are kept
pub done_keeps : (a : Applied) (x : AppliedOf ℕ) (old new : History Stage) → a ≡ Done → Gives a x old new
    → KeepsPasts old new
done_keeps Done (Now s g) old new e h = h.2
done_keeps Done (Guarded d) old new e h = absurd h
done_keeps (WasGuarded d) x old new e h = absurd cc

-- where it meets what is protected, the world is as it was
pub guarded_same : (a : Applied) (atom : ℕ) (x : AppliedOf ℕ) (old new : History Stage) → a ≡ WasGuarded atom
    → Gives a x old new → new ≡ old
guarded_same Done atom x old new e h = absurd cc
guarded_same (WasGuarded a) atom (Now s g) old new e h = absurd h
guarded_same (WasGuarded a) atom (Guarded d) old new e h = h.1

-- a site whose task is taken out of its network, with one step and its cost more, is the child by that task
pub finished : (terms : List Term) (s : Site) (net : History Linked) (steps : Vec ℕ Global) (cost : ℤ) (p : Place)
    (task : Term) (more : ℤ) → focused terms net.now ≡ finish (focused terms s.net.now).0 p
    → terms_at terms steps.items ≡ terms_at terms s.steps.items ++ task ∷ [] → cost ≡ s.cost +ℤ more
    → MakesChild terms (record s { net = net; steps = steps; cost = cost; depth = s.depth - 1 })
    (operated (node_of terms (held_now s)) p task more
    (Now (state_of terms s.scene.world.now) (guards_of terms s.scene.world.now)))
finished terms s net steps cost p task more e f g =
    let new : Site = record s { net = net; steps = steps; cost = cost; depth = s.depth - 1 } in
    ap (λ n. DidChild n ∷ []) (node_is terms (held_now new) _ refl refl e f g refl)
