-- The views of the variants of what is suspended, and of its parts.
use Rattle.std.proofs.Common.{◌≡◌, ℕ, Vec, Box, Global, Option, Some, None, ap, ◌∙◌}
use Rattle.hp_eval.specs.declared.event.Event as public_event
use Rattle.hp_eval.specs.declared.goals.Goal.{Goal}
use Rattle.hp_suspended.specs.declared.suspended.Part.{Part}
use Rattle.hp_suspended.specs.declared.suspended.Running.{Running}
use Rattle.hp_suspended.specs.declared.suspended.SimpleAtom.{SimpleAtom}
use Rattle.hp_suspended.specs.declared.suspended.Suspended.{Suspended, out-Suspended}
use Rattle.hp_suspended.specs.declared.suspended.Suspended.TheViews as made
use Rattle.hp_suspended.specs.declared.suspended.Suspended.TheVariants.{outs-One, outs-Fresh, outs-Simple, outs-Search, outs-Conj, outs-Disj}
use Rattle.hp_suspended.specs.declared.suspended.Suspended.TheVariants as variants
use Rattle.hp_suspended.specs.declared.suspended.Suspended.TheFolds.{fold_out-Suspended, fold_out-Part, fold_out-Running, map-Suspended}
use Rattle.hp_suspended.specs.declared.suspended.Suspended.TheOpen.{Suspended-F}
use Rattle.hp_suspended.specs.Views.{View, Storey, Level, One, Fresh, Simple, Search, Conj, Disj, view, views, storey, level_of, level_at, running_view, view_layer, storey_layer, level_layer}

-- the view of a variant, by the views of its parts
layered : Suspended-F Suspended Part Running → View
layered x = view_layer (map-Suspended Suspended Part Running View Storey Level view storey level_of x)

by_layer : (s : Suspended) (x : Suspended-F Suspended Part Running) → out-Suspended s ≡ x → view s ≡ layered x
unfolding layered view storey level_of
by_layer s x h =
    fold_out-Suspended View Storey Level view_layer storey_layer level_layer s
    ∙ ap (λ y. view_layer (map-Suspended Suspended Part Running View Storey Level view storey level_of y)) h

pub view_one : (m : ℕ) (e : public_event.Event) → view (variants.One m e) ≡ One m e
unfolding layered
view_one m e = by_layer (variants.One m e) _ (outs-One m e)

pub view_fresh : (m n i : ℕ) → view (variants.Fresh m n i) ≡ Fresh m n i
unfolding layered
view_fresh m n i = by_layer (variants.Fresh m n i) _ (outs-Fresh m n i)

pub view_simple : (a : SimpleAtom) → view (variants.Simple a) ≡ Simple a
unfolding layered
view_simple a = by_layer (variants.Simple a) _ (outs-Simple a)

pub view_search : (m n : ℕ) (q : Goal) (i r : ℕ) (o : Option (Box Running Global))
    → view (made.Search m n q i r o) ≡ Search m n q i r (running_view o)
unfolding layered
view_search m n q i r None = by_layer (made.Search m n q i r None) _ (outs-Search m n q i r None)
view_search m n q i r (Some b) = by_layer (made.Search m n q i r (Some b)) _ (outs-Search m n q i r (Some b))

pub view_conj : (m n k e : ℕ) (o : Vec Part Global) (h : Box Suspended Global)
    → view (made.Conj m n k e o h) ≡ Conj m n k e (views o.items) (view h.value)
unfolding layered
view_conj m n k e o h = by_layer (made.Conj m n k e o h) _ (outs-Conj m n k e o h)

pub view_disj : (m n k e : ℕ) (h : Box Suspended Global) → view (made.Disj m n k e h) ≡ Disj m n k e (view h.value)
unfolding layered
view_disj m n k e h = by_layer (made.Disj m n k e h) _ (outs-Disj m n k e h)

-- a part is its view with the node of the part behind it
pub storey_is : (p : Part) → storey p ≡ record { next = p.next; top = view p.part }
unfolding view storey level_of
storey_is p = fold_out-Part View Storey Level view_layer storey_layer level_layer p

-- an axiom that is looked at is the views of its fields
pub level_is : (r : Running) → level_of r ≡ level_at r
unfolding view storey level_of
level_is r = fold_out-Running View Storey Level view_layer storey_layer level_layer r
