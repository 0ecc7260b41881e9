-- Bindings over terms that agree below a count, and slots without further bindings.
use Rattle.std.specs.Prelude.{◌≡◌, ℕ, suc, ◌<◌, List, [], ◌∷◌, length, map, take, Option, Some, None, slice_get, refl}
use Rattle.std.proofs.Common.{sym, ◌∙◌, ap, ap₂, subst}
use Rattle.std.proofs.Math.Seq.{take-length, drop-length}
use Rattle.hp_cells.proofs.PlaceLemmas.{stays}
use Rattle.hp_syntax.specs.Terms.{Term}
use Rattle.hp_eval.specs.Slotted.{Slotted, slotted, AreBelow, without, undone, named, bindings_of}

-- cells below a count name the same among terms that agree below it
values_agree : (n : ℕ) (c d : List Term) → take n c ≡ take n d → (vs : List (Option ℕ))
    → ((v cell : ℕ) → slice_get vs v ≡ Some (Some cell) → cell < n) → map (named c) vs ≡ map (named d) vs
values_agree n c d h [] below = refl
values_agree n c d h (None ∷ vs) below =
    ap (λ os. None ∷ os) (values_agree n c d h vs (λ v cell k. below (suc v) cell k))
values_agree n c d h (Some cell ∷ vs) below =
    ap₂ (λ o os. o ∷ os)
    (sym (stays n c cell (below 0 cell refl)) ∙ (ap (λ ts. slice_get ts cell) h ∙ stays n d cell (below 0 cell refl)))
    (values_agree n c d h vs (λ v cell k. below (suc v) cell k))

-- bindings are the same over terms that agree below a count, where their cells are below it
pub bindings_agree : (n : ℕ) (c d : List Term) (e : Slotted) → AreBelow n e → take n c ≡ take n d
    → bindings_of c e ≡ bindings_of d e
bindings_agree n c d e below h = values_agree n c d h e.values below

-- slots with no more bindings than a mark are as they were then
pub undone_whole : (n : ℕ) (e : Slotted) → length e.trail ≡ n → undone n e ≡ e
undone_whole n e h =
    subst (λ m. undone m e ≡ e) h
    (ap₂ slotted (ap (λ vs. without vs e.values) (drop-length e.trail)) (take-length e.trail))
