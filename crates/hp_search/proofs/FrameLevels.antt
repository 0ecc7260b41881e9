-- The frames of a search as the levels of a stack.
use Rattle.std.proofs.Common.{◌≡◌, ℕ, ◌-◌, Bool, List, [], ◌∷◌, ◌++◌, length, map, reverse, refl, ap, arith}
use Rattle.std.proofs.lemmas.List.{length-append, length-map, length-reverse, nil_from_length, reverse-append}
use Rattle.hp_syntax.specs.Syntax.{Rule}
use Rattle.hp_syntax.specs.Terms.{Term}
use Rattle.hp_syntax.specs.Walk.{Node}
use Rattle.hp_tree.specs.Successors.{Successor}
use Rattle.hp_tree.specs.Stacks.{Level, Stack, given_at, path_to, root_of}
use Rattle.hp_site.specs.declared.site.Site.{Site}
use Rattle.hp_agenda.specs.declared.frame.Frame.{Frame}
use Rattle.hp_agenda.specs.Frames.{level_of}
use Rattle.hp_search.specs.Searches.{levels_of, root_base}

-- a level by its parts
abbrev pub level_by : Node → List Successor → Level
level_by n cs = record { node = n; left = cs }

-- a stack by its parts
abbrev pub stack_by : Level → List Level → Bool → Bool → Stack
stack_by l ls d o = record { top = l; above = ls; at_did = d; over = o }

-- frames with one more are levels, of which that is the nearest
pub levels_push : (site : Site) (nest : ℕ) (terms : List Term) (fs : List Frame) (f : Frame)
    → levels_of site nest terms (fs ++ f ∷ []) ≡ level_of site nest terms f ∷ levels_of site nest terms fs
levels_push site nest terms fs f = ap (map (level_of site nest terms)) (reverse-append fs (f ∷ []))

-- a root is told by the node of its level
pub root_node : (l k : Level) (ls : List Level) → l.node ≡ k.node → root_of l ls ≡ root_of k ls
root_node l k [] e = e
root_node l k (j ∷ ls) e = refl

-- the root was reached at as many cells where another frame of the same base is reached
pub base_alike : (f g : Frame) (fs : List Frame) → f.base ≡ g.base → root_base f fs ≡ root_base g fs
base_alike f g [] e = e
base_alike f g (k ∷ fs) e = refl

-- so it was where the frame reached goes above another
pub base_pushed : (f p top : Frame) (fs : List Frame) → p.base ≡ top.base
    → root_base f (fs ++ p ∷ []) ≡ root_base top fs
base_pushed f p top [] e = e
base_pushed f p top (k ∷ fs) e = refl

-- a path has a number for each level
pub path_length : (rules : List Rule) (nest : ℕ) (ls : List Level) → length (path_to rules nest ls) ≡ length ls
path_length rules nest [] = refl
path_length rules nest (l ∷ ls) =
    let h = path_length rules nest ls in
    let a = length-append (path_to rules nest ls) ((given_at rules nest l - 1) ∷ []) in
    omega (arith, a, h)

-- where the path is empty, no frame is above
pub path_none : (rules : List Rule) (site : Site) (nest : ℕ) (terms : List Term) (fs : List Frame)
    → path_to rules nest (levels_of site nest terms fs) ≡ [] → fs ≡ []
path_none rules site nest terms fs e =
    let a = ap length e in
    let b = path_length rules nest (levels_of site nest terms fs) in
    let c = length-map (reverse fs) (level_of site nest terms) in
    let d = length-reverse fs in
    nil_from_length fs (omega (arith, a, b, c, d))
