-- The part with the focus, and where its first tasks are found.
use Rattle.std.proofs.Common.{◌≡◌, ℕ, ⊎_elim, List, [], Option, Some, None, refl, sym, ap, subst, ◌∙◌}
use Rattle.std.specs.Prelude.{IfSome, is_none}
use Rattle.std.specs.List.{Contains}
use Rattle.std.proofs.lemmas.Option.{same_Some}
use Rattle.hp_syntax.specs.Networks as plain
use Rattle.hp_syntax.specs.Terms.{Term}
use Rattle.hp_links.specs.declared.entry.Order.TheVariants.{Ordered, Unordered}
use Rattle.hp_links.specs.Frames.{frame_of, tree_at, IsHeld}
use Rattle.hp_links.specs.Labelled.{Tree, Gone, Leaf, Branch, network, number_of, numbers, leads, front_of, or_else}
use Rattle.hp_links.specs.Linked.{Linked, tree_of, whole}
use Rattle.hp_links.specs.Placed.{scope_of}
use Rattle.hp_links.specs.Undoing.{IsStage}
use Rattle.hp_links.proofs.ChangeLemmas.{normal_cases, part_full}
use Rattle.hp_links.proofs.FrontLemmas.{front_there, front_full, front_leads}
use Rattle.hp_links.proofs.HeldLemmas.{held, tree_at-frame}
use Rattle.hp_links.proofs.ParentLemmas.{part_stands}
use Rattle.hp_links.proofs.PlaceLemmas.{number_tells}
use Rattle.hp_links.proofs.StageLemmas.{stage_stands, stage_part}

-- each number of a sound network is held
pub number_held : (s : Linked) (x : ℕ) → IsStage s → Contains (numbers (whole s)) x → IsHeld (frame_of s) x
number_held s x h c =
    let w = stage_stands s x h c in
    let r = number_tells x (whole s) c in
    let u = part_stands (frame_of s) None (whole s) x r.1 w.0 r.3 in
    held (frame_of s) u.0 r.1 x u.1 (part_full x (whole s) r.1 r.3 w.1) u.2

-- the first tasks are those below the focus, or else below the front
scope_by : (s : Linked) (o : Option ℕ) (start : ℕ) → IsStage s → IfSome o (λ f. Contains (numbers (whole s)) f)
    → or_else o s.front ≡ Some start
    → IsHeld (frame_of s) start × (leads (tree_at (frame_of s) start) ≡ leads (scope_of s o))
scope_by s (Some f) start h c e =
    subst (λ (k : ℕ). IsHeld (frame_of s) k × (leads (tree_at (frame_of s) k) ≡ leads (tree_of s f)))
    (same_Some f start e) (number_held s f h c, ap leads (tree_at-frame s f))
scope_by s None start h c e =
    let f : front_of (whole s) ≡ Some start = sym h.front ∙ e in
    let there = front_there (whole s) start f in
    let r = front_leads (whole s) start h.apart f in
    let same : tree_of s start ≡ r.0 = same_Some _ _ (sym (stage_part s start h there) ∙ r.1) in
    (number_held s start h there, ap leads (tree_at-frame s start ∙ same) ∙ sym r.2)

pub scope_at : (s : Linked) (start : ℕ) → IsStage s → or_else s.focus s.front ≡ Some start
    → IsHeld (frame_of s) start × (leads (tree_at (frame_of s) start) ≡ leads (scope_of s s.focus))
scope_at s start h e = scope_by s s.focus start h h.focus e

none_by : (s : Linked) (o : Option ℕ) → IsStage s → or_else o s.front ≡ None → [] ≡ leads (scope_of s o)
none_by s (Some f) h e = absurd cc
none_by s None h e =
    ⊎_elim (λ g. sym (ap leads g))
    (λ full.
    let f = front_full (whole s) full in
    let no : Some f.0 ≡ None = sym f.1 ∙ sym h.front ∙ e in
    absurd cc)
    (normal_cases (whole s) h.normal)

-- where there is neither a focus nor a front there is no task
pub scope_none : (s : Linked) → IsStage s → or_else s.focus s.front ≡ None → [] ≡ leads (scope_of s s.focus)
scope_none s h e = none_by s s.focus h e

-- a tree without a number is no network
pub none_empty : (terms : List Term) (t : Tree) → is_none (number_of t) ≡ plain.is_empty (network terms t)
none_empty terms Gone = refl
none_empty terms (Leaf k cell immediate) = refl
none_empty terms (Branch k Ordered ts) = refl
none_empty terms (Branch k Unordered ts) = refl
