-- Stages of networks in place: what stands where in a sound one, and sound ones after a change.
use Rattle.std.proofs.Common.{◌≡◌, ℕ, ⊎_elim, Bool, length, Option, Some, None, refl, sym, ap, subst, ◌∙◌}
use Rattle.std.specs.Prelude.{slice_get, IfSome}
use Rattle.std.specs.List.{Contains}
use Rattle.std.proofs.lemmas.Option.{same_Some}
use Rattle.hp_links.specs.declared.links.Part.TheVariants.{Task}
use Rattle.hp_links.specs.Frames.{Frame, frame_of, Stands, StandsAlone, IsWhole}
use Rattle.hp_links.specs.Labelled.{Tree, Gone, Leaf, Branch, numbers, AreApart, IsFull, IsNormal, front_of, part_in}
use Rattle.hp_links.specs.Linked.{Linked, NamesTask, tree_of, whole}
use Rattle.hp_links.specs.Placed.{IsPlaced}
use Rattle.hp_links.specs.Undoing.{IsStage}
use Rattle.hp_links.proofs.ChangeLemmas.{normal_cases}
use Rattle.hp_links.proofs.NumberLemmas.{contains_nothing}
use Rattle.hp_links.proofs.ParentLemmas.{part_stands, part_is_tree}
use Rattle.hp_links.proofs.PlaceLemmas.{number_tells, part_tells}
use Rattle.hp_links.proofs.ShortenLemmas.{is_leaf}
use Rattle.hp_links.proofs.TreeLemmas.{whole_is}

-- a network with a tree that stands, in normal form and each number once, is sound, and the tree is the whole
pub staged : (s : Linked) (t : Tree) → IsWhole (frame_of s) s.root t → length s.owners ≡ length s.parts → IsNormal t
    → AreApart (numbers t) → IfSome s.focus (λ f. Contains (numbers t) f) → s.front ≡ front_of t
    → IsStage s × (whole s ≡ t)
staged s t stands owners normal apart focus front =
    let is = whole_is s t stands in (
      record {
        owners = owners;
        stands = subst (IsWhole (frame_of s) s.root) (sym is) stands;
        normal = subst IsNormal (sym is) normal;
        apart = subst (λ (u : Tree). AreApart (numbers u)) (sym is) apart;
        focus = subst (λ (u : Tree). IfSome s.focus (λ f. Contains (numbers u) f)) (sym is) focus;
        front = front ∙ sym (ap front_of is);
      },
      is,
    )

-- a tree with a number is no part of any list where it stands alone
stands_alone : (f : Frame) (t : Tree) (x : ℕ) → StandsAlone f t → Contains (numbers t) x → Stands f None t
stands_alone f Gone x h c = absurd (contains_nothing x c)
stands_alone f (Leaf k cell immediate) x h c = h
stands_alone f (Branch k order ts) x h c = h

full_whole : (t : Tree) (x : ℕ) → IsNormal t → Contains (numbers t) x → IsFull t
full_whole t x n c =
    ⊎_elim (λ e. absurd (contains_nothing x (subst (λ u. Contains (numbers u) x) e c))) (λ f. f) (normal_cases t n)

-- a sound network with a number stands, and each list in it has two parts or more
pub stage_stands : (s : Linked) (x : ℕ) → IsStage s → Contains (numbers (whole s)) x
    → Stands (frame_of s) None (whole s) × IsFull (whole s)
stage_stands s x h c = (
  stands_alone (frame_of s) (whole s) x h.stands.stands c,
  full_whole (whole s) x h.normal c,
)

-- each number's part is the tree of the number
pub stage_part : (s : Linked) (x : ℕ) → IsStage s → Contains (numbers (whole s)) x
    → part_in x (whole s) ≡ Some (tree_of s x)
stage_part s x h c = part_is_tree s None (whole s) x (stage_stands s x h c).0 c

-- a named task is a leaf of its number
pub named_part : (s : Linked) (x : ℕ) → IsStage s → (n : NamesTask s x)
    → part_in x (whole s) ≡ Some (Leaf x n.cell n.immediate)
named_part s x h n =
    let stands = (stage_stands s x h n.among).0 in
    let r = number_tells x (whole s) n.among in
    let u = part_stands (frame_of s) None (whole s) x r.1 stands r.3 in
    r.3 ∙ ap Some (is_leaf (frame_of s) u.0 r.1 x n.cell n.immediate u.1 u.2 n.is)

-- the task of a leaf is the part of its number
leaf_part : (f : Frame) (p : Option ℕ) (x cell : ℕ) (immediate : Bool) (t : Tree) → t ≡ Leaf x cell immediate
    → Stands f p t → slice_get f.parts x ≡ Some (Task cell immediate)
leaf_part f p x cell immediate t e h =
    let l : Stands f p (Leaf x cell immediate) = subst (Stands f p) e h in l.part

focus_part : (s : Linked) (f : ℕ) (o : Option ℕ) → IfSome o (λ k. Contains (numbers (whole s)) k) → o ≡ Some f
    → Contains (numbers (whole s)) f
focus_part s f None h e = absurd cc
focus_part s f (Some k) h e = subst (Contains (numbers (whole s))) (same_Some k f e) h

-- what the crate above needs of a sound network
pub placed : (s : Linked) → IsStage s → IsPlaced s
placed s h = record {
  normal = h.normal;
  apart = h.apart;
  focus = λ f e. stage_part s f h (focus_part s f s.focus h.focus e);
  tasks = λ x cell immediate e.
      let c = (part_tells x (whole s) (Leaf x cell immediate) e).2 in
      let u = part_stands (frame_of s) None (whole s) x (Leaf x cell immediate) (stage_stands s x h c).0 e in
      leaf_part (frame_of s) u.0 x cell immediate (Leaf x cell immediate) refl u.1;
}
