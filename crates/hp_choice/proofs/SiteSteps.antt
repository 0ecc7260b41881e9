-- Sites where terms are added, and the pasts of one that stays where it is.
use Rattle.std.proofs.Common.{◌≡◌, ℕ, ◌<◌, ◌≤◌, List, length, inl, inr, sym, ◌∙◌, ap, subst, arith}
use Rattle.std.proofs.lemmas.Bool.{cases_lt}
use Rattle.std.proofs.lemmas.List.Elements.{All-weaker}
use Rattle.hp_syntax.specs.Terms.{Term}
use Rattle.hp_eval.specs.Growth.{Grows}
use Rattle.hp_eval.proofs.GrowthLemmas.{all_below, kept_agree}
use Rattle.hp_world.specs.Histories.{History, mark_of, past_at}
use Rattle.hp_world.specs.Pasts.{PastsBelow}
use Rattle.hp_world.specs.Recorded.{history_in}
use Rattle.hp_world.specs.Stages.{AllBelow, Stage, live_atoms}
use Rattle.hp_world.proofs.LearningLemmas.{all_known_where_agreed}
use Rattle.hp_world.proofs.PastLemmas.{all_stood_below, past_end}
use Rattle.hp_tree.proofs.SearchNodeLemmas.{node_grows}
use Rattle.hp_site.specs.declared.mark.Mark.{Mark}
use Rattle.hp_site.specs.declared.site.Site.{Site}
use Rattle.hp_site.specs.Sites.{IsSite, Keeps, held_now, mark_now}

-- a site stays one where terms are added
pub site_grows : (old new : List Term) → Grows old new → (s : Site) → IsSite old s → IsSite new s
site_grows old new g s is = record {
  node = node_grows old new g (held_now s) is.node;
  pasts = λ m. all_below old new g (live_atoms (past_at (history_in s.scene.world) m).places) (is.pasts m);
  knows =
      all_known_where_agreed (length old) old new s.scene.world
      (all_stood_below (length old) s.scene.world is.stood is.pasts) is.knows
      (kept_agree old new g (length old) (omega arith));
  stood = is.stood;
}

-- where the moment of now is kept and is that of now again, the atoms of all pasts are below the same count
pub pasts_stay : (n : ℕ) (old new : Site) → Keeps (mark_now old) old new → mark_now new ≡ mark_now old
    → PastsBelow n (history_in old.scene.world) → PastsBelow n (history_in new.scene.world)
pasts_stay n old new keeps same below m =
    let h = history_in old.scene.world in
    let g = history_in new.scene.world in
    let count : mark_of g ≡ mark_of h = ap (λ (k : Mark). k.world) same in
    let all = λ (s : Stage). AllBelow n (live_atoms s.places) in
    elim (cases_lt (mark_of h) m) [
      | inl late ↦
          subst all
          (sym (past_end g m (omega (arith, late, count))
          ∙ (sym (past_end g (mark_of h) (omega (arith, count))) ∙ keeps.world (mark_of h) (omega arith))))
          (below (mark_of h))
      | inr soon ↦ subst all (sym (keeps.world m soon)) (below m)
    ]

-- the atoms of all pasts are below any count that isn't less than one that they are below
pub pasts_below : (n m : ℕ) (h : History Stage) → n ≤ m → PastsBelow n h → PastsBelow m h
pasts_below n m h l below =
    λ k. All-weaker (λ x. x < n) (λ x. x < m) (λ x p. omega (arith, p, l)) (live_atoms (past_at h k).places) (below k)
