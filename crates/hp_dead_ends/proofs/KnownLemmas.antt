-- What is known after visits, by the definitions of dead ends.
use Rattle.std.proofs.Common.{◌≡◌, ℕ, ◌+◌, Bool, true, false, ◌&&◌, ◌||◌, cond, List, [], ◌∷◌, ◌++◌, length, Option, Some, None, refl, sym, ap, ap₂, ◌∙◌, arith, append_assoc}
use Rattle.std.specs.Prelude.{not, filter}
use Rattle.std.specs.List.{find}
use Rattle.std.proofs.lemmas.List.{append-nil}
use Rattle.hp_syntax.specs.Walk.{Sight, Did, Plan, CutHere, FaultHere, Visit, begins, is_did, is_plan, is_fault_here}
use Rattle.hp_dead_ends.specs.DeadEnds.{dead_ends, decompositions_of, ending, ends_at, is_depth_cut, is_level_cut, until_plan}
use Rattle.hp_dead_ends.specs.Searching.{Known, after, after_all, closed, first_of, noted, seen_if}

first_alone : (o : Option Visit) → first_of o None ≡ o
first_alone None = refl
first_alone (Some v) = refl

-- ---- one visit, by its sight

module _ (v : Visit) (k : Known) where
  noted_ends : (x : Sight) → v.sight ≡ x → (noted v k).ends ≡ k.ends
  noted_ends Did e = rw e refl
  noted_ends Plan e = rw e refl
  noted_ends CutHere e = rw e refl
  noted_ends (FaultHere f) e = rw e refl

  -- the last decomposition is the visit, or is closed as before
  abbrev last_then : List Visit → List Visit
  last_then vs =
      cond (is_did v.sight) (cond (ends_at v.path vs) (v ∷ []) [])
      (cond (k.is_open && ends_at k.last.path vs) (k.last ∷ []) [])

  noted_last : (vs : List Visit) (x : Sight) → v.sight ≡ x
      → cond ((noted v k).is_open && ends_at (noted v k).last.path vs) ((noted v k).last ∷ []) [] ≡ last_then vs
  noted_last vs Did e = rw e refl
  noted_last vs Plan e = rw e refl
  noted_last vs CutHere e = rw e refl
  noted_last vs (FaultHere f) e = rw e refl

  noted_depth_cut : (x : Sight) → v.sight ≡ x → (noted v k).depth_cut ≡ first_of k.depth_cut (seen_if is_depth_cut v)
  noted_depth_cut Did e = rw e (sym (first_alone k.depth_cut))
  noted_depth_cut Plan e = rw e (sym (first_alone k.depth_cut))
  noted_depth_cut CutHere e = rw e refl
  noted_depth_cut (FaultHere f) e = rw e (sym (first_alone k.depth_cut))

  noted_level_cut : (x : Sight) → v.sight ≡ x → (noted v k).level_cut ≡ first_of k.level_cut (seen_if is_level_cut v)
  noted_level_cut Did e = rw e (sym (first_alone k.level_cut))
  noted_level_cut Plan e = rw e (sym (first_alone k.level_cut))
  noted_level_cut CutHere e = rw e refl
  noted_level_cut (FaultHere f) e = rw e (sym (first_alone k.level_cut))

  noted_end : (vs : List Visit) (x : Sight) → v.sight ≡ x
      → ending (noted v k).end (cond (is_plan x || is_fault_here x) [] vs)
      ≡ ending k.end (v ∷ cond (is_plan x || is_fault_here x) [] vs)
  noted_end vs Did e = rw e refl
  noted_end vs Plan e = rw e refl
  noted_end vs CutHere e = rw e refl
  noted_end vs (FaultHere f) e = rw e refl

  noted_expansions : (x : Sight) → v.sight ≡ x → (m : ℕ)
      → (noted v k).expansions + m ≡ k.expansions + cond (is_did v.sight) (m + 1) m
  noted_expansions Did e m = rw e (omega arith)
  noted_expansions Plan e m = rw e refl
  noted_expansions CutHere e m = rw e refl
  noted_expansions (FaultHere f) e m = rw e refl

-- ---- all visits

-- the dead ends are those before, the last decomposition where it is one, and those of the visits
pub ends_all : (k : Known) (vs : List Visit)
    → (closed true (after_all k vs)).ends
    ≡ k.ends ++ (cond (k.is_open && ends_at k.last.path vs) (k.last ∷ []) [] ++ dead_ends vs)
ends_all k [] =
    ap (λ us. k.ends ++ us) (sym (append-nil (cond (k.is_open && true) (k.last ∷ []) [])))
ends_all k (v ∷ vs) =
    let c = closed (not (begins k.last.path v.path)) k in
    let own = cond (k.is_open && not (begins k.last.path v.path)) (k.last ∷ []) [] in
    ends_all (after k v) vs
    ∙ (ap₂ (λ us ws. us ++ (ws ++ dead_ends vs)) (noted_ends v c v.sight refl) (noted_last v c vs v.sight refl)
    ∙ (append_assoc k.ends own (last_then v c vs ++ dead_ends vs)
    ∙ ap (λ us. k.ends ++ (own ++ us)) (by (is_did v.sight) (ends_at v.path vs))))
  where
    by : (b e : Bool)
        → cond b (cond e (v ∷ []) []) [] ++ dead_ends vs ≡ cond (b && e) (v ∷ dead_ends vs) (dead_ends vs)
    by true true = refl
    by true false = refl
    by false e = refl

-- the first cuts are those before, or those of the visits
module _ (p : Visit → Bool) where
  first_on : (o : Option Visit) (v : Visit) (vs : List Visit)
      → first_of (first_of o (seen_if p v)) (find p vs) ≡ first_of o (find p (v ∷ vs))
  first_on (Some w) v vs = refl
  first_on None v vs = by (p v)
    where
      by : (b : Bool) → first_of (cond b (Some v) None) (find p vs) ≡ cond b (Some v) (find p vs)
      by true = refl
      by false = refl

pub depth_cut_all : (k : Known) (vs : List Visit) → (after_all k vs).depth_cut ≡ first_of k.depth_cut (find is_depth_cut vs)
depth_cut_all k [] = sym (first_alone k.depth_cut)
depth_cut_all k (v ∷ vs) =
    depth_cut_all (after k v) vs
    ∙ (ap (λ o. first_of o (find is_depth_cut vs))
    (noted_depth_cut v (closed (not (begins k.last.path v.path)) k) v.sight refl)
    ∙ first_on is_depth_cut k.depth_cut v vs)

pub level_cut_all : (k : Known) (vs : List Visit) → (after_all k vs).level_cut ≡ first_of k.level_cut (find is_level_cut vs)
level_cut_all k [] = sym (first_alone k.level_cut)
level_cut_all k (v ∷ vs) =
    level_cut_all (after k v) vs
    ∙ (ap (λ o. first_of o (find is_level_cut vs))
    (noted_level_cut v (closed (not (begins k.last.path v.path)) k) v.sight refl)
    ∙ first_on is_level_cut k.level_cut v vs)

pub expansions_all : (k : Known) (vs : List Visit) → (after_all k vs).expansions ≡ k.expansions + decompositions_of vs
expansions_all k [] = omega arith
expansions_all k (v ∷ vs) =
    expansions_all (after k v) vs
    ∙ (noted_expansions v (closed (not (begins k.last.path v.path)) k) v.sight refl (decompositions_of vs)
    ∙ ap (λ n. k.expansions + n) (by (is_did v.sight)))
  where
    by : (b : Bool)
        → cond b (decompositions_of vs + 1) (decompositions_of vs)
        ≡ length (cond b (v ∷ filter (λ w. is_did w.sight) vs) (filter (λ w. is_did w.sight) vs))
    by true = omega arith
    by false = refl

-- the end is that of the visits up to the first plan or fault
pub end_all : (k : Known) (vs : List Visit) → (after_all k (until_plan vs)).end ≡ ending k.end (until_plan vs)
end_all k [] = refl
end_all k (v ∷ vs) =
    by (is_plan v.sight || is_fault_here v.sight) (end_all (after k v) vs)
    ∙ noted_end v (closed (not (begins k.last.path v.path)) k) (until_plan vs) v.sight refl
  where
    by : (b : Bool) → (after_all (after k v) (until_plan vs)).end ≡ ending (after k v).end (until_plan vs)
        → (after_all (after k v) (cond b [] (until_plan vs))).end ≡ ending (after k v).end (cond b [] (until_plan vs))
    by true e = refl
    by false e = e
