-- Each visit of a tree up to the first plan or fault is at the root, or at the path of a decomposition among these.
use Rattle.std.proofs.Common.{◌≡◌, ◌⊎◌, ℕ, Bool, true, false, ◌||◌, cond, List, [], ◌∷◌, ◌++◌, Some, refl, sym, ap, ap₂, ◌∙◌, subst, append_assoc, inl, inr, ⊎_elim}
use Rattle.std.specs.Prelude.{Contains, IfSome}
use Rattle.std.specs.List.{All, find}
use Rattle.std.proofs.lemmas.List.Elements.{All-nil, All-cons, All-head, All-tail, All-weaker, All-contains_itself}
use Rattle.hp_after.specs.Stepping.{AllFollow, Follows, IsBeginning}
use Rattle.hp_after.proofs.SteppingLemmas.{tree_follows}
use Rattle.hp_laws.proofs.JoinLemmas.{contains_first, contains_later}
use Rattle.hp_net.specs.Standings.{Tree, tree_visits}
use Rattle.hp_syntax.specs.Walk.{Sight, Did, Plan, CutHere, FaultHere, Visit, is_plan, is_fault_here, told, visit}
use Rattle.hp_dead_ends.specs.Arriving.{HasHeldCuts, IsHeld}
use Rattle.hp_dead_ends.specs.DeadEnds.{is_depth_cut, is_level_cut, until_plan, with_root}
use Rattle.hp_dead_ends.specs.Finding.{IsFoundIn, path_told}
use Rattle.hp_dead_ends.specs.declared.searching.DeadEnds.{DeadEnds}
use Rattle.hp_dead_ends.proofs.FitLemmas.{whole_beginning}

-- ---- beginnings of paths

-- nothing but the empty path is a beginning of it
none_before : (q r : List ℕ) → [] ≡ q ++ r → q ≡ []
none_before [] r e = refl
none_before (i ∷ q) r e = absurd (cc)

-- a beginning of a beginning is one of the path
beginning_through : (q b p : List ℕ) → IsBeginning q b → IsBeginning b p → IsBeginning q p
beginning_through q b p h k = record {
  behind = h.behind ++ k.behind;
  whole = k.whole ∙ (ap (λ l. l ++ k.behind) h.whole ∙ append_assoc q h.behind k.behind);
}

-- a beginning of a path with one number more is one of the path, or is the whole
before_last : (a : List ℕ) (i : ℕ) (q r : List ℕ) → a ++ i ∷ [] ≡ q ++ r → IsBeginning q a ⊎ (q ≡ a ++ i ∷ [])
before_last a i [] r e = inl (record { behind = a; whole = refl })
before_last [] i (k ∷ q) r e =
    let same : i ≡ k = cc in
    let rest : [] ≡ q ++ r = cc in
    inr (ap₂ (λ n l. n ∷ l) (sym same) (none_before q r rest))
before_last (j ∷ a) i (k ∷ q) r e =
    let same : j ≡ k = cc in
    let rest : a ++ i ∷ [] ≡ q ++ r = cc in
    ⊎_elim (λ h. inl (record { behind = h.behind; whole = ap₂ (λ n l. n ∷ l) same h.whole }))
    (λ h. inr (ap₂ (λ n l. n ∷ l) (sym same) h)) (before_last a i q r rest)

-- ---- visits up to the first plan or fault

-- where visits follow from one another, so do those up to the first plan or fault
follow_until : (vs : List Visit) (p : List ℕ) → AllFollow p vs → AllFollow p (until_plan vs)
follow_until [] p f = tt
follow_until (v ∷ vs) p f =
    (f.0, by (is_plan v.sight || is_fault_here v.sight) (follow_until vs v.path f.1))
  where
    by : (b : Bool) → AllFollow v.path (until_plan vs) → AllFollow v.path (cond b [] (until_plan vs))
    by true h = tt
    by false h = h

module _ (t : Tree) where
  abbrev seen : List Visit
  seen = until_plan (tree_visits t)

  -- the path of a visit is that of a decomposition
  abbrev pub HeldAt : Visit → Type 0
  HeldAt v = IsHeld t (told v.path)

  -- a decomposition is at the path, and at each beginning of it
  abbrev HeldAbove : List ℕ → Type 0
  HeldAbove p = (q : List ℕ) → IsBeginning q p → IsHeld t (told q)

  held_above : (v : Visit) (p : List ℕ) → HeldAbove p → (x : Sight) → v.sight ≡ x → (v.sight ≡ Did → HeldAt v)
      → Follows x v.path p → HeldAbove v.path
  held_above v p h Did e own f = λ q b.
      ⊎_elim (λ k. h q (beginning_through q f.above p k f.beginning))
      (λ k. subst (λ l. IsHeld t (told l)) (f.path ∙ sym k) (own e))
      (before_last f.above f.number q b.behind (sym f.path ∙ b.whole))
  held_above v p h Plan e own f = λ q b. h q (beginning_through q v.path p b f)
  held_above v p h CutHere e own f = λ q b. h q (beginning_through q v.path p b f)
  held_above v p h (FaultHere g) e own f = λ q b. h q (beginning_through q v.path p b f)

  -- so a decomposition is at the path of each visit, as visits follow from one another
  all_held : (vs : List Visit) (p : List ℕ) → HeldAbove p → AllFollow p vs → All (λ v. v.sight ≡ Did → HeldAt v) vs
      → All HeldAt vs
  all_held [] p h f a = All-nil HeldAt
  all_held (v ∷ vs) p h f a =
      let here = held_above v p h v.sight refl (All-head (λ w. w.sight ≡ Did → HeldAt w) v vs a) f.0 in
      All-cons HeldAt v vs (here v.path (whole_beginning v.path))
      (all_held vs v.path here f.1 (All-tail (λ w. w.sight ≡ Did → HeldAt w) v vs a))

  root_held : IsHeld t []
  root_held = record {
    visit = visit [] t.root Did;
    did = refl;
    within = contains_first (visit [] t.root Did) seen;
    is_told = refl;
  }

  above_root : HeldAbove []
  above_root = λ q b. subst (λ l. IsHeld t (told l)) (sym (none_before q b.behind b.whole)) root_held

  did_held : All (λ v. v.sight ≡ Did → HeldAt v) seen
  did_held =
      All-weaker (Contains seen) (λ v. v.sight ≡ Did → HeldAt v)
      (λ v k e. record {
        visit = v;
        did = e;
        within = contains_later (visit [] t.root Did) v seen k;
        is_told = refl;
      })
      seen (All-contains_itself seen)

  seen_held : All HeldAt seen
  seen_held = all_held seen [] above_root (follow_until (tree_visits t) [] (tree_follows t [])) did_held

  pub with_root_held : All HeldAt (with_root t.root (until_plan (tree_visits t)))
  with_root_held = All-cons HeldAt (visit [] t.root Did) seen root_held seen_held

  -- ---- the first cuts

  first_held : (p : Visit → Bool) (vs : List Visit) → All HeldAt vs → IfSome (path_told (find p vs)) (IsHeld t)
  first_held p [] a = tt
  first_held p (v ∷ vs) a = by (p v) (All-head HeldAt v vs a) (first_held p vs (All-tail HeldAt v vs a))
    where
      by : (b : Bool) → HeldAt v → IfSome (path_told (find p vs)) (IsHeld t)
          → IfSome (path_told (cond b (Some v) (find p vs))) (IsHeld t)
      by true h r = h
      by false h r = r

  pub cuts_held : (most : ℕ) (f : DeadEnds) → IsFoundIn t most f → HasHeldCuts t f
  cuts_held most f h = record {
    depth = subst (λ o. IfSome o (IsHeld t)) (sym h.depth_cut) (first_held is_depth_cut seen seen_held);
    level = subst (λ o. IfSome o (IsHeld t)) (sym h.level_cut) (first_held is_level_cut seen seen_held);
  }
