-- A walk along a plan to a decomposition arrives there.
use Rattle.std.proofs.Common.{◌≡◌, ℕ, ◌-◌, ◌^◌, ◌<◌, min, nat_lt, Bool, true, false, ◌==◌, ◌&&◌, cond, List, [], ◌∷◌, length, None, refl, sym, ap, ap₂, ◌∙◌, subst, arith, ⊎_elim}
use Rattle.std.specs.Prelude.{Contains}
use Rattle.std.specs.List.{All}
use Rattle.std.proofs.lemmas.Bool.{and_parts, ltb-true}
use Rattle.std.proofs.lemmas.Bool.Decides.{nat_tests}
use Rattle.std.proofs.lemmas.List.{nil_from_length}
use Rattle.std.proofs.lemmas.List.Elements.{All-cons, All-contains, All-filter, All-weaker}
use Rattle.hp_dead_ends.proofs.FindSteps.{reached_root}
use Rattle.hp_dead_ends.specs.Arriving.{HasArrived, is_small}
use Rattle.hp_following.specs.declared.standing.Heading.{Heading}
use Rattle.hp_following.specs.Follows.{IsFollowed, begun, followed}
use Rattle.hp_following.specs.Heading.{Begins, Comes, MeetsHeading, plan_of}
use Rattle.hp_following.proofs.Begun.{left_cut, left_derived, left_fault, left_no, left_plan, left_yes}
use Rattle.hp_laws.proofs.JoinLemmas.{contains_cases, contains_none}
use Rattle.hp_laws.proofs.PathLemmas.{visits_in_tree}
use Rattle.hp_net.specs.Standings.{Tree, Standing, IsAtItsNode, standing, tree_visits}
use Rattle.hp_passes.proofs.PassLemmas.{all_among, made_from}
use Rattle.hp_passes.specs.declared.passing.Turn.TheVariants as turns
use Rattle.hp_passes.specs.Passing.{Passes, AtEnd, GoesOn, LeavesOut, Ends}
use Rattle.hp_syntax.specs.Terms.{Term}
use Rattle.hp_syntax.specs.Walk.{Sight, Visit, Did, Plan, CutHere, FaultHere, is_did, node_at, skip, told, visit}
use Rattle.hp_verify.specs.Kept.{kept, kept_turn, nothing, steps_are, steps_begin}

-- a path of small numbers is reported as it is
told_small : (q : List ℕ) → is_small (told q) ≡ true → q ≡ told q
told_small [] h = refl
told_small (i ∷ q) h =
    let both = and_parts (nat_lt (min i (2 ^ 64 - 1)) (2 ^ 64 - 1)) (is_small (told q)) h in
    let less : min i (2 ^ 64 - 1) < 2 ^ 64 - 1 = ltb-true (min i (2 ^ 64 - 1)) (2 ^ 64 - 1) both.0 in
    let same : i ≡ min i (2 ^ 64 - 1) = omega arith in
    ap₂ (λ n l. n ∷ l) same (told_small q both.1)

module _ (p : List Term) (target : List ℕ) where
  -- visits hold a decomposition of the kept walk that is reported at the path
  abbrev Leads : List Visit → Type 0
  Leads vs = (w : Visit) × Contains (begun p (kept p vs)) w × (told w.path ≡ target)

  abbrev leads_by : (ws : List Visit) (vs : List Visit) → begun p (kept p vs) ≡ ws → Leads vs
      → (w : Visit) × Contains ws w × (told w.path ≡ target)
  leads_by ws vs e h = (h.0, subst (λ us. Contains us h.0) e h.1, h.2)

  none_leads : (vs : List Visit) → begun p (kept p vs) ≡ [] → Leads vs → ⊥
  none_leads vs e h = contains_none h.0 (leads_by [] vs e h).1

  -- what is left holds it, or the walk ends there
  module _ (s : Heading) (plan : plan_of s ≡ p) (there : s.target.now ≡ target) (v : Visit) (vs : List Visit)
      (h : Leads (v ∷ vs)) where
    goes : (x : Sight) → v.sight ≡ x → Comes x s v turns.On → Leads vs
    goes Did e m =
        by (steps_begin v.node.steps p) refl
        (subst (λ q. Begins (steps_begin v.node.steps q) s v turns.On) plan m)
      where
        by : (b : Bool) → steps_begin v.node.steps p ≡ b → Begins b s v turns.On → Leads vs
        by true k n =
            let l = leads_by (v ∷ begun p (kept p vs)) (v ∷ vs) (left_yes p v vs e k) h in
            ⊎_elim (λ f. let g : turns.On ≡ turns.Last = f.1 in absurd (cc))
            (λ f. ⊎_elim (λ same. absurd (f.0 (ap (λ w. told w.path) same ∙ (l.2 ∙ sym there))))
            (λ c. (l.0, c, l.2)) (contains_cases v l.0 (begun p (kept p vs)) l.1)) n
        by false k n = let g : turns.On ≡ turns.Past = n in absurd (cc)
    goes Plan e m =
        by (steps_are v.node.steps p) refl
        (subst (λ q. turns.On ≡ cond (steps_are v.node.steps q) turns.Last turns.On) plan m)
      where
        by : (b : Bool) → steps_are v.node.steps p ≡ b → turns.On ≡ cond b turns.Last turns.On → Leads vs
        by true k n = let g : turns.On ≡ turns.Last = n in absurd (cc)
        by false k n = leads_by (begun p (kept p vs)) (v ∷ vs) (left_plan p v vs e k) h
    goes CutHere e m = leads_by (begun p (kept p vs)) (v ∷ vs) (left_cut p v vs e) h
    goes (FaultHere f) e m = let g : turns.On ≡ turns.Last = m in absurd (cc)

    leaves : (x : Sight) → v.sight ≡ x → Comes x s v turns.Past → Leads (skip v.path vs)
    leaves Did e m =
        by (steps_begin v.node.steps p) refl
        (subst (λ q. Begins (steps_begin v.node.steps q) s v turns.Past) plan m)
      where
        by : (b : Bool) → steps_begin v.node.steps p ≡ b → Begins b s v turns.Past → Leads (skip v.path vs)
        by true k n =
            ⊎_elim (λ f. let g : turns.Past ≡ turns.Last = f.1 in absurd (cc))
            (λ f. let g : turns.Past ≡ turns.On = f.1 in absurd (cc)) n
        by false k n = leads_by (begun p (kept p (skip v.path vs))) (v ∷ vs) (left_no p v vs e k) h
    leaves Plan e m =
        by (steps_are v.node.steps (plan_of s)) m
      where
        by : (b : Bool) → turns.Past ≡ cond b turns.Last turns.On → Leads (skip v.path vs)
        by true n = let g : turns.Past ≡ turns.Last = n in absurd (cc)
        by false n = let g : turns.Past ≡ turns.On = n in absurd (cc)
    leaves CutHere e m = let g : turns.Past ≡ turns.On = m in absurd (cc)
    leaves (FaultHere f) e m = let g : turns.Past ≡ turns.Last = m in absurd (cc)

    ends : (x : Sight) → v.sight ≡ x → Comes x s v turns.Last → told v.path ≡ target
    ends Did e m =
        by (steps_begin v.node.steps (plan_of s)) m
      where
        by : (b : Bool) → Begins b s v turns.Last → told v.path ≡ target
        by true n =
            ⊎_elim (λ f. f.0 ∙ there) (λ f. let g : turns.Last ≡ turns.On = f.1 in absurd (cc)) n
        by false n = let g : turns.Last ≡ turns.Past = n in absurd (cc)
    ends Plan e m =
        by (steps_are v.node.steps p) refl
        (subst (λ q. turns.Last ≡ cond (steps_are v.node.steps q) turns.Last turns.On) plan m)
      where
        by : (b : Bool) → steps_are v.node.steps p ≡ b → turns.Last ≡ cond b turns.Last turns.On
            → told v.path ≡ target
        by true k n = absurd (none_leads (v ∷ vs) (left_derived p v vs e k) h)
        by false k n = let g : turns.Last ≡ turns.On = n in absurd (cc)
    ends CutHere e m = let g : turns.Last ≡ turns.On = m in absurd (cc)
    ends (FaultHere f) e m = absurd (none_leads (v ∷ vs) (left_fault p v vs f e) h)

  ends_there : (s u : Heading) (c e : Unit {0}) (vs : List Visit) (there : Standing)
      → Passes MeetsHeading s c vs u e there → plan_of s ≡ p → s.target.now ≡ target → Leads vs
      → told there.path ≡ target
  ends_there _ _ _ _ _ _ (AtEnd s c) plan at h = absurd (none_leads [] refl h)
  ends_there _ _ _ _ _ _ (GoesOn s t u c d e v vs there m rest) plan at h =
      ends_there t u d e vs there rest (ap plan_of m.0 ∙ plan) (ap (λ z. z.target.now) m.0 ∙ at)
      (goes s plan at v vs h v.sight refl m.1)
  ends_there _ _ _ _ _ _ (LeavesOut s t u c d e v vs there m rest) plan at h =
      ends_there t u d e (skip v.path vs) there rest (ap plan_of m.0 ∙ plan) (ap (λ z. z.target.now) m.0 ∙ at)
      (leaves s plan at v vs h v.sight refl m.1)
  ends_there _ _ _ _ _ _ (Ends s t c d v vs m) plan at h = ends s plan at v vs h v.sight refl m.1

-- ---- a whole walk

module _ (p : List Term) (t : Tree) (target : List ℕ) (h : IsFollowed p t target)
    (small : is_small target ≡ true) where
  -- where the path isn't that of the root, the visits hold the decomposition
  leads : (i : ℕ) (q : List ℕ) → target ≡ i ∷ q → Leads p target (tree_visits t)
  leads i q e =
      ⊎_elim
      (λ k. let f : [] ≡ i ∷ q = ap (λ x. told x.path) k ∙ (h.is_told ∙ e) in absurd (cc))
      (λ k. (h.visit, k, h.is_told))
      (contains_cases (visit [] t.root Did) h.visit (begun p (kept p (tree_visits t))) h.within)

  same_path : (q : List ℕ) → told q ≡ target → q ≡ target
  same_path q e = told_small q (subst (λ l. is_small l ≡ true) (sym e) small) ∙ e

  pub heads : (s u : Heading) (c e : Unit {0}) (vs : List Visit) (there : Standing) → plan_of s ≡ p
      → s.target.now ≡ target → vs ≡ tree_visits t → (length target == 0) ≡ false
      → Passes MeetsHeading s c vs u e there → there.path ≡ target
  heads s u c e vs there plan at new some made =
      same_path there.path
      (ends_there p target s u c e (tree_visits t) there
      (subst (λ ws. Passes MeetsHeading s c ws u e there) new made) plan at (by target refl))
    where
      by : (q : List ℕ) → target ≡ q → Leads p target (tree_visits t)
      by [] f = let k : true ≡ false = sym (ap (λ l. length l == 0) f) ∙ some in absurd (cc)
      by (i ∷ q) f = leads i q f

  -- each decomposition of the kept walk is at its node
  all_at : All (IsAtItsNode t) (followed p t)
  all_at =
      All-cons (IsAtItsNode t) (visit [] t.root Did) (begun p (kept p (tree_visits t)))
      (reached_root t (standing [] [] false) refl)
      (All-filter (λ v. is_did v.sight && steps_begin v.node.steps p) (IsAtItsNode t) (kept p (tree_visits t))
      (All-weaker (Contains (tree_visits t)) (IsAtItsNode t)
      (λ v c. All-contains (IsAtItsNode t) (tree_visits t) v (visits_in_tree t.rules t.nest t.root) c)
      (kept p (tree_visits t))
      (all_among (kept p (tree_visits t)) (tree_visits t) (made_from (kept_turn p) None nothing (tree_visits t)))))

  -- so a walk that is at the path is at its node
  pub arrived_at : (s : Standing) → s.path ≡ target → HasArrived t s target
  arrived_at s e = record {
    path = e;
    node = h.visit.node;
    at_node =
        ap (node_at t.rules t.nest t.root) (e ∙ sym (same_path h.visit.path h.is_told))
        ∙ All-contains (IsAtItsNode t) (followed p t) h.visit all_at h.within;
  }

  -- at the root it is there already
  pub arrived_at_root : (s : Standing) → s.path ≡ [] → (length target == 0) ≡ true → HasArrived t s target
  arrived_at_root s e f =
      let none : length target ≡ 0 = grind (arith, nat_tests) in arrived_at s (e ∙ sym (nil_from_length target none))
