-- A whole walk along a plan that keeps how far it came.
use Rattle.std.proofs.Common.{◌≡◌, ◌≤◌, Bool, true, false, cond, List, [], ◌∷◌, length, refl, sym, ap, ◌∙◌, subst, arith}
use Rattle.std.specs.List.{All, list_all}
use Rattle.std.specs.Prelude.{not, Contains}
use Rattle.std.proofs.lemmas.Bool.{and_parts}
use Rattle.std.proofs.lemmas.Bool.Decides.{nat_tests}
use Rattle.std.proofs.lemmas.List.Elements.{All-contains_itself, All-cons, All-filter, All-head, All-nil, All-tail, filter_passes}
use Rattle.hp_dead_ends.specs.DeadEnds.{Rank, comes_further, furthest, is_further, rank_of, with_root}
use Rattle.hp_following.specs.declared.following.FollowEnd.TheVariants as ends
use Rattle.hp_following.specs.declared.following.Following.{Following}
use Rattle.hp_following.specs.declared.following.Tracking.{Tracking}
use Rattle.hp_following.specs.Follows.{CameTo, HasMost, HasNoMore, HasNoMoreAt, IsFirst, IsFollowed, IsFollowing, IsUnderived, begun, end_of, followed, said_of}
use Rattle.hp_following.specs.Tracking.{MeetsTracking, plan_of}
use Rattle.hp_following.proofs.Complete.{IsOpen, none_more}
use Rattle.hp_following.proofs.FarSteps.{far_root}
use Rattle.hp_following.proofs.TrackingSteps.{IsMidway, IsOver, at_the_end, turns_so}
use Rattle.hp_net.specs.Standings.{Tree, Standing, tree_visits}
use Rattle.hp_passes.proofs.PassingLemmas.{IsEnd, Whole, Ended, passed}
use Rattle.hp_passes.specs.Passing.{Passes}
use Rattle.hp_syntax.specs.Terms.{Term}
use Rattle.hp_syntax.specs.Walk.{Did, Visit, visit}
use Rattle.hp_verify.proofs.GrowthLemmas.{steps_grow}
use Rattle.hp_verify.proofs.KeptSteps.{left}
use Rattle.hp_verify.specs.Kept.{DerivedAt, Faulty, Nothing, Said, Underived, kept, kept_turn, nothing, nothing_seen}

-- ---- a whole walk

module _ (p : List Term) (t : Tree) where
  end_told : (k : Nothing) (ws : List Visit) (s : Tracking) (c : Unit {0}) (there : Standing)
      → IsEnd MeetsTracking (kept_turn p) (IsMidway p t) (IsOver p t) k ws s c there → IsFollowing p t s.found
  end_told _ _ _ _ _ (Whole k s c h) = at_the_end p t k s c h
  end_told _ _ _ _ _ (Ended k ws s c v h) = h

  pub walk_followed : (s u : Tracking) (c e : Unit {0}) (vs : List Visit) (there : Standing) → vs ≡ tree_visits t
      → plan_of s ≡ p → s.found.end ≡ ends.Whole → s.found.path.items ≡ []
      → s.found.steps ≡ length t.root.steps → Passes MeetsTracking s c vs u e there → IsFollowing p t u.found
  walk_followed s u c e vs there new plan end path steps walk =
      let begun_walk : IsMidway p t nothing s c vs =
      record {
        plan = plan;
        seen = nothing_seen;
        end = end;
        same = ap (left p nothing_seen) new;
        far =
            far_root (followed p t) s.found (visit [] t.root Did) (begun p (kept p vs))
            (ap (λ ws. with_root t.root (begun p (kept p ws))) (sym new)) (record { path = path; steps = steps });
      } in
      end_told _ _ _ _ _
      (passed MeetsTracking (kept_turn p) (IsMidway p t) (IsOver p t) (turns_so p t) nothing s u c e vs there
      begun_walk walk).end

-- ---- what is told

-- the first of the furthest is one of the decompositions, and none has more steps
no_more_steps : (a b : Rank) → not (is_further a b) ≡ true → a.steps ≤ b.steps
no_more_steps a b h = grind (arith, nat_tests)

module _ (ds : List Visit) (v : Visit) (h : IsFirst v (furthest ds)) where
  first_within : Contains ds v
  first_within =
      All-head (Contains ds) v h.0
      (subst (All (Contains ds)) h.1
      (All-filter (λ v. list_all (λ w. not (comes_further w v)) ds) (Contains ds) ds (All-contains_itself ds)))

  first_passes : list_all (λ w. not (comes_further w v)) ds ≡ true
  first_passes =
      All-head (λ u. list_all (λ w. not (comes_further w u)) ds ≡ true) v h.0
      (subst (All (λ u. list_all (λ w. not (comes_further w u)) ds ≡ true)) h.1
      (filter_passes (λ v. list_all (λ w. not (comes_further w v)) ds) ds))

  first_most : All (λ w. length w.node.steps ≤ length v.node.steps) ds
  first_most = by ds first_passes
    where
      by : (us : List Visit) → list_all (λ w. not (comes_further w v)) us ≡ true
          → All (λ w. length w.node.steps ≤ length v.node.steps) us
      by [] e = All-nil (λ w. length w.node.steps ≤ length v.node.steps)
      by (w ∷ us) e =
          let both = and_parts (not (comes_further w v)) (list_all (λ u. not (comes_further u v)) us) e in
          All-cons (λ u. length u.node.steps ≤ length v.node.steps) w us
          (no_more_steps (rank_of w) (rank_of v) both.0) (by us both.1)

module _ (p : List Term) (t : Tree) (f : Following) (h : IsFollowing p t f) where
  first_if : (x : Said) → CameTo (followed p t) x h.visit → (end_of x ≡ ends.Derived → ⊥)
      → IsFirst h.visit (furthest (followed p t))
  first_if (DerivedAt w) c n = absurd (n refl)
  first_if (Underived is_cut) c n = c
  first_if (Faulty g) c n = c

  -- the path of a decomposition of the walk is told, where the plan isn't derived
  pub path_followed : IsUnderived f.end → IsFollowed p t f.path.items
  path_followed n = record {
    visit = h.visit;
    within =
        first_within (followed p t) h.visit
        (first_if (said_of p t) h.came (λ e. n (h.end ∙ e)));
    is_told = sym h.path;
  }

  -- and none has more steps
  most_if : (x : Said) → said_of p t ≡ x → CameTo (followed p t) x h.visit
      → HasNoMoreAt (end_of x) p (length h.visit.node.steps) (tree_visits t)
  most_if (DerivedAt w) e c = tt
  most_if (Underived is_cut) e c = by is_cut
    where
      none : HasNoMore p (length h.visit.node.steps) (tree_visits t)
      none =
          none_more p (length h.visit.node.steps) (tree_visits t) (steps_grow t.rules t.nest t.root)
          (subst IsOpen (sym e) tt)
          (All-tail (λ w. length w.node.steps ≤ length h.visit.node.steps) (visit [] t.root Did)
          (begun p (kept p (tree_visits t))) (first_most (followed p t) h.visit c))

      by : (b : Bool) → HasNoMoreAt (cond b ends.Cut ends.Whole) p (length h.visit.node.steps) (tree_visits t)
      by true = none
      by false = none
  most_if (Faulty g) e c = tt

  pub has_most : HasMost p t f
  has_most =
      subst (λ e. HasNoMoreAt e p f.steps (tree_visits t)) (sym h.end)
      (subst (λ n. HasNoMoreAt (end_of (said_of p t)) p n (tree_visits t)) (sym h.steps)
      (most_if (said_of p t) refl h.came))
