-- The first of the decompositions that came furthest, as more of them come.
use Rattle.std.proofs.Common.{◌≡◌, ◌-◌, ◌^◌, min, Bool, true, false, ◌&&◌, cond, List, [], ◌∷◌, ◌++◌, length, append_assoc, refl, sym, ap, ap₂, ◌∙◌, subst, arith, inr}
use Rattle.std.specs.Prelude.{not}
use Rattle.std.proofs.lemmas.Bool.Decides.{nat_tests}
use Rattle.std.proofs.lemmas.List.{append-nil, length-map}
use Rattle.hp_dead_ends.proofs.RankLemmas.{furthest_further, furthest_nearer, furthest_same, top_further, top_nearer, top_same}
use Rattle.hp_dead_ends.specs.DeadEnds.{Rank, rank, rank_of, is_further, furthest}
use Rattle.hp_dead_ends.specs.Searching.{IsTop}
use Rattle.hp_following.specs.declared.following.Following.{Following}
use Rattle.hp_following.specs.Follows.{IsFirst}
use Rattle.hp_following.specs.Tracking.{Tells, rank_found}
use Rattle.hp_laws.proofs.JoinLemmas.{all_one}
use Rattle.hp_syntax.specs.Walk.{Visit}

-- what was found is told of the first of those that came furthest among decompositions before the ones that are left
pub record IsFar (whole : List Visit) (f : Following) (rest : List Visit) : Type 0 where
  pub so_far : List Visit
  pub parts : whole ≡ so_far ++ rest
  pub best : Visit
  pub tells : Tells f best
  pub first : IsFirst best (furthest so_far)
  pub top : IsTop (rank_of best) so_far

-- it stays where the place does
pub far_kept : (whole : List Visit) (f g : Following) (rest : List Visit) → IsFar whole f rest
    → g.path.items ≡ f.path.items → g.steps ≡ f.steps → IsFar whole g rest
far_kept whole f g rest h path steps = record {
  so_far = h.so_far;
  parts = h.parts;
  best = h.best;
  tells = record { path = path ∙ h.tells.path; steps = steps ∙ h.tells.steps };
  first = h.first;
  top = h.top;
}

module _ (whole : List Visit) (f g : Following) (v : Visit) (rest : List Visit) (h : IsFar whole f (v ∷ rest)) where
  parts_on : whole ≡ (h.so_far ++ v ∷ []) ++ rest
  parts_on = h.parts ∙ sym (append_assoc h.so_far (v ∷ []) rest)

  found_rank : rank_found f ≡ rank_of h.best
  found_rank =
      ap₂ rank h.tells.steps (ap length h.tells.path ∙ length-map h.best.path (λ i. min i (2 ^ 64 - 1)))

  -- it came further
  far_further : is_further (rank_of v) (rank_of h.best) ≡ true → Tells g v → IsFar whole g rest
  far_further e tells = record {
    so_far = h.so_far ++ v ∷ [];
    parts = parts_on;
    best = v;
    tells = tells;
    first = ([], furthest_further (rank_of h.best) h.so_far v h.top e);
    top = top_further (rank_of h.best) h.so_far v h.top e;
  }

  -- it came less far, or as far
  far_nearer : (b : Bool) → is_further (rank_of h.best) (rank_of v) ≡ b
      → is_further (rank_of v) (rank_of h.best) ≡ false → g ≡ f → IsFar whole g rest
  far_nearer true k e same = record {
    so_far = h.so_far ++ v ∷ [];
    parts = parts_on;
    best = h.best;
    tells = subst (λ x. Tells x h.best) (sym same) h.tells;
    first = (h.first.0, furthest_nearer (rank_of h.best) h.so_far v h.top k ∙ h.first.1);
    top = top_nearer (rank_of h.best) h.so_far v h.top k;
  }
  far_nearer false k e same = record {
    so_far = h.so_far ++ v ∷ [];
    parts = parts_on;
    best = h.best;
    tells = subst (λ x. Tells x h.best) (sym same) h.tells;
    first = (
      h.first.0 ++ v ∷ [],
      furthest_same (rank_of h.best) h.so_far v h.top k e ∙ ap (λ us. us ++ v ∷ []) h.first.1,
    );
    top = top_same (rank_of h.best) h.so_far v h.top k e;
  }

  -- so one that is noted keeps it the first
  pub far_noted : (is_further (rank_of v) (rank_found f) ≡ true → Tells g v)
      → (is_further (rank_of v) (rank_found f) ≡ false → g ≡ f) → IsFar whole g rest
  far_noted further nearer = by (is_further (rank_of v) (rank_of h.best)) refl
    where
      at_found : (b : Bool) → is_further (rank_of v) (rank_of h.best) ≡ b → is_further (rank_of v) (rank_found f) ≡ b
      at_found b e = ap (is_further (rank_of v)) found_rank ∙ e

      by : (b : Bool) → is_further (rank_of v) (rank_of h.best) ≡ b → IsFar whole g rest
      by true e = far_further e (further (at_found true e))
      by false e = far_nearer (is_further (rank_of h.best) (rank_of v)) refl e (nearer (at_found false e))

-- ---- the root alone

not_further_itself : (a : Rank) → is_further a a ≡ false
not_further_itself a = grind (arith, nat_tests)

pub far_root : (whole : List Visit) (f : Following) (v : Visit) (rest : List Visit) → whole ≡ v ∷ rest → Tells f v
    → IsFar whole f rest
far_root whole f v rest e tells = record {
  so_far = v ∷ [];
  parts = e;
  best = v;
  tells = tells;
  first = ([], ap (λ b. cond (not b && true) (v ∷ []) []) (not_further_itself (rank_of v)));
  top =
      record {
        none = all_one (λ w. is_further (rank_of w) (rank_of v) ≡ false) v (not_further_itself (rank_of v));
        some = inr (0, v, omega arith, refl, refl);
      };
}

-- ---- the end

-- where none is left it is the first of all that came furthest
pub far_end : (whole : List Visit) (f : Following) → (h : IsFar whole f []) → IsFirst h.best (furthest whole)
far_end whole f h =
    subst (λ us. IsFirst h.best (furthest us)) (sym (h.parts ∙ append-nil h.so_far)) h.first
