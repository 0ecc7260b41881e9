-- The definitions of a walk along a plan, computed on a few visits.
use Rattle.std.specs.Prelude.{◌≡◌, List, [], ◌∷◌, ◌++◌}
use Rattle.hp_dead_ends.specs.DeadEnds.{furthest, with_root}
use Rattle.hp_dead_ends.specs.Samples.{node, paths, root, task}
use Rattle.hp_following.specs.declared.following.FollowEnd.TheVariants as ends
use Rattle.hp_following.specs.Follows.{begun, end_of}
use Rattle.hp_syntax.specs.Networks.{Empty}
use Rattle.hp_syntax.specs.Terms.{Term, Symbol}
use Rattle.hp_syntax.specs.Walk.{Visit, Did, Plan, CutHere, visit}
use Rattle.hp_verify.specs.Kept.{kept, told_kept}

abbrev pub a : Term
a = Symbol (97 ∷ [])

abbrev pub b : Term
b = Symbol (98 ∷ [])

abbrev pub nothing : List Term
nothing = []

abbrev pub plan : List Term
plan = a ∷ b ∷ []

-- one step begins the plan at two places as far below, and at one less far; another step doesn't, and what lies below
-- it is left out; a plan has too few steps
abbrev pub early : List Visit
early =
    visit (0 ∷ []) (node task nothing 2) Did
    ∷ visit (0 ∷ 0 ∷ []) (node task (a ∷ []) 1) Did
    ∷ visit (1 ∷ []) (node task (b ∷ []) 2) Did
    ∷ visit (1 ∷ 0 ∷ []) (node task plan 1) Did
    ∷ visit (2 ∷ []) (node task (a ∷ []) 2) Did
    ∷ visit (2 ∷ 0 ∷ []) (node task (a ∷ []) 1) Did
    ∷ visit (2 ∷ 0 ∷ []) (node task (a ∷ []) 1) CutHere
    ∷ visit (3 ∷ []) (node Empty (a ∷ []) 2) Did
    ∷ visit (3 ∷ []) (node Empty (a ∷ []) 2) Plan
    ∷ []

-- then the plan itself, and more behind it
abbrev pub late : List Visit
late =
    visit (4 ∷ []) (node task (a ∷ []) 2) Did
    ∷ visit (4 ∷ 0 ∷ []) (node Empty plan 1) Did
    ∷ visit (4 ∷ 0 ∷ []) (node Empty plan 1) Plan
    ∷ visit (5 ∷ []) (node task plan 2) Did
    ∷ []

abbrev pub followed_in : List Visit → List Visit
followed_in vs = with_root root (begun plan (kept plan vs))

-- what the definitions say of them
pub record SampleComputes : Type 0 where
  pub followed : paths (followed_in early)
      ≡ [] ∷ (0 ∷ []) ∷ (0 ∷ 0 ∷ []) ∷ (2 ∷ []) ∷ (2 ∷ 0 ∷ []) ∷ (3 ∷ []) ∷ []
  pub first : paths (furthest (followed_in early)) ≡ (0 ∷ 0 ∷ []) ∷ (2 ∷ 0 ∷ []) ∷ []
  pub root_alone : paths (furthest (followed_in [])) ≡ [] ∷ []
  pub cut : end_of (told_kept plan early).said ≡ ends.Cut
  pub whole : end_of (told_kept plan []).said ≡ ends.Whole
  pub derived : end_of (told_kept plan (early ++ late)).said ≡ ends.Derived
