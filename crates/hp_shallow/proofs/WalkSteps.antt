-- Facts of a walk to its first plan.
use Rattle.std.proofs.Common.{◌≡◌, ℕ, ◌+◌, Bool, true, false, nat_le, List, [], ◌∷◌, refl, sym, ap, ◌∙◌, arith}
use Rattle.std.specs.List.{All}
use Rattle.std.proofs.lemmas.Bool.{cond-true}
use Rattle.std.proofs.lemmas.Bool.Decides.{nat_tests}
use Rattle.std.proofs.lemmas.List.Elements.{All-head, All-tail}
use Rattle.hp_net.proofs.Counts.{count_on}
use Rattle.hp_net.specs.Standings.{Tree, Standing, IsAtItsNode}
use Rattle.hp_passes.specs.declared.passing.Turn.TheVariants.{On, Past, Last}
use Rattle.hp_passes.specs.Passing.{Passes, AtEnd, GoesOn, LeavesOut, Ends, at_visit}
use Rattle.hp_syntax.specs.Report.{Tally, Ended, ended, Stopped, end_of, quiet_ending, with_cut, with_did, with_plan}
use Rattle.hp_syntax.specs.Walk.{Node, Sight, Visit, Did, Plan, CutHere, FaultHere, count_told, visit}
use Rattle.hp_shallow.specs.declared.walking.ShallowEnd.TheVariants as ends
use Rattle.hp_shallow.specs.declared.walking.Walked.{Walked}
use Rattle.hp_shallow.specs.LeastDepth.{StandsAtPlan, shallow_end}
use Rattle.hp_shallow.specs.Walking.{meets_walked}

-- the first plan that is met is the one that was asked
pub one_asked : (n : ℕ) → n ≡ 0 → nat_le 1 (n + 1) ≡ true
one_asked n e = grind (arith, nat_tests)

quiet_no_plan : (b : Bool) → shallow_end (quiet_ending b) ≡ ends.Plan → ⊥
quiet_no_plan true e = cc
quiet_no_plan false e = cc

-- a walk to its first plan midway has counted what a tally has, and answers by its cuts
pub record Tallied (k : Tally) (s : Walked) : Type 0 where
  pub plans : k.plans ≡ 0
  pub expansions : s.expansions ≡ count_told k.expansions
  pub answer : s.answer ≡ shallow_end (quiet_ending k.is_cut)

module _ (tree : Tree) where
  -- in the end it answers how the visits that were left end, and stands at their first plan, or at the root
  pub record Comes (k : Tally) (vs : List Visit) (u : Walked) (there : Standing) : Type 0 where
    pub answer : u.answer ≡ shallow_end (end_of 1 k vs).ending
    pub expansions : u.expansions ≡ count_told (end_of 1 k vs).tally.expansions
    pub plan : u.answer ≡ ends.Plan → StandsAtPlan tree there vs
    pub root : u.answer ≡ ends.Cut → there.path ≡ []

  module _ (k : Tally) (q : List ℕ) (n : Node) (vs : List Visit) (s t : Walked) (tallied : Tallied k s) where
    -- after a decomposition or a cut
    comes_later : (x : Sight) (c d : Unit {0}) (u : Walked) (there : Standing)
        → meets_walked s c (visit q n x) On t d → ((j : Tally) → Tallied j t → Comes j vs u there)
        → Comes k (visit q n x ∷ vs) u there
    comes_later Did c d u there m later =
        let r = later (with_did k) (record {
          plans = tallied.plans;
          expansions = count_on t.expansions s.expansions k.expansions tallied.expansions m.2;
          answer = m.1 ∙ tallied.answer;
        }) in
        record {
          answer = r.answer;
          expansions = r.expansions;
          plan = λ e. let p = r.plan e in record { plan = p.plan; first = p.first; path = p.path; node = p.node };
          root = r.root;
        }
    comes_later Plan c d u there m later = let f : On ≡ Last = m.0 in absurd (cc)
    comes_later CutHere c d u there m later =
        let r = later (with_cut k) (record {
          plans = tallied.plans;
          expansions = m.2 ∙ tallied.expansions;
          answer = m.1;
        }) in
        record {
          answer = r.answer;
          expansions = r.expansions;
          plan = λ e. let p = r.plan e in record { plan = p.plan; first = p.first; path = p.path; node = p.node };
          root = r.root;
        }
    comes_later (FaultHere f) c d u there m later = let g : On ≡ Last = m.0 in absurd (cc)

    -- at a plan or a fault
    comes_here : (x : Sight) (c d : Unit {0}) → IsAtItsNode tree (visit q n x)
        → meets_walked s c (visit q n x) Last t d → Comes k (visit q n x ∷ vs) t (at_visit (visit q n x) vs)
    comes_here Did c d at m = let f : Last ≡ On = m.0 in absurd (cc)
    comes_here Plan c d at m =
        let all : end_of 1 k (visit q n Plan ∷ vs) ≡ ended Stopped (with_plan k) =
        cond-true (nat_le 1 (k.plans + 1)) (ended Stopped (with_plan k)) (end_of 1 (with_plan k) vs)
        (one_asked k.plans tallied.plans) in
        record {
          answer = m.1 ∙ ap (λ (z : Ended). shallow_end z.ending) (sym all);
          expansions = m.2 ∙ (tallied.expansions ∙ ap (λ (z : Ended). count_told z.tally.expansions) (sym all));
          plan = λ e. record { plan = visit q n Plan; first = refl; path = refl; node = at };
          root = λ e. let f : ends.Plan ≡ ends.Cut = sym m.1 ∙ e in absurd (cc);
        }
    comes_here CutHere c d at m = let f : Last ≡ On = m.0 in absurd (cc)
    comes_here (FaultHere f) c d at m = record {
      answer = m.1;
      expansions = m.2 ∙ tallied.expansions;
      plan = λ e. let g : ends.Fault f ≡ ends.Plan = sym m.1 ∙ e in absurd (cc);
      root = λ e. let g : ends.Fault f ≡ ends.Cut = sym m.1 ∙ e in absurd (cc);
    }

    -- nothing is left out
    none_past : (x : Sight) (c d : Unit {0}) → meets_walked s c (visit q n x) Past t d → ⊥
    none_past Did c d m = let f : Past ≡ On = m.0 in cc
    none_past Plan c d m = let f : Past ≡ Last = m.0 in cc
    none_past CutHere c d m = let f : Past ≡ On = m.0 in cc
    none_past (FaultHere f) c d m = let g : Past ≡ Last = m.0 in cc

  pub comes : (k : Tally) (vs : List Visit) (s u : Walked) (c e : Unit {0}) (there : Standing) → Tallied k s
      → All (IsAtItsNode tree) vs → Passes meets_walked s c vs u e there → Comes k vs u there
  comes k _ _ _ _ _ _ h at (AtEnd s c) = record {
    answer = h.answer;
    expansions = h.expansions;
    plan = λ e. absurd (quiet_no_plan k.is_cut (sym h.answer ∙ e));
    root = λ e. refl;
  }
  comes k _ _ _ _ _ _ h at (GoesOn s t u c d e v vs there m rest) =
      comes_later k v.path v.node vs s t h v.sight c d u there m
      (λ j tallied. comes j vs t u d e there tallied (All-tail (IsAtItsNode tree) v vs at) rest)
  comes k _ _ _ _ _ _ h at (LeavesOut s t u c d e v vs there m rest) =
      absurd (none_past k v.path v.node vs s t h v.sight c d m)
  comes k _ _ _ _ _ _ h at (Ends s t c d v vs m) =
      comes_here k v.path v.node vs s t h v.sight c d (All-head (IsAtItsNode tree) v vs at) m
