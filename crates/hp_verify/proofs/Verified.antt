-- A whole walk along a plan.
use Rattle.std.proofs.Common.{◌≡◌, List, ap, subst, sym}
use Rattle.std.specs.List.{All}
use Rattle.std.specs.Prelude.{◌↔◌}
use Rattle.hp_best.proofs.Cheapest.{at_nodes}
use Rattle.hp_laws.specs.TreeLaws.{IsFaultless}
use Rattle.hp_net.specs.Standings.{Tree, Standing, tree_visits}
use Rattle.hp_passes.proofs.PassingLemmas.{IsEnd, Whole, Ended, passed}
use Rattle.hp_passes.specs.Passing.{Passes}
use Rattle.hp_syntax.specs.Terms.{Term}
use Rattle.hp_syntax.specs.Walk.{Visit}
use Rattle.hp_verify.specs.declared.verifying.Answer.TheVariants as answers
use Rattle.hp_verify.specs.declared.verifying.Keeping.{Keeping}
use Rattle.hp_verify.specs.declared.verifying.Verdict.{Verdict}
use Rattle.hp_verify.specs.Kept.{HasPlan, IsDerived, IsVerdict, Nothing, Underived, kept_turn, nothing, nothing_seen}
use Rattle.hp_verify.specs.Verifying.{meets_keeping, plan_of}
use Rattle.hp_verify.proofs.Exact.{kept_exact}
use Rattle.hp_verify.proofs.GrowthLemmas.{steps_grow}
use Rattle.hp_verify.proofs.KeptSteps.{left, IsMidway, IsOver, IsVerified, turns_so, verified}
use Rattle.hp_verify.proofs.StepLemmas.{never_quiet}

-- where a walk stands in the end it is verified
end_verified : (p : List Term) (t : Tree) (all : List Visit) (k : Nothing) (ws : List Visit) (s : Keeping)
    (c : Unit {0}) (there : Standing)
    → IsEnd meets_keeping (kept_turn p) (IsMidway p t all) (IsOver p t all) k ws s c there
    → IsVerified p t all s.verdict there
end_verified p t all _ _ _ _ _ (Whole k s c h) =
    verified p t all (Underived h.seen.is_cut) h.seen.expansions s.verdict _ h.same h.answer h.expansions tt
    (λ d. absurd (never_quiet h.seen.is_cut d))
end_verified p t all _ _ _ _ _ (Ended k ws s c v h) = h ws

-- so a whole walk is
pub walk_verified : (p : List Term) (t now : Tree) (s u : Keeping) (c e : Unit {0}) (vs : List Visit)
    (there : Standing) → now ≡ t → vs ≡ tree_visits t → plan_of s ≡ p → s.verdict.answer ≡ answers.NoEnd
    → s.verdict.expansions ≡ 0 → Passes meets_keeping s c vs u e there
    → IsVerified p now (tree_visits t) u.verdict there
walk_verified p t now s u c e vs there tree new plan answer expansions walk =
    let all = tree_visits t in
    let begun : IsMidway p t all nothing s c vs =
    record {
      plan = plan;
      at = at_nodes t vs new;
      seen = nothing_seen;
      answer = answer;
      expansions = expansions;
      same = ap (left p nothing_seen) new;
    } in
    subst (λ b. IsVerified p b all u.verdict there) (sym tree)
    (end_verified p t all _ _ _ _ _
    (passed meets_keeping (kept_turn p) (IsMidway p t all) (IsOver p t all) (turns_so p t all) nothing s u c e vs there
    begun walk).end)

-- so where there is no fault in a tree, it is exact
pub verdict_exact : (v : Verdict) (p : List Term) (t : Tree) → IsVerdict v p (tree_visits t)
    → All (λ w. IsFaultless w.sight) (tree_visits t) → IsDerived v.answer ↔ HasPlan p (tree_visits t)
verdict_exact v p t h f =
    subst (λ a. IsDerived a ↔ HasPlan p (tree_visits t)) (sym h.answer)
    (kept_exact p (tree_visits t) (steps_grow t.rules t.nest t.root) f)
