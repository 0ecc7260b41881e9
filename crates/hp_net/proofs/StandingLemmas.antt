-- Places where a walk stands.
use Rattle.std.proofs.Common.{◌≡◌, ◌≢◌, ℕ, suc, ◌<◌, List, [], ◌∷◌, length, arith, refl, ap, sym, Option, Some, None, option_map, map, true, false, ◌==◌, nat_eq, ◌∙◌}
use Rattle.std.proofs.lemmas.Option.{same_Some}
use Rattle.hp_syntax.specs.Walk.{Node, Sight, Visit, visit, Did, Plan, CutHere, FaultHere}
use Rattle.hp_net.specs.declared.walk.Step.{Step}
use Rattle.hp_net.specs.declared.walk.Step.TheVariants as steps
use Rattle.hp_net.specs.Standings.{Standing, standing, parent, step_of, next_below, arrived, stepped}
use Rattle.std.proofs.lemmas.Bool.Decides.{nat_tests}

-- a successor is not zero
no_zero : (n : ℕ) → nat_eq (suc n) 0 ≡ false
no_zero n = grind (arith, nat_tests)

-- the way to a parent is shorter
pub parent_shorter : (p : List ℕ) → p ≢ [] → length (parent p) < length p
parent_shorter [] h = absurd (h refl)
parent_shorter (i ∷ []) h = omega arith
parent_shorter (i ∷ j ∷ p) h = omega (arith, parent_shorter (j ∷ p) (λ e. cc))

-- where no step is told, there is no visit
pub nothing : (o : Option Visit) → option_map step_of o ≡ None → o ≡ None
nothing None e = refl
nothing (Some v) e = cc

-- where no step is told, the walk stays where it stands
pub stays_put : (s t : Standing) → t ≡ stepped s → option_map step_of (next_below s.path s.rest) ≡ None
    → t ≡ standing s.path s.rest false
stays_put s t h e = h ∙ ap (λ o. arrived s.path o s.rest) (nothing (next_below s.path s.rest) e)

-- a path told with some numbers isn't empty
pub not_empty : (f : ℕ → ℕ) (p q : List ℕ) → q ≡ map f p → false ≡ (length q == 0) → p ≢ []
not_empty f [] q e h = let h' : false ≡ true = h ∙ ap (λ r. length r == 0) e in λ _. cc
not_empty f (i ∷ p) q e h = λ k. cc

-- a path told with no numbers is empty
pub told_empty : (f : ℕ → ℕ) (p q : List ℕ) → q ≡ map f p → true ≡ (length q == 0) → p ≡ []
told_empty f [] q e h = refl
told_empty f (i ∷ p) q e h =
    let h' : true ≡ false = h ∙ (ap (λ r. length r == 0) e ∙ no_zero (length (map f p))) in absurd (cc)

-- no visit is told as the end
visit_is_no_end : (p : List ℕ) (n : Node) (x : Sight) → step_of (visit p n x) ≢ steps.End
visit_is_no_end p n Did = λ e. cc
visit_is_no_end p n Plan = λ e. cc
visit_is_no_end p n CutHere = λ e. cc
visit_is_no_end p n (FaultHere f) = λ e. cc

-- a step tells a visit, and not the end
pub some_step_is_no_end : (s : Step) (o : Option Visit) → Some s ≡ option_map step_of o → s ≢ steps.End
some_step_is_no_end s None e = λ _. cc
some_step_is_no_end s (Some v) e = λ h. visit_is_no_end v.path v.node v.sight (sym (same_Some s (step_of v) e) ∙ h)
