-- A walk of a tree that keeps to a plan: it leaves out every part whose steps don't begin the plan.
use Rattle.std.specs.Prelude.{◌≡◌, ◌+◌, ℕ, Bool, true, false, ◌&&◌, cond, List, [], ◌∷◌, None, Some, Contains}
use Rattle.std.specs.List.{AllPairs}
use Rattle.hp_laws.specs.TreeLaws.{IsPrefix}
use Rattle.hp_net.specs.Standings.{Tree, Standing, node_reached}
use Rattle.hp_passes.specs.Passes.{Turn, On, Past, Last, pass}
use Rattle.hp_syntax.specs.declared.fault.RunFault.{RunFault}
use Rattle.hp_syntax.specs.Terms.{Term, same_term}
use Rattle.hp_syntax.specs.Walk.{Visit, Did, Plan, CutHere, FaultHere, begins, count_told}
use Rattle.hp_verify.specs.declared.verifying.Answer.{Answer}
use Rattle.hp_verify.specs.declared.verifying.Answer.TheVariants as answers
use Rattle.hp_verify.specs.declared.verifying.Verdict.{Verdict}

-- ---- steps

-- steps begin those of a plan
abbrev pub steps_begin : List Term → List Term → Bool
steps_begin [] ps = true
steps_begin (t ∷ ts) [] = false
steps_begin (t ∷ ts) (p ∷ ps) = same_term p t && steps_begin ts ps

-- steps are those of a plan
abbrev pub steps_are : List Term → List Term → Bool
steps_are [] [] = true
steps_are [] (p ∷ ps) = false
steps_are (t ∷ ts) [] = false
steps_are (t ∷ ts) (p ∷ ps) = same_term p t && steps_are ts ps

-- ---- the kept walk

-- nothing is known on the way
abbrev pub Nothing : Type 0
Nothing = Unit {0}

abbrev pub nothing : Nothing
nothing = tt

-- what is made of a visit: what lies below a decomposition whose steps don't begin the plan is left out, and behind a
-- plan with its steps or a fault nothing comes
abbrev pub kept_turn : List Term → Nothing → Visit → Turn Nothing
kept_turn p s v =
    elim v.sight [
      | Did ↦ cond (steps_begin v.node.steps p) (On s) (Past s)
      | Plan ↦ cond (steps_are v.node.steps p) (Last s) (On s)
      | CutHere ↦ On s
      | FaultHere f ↦ Last s
    ]

-- the visits of the kept walk for a plan, over all visits of a tree
abbrev pub kept : List Term → List Visit → List Visit
kept p vs = (pass (kept_turn p) None nothing vs).made

-- ---- the answer

-- what was seen so far: how many decompositions, and whether a cut
pub record Seen : Type 0 where
  pub expansions : ℕ
  pub is_cut : Bool

abbrev pub seen : ℕ → Bool → Seen
seen n cut = record { expansions = n; is_cut = cut }

abbrev pub nothing_seen : Seen
nothing_seen = seen 0 false

-- one more decomposition, or a cut
abbrev pub with_did : Seen → Seen
with_did s = seen (s.expansions + 1) s.is_cut

abbrev pub with_cut : Seen → Seen
with_cut s = seen s.expansions true

-- what is said of a plan: it is derived, at this visit; or it wasn't, and a limit cut the tree somewhere or not; or a
-- fault was met
pub data Said : Type 0 where
  DerivedAt : (v : Visit) → Said
  Underived : (is_cut : Bool) → Said
  Faulty : (f : RunFault) → Said

-- the answer that says so
abbrev pub answer_of : Said → Answer
answer_of (DerivedAt v) = answers.Derived
answer_of (Underived is_cut) = cond is_cut answers.NoCut answers.NoEnd
answer_of (Faulty f) = answers.Fault f

-- what is said, and how many decompositions were seen by then
pub record Told : Type 0 where
  pub said : Said
  pub expansions : ℕ

abbrev pub told : Said → ℕ → Told
told x n = record { said = x; expansions = n }

-- what visits say of a plan, after what was seen before: it is derived at a plan with its steps; else a fault is told,
-- and where there is none a cut, if one was seen, or the end
abbrev pub told_of : List Term → Seen → List Visit → Told
told_of p s [] = told (Underived s.is_cut) s.expansions
told_of p s (v ∷ vs) =
    elim v.sight [
      | Did ↦ told_of p (with_did s) vs
      | Plan ↦ cond (steps_are v.node.steps p) (told (DerivedAt v) s.expansions) (told_of p s vs)
      | CutHere ↦ told_of p (with_cut s) vs
      | FaultHere f ↦ told (Faulty f) s.expansions
    ]

-- what the kept walk for a plan says, over all visits of a tree
abbrev pub told_kept : List Term → List Visit → Told
told_kept p vs = told_of p nothing_seen (kept p vs)

abbrev pub IsDerived : Answer → Type 0
IsDerived a = a ≡ answers.Derived

-- the verdict is what the kept walk says
pub record IsVerdict (v : Verdict) (p : List Term) (vs : List Visit) : Type 0 where
  pub answer : v.answer ≡ answer_of (told_kept p vs).said
  pub expansions : v.expansions ≡ count_told (told_kept p vs).expansions

-- where a plan is derived, a walk stands at the visit that derives it
abbrev pub StandsAt : Tree → Standing → Said → Type 0
StandsAt t s (DerivedAt v) = (s.path ≡ v.path) × (node_reached t s ≡ Some v.node)
StandsAt t s (Underived is_cut) = Unit {0}
StandsAt t s (Faulty f) = Unit {0}

-- ---- plans

-- the visits hold a plan with these steps
abbrev pub HasPlan : List Term → List Visit → Type 0
HasPlan p vs = (v : Visit) × Contains vs v × (v.sight ≡ Plan) × (v.node.steps ≡ p)

-- steps only grow on the way down: those of a visit begin those of what is met at or below it
abbrev pub StepsGrow : List Visit → Type 0
StepsGrow vs = AllPairs (λ v w. begins v.path w.path ≡ true → IsPrefix v.node.steps w.node.steps) vs
