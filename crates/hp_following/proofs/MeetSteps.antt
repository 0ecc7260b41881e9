-- A decomposition that a walk along a plan notes.
use Rattle.std.proofs.Common.{◌≡◌, Bool, true, List, Option, Some, MatchOption, refl, sym, ◌∙◌, subst}
use Rattle.hp_following.specs.declared.following.Tracking.{Tracking}
use Rattle.hp_following.specs.Tracking.{Begins, Comes, MeetsTracking, Notes, plan_of}
use Rattle.hp_passes.specs.declared.passing.Turn.TheVariants.{On}
use Rattle.hp_syntax.specs.Terms.{Term}
use Rattle.hp_syntax.specs.Walk.{Did, Node, Visit}
use Rattle.hp_verify.specs.Kept.{steps_begin}

-- what is told of the node that is reached
pub begins_there : (p : List Term) (o : Option Node) (n : Node) (b : Bool) → o ≡ Some n
    → MatchOption o ⊥ (λ m. b ≡ steps_begin m.steps p) → b ≡ true → steps_begin n.steps p ≡ true
begins_there p o n b e h is = sym (subst (λ x. MatchOption x ⊥ (λ m. b ≡ steps_begin m.steps p)) e h) ∙ is

pub meets_did : (s u : Tracking) (c d : Unit {0}) (v : Visit) → v.sight ≡ Did
    → steps_begin v.node.steps (plan_of s) ≡ true → Notes s u v → MeetsTracking s c v On u d
meets_did s u c d v e h notes =
    subst (λ y. Comes y s v On u) (sym e) (subst (λ b. Begins b s v On u) (sym h) (refl, notes))
