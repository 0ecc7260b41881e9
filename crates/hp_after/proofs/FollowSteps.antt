-- The visits that are left follow the path that a walk goes to.
use Rattle.std.proofs.Common.{◌≡◌, ℕ, List, [], ◌∷◌, ◌++◌, refl, sym, subst}
use Rattle.std.proofs.lemmas.List.{append-nil}
use Rattle.hp_passes.specs.Passes.{Turn, On, Past, Last}
use Rattle.hp_syntax.specs.Walk.{Sight, Did, Plan, CutHere, FaultHere, Visit, skip}
use Rattle.hp_after.specs.declared.reaching.Side.{Side}
use Rattle.hp_after.specs.declared.reaching.Side.TheVariants as sides
use Rattle.hp_after.specs.Reach.{Coming, did_turn, plan_turn, reach_turn, side_of, with_did}
use Rattle.hp_after.specs.Stepping.{IsBeginning, StepsFrom, Follows, AllFollow}
use Rattle.hp_after.proofs.SideLemmas.{above_begins, here_same}
use Rattle.hp_after.proofs.SteppingLemmas.{all_follow_left, all_follow_on}
use Rattle.hp_after.proofs.TurnSteps.{turn_cut, turn_did, turn_fault, turn_plan}

-- what is left after a visit follows a path, where the walk goes on
abbrev pub FollowsThen : List ℕ → Visit → List Visit → Turn Coming → Type 0
FollowsThen p v vs (On k) = AllFollow p vs
FollowsThen p v vs (Past k) = AllFollow p (skip v.path vs)
FollowsThen p v vs (Last k) = Unit {0}

module _ (p : List ℕ) (v : Visit) (vs : List Visit) (follow : AllFollow v.path vs) where
  -- what follows a beginning of a path follows the path
  begun_follow : (q : List ℕ) (ws : List Visit) → IsBeginning q p → AllFollow q ws → AllFollow p ws
  begun_follow q ws b f = subst (λ l. AllFollow l ws) (sym b.whole) (all_follow_on q b.behind ws f)

  -- so does what is left after a decomposition before the path
  left_before : StepsFrom v.path p → AllFollow p (skip v.path vs)
  left_before steps =
      let a = steps.above in
      let out = a ++ steps.number ∷ [] in
      let left : AllFollow a (skip out vs) =
      all_follow_left a steps.number vs out (record { behind = []; whole = sym (append-nil out) })
      (subst (λ q. AllFollow q vs) steps.path follow) in
      begun_follow a (skip v.path vs) steps.beginning
      (subst (λ q. AllFollow a (skip q vs)) (sym steps.path) left)

  then_did : (k : Coming) (x : Side) → side_of v.path p ≡ x → StepsFrom v.path p
      → FollowsThen p v vs (did_turn x k)
  then_did k sides.Before h steps = left_before steps
  then_did k sides.Above h steps = begun_follow v.path vs (above_begins v.path p h) follow
  then_did k sides.Here h steps = subst (λ q. AllFollow q vs) (here_same v.path p h) follow
  then_did k sides.Beyond h steps = tt

  then_plan : (k : Coming) (x : Side) → IsBeginning v.path p → FollowsThen p v vs (plan_turn x k)
  then_plan k sides.Before b = begun_follow v.path vs b follow
  then_plan k sides.Above b = begun_follow v.path vs b follow
  then_plan k sides.Here b = tt
  then_plan k sides.Beyond b = begun_follow v.path vs b follow

  -- after each visit that follows the path
  pub follows_then : (k : Coming) (x : Sight) → v.sight ≡ x → Follows x v.path p
      → FollowsThen p v vs (reach_turn p k v)
  follows_then k Did e f =
      subst (FollowsThen p v vs) (sym (turn_did p k v (side_of v.path p) e refl))
      (then_did (with_did k) (side_of v.path p) refl f)
  follows_then k Plan e f =
      subst (FollowsThen p v vs) (sym (turn_plan p k v (side_of v.path p) e refl))
      (then_plan k (side_of v.path p) f)
  follows_then k CutHere e f =
      subst (FollowsThen p v vs) (sym (turn_cut p k v e)) (begun_follow v.path vs f follow)
  follows_then k (FaultHere g) e f = subst (FollowsThen p v vs) (sym (turn_fault p k v g e)) tt
