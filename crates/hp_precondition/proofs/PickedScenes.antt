-- The satisfiers that a precondition takes, over scenes of one code with the same atoms; and behind a fault.
use Rattle.std.proofs.Common.{◌≡◌, ℕ, Bool, true, false, cond, List, [], ◌∷◌, ◌++◌, map, Option, Some, None, refl, ap, subst}
use Rattle.hp_syntax.specs.Terms.{Term}
use Rattle.hp_syntax.specs.Events.{Event, Sat, Cut, Fault}
use Rattle.hp_syntax.specs.Preconditions.{heard, keyed, up_to_sat, Keyed, Keys, NoKey, sorted, sorted_events, sorts_before}
use Rattle.hp_syntax.specs.Syntax as syntax
use Rattle.hp_syntax.specs.Values.{Bindings}
use Rattle.hp_syntax.specs.Views.{key_of}
use Rattle.std.specs.Prelude.{ℤ}
use Rattle.hp_eval.specs.Slotted.{Slotted, bindings_of, undone}
use Rattle.hp_gen.specs.declared.generator.Gen.{Gen}
use Rattle.hp_gen.specs.GenLaws.{Suits, rest_of}
use Rattle.hp_suspended.specs.Fitting.{Fits}
use Rattle.hp_suspended.specs.Left.{left}
use Rattle.hp_suspended.specs.SceneViews.{code_in, setting_of}
use Rattle.hp_suspended.specs.Views.{view}
use Rattle.hp_suspended.specs.declared.scene.Scene.{Scene}
use Rattle.hp_pick.specs.declared.heard.Heard.{Heard}
use Rattle.hp_pick.specs.Heard.{rest_in_order, SuitsEither, kept_of}
use Rattle.hp_pick.specs.Noted.{entry_of}
use Rattle.hp_world.specs.Recorded.{IndexedBelow, Knows}
use Rattle.hp_world.specs.Stages.{AllBelow, live_atoms}
use Rattle.hp_precondition.specs.declared.picked.Picked.{Picked}
use Rattle.hp_precondition.specs.declared.picked.Picked.TheVariants as picks
use Rattle.hp_precondition.specs.Picks.{picked_rest, PickedSuits, picked_kept}
use Rattle.std.specs.Prelude.{drop}

-- ---- scenes of one code with the same atoms

-- a scene has another's code and places, where its indexes have atoms below a count and know them over these terms
pub record IsSceneAlike (n : ℕ) (terms : List Term) (b d : Scene) : Type 0 where
  pub code : code_in b ≡ code_in d
  pub places : b.world.now.places ≡ d.world.now.places
  pub indexes : IndexedBelow n d.world
  pub knows : Knows terms d.world

-- what a generator has left is the same
gen_alike : (g : Gen) (b d : Scene) (c : List Term) (e : Slotted) → setting_of b c ≡ setting_of d c
    → rest_of g b c e ≡ rest_of g d c e
gen_alike g b d c e same = ap (λ w. heard (left w e (view g.suspended))) same

-- what is left is the same
pub rest_alike : (s : Picked) (b d : Scene) (c : List Term) (e : Slotted) → setting_of b c ≡ setting_of d c
    → picked_rest s b c e ≡ picked_rest s d c e
rest_alike (picks.All g) b d c e same = gen_alike g.value b d c e same
rest_alike (picks.First f) b d c e same =
    ap (λ xs. cond f.value.ended [] (up_to_sat xs)) (gen_alike f.value.inner b d c e same)
rest_alike (picks.Sorted x) b d c e same =
    ap (λ xs. rest_in_order (key_of x.value.key) xs c x.value.heard) (gen_alike x.value.inner b d c e same)
rest_alike (picks.Once o) b d c e same = refl

gen_suits : (g : Gen) (b d : Scene) (c : List Term) → IsSceneAlike g.kept c b d → Suits g b c → Suits g d c
gen_suits g b d c alike u = record {
  fits = subst (λ k. Fits k g.kept g.bound (view g.suspended)) alike.code u.fits;
  start = u.start;
  atoms = subst (λ ps. AllBelow g.kept (live_atoms ps)) alike.places u.atoms;
  indexes = alike.indexes;
  knows = alike.knows;
}

either_alike : (g : Gen) (h : Option Heard) (b d : Scene) (c : List Term) → IsSceneAlike (kept_of g.kept h) c b d
    → SuitsEither (Suits g b c) h → SuitsEither (Suits g d c) h
either_alike g None b d c alike u = gen_suits g b d c alike u
either_alike g (Some x) b d c alike u = u

-- a scene that suits has others like it suit
pub suits_alike : (s : Picked) (b d : Scene) (c : List Term) → IsSceneAlike (picked_kept s) c b d
    → PickedSuits s b c → PickedSuits s d c
suits_alike (picks.All g) b d c alike u = gen_suits g.value b d c alike u
suits_alike (picks.First f) b d c alike u = gen_suits f.value.inner b d c alike u
suits_alike (picks.Sorted x) b d c alike u = either_alike x.value.inner x.value.heard b d c alike u
suits_alike (picks.Once o) b d c alike u = tt

-- ---- behind a fault

-- a list that ends where it was heard ends there again
twice : (xs : List Event) → heard (heard xs) ≡ heard xs
twice [] = refl
twice (Sat e ∷ xs) = ap (λ ys. Sat e ∷ ys) (twice xs)
twice (Cut ∷ xs) = ap (λ ys. Cut ∷ ys) (twice xs)
twice (Fault f ∷ xs) = refl

first_twice : (xs : List Event) → heard (up_to_sat (heard xs)) ≡ up_to_sat (heard xs)
first_twice [] = refl
first_twice (Sat e ∷ xs) = refl
first_twice (Cut ∷ xs) = ap (λ ys. Cut ∷ ys) (first_twice xs)
first_twice (Fault f ∷ xs) = refl

heard_cut : (cut : Bool) → heard (cond cut (Cut ∷ []) []) ≡ cond cut (Cut ∷ []) []
heard_cut true = refl
heard_cut false = refl

-- satisfiers with a Cut behind them are all heard
heard_sats : (xs : List (ℤ × Bindings)) (cut : Bool)
    → heard (map (λ x. Sat x.1) xs ++ cond cut (Cut ∷ []) []) ≡ map (λ x. Sat x.1) xs ++ cond cut (Cut ∷ []) []
heard_sats [] cut = heard_cut cut
heard_sats (x ∷ xs) cut = ap (λ ys. Sat x.1 ∷ ys) (heard_sats xs cut)

heard_sorted : (order : syntax.Order) (k : Keyed) → heard (sorted_events order k) ≡ sorted_events order k
heard_sorted order (NoKey f) = refl
heard_sorted order (Keys xs cut) = heard_sats (sorted (sorts_before order) xs) cut

heard_in_order : (k : syntax.Key) (xs : List Event) (c : List Term) (h : Option Heard)
    → heard (rest_in_order k xs c h) ≡ rest_in_order k xs c h
heard_in_order k xs c None = heard_sorted k.order (keyed k xs)
heard_in_order k xs c (Some h) = heard_sats (map (entry_of c) (drop h.given h.notes.sats.items)) h.notes.cut

heard_first : (ended : Bool) (xs : List Event)
    → heard (cond ended [] (up_to_sat (heard xs))) ≡ cond ended [] (up_to_sat (heard xs))
heard_first true xs = refl
heard_first false xs = first_twice xs

heard_once : (given : Bool) (b : Bindings) → heard (cond given [] (Sat b ∷ [])) ≡ cond given [] (Sat b ∷ [])
heard_once true b = refl
heard_once false b = refl

-- no event is left behind a fault
pub rest_heard : (s : Picked) (b : Scene) (c : List Term) (e : Slotted)
    → heard (picked_rest s b c e) ≡ picked_rest s b c e
rest_heard (picks.All g) b c e = twice (left (setting_of b c) e (view g.value.suspended))
rest_heard (picks.First f) b c e = heard_first f.value.ended (left (setting_of b c) e (view f.value.inner.suspended))
rest_heard (picks.Sorted x) b c e = heard_in_order (key_of x.value.key) (rest_of x.value.inner b c e) c x.value.heard
rest_heard (picks.Once o) b c e = heard_once o.is_given (bindings_of c (undone o.mark e))
