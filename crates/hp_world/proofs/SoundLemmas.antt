-- Stores whose indexes follow their places, through one change.
use Rattle.std.proofs.Common.{◌≡◌, ℕ, List, [], ◌∷◌, ◌++◌, Some, None, get_or, set, vec_capacity, subst, arith}
use Rattle.std.specs.List.{All, AllZip}
use Rattle.std.proofs.lemmas.List.Elements.{All-weaker}
use Rattle.hp_world.specs.declared.store.Change.{Change}
use Rattle.hp_world.specs.declared.store.Change.TheVariants.{Deleted, Added}
use Rattle.hp_world.specs.declared.store.Store.{Store}
use Rattle.hp_world.specs.declared.part_index.Step.TheVariants.{Out, Back, More, Fewer}
use Rattle.hp_world.specs.Following.{Rejoins}
use Rattle.hp_world.specs.Keyed.{Keyed, Allows, Steps, IsAsRoomy}
use Rattle.hp_world.specs.Pasts.{HasStood}
use Rattle.hp_world.specs.Stages.{Stage}
use Rattle.hp_world.specs.Trails.{IsUndoable}
use Rattle.hp_world.specs.Undoing.{undone, Fits, IsAny, IsFollowed, IsSound, history_of, stage_of}
use Rattle.hp_world.proofs.FollowedLemmas as followed
use Rattle.hp_world.proofs.FollowingLemmas.{place_within}
use Rattle.hp_world.proofs.TrailLemmas.{undoable_popped}
use Rattle.hp_world.proofs.ZipLemmas.{all_zipped}

-- all indexes follow a stage that has these changes behind it
abbrev pub AllFollow : Stage → List Change → List Keyed → Type 0
AllFollow s ts ps = All (IsFollowed s ts) ps

-- the indexes of a sound store have no atoms but those that stood
pub all_stood : (s : Store) → IsSound s → All (HasStood (history_of s)) s.parts.items
all_stood s h =
    All-weaker (IsFollowed (stage_of s) s.trail.items) (HasStood (history_of s)) (λ p f. f.stood) s.parts.items
    h.followed

module _ (s : Store) (h : IsSound s) (ps : List Keyed) where
  -- a place with an atom may be taken out of all indexes
  pub out_allowed : (i a : ℕ) → get_or s.places.places i None ≡ Some a → All (Allows (Out i)) s.parts.items
  out_allowed i a live =
      let within = place_within s.places.places i a live in
      All-weaker (IsFollowed (stage_of s) s.trail.items) (Allows (Out i))
      (λ p f. omega (arith, within, f.now.count)) s.parts.items h.followed

  -- all indexes follow where an atom goes
  pub all_deleted : (i a : ℕ) → get_or s.places.places i None ≡ Some a → AllZip (Steps (Out i)) s.parts.items ps
      → AllFollow (record { places = set s.places.places i None; guards = s.guards.items })
      (s.trail.items ++ Deleted i a ∷ []) ps
  all_deleted i a live steps =
      all_zipped (IsFollowed (stage_of s) s.trail.items) _ (Steps (Out i))
      (λ p q f step. followed.followed_deleted s.places.width (vec_capacity s.guards) p q (stage_of s) s.trail.items
      h.undoable f i a live step) s.parts.items ps h.followed steps

  -- all indexes follow where an atom comes
  pub all_added : (a n : ℕ) → All (Allows (More a n)) s.parts.items → AllZip (Steps (More a n)) s.parts.items ps
      → AllFollow (record { places = s.places.places ++ Some a ∷ []; guards = s.guards.items })
      (s.trail.items ++ Added ∷ []) ps
  all_added a n allowed steps =
      all_zipped (λ p. IsFollowed (stage_of s) s.trail.items p × Allows (More a n) p) _ (Steps (More a n))
      (λ p q f step. followed.followed_added s.places.width (vec_capacity s.guards) p q (stage_of s) s.trail.items
      h.undoable f.0 a n f.1.2 step) s.parts.items ps (λ k d l. (h.followed k d l, allowed k d l)) steps

  -- all indexes follow places that stay
  pub all_same : (t : Change) (after : Stage) → after.places ≡ s.places.places → undone t after ≡ stage_of s
      → ((p : Keyed) → Rejoins p t after) → AllFollow after (s.trail.items ++ t ∷ []) s.parts.items
  all_same t after places back r =
      All-weaker (IsFollowed (stage_of s) s.trail.items) _
      (λ p f. followed.followed_same s.places.width (vec_capacity s.guards) p p
      (stage_of s) s.trail.items h.undoable f t
      after places back (r p)) s.parts.items h.followed

  -- all indexes follow where there is more room
  pub all_roomier : AllZip IsAsRoomy s.parts.items ps → AllFollow (stage_of s) s.trail.items ps
  all_roomier steps =
      all_zipped (IsFollowed (stage_of s) s.trail.items) _ IsAsRoomy
      (λ p q f r. followed.followed_roomier s.places.width (vec_capacity s.guards) p q (stage_of s) s.trail.items
      h.undoable f r) s.parts.items ps h.followed steps

module _ (s : Store) (h : IsSound s) (ts : List Change) (t : Change) (trail : s.trail.items ≡ ts ++ t ∷ []) where
  -- the last change fits, and those before it can be undone
  last_of : IsUndoable undone (Fits s.places.width (vec_capacity s.guards)) IsAny (ts ++ t ∷ []) (stage_of s)
  last_of =
      let fit = Fits s.places.width (vec_capacity s.guards) in
      subst (λ (us : List Change). IsUndoable undone fit IsAny us (stage_of s)) trail h.undoable

  popped : Fits s.places.width (vec_capacity s.guards) t (stage_of s)
      × IsUndoable undone (Fits s.places.width (vec_capacity s.guards)) IsAny ts (undone t (stage_of s))
  popped = undoable_popped undone (Fits s.places.width (vec_capacity s.guards)) IsAny ts t (stage_of s) last_of

  followed_so : AllFollow (stage_of s) (ts ++ t ∷ []) s.parts.items
  followed_so = subst (λ (us : List Change). AllFollow (stage_of s) us s.parts.items) trail h.followed

  -- all indexes follow places that stayed
  pub all_before : (undone t (stage_of s)).places ≡ s.places.places
      → AllFollow (undone t (stage_of s)) ts s.parts.items
  all_before places =
      All-weaker (IsFollowed (stage_of s) (ts ++ t ∷ [])) _
      (λ p f. followed.followed_before s.places.width (vec_capacity s.guards) p p (stage_of s) ts t places f)
      s.parts.items followed_so

module _ (s : Store) (h : IsSound s) (ts : List Change) (ps : List Keyed) where
  -- a place whose atom was deleted may be put back in all indexes
  pub back_allowed : (i a : ℕ) → s.trail.items ≡ ts ++ Deleted i a ∷ [] → All (Allows (Back i)) s.parts.items
  back_allowed i a trail =
      let vacant = (popped s h ts (Deleted i a) trail).0 in
      All-weaker (IsFollowed (stage_of s) (ts ++ Deleted i a ∷ [])) (Allows (Back i))
      (λ p f. followed.back_allowed s.places.width (vec_capacity s.guards) p p (stage_of s) ts i a vacant f)
      s.parts.items (followed_so s h ts (Deleted i a) trail)

  -- all indexes follow where an atom comes back
  pub all_restored : (i a : ℕ) → s.trail.items ≡ ts ++ Deleted i a ∷ [] → AllZip (Steps (Back i)) s.parts.items ps
      → AllFollow (undone (Deleted i a) (stage_of s)) ts ps
  all_restored i a trail steps =
      let last = popped s h ts (Deleted i a) trail in
      all_zipped (IsFollowed (stage_of s) (ts ++ Deleted i a ∷ [])) _ (Steps (Back i))
      (λ p q f step. followed.followed_restored s.places.width (vec_capacity s.guards) p q (stage_of s) ts i a last.0
      last.1 f step) s.parts.items ps (followed_so s h ts (Deleted i a) trail) steps

  -- all indexes follow where the last place goes
  pub all_fewer : s.trail.items ≡ ts ++ Added ∷ [] → AllZip (Steps Fewer) s.parts.items ps
      → AllFollow (undone Added (stage_of s)) ts ps
  all_fewer trail steps =
      let last = popped s h ts Added trail in
      all_zipped (IsFollowed (stage_of s) (ts ++ Added ∷ [])) _ (Steps Fewer)
      (λ p q f step. followed.followed_fewer s.places.width (vec_capacity s.guards) p q (stage_of s) ts last.1 f step)
      s.parts.items ps (followed_so s h ts Added trail) steps
