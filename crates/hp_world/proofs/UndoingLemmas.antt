-- One change made, or undone.
use Rattle.std.proofs.Common.{◌≡◌, ℕ, ◌+◌, ◌<◌, ◌≤◌, List, [], ◌∷◌, ◌++◌, inl, inr, Option, None, length, get_or, set, sym, ap, ap₂, ◌∙◌, subst, arith, vec_len, vec_capacity}
use Rattle.std.proofs.lemmas.List.{take_at, length_push, length-set, get_or-set_same, get_or-set_other}
use Rattle.std.proofs.lemmas.Bool.{cases_eq}
use Rattle.std.proofs.lemmas.Option.{none-some}
use Rattle.std.specs.List.{All}
use Rattle.hp_world.specs.declared.store.Change.{Change}
use Rattle.hp_world.specs.declared.store.Change.TheVariants.{Deleted, Added, Cancelled, Protected}
use Rattle.hp_world.specs.declared.store.Store.{Store}
use Rattle.hp_world.specs.Histories.{history, undone_to, KeepsPasts}
use Rattle.hp_world.specs.Indexed.{IsOnlyAt}
use Rattle.hp_world.specs.Stages.{Stage, AllBelow, PlacesKept, live_atoms}
use Rattle.hp_world.specs.Trails.{IsUndoable}
use Rattle.hp_world.specs.Undoing.{all_but_last, undone, Fits, IsVacant, IsAny, IsFollowed, stage_of, history_of, IsSound, Moves, Undoes}
use Rattle.hp_world.proofs.StageLemmas.{kept_more}
use Rattle.hp_world.proofs.HistoryLemmas.{undone_pushed}
use Rattle.hp_world.proofs.PastLemmas.{pasts_pushed, present_below}
use Rattle.hp_world.proofs.TrailLemmas.{keeps_pushed, length_pasts, undoable_pushed, undoable_popped, undoable_weaker}

-- all but what comes last are those before it
pub all_but_last_pushed : {A : Type 0} (xs : List A) (x : A) → all_but_last (xs ++ x ∷ []) ≡ xs
all_but_last_pushed xs x = take_at xs (x ∷ []) _ (omega (arith, length_push xs x))

-- a change that can be undone can be undone in a wider table and in more room
fits_more : (width wider room more : ℕ) → width ≤ wider → room ≤ more → (t : Change) (s : Stage)
    → Fits width room t s → Fits wider more t s
fits_more width wider room more w r (Deleted i a) s f =
    record { place = f.place; empty = f.empty; absent = f.absent; within = omega (arith, f.within) }
fits_more width wider room more w r Added s f = f
fits_more width wider room more w r (Cancelled i a) s f = (f.0, omega (arith, f.1))
fits_more width wider room more w r Protected s f = f

-- changes that can be undone can be undone in a wider table and in more room
pub undoable_more : (width wider room more : ℕ) → width ≤ wider → room ≤ more → (ts : List Change) (s : Stage)
    → IsUndoable undone (Fits width room) IsAny ts s → IsUndoable undone (Fits wider more) IsAny ts s
undoable_more width wider room more w r ts s h =
    undoable_weaker undone (Fits width room) IsAny (Fits wider more) (fits_more width wider room more w r) ts s h

-- equal places and equal protections make equal stages
pub same_stage : (ps qs : List (Option ℕ)) (gs hs : List ℕ) → ps ≡ qs → gs ≡ hs
    → (λ (s : Stage). s) (record { places = ps; guards = gs }) ≡ record { places = qs; guards = hs }
same_stage ps qs gs hs e f =
    let stage : List (Option ℕ) → List ℕ → Stage = λ xs ys. record { places = xs; guards = ys } in ap₂ stage e f

-- an atom taken off its only place can be put back
pub vacated : (width : ℕ) (ps : List (Option ℕ)) (i a : ℕ) → IsOnlyAt a ps i → a < width
    → IsVacant width (set ps i None) i a
vacated width ps i a h l = record {
  place = omega (arith, h.within, length-set ps i None);
  empty = get_or-set_same ps i None None h.within;
  absent = λ j g. elim (cases_eq j i) [
    | inl e ↦
        none-some a (sym (get_or-set_same ps i None None h.within)
        ∙ ap (λ k. get_or (set ps i None) k None) (sym e) ∙ g)
    | inr n ↦ n (h.only j (sym (get_or-set_other ps i j None None n) ∙ g))
  ];
  within = l;
}

-- where one change is noted, undoing takes it back and places are kept, what stood before is kept
pub moved : (old new : Store) (t : Change) (added : List ℕ) → IsSound old → new.trail.items ≡ old.trail.items ++ t ∷ []
    → undone t (stage_of new) ≡ stage_of old → PlacesKept old.places.places new.places.places
    → ((k : ℕ) → AllBelow k added → AllBelow k (live_atoms old.places.places)
    → AllBelow k (live_atoms new.places.places)) → Fits new.places.width (vec_capacity new.guards) t (stage_of new)
    → vec_len new.trail ≡ vec_len old.trail + 1 → vec_capacity new.trail ≡ vec_capacity old.trail
    → vec_capacity new.guards ≡ vec_capacity old.guards → new.places.room ≡ old.places.room
    → new.places.width ≡ old.places.width → All (IsFollowed (stage_of new) new.trail.items) new.parts.items
    → Moves 1 added old new
moved old new t added sound trail back kept below fits count trail_room guards_room places_room width followed =
    let fit = Fits new.places.width (vec_capacity new.guards) in
    let before : IsUndoable undone fit IsAny old.trail.items (undone t (stage_of new)) =
    rw (back, guards_room, width) sound.undoable in
    let keeps : KeepsPasts (history undone old.trail.items (undone t (stage_of new)))
    (history undone (old.trail.items ++ t ∷ []) (stage_of new)) = keeps_pushed undone old.trail.items t
    (stage_of new) in
    let all_kept : KeepsPasts (history_of old) (history_of new) =
    subst (λ (ts : List Change). KeepsPasts (history_of old) (history undone ts (stage_of new))) (sym trail)
    (subst
    (λ (s : Stage). KeepsPasts (history undone old.trail.items s) (history undone (old.trail.items ++ t ∷ [])
    (stage_of new)))
    back keeps) in
    record {
      keeps = all_kept;
      kept = kept;
      below = λ k few pasts.
          pasts_pushed k (history_of old) (history_of new) all_kept
          (omega (
            arith,
            length_pasts undone old.trail.items (stage_of old),
            length_pasts undone new.trail.items (stage_of new),
            ap length trail,
            length_push old.trail.items t,
          )) pasts
          (below k few (present_below k (history_of old) pasts));
      sound = record {
        undoable =
            subst (λ (ts : List Change). IsUndoable undone fit IsAny ts (stage_of new)) (sym trail)
            (undoable_pushed undone fit IsAny old.trail.items t (stage_of new) tt fits before);
        followed = followed;
      };
      count = omega arith;
      trail_room = trail_room;
      guards_room = guards_room;
      places_room = places_room;
      width = width;
    }

-- the last change on a trail fits
pub last_fits : (width room : ℕ) (ts rest : List Change) (t : Change) (s : Stage)
    → IsUndoable undone (Fits width room) IsAny ts s → ts ≡ rest ++ t ∷ [] → Fits width room t s
last_fits width room ts rest t s h trail =
    let fit = Fits width room in
    (undoable_popped undone fit IsAny rest t s
    (subst (λ (us : List Change). IsUndoable undone fit IsAny us s) trail h)).0

-- where the last change was taken back, the others can be undone, and earlier times are the same
pub taken_back : (old new : Store) (t : Change) → IsSound old → old.trail.items ≡ new.trail.items ++ t ∷ []
    → vec_len new.trail + 1 ≡ vec_len old.trail → stage_of new ≡ undone t (stage_of old)
    → old.places.width ≤ new.places.width → vec_capacity old.guards ≤ vec_capacity new.guards
    → All (IsFollowed (stage_of new) new.trail.items) new.parts.items → Undoes old new
taken_back old new t sound trail fewer back width room followed =
    let fit = Fits old.places.width (vec_capacity old.guards) in
    let rest = new.trail.items in
    let popped =
    undoable_popped undone fit IsAny rest t (stage_of old)
    (subst (λ (us : List Change). IsUndoable undone fit IsAny us (stage_of old)) trail sound.undoable) in
    record {
      sound = record {
        undoable =
            undoable_more old.places.width new.places.width (vec_capacity old.guards) (vec_capacity new.guards) width
            room rest (stage_of new) (subst (λ (q : Stage). IsUndoable undone fit IsAny rest q) (sym back) popped.1);
        followed = followed;
      };
      fewer = fewer;
      back = λ m l.
          let n : m ≤ length rest = omega (arith, l, ap length trail, length_push rest t, old.trail.ok.0) in
          ap (λ (q : Stage). undone_to m (history undone rest q)) back
          ∙ sym (ap (λ (us : List Change). undone_to m (history undone us (stage_of old))) trail
          ∙ undone_pushed undone m rest t (stage_of old) n);
    }

-- changes after others keep what stood before those
pub moves_more : (n k : ℕ) (added : List ℕ) (a b c : Store) → Moves n added a b → Moves k added b c
    → Moves (n + k) added a c
moves_more n k added a b c f g = record {
  keeps = record {
    mark = omega (arith, f.keeps.mark, g.keeps.mark);
    past = λ m l. g.keeps.past m (omega (arith, f.keeps.mark)) ∙ f.keeps.past m l;
  };
  kept = kept_more a.places.places b.places.places c.places.places f.kept g.kept;
  below = λ m few pasts. g.below m few (f.below m few pasts);
  sound = g.sound;
  count = omega (arith, f.count, g.count);
  trail_room = g.trail_room ∙ f.trail_room;
  guards_room = g.guards_room ∙ f.guards_room;
  places_room = g.places_room ∙ f.places_room;
  width = g.width ∙ f.width;
}

-- changes that add some of fewer atoms add some of more
pub moves_wider : (n : ℕ) (few many : List ℕ) (a b : Store) → ((k : ℕ) → AllBelow k many → AllBelow k few)
    → Moves n few a b → Moves n many a b
moves_wider n few many a b fewer f = record {
  keeps = f.keeps;
  kept = f.kept;
  below = λ k l pasts. f.below k (fewer k l) pasts;
  sound = f.sound;
  count = f.count;
  trail_room = f.trail_room;
  guards_room = f.guards_room;
  places_room = f.places_room;
  width = f.width;
}
