-- Indexes that follow places through one change, made or undone.
use Rattle.std.proofs.Common.{◌≡◌, ◌≢◌, ℕ, ◌-◌, ◌<◌, ◌≤◌, List, [], ◌∷◌, ◌++◌, Option, Some, None, length, get_or, set, take, slice_get, refl, sym, ap, ◌∙◌, subst, inl, inr, arith}
use Rattle.std.proofs.lemmas.List.{get_or-set_same, get_or-set_other, get_or-take, length-take-le}
use Rattle.std.proofs.lemmas.Bool.{cases_eq}
use Rattle.std.proofs.lemmas.Option.{none-some, get_or_from_slice_get}
use Rattle.std.specs.Option.{IfSome}
use Rattle.hp_chains.specs.Entries.{Entry, Bare, Standing, IsTakenOut, entry_at, standing_again, new_entry}
use Rattle.hp_world.specs.declared.store.Change.{Change}
use Rattle.hp_world.specs.declared.store.Change.TheVariants.{Deleted, Added}
use Rattle.hp_world.specs.declared.part_index.Step.TheVariants.{Out, Back, More, Fewer}
use Rattle.hp_world.specs.Following.{Follows, Rejoins}
use Rattle.hp_world.specs.Histories.{history}
use Rattle.hp_world.specs.Keyed.{Keyed, Allows, Steps, IsAsRoomy, waiting_at}
use Rattle.hp_world.specs.Stages.{Stage}
use Rattle.hp_world.specs.Trails.{IsUndoable}
use Rattle.hp_world.specs.Undoing.{undone, Fits, IsVacant, IsAny, IsFollowed}
use Rattle.hp_cells.proofs.PlaceLemmas.{before_or_last, kept, stands_last, stays}
use Rattle.hp_cells.proofs.PlaceLemmas.{stood as cut_from}
use Rattle.hp_world.proofs.TrailLemmas.{undoable_pushed, undoable_popped}
use Rattle.hp_world.proofs.PastLemmas.{has_stood, stands_now, stood_before, stood_undone}
use Rattle.hp_world.proofs.FollowingLemmas as following
use Rattle.hp_world.proofs.FollowingLemmas.{IsAlike, rejoins_alike}
use Rattle.hp_world.proofs.UndoingLemmas.{all_but_last_pushed}

-- ---- indexes that are alike

-- what is taken out leaves the others alike
alike_out : (p : Keyed) (ps : List (Option ℕ)) (i a : ℕ) (fs : List Entry) → get_or ps i None ≡ Some a
    → IsTakenOut i p.entries fs → IsAlike p (record p { entries = fs }) ps
alike_out p ps i a fs live out =
    let t = following.taken i p.entries fs out in
    record {
      keys = λ j l. elim (cases_eq j i) [
        | inl e ↦
            ap (λ k. standing_again (entry_at fs k)) e ∙ t.key
            ∙ ap (λ k. standing_again (entry_at p.entries k)) (sym e)
        | inr n ↦ ap standing_again (t.others j n)
      ];
      empty = λ j l e.
          let apart : j ≢ i = λ same. none-some a (sym e ∙ ap (λ k. get_or ps k None) same ∙ live) in
          t.others j apart;
      atoms = λ j b l h. h;
    }

-- what comes behind them leaves the others alike
alike_more : (p : Keyed) (ps : List (Option ℕ)) (a : ℕ) (x : Entry) → Follows p ps
    → IsAlike p (record p { atoms = p.atoms ++ a ∷ []; entries = p.entries ++ x ∷ [] }) ps
alike_more p ps a x h = record {
  keys = λ j l. ap standing_again (following.entry_stays p.entries x j (omega (arith, h.count)));
  empty = λ j l e. following.entry_stays p.entries x j (omega (arith, h.count));
  atoms = λ j b l g. kept p.atoms (a ∷ []) j b g;
}

-- what is put back leaves the others alike
alike_back : (p : Keyed) (ps : List (Option ℕ)) (i a : ℕ) → Follows p ps → i < length ps
    → IsAlike p (record p { entries = set p.entries i (standing_again (entry_at p.entries i)) }) (set ps i (Some a))
alike_back p ps i a h l =
    let e = standing_again (entry_at p.entries i) in
    let within : i < length p.entries = omega (arith, h.count) in
    record {
      keys = λ j m. elim (cases_eq j i) [
        | inl same ↦
            ap (λ k. standing_again (entry_at (set p.entries i e) k)) same
            ∙ ap standing_again (get_or-set_same p.entries i e Bare within)
            ∙ following.standing_twice (entry_at p.entries i)
            ∙ ap (λ k. standing_again (entry_at p.entries k)) (sym same)
        | inr n ↦ ap standing_again (get_or-set_other p.entries i j e Bare n)
      ];
      empty = λ j m g.
          let apart : j ≢ i = λ same.
          none-some a (sym g ∙ ap (λ k. get_or (set ps i (Some a)) k None) same ∙ get_or-set_same ps i (Some a) None l)
          in get_or-set_other p.entries i j e Bare apart;
      atoms = λ j b m g. g;
    }

-- where the last goes, the others are alike
alike_fewer : (p : Keyed) (ps : List (Option ℕ)) (n : ℕ) → n ≤ length ps
    → IsAlike p (record p { atoms = take n p.atoms; entries = take n p.entries }) (take n ps)
alike_fewer p ps n l =
    let before : (j : ℕ) → j < length (take n ps) → j < n = λ j m. omega (arith, m, length-take-le n ps l) in
    record {
      keys = λ j m. ap standing_again (get_or-take n p.entries j Bare (before j m));
      empty = λ j m g. get_or-take n p.entries j Bare (before j m);
      atoms = λ j b m g. stays n p.atoms j (before j m) ∙ g;
    }

-- ---- one change

abbrev with_places : List (Option ℕ) → List ℕ → Stage
with_places ps gs = record { places = ps; guards = gs }

-- a bound that holds of a key where there is one
below_some : (key : Option ℕ) (n : ℕ) → IfSome key (λ k. k < n) → (k : ℕ) → key ≡ Some k → k < n
below_some None n h k e = absurd (none-some k e)
below_some (Some x) n h k e = let same : x ≡ k = cc in omega (arith, h, same)

module _ (width room : ℕ) (p q : Keyed) (s : Stage) (ts : List Change)
    (sound : IsUndoable undone (Fits width room) IsAny ts s) (f : IsFollowed s ts p) where
  -- an index follows places from which an atom goes
  pub followed_deleted : (i a : ℕ) → get_or s.places i None ≡ Some a → Steps (Out i) p q
      → IsFollowed (record { places = set s.places i None; guards = s.guards }) (ts ++ Deleted i a ∷ []) q
  followed_deleted i a live step =
      let after : Stage = record { places = set s.places i None; guards = s.guards } in
      let fs = q.entries in
      let rest = record p { entries = fs } in
      let back : undone (Deleted i a) after ≡ s = following.restored s i a live in
      let all : IsFollowed after (ts ++ Deleted i a ∷ []) rest = record {
        now = following.followed_out p s.places i a fs f.now live step.0;
        back =
            undoable_pushed undone (Rejoins rest) IsAny ts (Deleted i a) after tt
            (following.rejoins_out p s.places s.guards i a fs f.now live step.0)
            (subst (λ (u : Stage). IsUndoable undone (Rejoins rest) IsAny ts u) (sym back)
            (rejoins_alike p rest s width room ts (alike_out p s.places i a fs live step.0) sound f.back));
        stood = has_stood p rest ts (Deleted i a) s after back refl f.stood;
      } in
      subst (λ (x : Keyed). IsFollowed after (ts ++ Deleted i a ∷ []) x) (sym step.1) all

  -- an index follows places behind which an atom comes
  pub followed_added : (a n : ℕ) → IfSome (waiting_at p n) (λ k. k < p.keys) → Steps (More a n) p q
      → IsFollowed (record { places = s.places ++ Some a ∷ []; guards = s.guards }) (ts ++ Added ∷ []) q
  followed_added a n below step =
      let key = waiting_at p n in
      let after : Stage = record { places = s.places ++ Some a ∷ []; guards = s.guards } in
      let more = record p { atoms = p.atoms ++ a ∷ []; entries = p.entries ++ new_entry key ∷ [] } in
      let back : undone Added after ≡ s =
      ap (λ (ps : List (Option ℕ)). with_places ps s.guards) (all_but_last_pushed s.places (Some a)) in
      let all : IsFollowed after (ts ++ Added ∷ []) more = record {
        now = following.followed_pushed p s.places a key f.now (below_some key p.keys below);
        back =
            undoable_pushed undone (Rejoins more) IsAny ts Added after tt tt
            (subst (λ (u : Stage). IsUndoable undone (Rejoins more) IsAny ts u) (sym back)
            (rejoins_alike p more s width room ts (alike_more p s.places a (new_entry key) f.now) sound f.back));
        stood = λ j b g. elim (before_or_last p.atoms a j b g) [
          | inl was ↦ stood_before ts Added s after j b back (f.stood j b was)
          | inr last ↦
              stands_now (history undone (ts ++ Added ∷ []) after) j b
              (ap (λ k. get_or after.places k None) (last.0 ∙ f.now.aligned)
              ∙ get_or_from_slice_get after.places (length s.places) (Some a) None (stands_last s.places (Some a))
              ∙ ap Some last.1)
        ];
      } in
      subst (λ (x : Keyed). IsFollowed after (ts ++ Added ∷ []) x) (sym step) all

  -- an index follows places that stay
  pub followed_same : (t : Change) (after : Stage) → after.places ≡ s.places → undone t after ≡ s
      → Rejoins p t after → IsFollowed after (ts ++ t ∷ []) p
  followed_same t after places back r = record {
    now = subst (λ (ps : List (Option ℕ)). Follows p ps) (sym places) f.now;
    back =
        undoable_pushed undone (Rejoins p) IsAny ts t after tt r
        (subst (λ (u : Stage). IsUndoable undone (Rejoins p) IsAny ts u) (sym back) f.back);
    stood = has_stood p p ts t s after back refl f.stood;
  }

-- ---- one change undone

module _ (width room : ℕ) (p q : Keyed) (s : Stage) (ts : List Change) where
  -- an index follows places to which an atom comes back
  pub followed_restored : (i a : ℕ) → IsVacant width s.places i a
      → IsUndoable undone (Fits width room) IsAny ts (undone (Deleted i a) s)
      → IsFollowed s (ts ++ Deleted i a ∷ []) p → Steps (Back i) p q → IsFollowed (undone (Deleted i a) s) ts q
  followed_restored i a vacant sound f step =
      let before = undone (Deleted i a) s in
      let back = record p { entries = set p.entries i (standing_again (entry_at p.entries i)) } in
      let popped = undoable_popped undone (Rejoins p) IsAny ts (Deleted i a) s f.back in
      let all : IsFollowed before ts back = record {
        now = following.followed_back p s.places i a f.now vacant.place popped.0.0;
        back =
            rejoins_alike p back before width room ts (alike_back p s.places i a f.now vacant.place) sound popped.1;
        stood = λ j b g.
            stood_undone ts (Deleted i a) s j b
            (λ e. get_or-set_other s.places i j (Some a) None
            (λ same. none-some b (sym vacant.empty ∙ ap (λ k. get_or s.places k None) (sym same) ∙ e)) ∙ e)
            (f.stood j b g);
      } in
      subst (λ (x : Keyed). IsFollowed before ts x) (sym step) all

  -- a place to which an atom comes back fits back
  pub back_allowed : (i a : ℕ) → IsVacant width s.places i a → IsFollowed s (ts ++ Deleted i a ∷ []) p
      → Allows (Back i) p
  back_allowed i a vacant f =
      let popped = undoable_popped undone (Rejoins p) IsAny ts (Deleted i a) s f.back in
      (omega (arith, vacant.place, f.now.count), following.fits_back p s i a f.now popped.0)

  -- an index follows places of which the last goes
  pub followed_fewer : IsUndoable undone (Fits width room) IsAny ts (undone Added s)
      → IsFollowed s (ts ++ Added ∷ []) p → Steps Fewer p q → IsFollowed (undone Added s) ts q
  followed_fewer sound f step =
      let before = undone Added s in
      let n = length s.places - 1 in
      let fewer = record p { atoms = take n p.atoms; entries = take n p.entries } in
      let popped = undoable_popped undone (Rejoins p) IsAny ts Added s f.back in
      let all : IsFollowed before ts fewer = record {
        now = following.followed_fewer p s.places n (omega arith) f.now;
        back = rejoins_alike p fewer before width room ts (alike_fewer p s.places n (omega arith)) sound popped.1;
        stood = λ j b g.
            let was = cut_from n p.atoms j b g in
            stood_undone ts Added s j b (λ e. get_or-take n s.places j None was.0 ∙ e) (f.stood j b was.1);
      } in
      let same : length p.atoms - 1 ≡ n = ap (λ k. k - 1) f.now.aligned in
      let is : q ≡ fewer = step ∙ ap (λ k. record p { atoms = take k p.atoms; entries = take k p.entries }) same in
      subst (λ (x : Keyed). IsFollowed before ts x) (sym is) all

  -- an index follows places that stayed
  pub followed_before : (t : Change) → (undone t s).places ≡ s.places → IsFollowed s (ts ++ t ∷ []) p
      → IsFollowed (undone t s) ts p
  followed_before t places f = record {
    now = subst (λ (ps : List (Option ℕ)). Follows p ps) (sym places) f.now;
    back = (undoable_popped undone (Rejoins p) IsAny ts t s f.back).1;
    stood = λ j b g.
        stood_undone ts t s j b (λ e. ap (λ (qs : List (Option ℕ)). get_or qs j None) places ∙ e) (f.stood j b g);
  }

  -- an index follows places when there is more room
  pub followed_roomier : IsUndoable undone (Fits width room) IsAny ts s → IsFollowed s ts p → IsAsRoomy p q
      → IsFollowed s ts q
  followed_roomier sound f r =
      let same : (i : ℕ) → entry_at q.entries i ≡ entry_at p.entries i = λ i. ap (λ es. entry_at es i) r.entries in
      let atoms : (i a : ℕ) → slice_get p.atoms i ≡ Some a → slice_get q.atoms i ≡ Some a = λ i a g.
      ap (λ (xs : List ℕ). slice_get xs i) r.atoms ∙ g in
      record {
        now = record {
          count = ap length r.entries ∙ f.now.count;
          aligned = ap length r.atoms ∙ f.now.aligned;
          here = λ i a g.
              let was = f.now.here i a g in
              (atoms i a was.0, ap standing_again (same i) ∙ was.1 ∙ sym (same i));
          gone = λ i key g x. f.now.gone i key g (sym (same i) ∙ x);
          keys = λ i key g. omega (arith, r.keys, f.now.keys i key (ap standing_again (sym (same i)) ∙ g));
        };
        back =
            rejoins_alike p q s width room ts
            (record {
              keys = λ i l. ap standing_again (same i);
              empty = λ i l e. same i;
              atoms = λ i a l g. atoms i a g;
            }) sound f.back;
        stood = λ i a g. f.stood i a (sym (ap (λ (xs : List ℕ). slice_get xs i) r.atoms) ∙ g);
      }

-- an index without places follows where there are none
pub followed_empty : (p : Keyed) → p.entries ≡ [] → p.atoms ≡ []
    → IsFollowed (record { places = []; guards = [] }) [] p
followed_empty p e f = record {
  now = record {
    count = ap length e;
    aligned = ap length f;
    here = λ i a g. absurd (none-some a g);
    gone = λ i key g s. let bad : Bare ≡ Standing key = sym (ap (λ es. entry_at es i) e) ∙ s in absurd (cc);
    keys = λ i key g.
        let bad : Bare ≡ Standing key = sym (ap (λ es. standing_again (entry_at es i)) e) ∙ g in absurd (cc);
  };
  back = tt;
  stood = λ i a g. absurd (none-some a (sym (ap (λ (xs : List ℕ). slice_get xs i) f) ∙ g));
}
