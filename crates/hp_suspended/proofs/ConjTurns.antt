-- One turn of a conjunction.
use Rattle.std.proofs.Common.{◌≡◌, ℕ, ◌+◌, ◌<◌, ◌≤◌, Bool, true, false, cond, List, [], ◌∷◌, ◌++◌, length, slice_get, Option, Some, None, IfSome, arith, refl, ap, ap₂, sym, ◌∙◌, subst, append_assoc}
use Rattle.std.proofs.lemmas.Bool.Decides.{nat_tests}
use Rattle.hp_syntax.specs.declared.fault.RunFault.{RunFault}
use Rattle.hp_syntax.specs.Events.{Sat, through}
use Rattle.hp_syntax.specs.Terms.{Term}
use Rattle.hp_code.specs.CodeViews.{CodeView, IsCode}
use Rattle.hp_nodes.specs.Trees.{Laid}
use Rattle.hp_eval.specs.declared.event.Event as public_event
use Rattle.hp_eval.specs.declared.event.Event.TheVariants as events
use Rattle.hp_eval.specs.Events.{PlainEvent}
use Rattle.hp_eval.specs.Growth.{Grows}
use Rattle.hp_eval.specs.Slotted.{Slotted, bindings_of}
use Rattle.hp_eval.proofs.GrowthLemmas.{grows_length, grows_on}
use Rattle.hp_eval.proofs.SlotLemmas.{undone_none}
use Rattle.hp_suspended.specs.declared.scene.Scene.{Scene}
use Rattle.hp_suspended.specs.Answering.{GivesOver, GoesOnOver, Keeps, KeepsPair, Moves, PairFits, SameOver, is_over, pair_left, put_upon, told_view}
use Rattle.hp_suspended.specs.Fitting.{Fits, TowerFits, base_of}
use Rattle.hp_suspended.specs.Left.{left, tower, tower_left}
use Rattle.hp_suspended.specs.SceneViews.{code_in, setting_of}
use Rattle.hp_suspended.specs.Settings.{Setting, all_between, node_events}
use Rattle.hp_suspended.specs.Turning.{pair_turns, tower_turns, turns_between, turns_over}
use Rattle.hp_suspended.specs.Views.{View, One, Fresh, Simple, Search, Conj, Disj, Views, Above}
use Rattle.hp_suspended.proofs.CallLemmas.{moved_above, moved_same, moves_lower}
use Rattle.hp_suspended.proofs.Fitted.{rises, tower_fits_more, tower_rises}
use Rattle.hp_suspended.proofs.NodeRanges.{node_in}
use Rattle.hp_suspended.proofs.RangeLemmas.{all_ended, first_expression}
use Rattle.hp_suspended.proofs.SlotsAgree.{tower_same}
use Rattle.hp_suspended.proofs.TurnCounts.{turns_first}

-- a conjunction's parts began with no more bindings than stand
pub pair_rises : (c : CodeView) (cells m end k bound : ℕ) (outer : Views) (here : View)
    → PairFits c cells m end k bound outer here → m ≤ bound
pair_rises c cells m end k bound outer here fits =
    omega (arith, tower_rises c cells end m (base_of here) outer fits.1, rises c cells bound here fits.2)

-- lists that were the same are so behind a turn that leaves the same
pub same_goes_on : (s : Scene) (old new : List Term) (x y z : Setting → List PlainEvent) (m n : Setting → ℕ)
    → Grows old new → SameOver s old x y → GoesOnOver s new y z m n → SameOver s new x z
same_goes_on s old new x y z m n g same turn terms more =
    (turn terms more).0 ∙ same terms (grows_on old new terms g more)

-- what was left of a conjunction is so behind a turn that leaves the same
pub pair_goes_on : (s : Scene) (old new : List Term) (n end : ℕ) (d e f : Slotted) (k k' l : ℕ)
    (outer outer' lower : Views) (here here' top : View) → Grows old new
    → SameOver s old (λ w. pair_left w n k end d outer here) (λ w. pair_left w n k' end e outer' here')
    → GoesOnOver s new (λ w. pair_left w n k' end e outer' here') (λ w. pair_left w n l end f lower top)
    (λ w. pair_turns w n k' end e outer' here') (λ w. pair_turns w n l end f lower top)
    → SameOver s new (λ w. pair_left w n k end d outer here) (λ w. pair_left w n l end f lower top)
pair_goes_on s old new n end d e f k k' l outer outer' lower here here' top =
    same_goes_on s old new (λ w. pair_left w n k end d outer here) (λ w. pair_left w n k' end e outer' here')
    (λ w. pair_left w n l end f lower top) (λ w. pair_turns w n k' end e outer' here')
    (λ w. pair_turns w n l end f lower top)

-- parts that are kept twice are kept
pub keeps_pair_on : (c : CodeView) (d cells n m end : ℕ) (e f : Slotted) (k k' l : ℕ) (outer outer' lower : Views)
    (here here' top : View) → KeepsPair c d n m end e k k' outer outer' here here'
    → KeepsPair c cells n m end f k' l outer' lower here' top → KeepsPair c cells n m end f k l outer lower here top
keeps_pair_on c d cells n m end e f k k' l outer outer' lower here here' top before after =
    record {
      fits = after.fits;
      lighter = let x = before.lighter in let y = after.lighter in omega arith;
    }

-- what is over has nothing left, and its start is where the bindings stand
over_is : (m : ℕ) (v : View) → is_over m v ≡ true → v ≡ One m events.End
over_is m (One n events.End) h = let same : n ≡ m = grind (arith, nat_tests) in ap (λ x. One x events.End) same
over_is m (One n events.Sat) h = absurd cc
over_is m (One n events.Cut) h = absurd cc
over_is m (One n (events.Fault x)) h = absurd cc
over_is m (Fresh n i j) h = absurd cc
over_is m (Simple a) h = absurd cc
over_is m (Search n i q at' j running) h = absurd cc
over_is m (Conj n i j end outer here) h = absurd cc
over_is m (Disj n i j end here) h = absurd cc

-- without a part that has no turns there are fewer
fewer : (own below all : ℕ) → own + (1 + 0 + below) < all → own + below < all
fewer own below all h = omega (arith, h)

module _ (s : Scene) (m k end : ℕ) (outer : Views) (here : View) (old new : List Term) (e f : Slotted)
    (fits : PairFits (code_in s) (length old) m end k (length e.trail) outer here)
    (moves : Moves (base_of here) old new e f) where
  high : base_of here ≤ length e.trail
  high = rises (code_in s) (length old) (length e.trail) here fits.2

  -- a call above the start of the running part is one above the start of all
  pub conj_moves : Moves m old new e f
  conj_moves =
      moves_lower m (base_of here) old new e f
      (tower_rises (code_in s) (length old) end m (base_of here) outer fits.1) high moves

  -- the same is left of the parts below the running one
  outer_same : (w : Setting) → tower w e outer ≡ tower w f outer
  outer_same w =
      tower_same w (code_in s) (length old) e f end m (base_of here) outer fits.1 high
      (moved_above (base_of here) old new e f high moves) (sym (moved_same (base_of here) old new e f high moves))

  -- the parts below the running one fit more cells
  outer_fits : TowerFits (code_in s) (length new) end m (base_of here) outer
  outer_fits =
      tower_fits_more (code_in s) (length old) (length new) (grows_length old new moves.grows) end m (base_of here)
      outer fits.1

  module _ (n : ℕ) (here' : View) where
    -- where the running part stays suspended, the parts fit as before
    pub here_keeps : Keeps (code_in s) (length new) f here here'
        → KeepsPair (code_in s) (length new) n m end f k k outer outer here here'
    here_keeps kept = record {
      fits = (
        fits.0,
        subst (λ h. TowerFits (code_in s) (length new) end m h outer) (sym kept.start) outer_fits,
        kept.fits,
      );
      lighter = let l = kept.lighter in omega arith;
    }

    -- a cut of the running part is one of the conjunction
    pub cut_gives : GivesOver s new f events.Cut (λ w. left w e here) (λ w. left w f here')
        → GivesOver s new f events.Cut (λ w. pair_left w n k end e outer here)
        (λ w. pair_left w n k end f outer here')
    cut_gives given terms g =
        let w = setting_of s terms in
        ap₂ (λ xs t. through xs (all_between w n k end) ++ tower_left w n end t) (given terms g) (outer_same w)

    -- a fault of the running part is one of the conjunction
    pub fault_gives : (x : RunFault)
        → GivesOver s new f (events.Fault x) (λ w. left w e here) (λ w. left w f here')
        → GivesOver s new f (events.Fault x) (λ w. pair_left w n k end e outer here)
        (λ w. pair_left w n k end f outer here')
    fault_gives x given terms g =
        let w = setting_of s terms in
        let faulted = given terms g in (
          through faulted.0 (all_between w n k end) ++ tower_left w n end (tower w e outer),
          ap (λ xs. through xs (all_between w n k end) ++ tower_left w n end (tower w e outer)) faulted.1,
        )

    module _ (code : IsCode (code_in s))
        (given : GivesOver s new f events.Sat (λ w. left w e here) (λ w. left w f here')) where
      -- where the running part gives a Sat, all parts behind it stand in its place
      opened : (terms : List Term) → Grows new terms
          → pair_left (setting_of s terms) n k end e outer here
          ≡ (all_between (setting_of s terms) n k end (bindings_of terms f)
          ++ through (left (setting_of s terms) f here') (all_between (setting_of s terms) n k end))
          ++ tower_left (setting_of s terms) n end (tower (setting_of s terms) f outer)
      opened terms g =
          let w = setting_of s terms in
          ap₂ (λ xs t. through xs (all_between w n k end) ++ tower_left w n end t) (given terms g) (outer_same w)

      -- a Sat of the last part is one of the conjunction
      pub sat_gives : k ≡ end
          → GivesOver s new f events.Sat (λ w. pair_left w n k end e outer here)
          (λ w. pair_left w n k end f outer here')
      sat_gives last terms g =
          let w = setting_of s terms in
          opened terms g
          ∙ ap
          (λ xs. (xs ++ through (left w f here') (all_between w n k end)) ++ tower_left w n end (tower w f outer))
          (all_ended w n k end code fits.0 (omega arith) (bindings_of terms f))

      module _ (l : Laid) (there : slice_get (code_in s).nodes k ≡ Some l) (less : k < end) where
        -- under a Sat the next part is looked at, and then what is left of this one
        pushed_left : (terms : List Term) → Grows new terms
            → pair_left (setting_of s terms) n l.to end f (Above outer k here') (Fresh (length f.trail) n k)
            ≡ pair_left (setting_of s terms) n k end e outer here
        pushed_left terms g =
            let w = setting_of s terms in
            let b = bindings_of terms f in
            let behind = through (left w f here') (all_between w n k end) in
            let below = tower_left w n end (tower w f outer) in
            let next = all_between w n l.to end in
            ap (λ d. through (node_events w n k d) next ++ (behind ++ below)) (ap (bindings_of terms) (undone_none f))
            ∙ sym (append_assoc (through (node_events w n k b) next) behind below)
            ∙ ap (λ xs. (xs ++ behind) ++ below)
            (sym ((first_expression w n k end code fits.0 less l there).all b))
            ∙ sym (opened terms g)

        -- so fewer turns are left
        pushed_turns : (terms : List Term) → Grows new terms
            → pair_turns (setting_of s terms) n l.to end f (Above outer k here') (Fresh (length f.trail) n k)
            < pair_turns (setting_of s terms) n k end e outer here
        pushed_turns terms g =
            let w = setting_of s terms in
            let b = bindings_of terms f in
            let own = turns_between w n k end in
            let below = tower_turns w n end (tower w f outer) in
            let rest = 1 + turns_over (left w f here') own + below in
            let before : pair_turns w n k end e outer here
            ≡ 1 + (1 + own b + turns_over (left w f here') own) + below =
            ap₂ (λ xs t. 1 + turns_over xs own + tower_turns w n end t) (given terms g) (outer_same w) in
            let after : pair_turns w n l.to end f (Above outer k here') (Fresh (length f.trail) n k)
            ≡ 1 + turns_over (node_events w n k b) (turns_between w n l.to end) + rest =
            ap (λ d. 1 + turns_over (node_events w n k d) (turns_between w n l.to end) + rest)
            (ap (bindings_of terms) (undone_none f)) in
            let first : own b ≡ 1 + turns_over (node_events w n k b) (turns_between w n l.to end) =
            turns_first w n k end code fits.0 less l there b in
            subst (λ j. j < pair_turns w n k end e outer here) (sym after)
            (subst
            (λ j. 1 + turns_over (node_events w n k b) (turns_between w n l.to end) + rest < j)
            (sym before) (omega arith))

        module _ (over : here' ≡ One (length f.trail) events.End) where
          -- a part that is over has nothing left, and so the same is left without it
          dropped_left : (terms : List Term) → Grows new terms
              → pair_left (setting_of s terms) n l.to end f outer (Fresh (length f.trail) n k)
              ≡ pair_left (setting_of s terms) n k end e outer here
          dropped_left terms g =
              subst
              (λ v. pair_left (setting_of s terms) n l.to end f (Above outer k v) (Fresh (length f.trail) n k)
              ≡ pair_left (setting_of s terms) n k end e outer here) over (pushed_left terms g)

          -- and fewer turns
          dropped_turns : (terms : List Term) → Grows new terms
              → pair_turns (setting_of s terms) n l.to end f outer (Fresh (length f.trail) n k)
              < pair_turns (setting_of s terms) n k end e outer here
          dropped_turns terms g =
              let w = setting_of s terms in
              let top = Fresh (length f.trail) n k in
              fewer (1 + turns_over (left w f top) (turns_between w n l.to end)) (tower_turns w n end (tower w f outer))
              (pair_turns w n k end e outer here)
              (subst (λ v. pair_turns w n l.to end f (Above outer k v) top < pair_turns w n k end e outer here) over
              (pushed_turns terms g))

      -- what a turn to the next part goes on with leaves the same list, and fewer turns
      abbrev GoesOnTo : ℕ → Views → View → Type 0
      GoesOnTo k' vs v =
          GoesOnOver s new (λ w. pair_left w n k end e outer here) (λ w. pair_left w n k' end f vs v)
          (λ w. pair_turns w n k end e outer here) (λ w. pair_turns w n k' end f vs v)

      -- a turn that puts a part upon the others, unless it is over, does
      pub pushed_same : k < end → (k' : ℕ) (vs : Views) (v : View)
          → ((l : Laid) → slice_get (code_in s).nodes k ≡ Some l → k' ≡ l.to)
          → vs ≡ put_upon (length f.trail) outer k here' → v ≡ Fresh (length f.trail) n k → GoesOnTo k' vs v
      pushed_same less k' vs v next is is_here = by (is_over (length f.trail) here') refl is
        where
          by : (over : Bool) → is_over (length f.trail) here' ≡ over → vs ≡ cond over outer (Above outer k here')
              → GoesOnTo k' vs v
          by false tells is terms g =
              let at' = node_in (code_in s).nodes k end fits.0.within less in
              rw (next at'.0 at'.1, is, is_here)
              (pushed_left at'.0 at'.1 less terms g, pushed_turns at'.0 at'.1 less terms g)
          by true tells is terms g =
              let at' = node_in (code_in s).nodes k end fits.0.within less in
              let over = over_is (length f.trail) here' tells in
              rw (next at'.0 at'.1, is, is_here)
              (dropped_left at'.0 at'.1 less over terms g, dropped_turns at'.0 at'.1 less over terms g)

      -- where the part behind gives nothing the same is left without it, and fewer turns
      pub ended_next : k < end
          → ((terms : List Term) → Grows new terms
          → node_events (setting_of s terms) n k (bindings_of terms f) ≡ [])
          → GoesOnTo k outer here'
      ended_next less none terms g =
          let at' = node_in (code_in s).nodes k end fits.0.within less in
          let w = setting_of s terms in
          let b = bindings_of terms f in
          let own = turns_between w n k end in
          let behind = turns_over (left w f here') own in
          let below = tower_turns w n end (tower w f outer) in
          let empty : all_between w n k end b ≡ [] =
          (first_expression w n k end code fits.0 less at'.0 at'.1).all b
          ∙ ap (λ xs. through xs (all_between w n at'.0.to end)) (none terms g) in
          let before : pair_turns w n k end e outer here ≡ 1 + (1 + own b + behind) + below =
          ap₂ (λ xs t. 1 + turns_over xs own + tower_turns w n end t) (given terms g) (outer_same w) in (
            sym
                (opened terms g
                ∙ ap
                (λ xs. (xs ++ through (left w f here') (all_between w n k end)) ++ tower_left w n end (tower w f outer))
                empty),
            subst (λ j. 1 + behind + below < j) (sym before) (omega arith),
          )

      -- a Sat that was told is what the part behind gives
      pub told_same : (k' : ℕ) (vs : Views) (o : Option public_event.Event)
          → IfSome o (λ x. (i : ℕ)
          → GivesOver s new f x (λ w. node_events w i k (bindings_of w.terms f)) (λ w. []))
          → GoesOnTo k' vs (Fresh (length f.trail) n k)
          → GoesOnTo k' vs (told_view (length f.trail) o (Fresh (length f.trail) n k))
      told_same k' vs None told on = on
      told_same k' vs (Some events.Cut) told on = on
      told_same k' vs (Some (events.Fault x)) told on = on
      told_same k' vs (Some events.End) told on = on
      told_same k' vs (Some events.Sat) told on = λ terms g.
          let w = setting_of s terms in
          let m = length f.trail in
          let stands = ap (bindings_of terms) (undone_none f) in
          let same : left w f (Fresh m n k) ≡ left w f (One m events.Sat) =
          subst (λ b. node_events w n k b ≡ Sat b ∷ []) (sym stands) (told n terms g) in
          subst
          (λ xs. (through xs (all_between w n k' end) ++ tower_left w n end (tower w f vs)
          ≡ pair_left w n k end e outer here)
          × (1 + turns_over xs (turns_between w n k' end) + tower_turns w n end (tower w f vs)
          < pair_turns w n k end e outer here)) same (on terms g)

      -- so it is at the values that the code holds
      pub told_on : (k' : ℕ) (vs : Views) (o : Option public_event.Event)
          → IfSome o (λ x. (i : ℕ)
          → GivesOver s new f x (λ w. node_events w i k (bindings_of w.terms f)) (λ w. []))
          → (u : View) → u ≡ Fresh (length f.trail) n k → GoesOnTo k' vs u → (mark : ℕ) → mark ≡ length f.trail
          → (v : View) → v ≡ told_view mark o u → GoesOnTo k' vs v
      told_on k' vs o told u fresh on mark here_is v is =
          rw (is, here_is, fresh) (told_same k' vs o told (subst (GoesOnTo k' vs) fresh on))

    -- it fits where the part would, and weighs no more
    pub told_keeps : (k' : ℕ) (vs : Views) (o : Option public_event.Event)
        → KeepsPair (code_in s) (length new) n m end f k k' outer vs here (Fresh (length f.trail) n k)
        → KeepsPair (code_in s) (length new) n m end f k k' outer vs here
        (told_view (length f.trail) o (Fresh (length f.trail) n k))
    told_keeps k' vs None kept = kept
    told_keeps k' vs (Some events.Cut) kept = kept
    told_keeps k' vs (Some (events.Fault x)) kept = kept
    told_keeps k' vs (Some events.End) kept = kept
    told_keeps k' vs (Some events.Sat) kept = record {
      fits = (kept.fits.0, kept.fits.1, omega arith);
      lighter = let x = kept.lighter in omega arith;
    }

    pub told_keeps_on : (k' : ℕ) (vs : Views) (o : Option public_event.Event) (u : View)
        → u ≡ Fresh (length f.trail) n k
        → KeepsPair (code_in s) (length new) n m end f k k' outer vs here u → (mark : ℕ) → mark ≡ length f.trail
        → (v : View) → v ≡ told_view mark o u
        → KeepsPair (code_in s) (length new) n m end f k k' outer vs here v
    told_keeps_on k' vs o u fresh kept mark here_is v is =
        rw (is, here_is, fresh)
        (told_keeps k' vs o (subst (KeepsPair (code_in s) (length new) n m end f k k' outer vs here) fresh kept))

    -- a part that is put upon the others fits there, and weighs no more
    pushed_keeps_at : IsCode (code_in s) → Keeps (code_in s) (length new) f here here' → k < end → (l : Laid)
        → slice_get (code_in s).nodes k ≡ Some l
        → KeepsPair (code_in s) (length new) n m end f k l.to outer (Above outer k here') here
        (Fresh (length f.trail) n k)
    pushed_keeps_at code kept less l there =
        let first = first_expression (setting_of s new) n k end code fits.0 less l there in
        let kept_here = here_keeps kept in
        let more = first.more in
        record {
          fits =
              (first.others, (less, fits.0, kept_here.fits.1, kept.fits), (refl, first.first));
          lighter = let x = kept_here.lighter in omega arith;
        }

    -- where it is over the others fit below the next one, since it has bound nothing
    dropped_keeps_at : IsCode (code_in s) → Keeps (code_in s) (length new) f here here' → k < end → (l : Laid)
        → slice_get (code_in s).nodes k ≡ Some l → here' ≡ One (length f.trail) events.End
        → KeepsPair (code_in s) (length new) n m end f k l.to outer outer here (Fresh (length f.trail) n k)
    dropped_keeps_at code kept less l there over =
        let first = first_expression (setting_of s new) n k end code fits.0 less l there in
        let kept_here = here_keeps kept in
        let more = first.more in
        record {
          fits = (
            first.others,
            subst (λ v. TowerFits (code_in s) (length new) end m (base_of v) outer) over kept_here.fits.1,
            (refl, first.first),
          );
          lighter = let x = kept_here.lighter in omega arith;
        }

    -- so they do at the values that the code holds
    pub pushed_keeps : IsCode (code_in s) → Keeps (code_in s) (length new) f here here' → k < end
        → (k' : ℕ) (vs : Views) (v : View) → ((l : Laid) → slice_get (code_in s).nodes k ≡ Some l → k' ≡ l.to)
        → vs ≡ put_upon (length f.trail) outer k here' → v ≡ Fresh (length f.trail) n k
        → KeepsPair (code_in s) (length new) n m end f k k' outer vs here v
    pushed_keeps code kept less k' vs v next is is_here = by (is_over (length f.trail) here') refl is
      where
        by : (over : Bool) → is_over (length f.trail) here' ≡ over → vs ≡ cond over outer (Above outer k here')
            → KeepsPair (code_in s) (length new) n m end f k k' outer vs here v
        by false tells is =
            let at' = node_in (code_in s).nodes k end fits.0.within less in
            rw (next at'.0 at'.1, is, is_here) (pushed_keeps_at code kept less at'.0 at'.1)
        by true tells is =
            let at' = node_in (code_in s).nodes k end fits.0.within less in
            rw (next at'.0 at'.1, is, is_here)
            (dropped_keeps_at code kept less at'.0 at'.1 (over_is (length f.trail) here' tells))

    -- at the end of the running part what is left is that of those below
    ended_left : GivesOver s new f events.End (λ w. left w e here) (λ w. left w f here') → (terms : List Term)
        → Grows new terms
        → tower_left (setting_of s terms) n end (tower (setting_of s terms) f outer)
        ≡ pair_left (setting_of s terms) n k end e outer here
    ended_left given terms g =
        let w = setting_of s terms in
        sym
        (ap₂ (λ xs t. through xs (all_between w n k end) ++ tower_left w n end t) (given terms g) (outer_same w))

    -- so fewer turns are left
    ended_turns : GivesOver s new f events.End (λ w. left w e here) (λ w. left w f here') → (terms : List Term)
        → Grows new terms
        → tower_turns (setting_of s terms) n end (tower (setting_of s terms) f outer)
        < pair_turns (setting_of s terms) n k end e outer here
    ended_turns given terms g =
        let w = setting_of s terms in
        let own = turns_between w n k end in
        let is : pair_turns w n k end e outer here ≡ 1 + 0 + tower_turns w n end (tower w f outer) =
        ap₂ (λ xs t. 1 + turns_over xs own + tower_turns w n end t) (given terms g) (outer_same w) in
        omega arith

    -- a turn that takes a part off the others leaves the same list, and fewer turns
    pub popped_same : GivesOver s new f events.End (λ w. left w e here) (λ w. left w f here') → (rest : Views)
        (k' : ℕ) (top : View) → outer ≡ Above rest k' top
        → GoesOnOver s new (λ w. pair_left w n k end e outer here) (λ w. pair_left w n k' end f rest top)
        (λ w. pair_turns w n k end e outer here) (λ w. pair_turns w n k' end f rest top)
    popped_same given rest k' top is terms g =
        let w = setting_of s terms in (
          ap (λ vs. tower_left w n end (tower w f vs)) (sym is) ∙ ended_left given terms g,
          subst (λ vs. tower_turns w n end (tower w f vs) < pair_turns w n k end e outer here) is
              (ended_turns given terms g),
        )

    -- a part that is taken off the others fits there, and weighs no more
    pub popped_keeps : length f.trail ≡ base_of here → (rest : Views) (k' : ℕ) (top : View)
        → outer ≡ Above rest k' top → KeepsPair (code_in s) (length new) n m end f k k' outer rest here top
    popped_keeps ended rest k' top is =
        let fit = subst (TowerFits (code_in s) (length new) end m (base_of here)) is outer_fits in
        subst (λ vs. KeepsPair (code_in s) (length new) n m end f k k' vs rest here top) (sym is)
        (record {
          fits =
              (fit.1, fit.2, subst (λ h. Fits (code_in s) (length new) h top) (sym ended) fit.3);
          lighter = omega arith;
        })
