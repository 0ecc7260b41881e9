-- A whole search for dead ends.
use Rattle.std.proofs.Common.{◌≡◌, ℕ, ◌≤◌, Bool, true, false, ◌&&◌, ◌||◌, cond, List, [], ◌∷◌, ◌++◌, length, take, map, Some, None, refl, sym, ap, ◌∙◌, subst, arith, inl}
use Rattle.std.specs.Prelude.{not, filter, Contains}
use Rattle.std.specs.List.{All, list_all}
use Rattle.std.proofs.lemmas.Bool.{and_parts}
use Rattle.std.proofs.lemmas.Bool.Decides.{nat_tests}
use Rattle.std.proofs.lemmas.List.Elements.{All-nil, All-cons, All-head, All-tail, All-take, All-contains}
use Rattle.hp_laws.proofs.JoinLemmas.{contains_first, contains_later}
use Rattle.hp_laws.proofs.PathLemmas.{visits_in_tree}
use Rattle.hp_net.specs.Standings.{Tree, Standing, IsAtItsNode, node_reached, tree_visits}
use Rattle.hp_passes.specs.Passing.{Passes, AtEnd, GoesOn, LeavesOut, Ends}
use Rattle.hp_passes.specs.declared.passing.Turn.TheVariants as turns
use Rattle.hp_syntax.specs.declared.fault.RunFault.{RunFault}
use Rattle.hp_syntax.specs.Walk.{Node, Sight, Did, Plan, CutHere, FaultHere, Visit, count_told, is_did, is_plan, is_fault_here, node_at, visit}
use Rattle.hp_dead_ends.specs.declared.searching.DeadEnd.{DeadEnd}
use Rattle.hp_dead_ends.specs.declared.searching.DeadEnds.{DeadEnds}
use Rattle.hp_dead_ends.specs.declared.searching.Seeking.{Seeking}
use Rattle.hp_dead_ends.specs.declared.searching.SearchEnd.{SearchEnd}
use Rattle.hp_dead_ends.specs.declared.searching.SearchEnd.TheVariants as ends
use Rattle.hp_dead_ends.specs.Arriving.{IsHeld}
use Rattle.hp_dead_ends.specs.DeadEnds.{IsDeadEnd, Rank, rank, rank_of, comes_further, dead_ends, decompositions_of, ending, ends_at, furthest, is_further, is_stopped, until_plan, with_root}
use Rattle.hp_dead_ends.specs.Finding.{HasMet, IsFoundIn, IsFurthest, ends_of, items_of, path_told, told_at, told_of}
use Rattle.hp_dead_ends.specs.Searching.{Fits, Known, MeetsSeeking, Tells, TellsFound, after, after_all, as_rank, at_root, closed, noted, turn_at}
use Rattle.hp_dead_ends.proofs.DeadLemmas.{all_dead, tree_tells_until}
use Rattle.hp_dead_ends.proofs.FitLemmas.{AllFit, tree_fits}
use Rattle.hp_dead_ends.proofs.HeldLemmas.{HeldAt, with_root_held}
use Rattle.hp_dead_ends.proofs.KeepSteps.{take_none}
use Rattle.hp_dead_ends.proofs.KnownLemmas.{depth_cut_all, end_all, ends_all, expansions_all, level_cut_all}

-- ---- the pass

goes_on : (x : Sight) → turns.On ≡ turn_at x → (is_plan x || is_fault_here x) ≡ false
goes_on Did e = refl
goes_on Plan e = absurd (cc)
goes_on CutHere e = refl
goes_on (FaultHere f) e = absurd (cc)

goes_past : (x : Sight) → turns.Past ≡ turn_at x → ⊥
goes_past Did e = cc
goes_past Plan e = cc
goes_past CutHere e = cc
goes_past (FaultHere f) e = cc

goes_last : (x : Sight) → turns.Last ≡ turn_at x → (is_plan x || is_fault_here x) ≡ true
goes_last Did e = absurd (cc)
goes_last Plan e = refl
goes_last CutHere e = absurd (cc)
goes_last (FaultHere f) e = refl

-- the path of the last decomposition after a visit
last_path : (v : Visit) (k : Known) (x : Sight) → v.sight ≡ x
    → cond (is_did x) v.path k.last.path ≡ (noted v k).last.path
last_path v k Did e = rw e refl
last_path v k Plan e = rw e refl
last_path v k CutHere e = rw e refl
last_path v k (FaultHere f) e = rw e refl

-- a pass tells what is known in the end, and for so many
record TellsThen (most : ℕ) (u : Seeking) (k : Known) : Type 0 where
  most_too : u.most ≡ most
  tells : Tells u k

tells_then : (d : ℕ) (s u : Seeking) (c e : Unit {0}) (vs : List Visit) (there : Standing) (k : Known) → s.depth ≡ d
    → Passes MeetsSeeking s c vs u e there → AllFit d k.last.path vs → Tells s k
    → TellsThen s.most u (after_all k (until_plan vs))
tells_then d _ _ _ _ _ _ k same (AtEnd s c) fit h = record { most_too = refl; tells = h }
tells_then d _ _ _ _ _ _ k same (GoesOn s t u c a e v vs there m rest) fit h =
    let fits : Fits s v k = record { steps_on = fit.0; depth = fit.1 ∙ sym same } in
    let then = tells_then d t u a e vs there (after k v) (m.goes.kept.depth ∙ same) rest
    (subst (λ p. AllFit d p vs) (last_path v (closed _ k) v.sight refl) fit.2)
    (m.goes.tells k fits h) in
    record {
      most_too = then.most_too ∙ m.goes.kept.most;
      tells =
          subst (λ b. Tells u (after_all (after k v) (cond b [] (until_plan vs)))) (sym (goes_on v.sight m.turn))
          then.tells;
    }
tells_then d _ _ _ _ _ _ k same (LeavesOut s t u c a e v vs there m rest) fit h =
    absurd (goes_past v.sight m.turn)
tells_then d _ _ _ _ _ _ k same (Ends s t c a v vs m) fit h =
    let fits : Fits s v k = record { steps_on = fit.0; depth = fit.1 ∙ sym same } in
    record {
      most_too = m.goes.kept.most;
      tells =
          subst (λ b. Tells t (after_all (after k v) (cond b [] (until_plan vs)))) (sym (goes_last v.sight m.turn))
          (m.goes.tells k fits h);
    }

-- ---- where a pass leaves the walk

-- a visit after which a pass goes on leaves another end before the others
ends_on : (x : Sight) (v : Visit) → v.sight ≡ x → turns.On ≡ turn_at x → (e : SearchEnd) (ws : List Visit)
    → (z : SearchEnd) × (ending e (v ∷ ws) ≡ ending z ws)
ends_on Did v h a e ws = (e, rw h refl)
ends_on Plan v h a e ws = absurd (cc)
ends_on CutHere v h a e ws = (ends.Cut, rw h refl)
ends_on (FaultHere f) v h a e ws = absurd (cc)

-- at its last visit a search is stopped
stops_at : (x : Sight) (v : Visit) → v.sight ≡ x → turns.Last ≡ turn_at x → (e : SearchEnd) (ws : List Visit)
    → is_stopped (ending e (v ∷ ws)) ≡ true
stops_at Did v h a e ws = absurd (cc)
stops_at Plan v h a e ws = rw h refl
stops_at CutHere v h a e ws = absurd (cc)
stops_at (FaultHere f) v h a e ws = rw h refl

-- where a search isn't stopped, its walk is at the root again
pub over_by : (s u : Seeking) (c e : Unit {0}) (vs : List Visit) (there : Standing) (x : SearchEnd)
    → Passes MeetsSeeking s c vs u e there → is_stopped (ending x (until_plan vs)) ≡ false → there.path ≡ []
over_by _ _ _ _ _ _ x (AtEnd s c) h = refl
over_by _ _ _ _ _ _ x (GoesOn s t u c a e v vs there m rest) h =
    let left = cond (is_plan v.sight || is_fault_here v.sight) [] (until_plan vs) in
    let o = ends_on v.sight v refl m.turn x left in
    over_by t u a e vs there o.0 rest
    (subst (λ b. is_stopped (ending o.0 (cond b [] (until_plan vs))) ≡ false) (goes_on v.sight m.turn)
    (sym (ap is_stopped o.1) ∙ h))
over_by _ _ _ _ _ _ x (LeavesOut s t u c a e v vs there m rest) h = absurd (goes_past v.sight m.turn)
over_by _ _ _ _ _ _ x (Ends s t c a v vs m) h =
    let left = cond (is_plan v.sight || is_fault_here v.sight) [] (until_plan vs) in
    absurd (let f : true ≡ false = sym (stops_at v.sight v refl m.turn x left) ∙ h in cc)

-- visits have a fault, and a walk is at the one that has it
record Meets (f : RunFault) (vs : List Visit) (there : Standing) : Type 0 where
  visit : Visit
  sight : visit.sight ≡ FaultHere f
  within : Contains vs visit
  path : there.path ≡ visit.path

-- a visit after which a pass goes on leaves an end that isn't stopped, as it was before
unstopped_on : (x : Sight) (v : Visit) → v.sight ≡ x → turns.On ≡ turn_at x → (e : SearchEnd) → is_stopped e ≡ false
    → (ws : List Visit) → (z : SearchEnd) × (is_stopped z ≡ false) × (ending e (v ∷ ws) ≡ ending z ws)
unstopped_on Did v h a e n ws = (e, n, rw h refl)
unstopped_on Plan v h a e n ws = absurd (cc)
unstopped_on CutHere v h a e n ws = (ends.Cut, refl, rw h refl)
unstopped_on (FaultHere f) v h a e n ws = absurd (cc)

-- a last visit at which visits end with a fault has it
fault_at : (x : Sight) (v : Visit) → v.sight ≡ x → turns.Last ≡ turn_at x → (e : SearchEnd) (ws : List Visit)
    → (f : RunFault) → ending e (v ∷ ws) ≡ ends.Fault f → v.sight ≡ FaultHere f
fault_at Did v h a e ws f k = absurd (cc)
fault_at Plan v h a e ws f k =
    let plan : ending e (v ∷ ws) ≡ ends.Plan = rw h refl in
    let never : ends.Plan ≡ ends.Fault f = sym plan ∙ k in absurd (cc)
fault_at CutHere v h a e ws f k = absurd (cc)
fault_at (FaultHere g) v h a e ws f k =
    let own : ending e (v ∷ ws) ≡ ends.Fault g = rw h refl in
    let same : ends.Fault g ≡ ends.Fault f = sym own ∙ k in
    let fault : g ≡ f = cc in h ∙ ap FaultHere fault

-- where a search ended at a fault, its walk is at the visit that has it
met_by : (s u : Seeking) (c e : Unit {0}) (vs : List Visit) (there : Standing) (x : SearchEnd) (f : RunFault)
    → Passes MeetsSeeking s c vs u e there → is_stopped x ≡ false → ending x (until_plan vs) ≡ ends.Fault f
    → Meets f (until_plan vs) there
met_by _ _ _ _ _ _ x f (AtEnd s c) n h =
    let never : true ≡ false = sym (ap is_stopped h) ∙ n in absurd (cc)
met_by _ _ _ _ _ _ x f (GoesOn s t u c a e v vs there m rest) n h =
    let on = goes_on v.sight m.turn in
    let o = unstopped_on v.sight v refl m.turn x n (until_plan vs) in
    let met = met_by t u a e vs there o.0 f rest o.1
    (sym o.2 ∙ subst (λ b. ending x (v ∷ cond b [] (until_plan vs)) ≡ ends.Fault f) on h) in
    record {
      visit = met.visit;
      sight = met.sight;
      within =
          subst (λ b. Contains (v ∷ cond b [] (until_plan vs)) met.visit) (sym on)
          (contains_later v met.visit (until_plan vs) met.within);
      path = met.path;
    }
met_by _ _ _ _ _ _ x f (LeavesOut s t u c a e v vs there m rest) n h = absurd (goes_past v.sight m.turn)
met_by _ _ _ _ _ _ x f (Ends s t c a v vs m) n h =
    let left = cond (is_plan v.sight || is_fault_here v.sight) [] (until_plan vs) in
    record {
      visit = v;
      sight = fault_at v.sight v refl m.turn x left f h;
      within = contains_first v left;
      path = refl;
    }

-- ---- what was found

-- what is known after all visits of a tree that are made
abbrev pub known_of : Tree → Known
known_of t = closed true (after_all (at_root t.root) (until_plan (tree_visits t)))

with_first : (b : Bool) (v : Visit) (ds : List Visit) → cond b (v ∷ []) [] ++ ds ≡ cond b (v ∷ ds) ds
with_first true v ds = refl
with_first false v ds = refl

module _ (t : Tree) where
  abbrev seen : List Visit
  seen = until_plan (tree_visits t)

  known_ends : (known_of t).ends ≡ ends_of t
  known_ends =
      ends_all (at_root t.root) seen ∙ with_first (ends_at [] seen) (visit [] t.root Did) (dead_ends seen)

  counted : (known_of t).expansions ≡ decompositions_of seen
  counted = let e = expansions_all (at_root t.root) seen in omega (arith, e)

  pub found_in : (most : ℕ) (f : DeadEnds) → TellsFound most f (known_of t) → IsFoundIn t most f
  found_in most f h = record {
    furthest = h.furthest ∙ ap (λ ds. map told_at (take most (furthest ds))) known_ends;
    as_far = h.as_far ∙ ap (λ ds. count_told (length (furthest ds))) known_ends;
    all = h.all ∙ ap (λ ds. count_told (length ds)) known_ends;
    depth_cut = h.depth_cut ∙ ap path_told (depth_cut_all (at_root t.root) seen);
    level_cut = h.level_cut ∙ ap path_told (level_cut_all (at_root t.root) seen);
    end = h.end ∙ end_all (at_root t.root) (tree_visits t);
    expansions = h.expansions ∙ ap count_told counted;
  }

-- ---- before the first visit

root_at : (t : Tree) → IsAtItsNode t (visit [] t.root Did)
unfolding node_at
root_at t = refl

pub tells_root : (s : Seeking) (root : Node) → s.path.items ≡ [] → s.steps ≡ length root.steps → s.is_open ≡ true
    → as_rank s.best ≡ rank 0 0 → s.found.furthest.items ≡ [] → s.found.as_far ≡ 0 → s.found.all ≡ 0
    → s.found.depth_cut ≡ None → s.found.level_cut ≡ None → s.found.end ≡ ends.Whole → s.found.expansions ≡ 0
    → Tells s (at_root root)
tells_root s root path steps was best none as_far all depth level end expansions = record {
  path = path;
  steps = steps;
  is_open = was;
  best = record { none = All-nil (λ w. is_further (rank_of w) (as_rank s.best) ≡ false); some = inl (refl, best) };
  found = record {
    furthest = ap (map told_of) none ∙ ap (map told_at) (sym (take_none s.most));
    as_far = as_far;
    all = all;
    depth_cut = ap items_of depth;
    level_cut = ap items_of level;
    end = end;
    expansions = expansions;
  };
}

-- the root is reached where a walk stands at its path
pub reached_root : (t : Tree) (s : Standing) → s.path ≡ [] → node_reached t s ≡ Some t.root
reached_root t s e = ap (node_at t.rules t.nest t.root) e ∙ root_at t

-- so a whole search finds what is to be told
pub found_by : (t : Tree) (s u : Seeking) (c e : Unit {0}) (vs : List Visit) (there : Standing)
    → t.root.depth ≡ s.depth → Tells s (at_root t.root) → vs ≡ tree_visits t → Passes MeetsSeeking s c vs u e there
    → (f : DeadEnds) → ((k : Known) → Tells u k → TellsFound u.most f (closed true k)) → IsFoundIn t s.most f
found_by t s u c e vs there depth tells new made f h =
    let then = tells_then t.root.depth s u c e (tree_visits t) there (at_root t.root) (sym depth)
    (subst (λ ws. Passes MeetsSeeking s c ws u e there) new made) (tree_fits t) tells in
    found_in t s.most f
    (subst (λ m. TellsFound m f (known_of t)) then.most_too
    (h (after_all (at_root t.root) (until_plan (tree_visits t))) then.tells))

-- ---- what is told is a dead end

-- a fact of all visits is one of those that are dead ends
all_ends : (P : Visit → Type 0) (vs : List Visit) → All P vs → All P (dead_ends vs)
all_ends P [] a = All-nil P
all_ends P (v ∷ vs) a =
    by (is_did v.sight && ends_at v.path vs) (All-head P v vs a) (all_ends P vs (All-tail P v vs a))
  where
    by : (b : Bool) → P v → All P (dead_ends vs) → All P (cond b (v ∷ dead_ends vs) (dead_ends vs))
    by true h r = All-cons P v (dead_ends vs) h r
    by false h r = r

all_until : (P : Visit → Type 0) (vs : List Visit) → All P vs → All P (until_plan vs)
all_until P [] a = All-nil P
all_until P (v ∷ vs) a =
    All-cons P v (cond (is_plan v.sight || is_fault_here v.sight) [] (until_plan vs)) (All-head P v vs a)
    (by (is_plan v.sight || is_fault_here v.sight) (all_until P vs (All-tail P v vs a)))
  where
    by : (b : Bool) → All P (until_plan vs) → All P (cond b [] (until_plan vs))
    by true r = All-nil P
    by false r = r

-- a fact that follows from a test and another fact is one of those that pass the test
all_passing : (p : Visit → Bool) (P Q : Visit → Type 0) → ((v : Visit) → P v → p v ≡ true → Q v) → (vs : List Visit)
    → All P vs → All Q (filter p vs)
all_passing p P Q h [] a = All-nil Q
all_passing p P Q h (v ∷ vs) a =
    by (p v) (h v (All-head P v vs a)) (all_passing p P Q h vs (All-tail P v vs a))
  where
    by : (b : Bool) → (b ≡ true → Q v) → All Q (filter p vs) → All Q (cond b (v ∷ filter p vs) (filter p vs))
    by true k r = All-cons Q v (filter p vs) (k refl) r
    by false k r = r

no_more_steps : (a b : Rank) → not (is_further a b) ≡ true → a.steps ≤ b.steps
no_more_steps a b h = grind (arith, nat_tests)

all_no_more : (v : Visit) (ds : List Visit) → list_all (λ w. not (comes_further w v)) ds ≡ true
    → All (λ w. length w.node.steps ≤ length v.node.steps) ds
all_no_more v [] h = All-nil (λ w. length w.node.steps ≤ length v.node.steps)
all_no_more v (w ∷ ds) h =
    let both = and_parts (not (comes_further w v)) (list_all (λ u. not (comes_further u v)) ds) h in
    All-cons (λ u. length u.node.steps ≤ length v.node.steps) w ds
    (no_more_steps (rank_of w) (rank_of v) both.0) (all_no_more v ds both.1)

module _ (t : Tree) where
  -- a dead end of the tree, at its node
  record IsEndOf (v : Visit) : Type 0 where
    at_node : IsAtItsNode t v
    dead : IsDeadEnd t.rules t.nest v.node

  -- of which none has more steps
  record IsTopOf (v : Visit) : Type 0 where
    end : IsEndOf v
    most : All (λ w. length w.node.steps ≤ length v.node.steps) (ends_of t)

  pub seen_at : All (IsAtItsNode t) (with_root t.root (until_plan (tree_visits t)))
  seen_at =
      All-cons (IsAtItsNode t) (visit [] t.root Did) (until_plan (tree_visits t)) (root_at t)
      (all_until (IsAtItsNode t) (tree_visits t) (visits_in_tree t.rules t.nest t.root))

  all_at : All (IsAtItsNode t) (ends_of t)
  all_at = all_ends (IsAtItsNode t) (with_root t.root (until_plan (tree_visits t))) seen_at

  all_ends_of : All IsEndOf (ends_of t)
  all_ends_of = λ k d l. record {
    at_node = all_at k d l;
    dead =
        all_dead t.rules t.nest (with_root t.root (until_plan (tree_visits t)))
        (tree_tells_until t.rules t.nest t.root) k d l;
  }

  all_top : All IsTopOf (furthest (ends_of t))
  all_top =
      all_passing (λ v. list_all (λ w. not (comes_further w v)) (ends_of t)) IsEndOf IsTopOf
      (λ v h e. record { end = h; most = all_no_more v (ends_of t) e }) (ends_of t) all_ends_of

  -- where a fact of a visit gives one of the dead end that reports it, all visits give it of all that is reported
  told_all : (P : Visit → Type 0) (Q : DeadEnd → Type 0)
      → ((e : DeadEnd) (v : Visit) → told_of e ≡ told_at v → P v → Q e) → (es : List DeadEnd) (vs : List Visit)
      → map told_of es ≡ map told_at vs → All P vs → All Q es
  told_all P Q h [] vs e a = All-nil Q
  told_all P Q h (x ∷ es) [] e a = absurd (cc)
  told_all P Q h (x ∷ es) (v ∷ vs) e a =
      let here : told_of x ≡ told_at v = cc in
      All-cons Q x es (h x v here (All-head P v vs a)) (told_all P Q h es vs (cc) (All-tail P v vs a))

  top_told : (x : DeadEnd) (v : Visit) → told_of x ≡ told_at v → IsTopOf v → IsFurthest t x
  top_told x v here top =
      let steps : x.steps ≡ length v.node.steps = ap (λ y. y.rank.steps) here in
      record {
        path = v.path;
        node = v.node;
        is_told = ap (λ y. y.path) here;
        steps = steps;
        decompositions = ap (λ y. y.rank.decompositions) here;
        at_node = top.end.at_node;
        dead = top.end.dead;
        most = subst (λ n. All (λ w. length w.node.steps ≤ n) (ends_of t)) (sym steps) top.most;
      }

  pub furthest_in : (most : ℕ) (f : DeadEnds) → IsFoundIn t most f → All (IsFurthest t) f.furthest.items
  furthest_in most f h =
      told_all IsTopOf (IsFurthest t) top_told f.furthest.items (take most (furthest (ends_of t))) h.furthest
      (All-take IsTopOf most (furthest (ends_of t)) all_top)

  -- its path is that of a decomposition before the first plan or fault
  pub held_in : (most : ℕ) (f : DeadEnds) → IsFoundIn t most f → All (λ e. IsHeld t e.path.items) f.furthest.items
  held_in most f h =
      told_all (HeldAt t) (λ e. IsHeld t e.path.items) (λ e v here k. subst (IsHeld t) (sym (ap (λ y. y.path) here)) k)
      f.furthest.items (take most (furthest (ends_of t))) h.furthest
      (All-take (HeldAt t) most (furthest (ends_of t))
      (all_passing (λ v. list_all (λ w. not (comes_further w v)) (ends_of t)) (HeldAt t) (HeldAt t) (λ v k e. k) (ends_of t)
      (all_ends (HeldAt t) (with_root t.root (until_plan (tree_visits t))) (with_root_held t))))

  -- where a fault ended the search, the walk is at the node that has it
  pub met_in : (s u : Seeking) (c e : Unit {0}) (vs : List Visit) (there : Standing) (f : RunFault)
      → vs ≡ tree_visits t → Passes MeetsSeeking s c vs u e there
      → ending ends.Whole (until_plan (tree_visits t)) ≡ ends.Fault f → HasMet t there f
  met_in s u c e vs there f new made h =
      let met = met_by s u c e (tree_visits t) there ends.Whole f
      (subst (λ ws. Passes MeetsSeeking s c ws u e there) new made) refl h in
      record {
        visit = met.visit;
        sight = met.sight;
        within = met.within;
        path = met.path;
        at_node =
            ap (node_at t.rules t.nest t.root) met.path
            ∙ All-contains (IsAtItsNode t) (with_root t.root (until_plan (tree_visits t))) met.visit seen_at
            (contains_later (visit [] t.root Did) met.visit (until_plan (tree_visits t)) met.within);
      }
