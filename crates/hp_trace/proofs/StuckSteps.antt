-- One visit of a trace after the other, and what is asked at dead ends.
use Rattle.std.proofs.Common.{append_assoc, append-nil, ◌≡◌, ◌≢◌, ℕ, suc, ◌+◌, ◌-◌, Bool, true, false, ◌&&◌, ◌==◌, cond, List, [], ◌∷◌, ◌++◌, length, map, take, Option, Some, None, refl, sym, ap, ap₂, ◌∙◌, subst, arith}
use Rattle.std.specs.Prelude.{MatchOption, not, option_map}
use Rattle.std.specs.List.{All}
use Rattle.std.proofs.lemmas.List.Elements.{All-head, All-tail}
use Rattle.std.proofs.lemmas.Option.{same_Some}
use Rattle.hp_after.proofs.Arrivals.{tree_at}
use Rattle.hp_dead_ends.proofs.DeadLemmas.{AllTell, tree_tells}
use Rattle.hp_dead_ends.proofs.FitLemmas.{tree_fits}
use Rattle.hp_dead_ends.specs.DeadEnds.{ends_at}
use Rattle.hp_net.specs.Standings.{IsAtItsNode, Standing, Tree, arrived, left_after, next_below, node_reached, standing, stepped, tree_visits}
use Rattle.hp_obstacles.specs.declared.obstacles.Stuck as made
use Rattle.hp_obstacles.specs.Obstacles.{all_stuck, stuck_of}
use Rattle.hp_search.specs.Planned.{Planned, stands_planned, tree_planned}
use Rattle.hp_syntax.specs.declared.fault.RunFault.{RunFault}
use Rattle.hp_syntax.specs.Syntax.{Rule}
use Rattle.hp_syntax.specs.Walk.{Node, Sight, Did, Plan, CutHere, FaultHere, Visit, begins, is_did, is_fault_here, node_at, visit}
use Rattle.hp_way.specs.Along.{IsDeedAt}
use Rattle.hp_way.specs.Ways.{deed_of}
use Rattle.hp_way.specs.declared.ways.Deed as made_deed
use Rattle.hp_trace.specs.declared.tracing.TracedVisit.{TracedVisit}
use Rattle.hp_trace.specs.declared.tracing.Seen.TheVariants as seen
use Rattle.hp_trace.specs.Reaching.{ComesNext, IsEnding, StandsAtNext}
use Rattle.hp_trace.specs.Traces.{AreTraced, IsDead, IsSeen, IsTrace, visits_from}
use Rattle.hp_trace.specs.Tracing.{GoesOn, IsHere, TellsDead, Traces, seen_cut, stuck_at}
use Rattle.hp_trace.proofs.EndSteps.{begins_through}
use Rattle.hp_trace.proofs.ReachSteps.{ending_of_ending, first_here, longer_ending, whole_ending}
use Rattle.hp_trace.proofs.TraceSteps.{Stands, all_stand, deed_there}

-- ---- what is seen

-- a cut is one of the depth exactly where none is left
pub cut_seen : (t : Tree) (q : List ℕ) (n : Node) (level depth : ℕ) → level ≡ length q → n.depth + length q ≡ depth
    → IsSeen t (visit q n CutHere) (seen_cut level depth)
cut_seen t q n level depth long deep = by (level == depth) refl
  where
    by : (b : Bool) → (level == depth) ≡ b → IsSeen t (visit q n CutHere) (cond b seen.DepthCut seen.LevelCut)
    by true e = let same : level ≡ depth = grind arith in (refl, omega (arith, long, deep, same))
    by false e = (refl, λ z. let same : level ≡ depth = omega (arith, long, deep, z) in grind (arith, same, e))

-- a decomposition is seen by its deed
pub deed_seen : (p : Planned) (d : made_deed.Deed) (k : ℕ) (n : Node) (x : Sight) → x ≡ Did
    → (x ≡ Did → (stands_planned p).path ≢ []) → k ≡ length (stands_planned p).path - 1
    → node_reached (tree_planned p) (stands_planned p) ≡ Some n → IsDeedAt p k (deed_of d)
    → IsSeen (tree_planned p) (visit (stands_planned p).path n x) (seen.Did d)
deed_seen p d k n x did below is at led =
    let long = one_more (stands_planned p).path (below did) in
    let more : length (stands_planned p).path ≡ suc k = omega (arith, long, is) in
    let made = deed_there p (deed_of d) k n more at led in (
      did,
      record {
        above = made.above;
        number = made.number;
        path = made.path;
        node = made.node;
        there = made.there;
        done = made.done;
      },
    )
  where
    one_more : (q : List ℕ) → q ≢ [] → length q ≡ suc (length q - 1)
    one_more [] n = absurd (n refl)
    one_more (i ∷ q) n = omega arith

-- ---- after a decomposition

left_did : (v : Visit) (ws : List Visit) → v.sight ≡ Did → left_after v ws ≡ ws
left_did v ws e = ap (λ x. cond (is_fault_here x) [] ws) e

-- a visit that comes next at or below it
record Comes (p : List ℕ) (v : Visit) (us : List Visit) (x : Sight) : Type 0 where
  open_yet : ends_at v.path us ≡ false
  stands : StandsAtNext p us x (arrived v.path (next_below v.path us) us)

some_below : (p : List ℕ) (v : Visit) (us : List Visit) (x : Sight) → begins p v.path ≡ true
    → Some x ≡ option_map (λ w. w.sight) (next_below v.path us) → Comes p v us x
some_below p v [] x below e = absurd (cc)
some_below p v (w ∷ us) x below e = by (begins v.path w.path) refl e
  where
    by : (b : Bool) → begins v.path w.path ≡ b → Some x ≡ option_map (λ u. u.sight) (cond b (Some w) None)
        → Comes p v (w ∷ us) x
    by true h k =
        let here = begins_through p v.path w.path below h in
        record {
          open_yet = ap not h;
          stands =
              subst (StandsAtNext p (w ∷ us) x)
              (sym (ap (λ b. arrived v.path (cond b (Some w) None) (w ∷ us)) h)) (record {
                visit = w;
                rest = us;
                sight = same_Some w.sight x (sym k);
                here = here;
                stands = refl;
                ending = whole_ending (w ∷ us);
                first = first_here p w us here;
              });
        }
    by false h k = absurd (cc)

-- none
record Ends (v : Visit) (us : List Visit) : Type 0 where
  over : ends_at v.path us ≡ true
  stays : arrived v.path (next_below v.path us) us ≡ standing v.path us false

none_below : (v : Visit) (us : List Visit) → None ≡ option_map (λ w. w.sight) (next_below v.path us) → Ends v us
none_below v [] e = record { over = refl; stays = refl }
none_below v (w ∷ us) e = by (begins v.path w.path) refl e
  where
    by : (b : Bool) → begins v.path w.path ≡ b → None ≡ option_map (λ u. u.sight) (cond b (Some w) None) → Ends v (w ∷ us)
    by true h k = absurd (cc)
    by false h k = record {
      over = ap not h;
      stays = ap (λ b. arrived v.path (cond b (Some w) None) (w ∷ us)) h;
    }

stuck_by : (rules : List Rule) (nest : ℕ) (v : Visit) (ws : List Visit) (b : Bool) → v.sight ≡ Did
    → ends_at v.path ws ≡ b → stuck_at rules nest v ws ≡ cond b (all_stuck rules nest v.node) []
stuck_by rules nest v ws b did e =
    ap₂ (λ x y. cond (x && y) (all_stuck rules nest v.node) []) (ap is_did did) e

module _ (rules : List Rule) (t : Tree) (p : List ℕ) (v : Visit) (ws : List Visit) where
  pub goes_some : (s to : Standing) (x : Sight) → IsHere t p Did s v ws → to ≡ stepped s
      → Some x ≡ option_map (λ w. w.sight) (next_below s.path s.rest) → GoesOn rules t p v ws [] (Some x) to
  goes_some s to x h e k =
      let r = some_below p v (left_after v ws) x h.below
      (subst (λ z. Some x ≡ option_map (λ w. w.sight) (next_below z.path z.rest)) h.stands k) in
      record {
        stuck =
            sym (stuck_by rules t.nest v ws false h.sight
            (subst (λ l. ends_at v.path l ≡ false) (left_did v ws h.sight) r.open_yet));
        next = subst (StandsAtNext p (left_after v ws) x) (sym (e ∙ ap stepped h.stands)) r.stands;
      }

  pub goes_none : (own : Tree) (s at to : Standing) (asked : List made.Stuck) (o : Option Sight) → IsHere t p Did s v ws
      → own ≡ t → at ≡ stepped s → None ≡ option_map (λ w. w.sight) (next_below s.path s.rest)
      → MatchOption (node_reached own at) ⊥ (λ n. map stuck_of asked ≡ all_stuck rules own.nest n)
      → ComesNext p at.rest o to → GoesOn rules t p v ws asked o to
  goes_none own s at to asked o h same e k m c =
      let r = none_below v (left_after v ws)
      (subst (λ z. None ≡ option_map (λ w. w.sight) (next_below z.path z.rest)) h.stands k) in
      let is : at ≡ standing v.path (left_after v ws) false = e ∙ (ap stepped h.stands ∙ r.stays) in
      let node : node_reached own at ≡ Some v.node =
      ap (λ x. node_reached x at) same
      ∙ (ap (λ q. node_at t.rules t.nest t.root q) (ap (λ z. z.path) is ∙ sym (ap (λ z. z.path) h.stands)) ∙ h.node) in
      let known : map stuck_of asked ≡ all_stuck rules own.nest v.node =
      subst (λ q. MatchOption q ⊥ (λ n. map stuck_of asked ≡ all_stuck rules own.nest n)) node m in
      record {
        stuck =
            known ∙ (ap (λ x. all_stuck rules x.nest v.node) same
            ∙ sym (stuck_by rules t.nest v ws true h.sight
            (subst (λ l. ends_at v.path l ≡ true) (left_did v ws h.sight) r.over)));
        next = subst (λ vs. ComesNext p vs o to) (ap (λ z. z.rest) is) c;
      }

  not_did : (x : Sight) → (x ≡ Did → ⊥) → is_did x ≡ false
  not_did Did n = absurd (n refl)
  not_did Plan n = refl
  not_did CutHere n = refl
  not_did (FaultHere f) n = refl

  pub goes_other : (x : Sight) (s to : Standing) (o : Option Sight) → (x ≡ Did → ⊥) → IsHere t p x s v ws
      → ComesNext p s.rest o to → GoesOn rules t p v ws [] o to
  goes_other x s to o n h c = record {
    stuck =
        sym (ap (λ b. cond (b && ends_at v.path ws) (all_stuck rules t.nest v.node) [])
        (ap is_did h.sight ∙ not_did x n));
    next = subst (λ vs. ComesNext p vs o to) (ap (λ z. z.rest) h.stands) c;
  }

  -- ---- the visit

  none_mapped : (xs : List made.Stuck) → map stuck_of xs ≡ [] → xs ≡ []
  none_mapped [] e = refl
  none_mapped (x ∷ xs) e = absurd (cc)

  no_stuck : (xs : List made.Stuck) → (v.sight ≡ Did → TellsDead t v ws) → (IsDead t v → ⊥)
      → map stuck_of xs ≡ stuck_at rules t.nest v ws → xs ≡ []
  no_stuck xs tells n e = none_mapped xs (e ∙ by v.sight refl (ends_at v.path ws) refl)
    where
      by : (x : Sight) → v.sight ≡ x → (b : Bool) → ends_at v.path ws ≡ b
          → cond (is_did x && b) (all_stuck rules t.nest v.node) [] ≡ []
      by Did f true g = absurd (n (record { did = f; dead = (tells f).dead g }))
      by Did f false g = refl
      by Plan f b g = refl
      by CutHere f b g = refl
      by (FaultHere h) f b g = refl

  pub traced_by : (x : Sight) (s to : Standing) (y : TracedVisit) (o : Option Sight) (depth : ℕ) → IsHere t p x s v ws
      → t.root.depth ≡ depth → y.level ≡ length s.path - (length p - 1)
      → ((n : Node) → node_reached t s ≡ Some n → n.depth + length s.path ≡ depth → IsSeen t (visit s.path n x) y.seen)
      → GoesOn rules t p v ws y.stuck.items o to → Traces rules t p v ws y o to
  traced_by x s to y o depth h deep level seen goes =
      let path = ap (λ z. z.path) h.stands in
      let there : visit s.path v.node x ≡ v =
      ap (λ q. visit q v.node x) path ∙ ap (visit v.path v.node) (sym h.sight) in
      record {
        traced = record {
          level = level ∙ ap (λ q. length q - (length p - 1)) path;
          seen =
              subst (λ w. IsSeen t w y.seen) there
              (seen v.node h.node (ap (λ q. v.node.depth + length q) path ∙ (h.depth ∙ deep)));
          stuck = λ d. goes.stuck ∙ stuck_by rules t.nest v ws true d.did ((h.tells d.did).over d.dead);
          none = λ n. no_stuck y.stuck.items h.tells n goes.stuck;
        };
        next = goes.next;
      }

-- ---- ends of lists of visits

all_after : (P : Visit → Type 0) (us ws : List Visit) → All P (us ++ ws) → All P ws
all_after P [] ws a = a
all_after P (u ∷ us) ws a = all_after P us ws (All-tail P u (us ++ ws) a)

all_ending : (P : Visit → Type 0) (ws vs : List Visit) → IsEnding ws vs → All P vs → All P ws
all_ending P ws vs e a = all_after P e.before ws (subst (All P) e.whole a)

tell_after : (rules : List Rule) (nest : ℕ) (us ws : List Visit) → AllTell rules nest (us ++ ws) → AllTell rules nest ws
tell_after rules nest [] ws a = a
tell_after rules nest (u ∷ us) ws a = tell_after rules nest us ws a.1

tail_ending : (v : Visit) (ws vs : List Visit) → IsEnding (v ∷ ws) vs → IsEnding ws vs
tail_ending v ws vs e = ending_of_ending ws (v ∷ ws) vs (longer_ending v ws ws (whole_ending ws)) e

none_ending : (vs : List Visit) → IsEnding [] vs
none_ending vs = record { before = vs; whole = sym (append-nil vs) }

left_ending : (v : Visit) (ws vs : List Visit) → IsEnding (v ∷ ws) vs → IsEnding (left_after v ws) vs
left_ending v ws vs e = by (is_fault_here v.sight)
  where
    by : (b : Bool) → IsEnding (cond b [] ws) vs
    by true = none_ending vs
    by false = tail_ending v ws vs e

-- ---- the whole trace

-- what is traced of the visits from some on goes on from what was traced before
pub record Going (rules : List Rule) (t : Tree) (p : List ℕ) (most : ℕ) (xs : List TracedVisit) (left : ℕ)
    (next : Option Sight) (s : Standing) : Type 0 where
  pub from : List Visit
  pub ending : IsEnding from (tree_visits t)
  pub comes : ComesNext p from next s
  pub leads :
      (ys : List TracedVisit) → AreTraced rules t (length p - 1) (take (suc left) (visits_from p from)) ys
      → IsTrace rules t p most (xs ++ ys)

module _ (rules : List Rule) (t : Tree) (p : List ℕ) (most : ℕ) where
  pub going_first : (vs : List Visit) (o : Option Sight) (s : Standing) → vs ≡ tree_visits t → ComesNext p vs o s
      → Going rules t p most [] most o s
  going_first vs o s e c = record {
    from = tree_visits t;
    ending = whole_ending (tree_visits t);
    comes = subst (λ ws. ComesNext p ws o s) e c;
    leads = λ ys h. h;
  }

  pub going_over : (xs : List TracedVisit) (left : ℕ) (o : Option Sight) (s : Standing) → o ≡ None
      → Going rules t p most xs left o s → IsTrace rules t p most xs
  going_over xs left o s e g =
      let none : visits_from p g.from ≡ [] = subst (λ x. ComesNext p g.from x s) e g.comes in
      subst (IsTrace rules t p most) (append-nil xs)
      (g.leads [] (subst (λ ws. AreTraced rules t (length p - 1) (take (suc left) ws) []) (sym none) tt))

  module _ (xs : List TracedVisit) (left : ℕ) (x : Sight) (s : Standing) (g : Going rules t p most xs left (Some x) s) where
    pub all_left : All (IsAtItsNode t) s.rest
    all_left =
        let e = ending_of_ending (g.comes.visit ∷ g.comes.rest) g.from (tree_visits t) g.comes.ending g.ending in
        subst (λ z. All (IsAtItsNode t) z.rest) (sym g.comes.stands)
        (all_ending (IsAtItsNode t) (left_after g.comes.visit g.comes.rest) (tree_visits t)
        (left_ending g.comes.visit g.comes.rest (tree_visits t) e) (tree_at t (tree_visits t) refl))

    ends : IsEnding (g.comes.visit ∷ g.comes.rest) (tree_visits t)
    ends = ending_of_ending (g.comes.visit ∷ g.comes.rest) g.from (tree_visits t) g.comes.ending g.ending

    stands_here : Stands t.root.depth g.comes.visit
    stands_here =
        All-head (Stands t.root.depth) g.comes.visit g.comes.rest
        (all_ending (Stands t.root.depth) (g.comes.visit ∷ g.comes.rest) (tree_visits t) ends
        (all_stand t.root.depth [] (tree_visits t) (tree_fits t)))

    pub not_root : x ≡ Did → s.path ≡ [] → ⊥
    not_root did e =
        stands_here.below (g.comes.sight ∙ did, sym (ap (λ z. z.path) g.comes.stands) ∙ e)

    pub is_here : IsHere t p x s g.comes.visit g.comes.rest
    is_here =
        let v = g.comes.visit in
        let ws = g.comes.rest in
        let node : node_at t.rules t.nest t.root v.path ≡ Some v.node =
        All-head (IsAtItsNode t) v ws
        (all_ending (IsAtItsNode t) (v ∷ ws) (tree_visits t) ends (tree_at t (tree_visits t) refl)) in
        let tells =
        (tell_after t.rules t.nest ends.before (v ∷ ws)
        (subst (AllTell t.rules t.nest) ends.whole (tree_tells t.rules t.nest t.root).1)).0 in
        record {
          stands = g.comes.stands;
          sight = g.comes.sight;
          below = g.comes.here;
          node = ap (λ z. node_reached t z) g.comes.stands ∙ node;
          depth = stands_here.deep;
          tells =
              λ did. let e = tells (ap is_did did) in record { dead = e.dead; over = e.over };
        }

    module _ (y : TracedVisit) (o : Option Sight) (to : Standing)
        (made : Traces rules t p g.comes.visit g.comes.rest y o to) where
      pub going_last : left ≡ 0 → IsTrace rules t p most (xs ++ y ∷ [])
      going_last none =
          g.leads (y ∷ [])
          (subst (λ ws. AreTraced rules t (length p - 1) (take (suc left) ws) (y ∷ [])) (sym g.comes.first)
          (subst (λ k. AreTraced rules t (length p - 1) (take (suc k)
          (g.comes.visit ∷ visits_from p (left_after g.comes.visit g.comes.rest))) (y ∷ [])) (sym none)
          (made.traced, tt)))

      pub going_on : (k : ℕ) → left ≡ suc k → Going rules t p most (xs ++ y ∷ []) k o to
      going_on k more = record {
        from = left_after g.comes.visit g.comes.rest;
        ending = left_ending g.comes.visit g.comes.rest (tree_visits t) ends;
        comes = made.next;
        leads =
            λ ys h.
            subst (IsTrace rules t p most) (sym (append_assoc xs (y ∷ []) ys))
            (g.leads (y ∷ ys)
            (subst (λ ws. AreTraced rules t (length p - 1) (take (suc left) ws) (y ∷ ys)) (sym g.comes.first)
            (subst (λ m. AreTraced rules t (length p - 1) (take (suc m)
            (g.comes.visit ∷ visits_from p (left_after g.comes.visit g.comes.rest))) (y ∷ ys)) (sym more)
            (made.traced, h))));
      }

-- ---- what is seen is no decomposition

pub plan_no_did : (x : Sight) → x ≡ Plan → x ≢ Did
plan_no_did x e f = let k : Plan ≡ Did = sym e ∙ f in cc

pub cut_no_did : (x : Sight) → x ≡ CutHere → x ≢ Did
cut_no_did x e f = let k : CutHere ≡ Did = sym e ∙ f in cc

pub fault_no_did : (g : RunFault) (x : Sight) → x ≡ FaultHere g → x ≢ Did
fault_no_did g x e f = let k : FaultHere g ≡ Did = sym e ∙ f in cc

-- ---- one visit more

module _ (rules : List Rule) (t own : Tree) (p : List ℕ) (most : ℕ) (xs : List TracedVisit) (left : ℕ) (o : Option Sight)
    (x : Sight) (s : Standing) (same : own ≡ t) (is : o ≡ Some x) (g : Going rules t p most xs left o s) where
  there : Going rules t p most xs left (Some x) s
  there = subst (λ z. Going rules t p most xs left z s) is g

  pub step_left : All (IsAtItsNode own) s.rest
  step_left = subst (λ (z : Tree). All (IsAtItsNode z) s.rest) (sym same) (all_left rules t p most xs left x s there)

  pub step_root : x ≡ Did → s.path ≡ [] → ⊥
  step_root = not_root rules t p most xs left x s there

  module _ (y : TracedVisit) (next : Option Sight) (to : Standing) (ys : List TracedVisit) (more : ys ≡ xs ++ y ∷ [])
      (tr : (v : Visit) (ws : List Visit) → IsHere own p x s v ws → Traces rules own p v ws y next to) where
    made_there : Traces rules t p there.comes.visit there.comes.rest y next to
    made_there =
        subst (λ (z : Tree). Traces rules z p there.comes.visit there.comes.rest y next to) same
        (tr there.comes.visit there.comes.rest
        (subst (λ (z : Tree). IsHere z p x s there.comes.visit there.comes.rest) (sym same)
        (is_here rules t p most xs left x s there)))

    pub step_last : left ≡ 0 → IsTrace rules t p most ys
    step_last none =
        subst (IsTrace rules t p most) (sym more)
        (going_last rules t p most xs left x s there y next to made_there none)

    pub step_on : (k : ℕ) → left ≡ suc k → Going rules t p most ys k next to
    step_on k e =
        subst (λ zs. Going rules t p most zs k next to) (sym more)
        (going_on rules t p most xs left x s there y next to made_there k e)
