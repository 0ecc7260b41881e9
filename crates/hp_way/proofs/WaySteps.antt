-- The deeds on the path of a walk, one more at a time, and those that lead to a plan.
use Rattle.std.proofs.Common.{◌≡◌, ℕ, ℤ, ◌+◌, ◌<◌, List, [], ◌∷◌, ◌++◌, length, take, get_or, refl, sym, ◌∙◌, ap}
use Rattle.std.proofs.Common.{subst}
use Rattle.std.specs.Prelude.{MatchOption}
use Rattle.std.proofs.Math.Seq.{take-length}
use Rattle.std.proofs.lemmas.List.{take_more}
use Rattle.std.proofs.lemmas.Option.{MatchOption-at_some, get_or_from_slice_get, same_Some, slice_get-get_or}
use Rattle.std.proofs.lemmas.Option.{slice_get_within}
use Rattle.hp_syntax.specs.Syntax.{Rule}
use Rattle.hp_syntax.specs.Terms.{Term}
use Rattle.hp_syntax.specs.Walk.{Node, node_at}
use Rattle.hp_laws.specs.Derivations.{IsNext, situation_at}
use Rattle.hp_eval.specs.GoalViews.{term_at}
use Rattle.hp_net.specs.Standings.{Tree, tree_visits}
use Rattle.hp_choice.specs.Served.{ServesBy}
use Rattle.hp_after.specs.declared.reaching.Arrival.{Arrival}
use Rattle.hp_after.specs.declared.reaching.Reached.TheVariants as reached
use Rattle.hp_after.specs.Reach.{IsArrival, IsThere}
use Rattle.hp_search.specs.declared.decomposition.Decomposition.{Decomposition}
use Rattle.hp_search.specs.Led.{IsLedAt, node_on}
use Rattle.hp_search.specs.Planned.{Planned, stands_planned, tree_planned}
use Rattle.hp_way.proofs.ChildPaths.{child_behind}
use Rattle.hp_way.specs.Along.{IsDeedAt, LeadSoFar}
use Rattle.hp_way.specs.Ways.{Deed, Here, IsDone, LeadAlong, LeadToPlan, Through}

module _ (rules : List Rule) (nest : ℕ) where
  -- one more deed leads on
  pub lead_on : {ds : List Deed} {p : List ℕ} {n m : Node} → LeadAlong rules nest ds p n m → (d : Deed) (i : ℕ)
      (l : Node) → IsDone rules nest d i m l → LeadAlong rules nest (ds ++ d ∷ []) (p ++ i ∷ []) n l
  lead_on (Here n) d i l done = Through d [] i [] n l l done (Here l)
  lead_on (Through e es j q n k m first rest) d i l done =
      Through e (es ++ d ∷ []) j (q ++ i ∷ []) n k l first (lead_on rest d i l done)

-- ---- on the path of a walk

-- a decomposition is told as a deed
pub deed_made : (p : Planned) (k : ℕ) (d : Decomposition) (t : Term) (cost : ℤ) → IsLedAt p k d
    → k < length (stands_planned p).path → t ≡ term_at p.terms d.task
    → MatchOption (node_on p (k + 1)) ⊥ (λ n. cost ≡ n.cost)
    → IsDeedAt p k (record { candidate = d.candidate; task = t; rule = d.rule; branch = d.branch; cost = cost })
deed_made p k d t cost led low task paid =
    let rules = (tree_planned p).rules in
    let root = (tree_planned p).root in
    let path = (stands_planned p).path in
    let number : ℕ = get_or path k 0 in
    let whole : take (k + 1) path ≡ take k path ++ number ∷ [] = take_more path k 0 low in
    record {
      number = number;
      is = slice_get-get_or path k 0 low;
      above = led.above;
      there = led.there;
      reached = led.reached;
      here = led.here;
      done = record {
        child =
            child_behind rules p.nest (take k path) number root led.above led.reached led.there
            (ap (node_at rules p.nest root) (sym whole) ∙ led.here);
        event = led.led.event;
        leads = led.led.leads;
        place = led.led.place;
        next = subst (IsNext (situation_at led.above) d.candidate led.led.place) (sym task) led.led.next;
        own = led.led.own;
        is = led.led.is;
        serves =
            subst (λ x. ServesBy rules p.nest led.above.state x led.led.own d.branch) (sym task) led.led.serves;
        cost = MatchOption-at_some ⊥ (λ (n : Node). cost ≡ n.cost) led.reached led.here paid;
      };
    }

-- at first no deed is told
pub so_far_none : (p : Planned) → LeadSoFar p 0 []
unfolding node_at
so_far_none p = record { node = (tree_planned p).root; there = refl; lead = Here (tree_planned p).root }

-- then one more
pub so_far_on : (p : Planned) (k : ℕ) (ds : List Deed) (d : Deed) → LeadSoFar p k ds → IsDeedAt p k d
    → LeadSoFar p (k + 1) (ds ++ d ∷ [])
so_far_on p k ds d far at =
    let rules = (tree_planned p).rules in
    let root = (tree_planned p).root in
    let path = (stands_planned p).path in
    let same : at.above ≡ far.node = same_Some at.above far.node (sym at.there ∙ far.there) in
    let whole : take (k + 1) path ≡ take k path ++ at.number ∷ [] =
    take_more path k at.number (slice_get_within path k at.number at.is)
    ∙ ap (λ i. take k path ++ i ∷ []) (get_or_from_slice_get path k at.number at.number at.is) in
    record {
      node = at.reached;
      there = at.here;
      lead =
          subst (λ q. LeadAlong rules p.nest (ds ++ d ∷ []) q root at.reached) (sym whole)
          (lead_on rules p.nest far.lead d at.number at.reached
          (subst (λ n. IsDone rules p.nest d at.number n at.reached) same at.done));
    }

-- ---- at a plan

-- where the walk to a path came to the plan, the deeds of its whole path lead to it
pub leads_to_plan : (t : Tree) (p : Planned) (path : List ℕ) (a : Arrival) (ds : List Deed) → tree_planned p ≡ t
    → IsArrival a path (tree_visits t) → a.answer ≡ reached.At → IsThere t (stands_planned p) path
    → LeadSoFar p (length (stands_planned p).path) ds → LeadToPlan t.rules t.nest t.root path ds
leads_to_plan t p path a ds same arrival at there far =
    let own = tree_planned p in
    let walked = (stands_planned p).path in
    let node : far.node ≡ there.node =
    same_Some far.node there.node
    (sym far.there ∙ (ap (node_at own.rules own.nest own.root) (take-length walked)
    ∙ (ap (λ (x : Tree). node_at x.rules x.nest x.root walked) same ∙ there.at_node))) in
    record {
      answer = sym arrival.answer ∙ at;
      node = there.node;
      plan = (there.before, (stands_planned p).rest, there.plan);
      lead =
          subst (λ (x : Tree). LeadAlong x.rules x.nest ds path x.root there.node) same
          (subst (λ q. LeadAlong own.rules own.nest ds q own.root there.node) (take-length walked ∙ there.path)
          (subst (LeadAlong own.rules own.nest ds (take (length walked) walked) own.root) node far.lead));
    }
