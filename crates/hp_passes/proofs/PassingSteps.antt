-- One visit of a pass over a walk.
use Rattle.std.proofs.Common.{◌≡◌, ℕ, ◌<◌, ◌≤◌, Bool, true, false, cond, List, [], ◌∷◌, length, Some, None, refl, sym, ap, subst, ◌∙◌, arith}
use Rattle.std.specs.List.{All}
use Rattle.std.proofs.lemmas.Option.{same_Some}
use Rattle.std.proofs.lemmas.List.Elements.{All-head, All-tail}
use Rattle.hp_syntax.specs.Walk.{Node, Visit, visit, begins, skip, is_did, Did, Plan, CutHere, FaultHere}
use Rattle.hp_syntax.specs.Walk as tree
use Rattle.hp_net.specs.Standings.{Tree, Standing, IsAtItsNode, node_reached, next_of, step_of, step_or_end, left_after, gone_on, pruned}
use Rattle.hp_net.specs.declared.walk.Step.{Step}
use Rattle.hp_passes.specs.declared.passing.Sight.{Sight}
use Rattle.hp_passes.specs.declared.passing.Sight.TheVariants as sights
use Rattle.hp_passes.specs.declared.passing.Turn.{Turn}
use Rattle.hp_passes.specs.declared.passing.Turn.TheVariants.{On, Past, Last}
use Rattle.hp_passes.specs.declared.passing.Stop.{Stop}
use Rattle.hp_passes.specs.declared.passing.Stop.TheVariants.{Failed}
use Rattle.hp_passes.specs.Passing.{sight_of, seen_of, Fits, at_end, at_visit, Passes, AtEnd, GoesOn, LeavesOut, Ends, Stops, Within, AfterOne, AfterPart}

-- ---- what is skipped

-- what is left without the visits below a path is no longer
pub skip_shorter : (p : List ℕ) (vs : List Visit) → length (skip p vs) ≤ length vs
skip_shorter p [] = omega arith
skip_shorter p (v ∷ vs) = by (begins p v.path) (skip_shorter p vs)
  where
    by : (b : Bool) → length (skip p vs) ≤ length vs → length (cond b (skip p vs) (v ∷ vs)) ≤ length (v ∷ vs)
    by true h = omega (arith, h)
    by false h = omega arith

-- a fact of all visits is one of those that are left without the visits below a path
pub skip_keeps : (P : Visit → Type 0) (p : List ℕ) (vs : List Visit) → All P vs → All P (skip p vs)
skip_keeps P p [] a = a
skip_keeps P p (v ∷ vs) a = by (begins p v.path) (skip_keeps P p vs (All-tail P v vs a))
  where
    by : (b : Bool) → All P (skip p vs) → All P (cond b (skip p vs) (v ∷ vs))
    by true h = h
    by false h = a

-- ---- the next visit

-- the first of what is left is seen so, and the walk goes there
pub record Next (s t : Standing) (x : tree.Sight) : Type 0 where
  pub visit : Visit
  pub rest : List Visit
  pub is : s.rest ≡ visit ∷ rest
  pub sight : visit.sight ≡ x
  pub stands : t ≡ at_visit visit rest

-- the step at a visit sees what is seen there
seen_at : (x : tree.Sight) (v : Visit) → v.sight ≡ x → seen_of (step_of v) ≡ Some x
seen_at Did v h = rw h refl
seen_at Plan v h = rw h refl
seen_at CutHere v h = rw h refl
seen_at (FaultHere f) v h = rw h refl

-- where a step sees something, that is the next visit
pub next_seen : (s t : Standing) (x : tree.Sight) (step : Step) → t ≡ gone_on s → step ≡ step_or_end (next_of s.rest)
    → Some x ≡ seen_of step → Next s t x
next_seen s t x step gone a e = from s.rest refl (e ∙ ap seen_of a)
  where
    from : (vs : List Visit) → s.rest ≡ vs → Some x ≡ seen_of (step_or_end (next_of vs)) → Next s t x
    from [] h k = absurd (cc)
    from (v ∷ vs) h k = record {
      visit = v;
      rest = vs;
      is = h;
      sight = sym (same_Some x v.sight (k ∙ seen_at v.sight v refl));
      stands = gone ∙ (rw h refl);
    }

-- where a step sees nothing, nothing was left
pub none_seen : (step : Step) (vs : List Visit) → step ≡ step_or_end (next_of vs) → None ≡ seen_of step → vs ≡ []
none_seen step [] a e = refl
none_seen step (v ∷ vs) a e =
    let f : None ≡ Some v.sight = e ∙ (ap seen_of a ∙ seen_at v.sight v refl) in absurd (cc)

-- where nothing is left, the walk goes to its root
pub stands_at_end : (s t : Standing) → t ≡ gone_on s → s.rest ≡ [] → t ≡ at_end
stands_at_end s t gone e = gone ∙ (rw e refl)

module _ (s t : Standing) (x : tree.Sight) (next : Next s t x) where
  -- the walk stands at the path of the visit
  pub path_of : t.path ≡ next.visit.path
  path_of = ap (λ z. z.path) next.stands

  -- what is left after the visit
  pub rest_of : t.rest ≡ left_after next.visit next.rest
  rest_of = ap (λ z. z.rest) next.stands

  -- fewer visits are left
  pub shorter : length t.rest < length s.rest
  shorter = by next.visit.sight refl
    where
      by : (y : tree.Sight) → next.visit.sight ≡ y → length t.rest < length s.rest
      by (FaultHere f) h =
          let l : left_after next.visit next.rest ≡ [] = rw h refl in
          let a = ap length (rest_of ∙ l) in let b = ap length next.is in omega (arith, a, b)
      by Did h =
          let l : left_after next.visit next.rest ≡ next.rest = rw h refl in
          let a = ap length (rest_of ∙ l) in let b = ap length next.is in omega (arith, a, b)
      by Plan h =
          let l : left_after next.visit next.rest ≡ next.rest = rw h refl in
          let a = ap length (rest_of ∙ l) in let b = ap length next.is in omega (arith, a, b)
      by CutHere h =
          let l : left_after next.visit next.rest ≡ next.rest = rw h refl in
          let a = ap length (rest_of ∙ l) in let b = ap length next.is in omega (arith, a, b)

  -- the node reached is that of the visit
  pub node_there : (a b : Tree) → b ≡ a → All (IsAtItsNode a) s.rest → node_reached b t ≡ Some next.visit.node
  node_there a b same all =
      let at : IsAtItsNode a next.visit =
      All-head (IsAtItsNode a) next.visit next.rest (subst (All (IsAtItsNode a)) next.is all) in
      subst (λ w. node_reached w t ≡ Some next.visit.node) (sym same)
      (subst (λ p. node_reached a (record { path = p; rest = t.rest; at_did = t.at_did }) ≡ Some next.visit.node)
      (sym path_of) at)

  -- what is said of a visit of the node reached is a fact of the visit just made
  pub said : (a b : Tree) → b ≡ a → All (IsAtItsNode a) s.rest → (P : Visit → Type 0)
      → ((n : Node) → node_reached b t ≡ Some n → P (visit t.path n x)) → P next.visit
  said a b same all P h =
      let is : visit t.path next.visit.node x ≡ next.visit =
      ap (λ p. visit p next.visit.node x) path_of
      ∙ ap (visit next.visit.path next.visit.node) (sym next.sight) in
      subst P is (h next.visit.node (node_there a b same all))

-- ---- what a turn leaves

-- a pass that goes on did so not at a fault
on_leaves : (y : Sight) (v : Visit) (vs : List Visit) → v.sight ≡ sight_of y → Fits y On → left_after v vs ≡ vs
on_leaves sights.Did v vs h f = rw h refl
on_leaves sights.Plan v vs h f = rw h refl
on_leaves sights.Cut v vs h f = rw h refl
on_leaves (sights.Fault x) v vs h f = absurd (cc)

-- what lies below is left out after a decomposition alone
past_did : (y : Sight) → Fits y Past → sight_of y ≡ Did
past_did sights.Did f = refl
past_did sights.Plan f = absurd (f refl)
past_did sights.Cut f = absurd (f refl)
past_did (sights.Fault x) f = absurd (cc)

module _ (s t : Standing) (y : Sight) (next : Next s t (sight_of y)) where
  pub left_on : Fits y On → t.rest ≡ next.rest
  left_on f = rest_of s t (sight_of y) next ∙ on_leaves y next.visit next.rest next.sight f

  pub at_did : Fits y Past → t.at_did ≡ true
  at_did f = ap (λ z. z.at_did) next.stands ∙ ap is_did (next.sight ∙ past_did y f)

  -- what is left without what lies below the visit
  pub left_past : (r : Standing) → Fits y Past → r ≡ pruned t → r.rest ≡ skip next.visit.path next.rest
  left_past r f cut =
      let seen : next.visit.sight ≡ Did = next.sight ∙ past_did y f in
      let rest : left_after next.visit next.rest ≡ next.rest = rw seen refl in
      ap (λ z. z.rest) cut
      ∙ (ap (λ p. skip p t.rest) (path_of s t (sight_of y) next)
      ∙ ap (skip next.visit.path) (rest_of s t (sight_of y) next ∙ rest))

-- what was skipped leaves no more than there was
pub pruned_shorter : (t r : Standing) → r ≡ pruned t → length r.rest ≤ length t.rest
pruned_shorter t r cut =
    let h = ap (λ z. length z.rest) cut in let k = skip_shorter t.path t.rest in omega (arith, h, k)

-- a fact of all that is left is one of what is left without what lies below a node
pub pruned_at : (a b : Tree) (t r : Standing) → b ≡ a → r ≡ pruned t → All (IsAtItsNode a) t.rest
    → All (IsAtItsNode b) r.rest
pruned_at a b t r same cut all =
    subst (λ w. All (IsAtItsNode w) r.rest) (sym same)
    (subst (All (IsAtItsNode a)) (sym (ap (λ z. z.rest) cut)) (skip_keeps (IsAtItsNode a) t.path t.rest all))

-- ---- one visit of a pass

module _ {S C : Type 0} (meets : S → C → Visit → Turn → S → C → Type 0) where
  pub ends_here : (s : S) (c : C) (a b : Standing) → a.rest ≡ [] → b ≡ at_end → Passes meets s c a.rest s c b
  ends_here s c a b e f =
      subst (λ vs. Passes meets s c vs s c b) (sym e) (subst (Passes meets s c [] s c) (sym f) (AtEnd s c))

  module _ (a b : Standing) (y : Sight) (next : Next a b (sight_of y)) (s t : S) (c d : C) where
    pub goes_on : (u : S) (e : C) (there : Standing) → Fits y On → meets s c next.visit On t d
        → Passes meets t d b.rest u e there → Passes meets s c a.rest u e there
    goes_on u e there f m p =
        subst (λ vs. Passes meets s c vs u e there) (sym next.is)
        (GoesOn s t u c d e next.visit next.rest there m
        (subst (λ vs. Passes meets t d vs u e there) (left_on a b y next f) p))

    pub leaves_out : (r : Standing) (u : S) (e : C) (there : Standing) → Fits y Past → r ≡ pruned b
        → meets s c next.visit Past t d → Passes meets t d r.rest u e there → Passes meets s c a.rest u e there
    leaves_out r u e there f cut m p =
        subst (λ vs. Passes meets s c vs u e there) (sym next.is)
        (LeavesOut s t u c d e next.visit next.rest there m
        (subst (λ vs. Passes meets t d vs u e there) (left_past a b y next r f cut) p))

    pub ends : meets s c next.visit Last t d → Passes meets s c a.rest t d b
    ends m =
        subst (λ vs. Passes meets s c vs t d b) (sym next.is)
        (subst (Passes meets s c (next.visit ∷ next.rest) t d) (sym next.stands) (Ends s t c d next.visit next.rest m))

    module _ {E : Type 0} (fails : S → C → Visit → E → C → Type 0) where
      pub stops_within : (x : E) → fails s c next.visit x d → Stops meets fails s c a.rest (Failed x) d
      stops_within x m =
          subst (λ vs. Stops meets fails s c vs (Failed x) d) (sym next.is)
          (Within s c d next.visit next.rest x m)

      pub stops_after : (e : C) (x : Stop E) → Fits y On → meets s c next.visit On t d
          → Stops meets fails t d b.rest x e → Stops meets fails s c a.rest x e
      stops_after e x f m p =
          subst (λ vs. Stops meets fails s c vs x e) (sym next.is)
          (AfterOne s t c d e next.visit next.rest x m
          (subst (λ vs. Stops meets fails t d vs x e) (left_on a b y next f) p))

      pub stops_past : (r : Standing) (e : C) (x : Stop E) → Fits y Past → r ≡ pruned b
          → meets s c next.visit Past t d → Stops meets fails t d r.rest x e → Stops meets fails s c a.rest x e
      stops_past r e x f cut m p =
          subst (λ vs. Stops meets fails s c vs x e) (sym next.is)
          (AfterPart s t c d e next.visit next.rest x m
          (subst (λ vs. Stops meets fails t d vs x e) (left_past a b y next r f cut) p))
