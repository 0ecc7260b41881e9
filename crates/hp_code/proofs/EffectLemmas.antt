-- A lowered operator changes and costs what the operator does.
use Rattle.std.proofs.Common.{◌≡◌, ℕ, List, [], ◌∷◌, ◌++◌, map, refl, ap, sym, ◌∙◌}
use Rattle.std.proofs.lemmas.List.{append-nil, append_assoc}
use Rattle.hp_syntax.specs.Syntax.{Axiom, Effect, Change, Protection, Each, Operator}
use Rattle.hp_syntax.specs.Terms.{Term}
use Rattle.hp_syntax.specs.Values.{Bindings}
use Rattle.hp_syntax.specs.Events.{Event, Sat, Cut, Fault, State, sat}
use Rattle.hp_syntax.specs.Preconditions.{heard}
use Rattle.hp_syntax.specs.Changes.{Going, Went, CutShort, Failed, and_go, values_for_each, Gathered, both_gathered, of_atoms, effect_values, effects_values, cost_value, changes_of, effects}
use Rattle.hp_code.specs.Lowered.{lowered_effect, idle_prefix, behind_idle, lowered_operator, lowered_axiom}
use Rattle.hp_code.proofs.LoweredLemmas.{sat_same}

-- ---- going on

-- going on in two ways that are the same
go_same : {A B : Type 0} (x : Going A) (f g : A → Going B) → ((a : A) → f a ≡ g a) → and_go x f ≡ and_go x g
go_same (Went a) f g h = h a
go_same CutShort f g h = refl
go_same (Failed e) f g h = refl

-- going on twice is going on with both
go_through : {A B C : Type 0} (x : Going A) (f : A → Going B) (g : B → Going C)
    → and_go (and_go x f) g ≡ and_go x (λ a. and_go (f a) g)
go_through (Went a) f g = refl
go_through CutShort f g = refl
go_through (Failed e) f g = refl

-- going on with what there is changes nothing
go_nowhere : {A : Type 0} (x : Going A) → and_go x Went ≡ x
go_nowhere (Went a) = refl
go_nowhere CutShort = refl
go_nowhere (Failed e) = refl

-- nothing gathered behind changes nothing
nothing_behind : (g : Gathered) → both_gathered g (of_atoms []) ≡ g
nothing_behind g =
    ap (λ xs. record { atoms = xs; protections = g.protections ++ [] }) (append-nil g.atoms)
    ∙ ap (λ xs. record { atoms = g.atoms; protections = xs }) (append-nil g.protections)

-- what is gathered is gathered in any grouping
grouped : (f g h : Gathered) → both_gathered (both_gathered f g) h ≡ both_gathered f (both_gathered g h)
grouped f g h =
    ap (λ xs. record { atoms = xs; protections = (f.protections ++ g.protections) ++ h.protections })
    (append_assoc f.atoms g.atoms h.atoms)
    ∙ ap (λ xs. record { atoms = f.atoms ++ (g.atoms ++ h.atoms); protections = xs })
    (append_assoc f.protections g.protections h.protections)

-- ---- effects that change nothing

-- values of no atoms are none, where nothing stops
none_valued : (xs : List Event) (ts : List Term) → values_for_each [] xs ≡ Went ts → ts ≡ []
none_valued [] ts e = cc
none_valued (Cut ∷ xs) ts e = absurd cc
none_valued (Fault f ∷ xs) ts e = absurd cc
none_valued (Sat b ∷ xs) ts e = from (values_for_each [] xs) (none_valued xs) e
  where
    from : (r : Going (List Term)) → ((us : List Term) → r ≡ Went us → us ≡ [])
        → and_go r (λ us. Went us) ≡ Went ts → ts ≡ []
    from (Went us) h k = h ts k
    from CutShort h k = absurd cc
    from (Failed f) h k = absurd cc

-- what is gathered in two ways is the same
join_next : (x y : Going Gathered) (g : Gathered)
    → and_go (and_go x (λ a. and_go y (λ h. Went (both_gathered a h)))) (λ h. Went (both_gathered g h))
    ≡ and_go (and_go x (λ h. Went (both_gathered g h))) (λ k. and_go y (λ h. Went (both_gathered k h)))
join_next (Went a) (Went b) g = ap Went (sym (grouped g a b))
join_next (Went a) CutShort g = refl
join_next (Went a) (Failed f) g = refl
join_next CutShort y g = refl
join_next (Failed f) y g = refl

module _ (axioms : List Axiom) (n : ℕ) (s : State) (e : Bindings) where
  -- what a list of effects comes to
  abbrev of : List Effect → Going Gathered
  of xs = effects_values axioms n s xs e

  -- what an effect comes to
  abbrev one_of : Effect → Going Gathered
  one_of x = effect_values axioms n s x e

  -- what lists one behind the other come to
  both : (xs ys : List Effect) → of (xs ++ ys) ≡ and_go (of xs) (λ g. and_go (of ys) (λ h. Went (both_gathered g h)))
  both [] ys = sym (go_nowhere (of ys))
  both (x ∷ xs) ys =
      go_same (one_of x) (λ g. and_go (of (xs ++ ys)) (λ h. Went (both_gathered g h)))
      (λ g. and_go (and_go (of xs) (λ h. Went (both_gathered g h)))
      (λ k. and_go (of ys) (λ h. Went (both_gathered k h))))
      (λ g. ap (λ r. and_go r (λ h. Went (both_gathered g h))) (both xs ys) ∙ join_next (of xs) (of ys) g)
      ∙ sym (go_through (one_of x) (λ g. and_go (of xs) (λ h. Went (both_gathered g h)))
      (λ k. and_go (of ys) (λ h. Went (both_gathered k h))))

  -- where a `forall` without atoms goes well, it comes to nothing
  idle_goes : (r : Going (List Term)) → ((ts : List Term) → r ≡ Went ts → ts ≡ []) → (xs ys zs : List Effect)
      → of xs ≡ and_go (of ys) (λ g. of zs)
      → and_go (and_go r (λ ts. Went (of_atoms ts))) (λ g. and_go (of xs) (λ h. Went (both_gathered g h)))
      ≡ and_go (and_go (and_go r (λ ts. Went (of_atoms ts))) (λ g. and_go (of ys) (λ h. Went (both_gathered g h))))
      (λ g. of zs)
  idle_goes CutShort none xs ys zs h = refl
  idle_goes (Failed f) none xs ys zs h = refl
  idle_goes (Went ts) none xs ys zs h =
      ap (λ us. and_go (of xs) (λ h. Went (both_gathered (of_atoms us) h))) (none ts refl)
      ∙ go_nowhere (of xs) ∙ h
      ∙ sym (go_through (of ys) (λ h. Went (both_gathered (of_atoms ts) h)) (λ g. of zs))

  -- effects come to what those behind the idle prefix come to, once that has gone well
  idle_first : (xs : List Effect) → of xs ≡ and_go (of (idle_prefix xs)) (λ g. of (behind_idle xs))
  idle_first [] = refl
  idle_first (Change a ∷ xs) = refl
  idle_first (Protection a ∷ xs) = refl
  idle_first (Each vs E [] ∷ xs) =
      idle_goes (values_for_each [] (heard (sat axioms n s E e))) (none_valued (heard (sat axioms n s E e))) xs
      (idle_prefix xs) (behind_idle xs) (idle_first xs)
  idle_first (Each vs E (a ∷ as') ∷ xs) = refl

  -- an idle prefix that goes well comes to nothing
  idle_nothing : (xs : List Effect) (g : Gathered) → of (idle_prefix xs) ≡ Went g → g ≡ of_atoms []
  idle_nothing [] g h = cc
  idle_nothing (Change a ∷ xs) g h = cc
  idle_nothing (Protection a ∷ xs) g h = cc
  idle_nothing (Each vs E [] ∷ xs) g h =
      from (values_for_each [] (heard (sat axioms n s E e))) (none_valued (heard (sat axioms n s E e)))
      (of (idle_prefix xs)) (idle_nothing xs) h
    where
      from : (r : Going (List Term)) → ((ts : List Term) → r ≡ Went ts → ts ≡ []) → (y : Going Gathered)
          → ((k : Gathered) → y ≡ Went k → k ≡ of_atoms [])
          → and_go (and_go r (λ ts. Went (of_atoms ts))) (λ k. and_go y (λ h. Went (both_gathered k h))) ≡ Went g
          → g ≡ of_atoms []
      from CutShort none y k m = absurd cc
      from (Failed f) none y k m = absurd cc
      from (Went ts) none CutShort k m = absurd cc
      from (Went ts) none (Failed f) k m = absurd cc
      from (Went ts) none (Went b) k m = last (none ts refl) (k b refl) m
        where
          last : ts ≡ [] → b ≡ of_atoms [] → Went (both_gathered (of_atoms ts) b) ≡ Went g → g ≡ of_atoms []
          last i j m = cc
  idle_nothing (Each vs E (a ∷ as') ∷ xs) g h = cc

-- ---- lowered effects

module _ (axioms : List Axiom) (n : ℕ) (s : State) (e : Bindings) where
  -- a lowered effect comes to what the effect does
  effect_same : (x : Effect)
      → effect_values (map lowered_axiom axioms) n s (lowered_effect x) e ≡ effect_values axioms n s x e
  effect_same (Change a) = refl
  effect_same (Protection a) = refl
  effect_same (Each vs E as') =
      ap (λ xs. and_go (values_for_each as' (heard xs)) (λ ts. Went (of_atoms ts))) (sat_same axioms n s E e)

  -- lowered effects come to what the effects do
  effects_same : (xs : List Effect)
      → effects_values (map lowered_axiom axioms) n s (map lowered_effect xs) e ≡ effects_values axioms n s xs e
  effects_same [] = refl
  effects_same (x ∷ xs) =
      let rest = effects_values (map lowered_axiom axioms) n s (map lowered_effect xs) e in
      ap (λ r. and_go r (λ g. and_go rest (λ h. Went (both_gathered g h)))) (effect_same x)
      ∙ go_same (effect_values axioms n s x e) (λ g. and_go rest (λ h. Went (both_gathered g h)))
      (λ g. and_go (effects_values axioms n s xs e) (λ h. Went (both_gathered g h)))
      (λ g. ap (λ r. and_go r (λ h. Went (both_gathered g h))) (effects_same xs))

-- going on in two ways that are the same for what there is
go_known : {A B : Type 0} (x : Going A) (f g : A → Going B) → ((a : A) → x ≡ Went a → f a ≡ g a)
    → and_go x f ≡ and_go x g
go_known (Went a) f g h = h a refl
go_known CutShort f g h = refl
go_known (Failed e) f g h = refl

-- effects behind an idle prefix, with what was gathered before, go on as all of them
idle_passes : {B : Type 0} (axioms : List Axiom) (n : ℕ) (s : State) (e : Bindings) (xs : List Effect) (g : Gathered)
    (f : Gathered → Gathered → Going B)
    → and_go (and_go (effects_values axioms n s (idle_prefix xs) e) (λ h. Went (both_gathered g h)))
    (λ d. and_go (effects_values axioms n s (behind_idle xs) e) (f d))
    ≡ and_go (effects_values axioms n s xs e) (f g)
idle_passes axioms n s e xs g f =
    let idle = effects_values axioms n s (idle_prefix xs) e in
    let left = effects_values axioms n s (behind_idle xs) e in
    go_through idle (λ h. Went (both_gathered g h)) (λ d. and_go left (f d))
    ∙ go_known idle (λ h. and_go left (f (both_gathered g h))) (λ h. and_go left (f g))
    (λ h k. ap (λ d. and_go left (f d)) (ap (both_gathered g) (idle_nothing axioms n s e xs h k) ∙ nothing_behind g))
    ∙ sym (go_through idle (λ h. left) (f g))
    ∙ ap (λ r. and_go r (f g)) (sym (idle_first axioms n s e xs))

-- a lowered operator changes and costs under lowered axioms what the operator does
pub operator_same : (axioms : List Axiom) (n : ℕ) (s : State) (o : Operator) (e : Bindings)
    → effects (map lowered_axiom axioms) n s (lowered_operator o) e ≡ effects axioms n s o e
unfolding effects
operator_same axioms n s o e =
    let all = map lowered_axiom axioms in
    let f = λ (d a : Gathered). and_go (cost_value o.cost e) (λ c. Went (changes_of d a, c)) in
    let left = effects_values axioms n s (behind_idle o.adds) e in
    ap (λ r. and_go (effects_values all n s (map lowered_effect (o.dels ++ idle_prefix o.adds)) e)
    (λ d. and_go r (f d)))
    (effects_same axioms n s e (behind_idle o.adds))
    ∙ ap (λ r. and_go r (λ d. and_go left (f d))) (effects_same axioms n s e (o.dels ++ idle_prefix o.adds)
    ∙ both axioms n s e o.dels (idle_prefix o.adds))
    ∙ go_through (effects_values axioms n s o.dels e)
    (λ g. and_go (effects_values axioms n s (idle_prefix o.adds) e) (λ h. Went (both_gathered g h)))
    (λ d. and_go left (f d))
    ∙ go_same (effects_values axioms n s o.dels e)
    (λ g. and_go (and_go (effects_values axioms n s (idle_prefix o.adds) e) (λ h. Went (both_gathered g h)))
    (λ d. and_go left (f d)))
    (λ g. and_go (effects_values axioms n s o.adds e) (f g)) (λ g. idle_passes axioms n s e o.adds g f)
