-- At each candidate of a network in normal form stands a task, and there is one.
use Rattle.std.proofs.Common.{◌≡◌, ◌≢◌, ℕ, suc, ◌+◌, ◌<◌, Bool, true, false, List, [], ◌∷◌, ◌++◌, length, map, Some, None, refl, sym, ◌∙◌, ap, subst, arith, ⊎_elim, length-append}
use Rattle.std.specs.Prelude.{filter}
use Rattle.std.specs.List.{All, list_any}
use Rattle.std.proofs.lemmas.Bool.{cases_Bool, cond_both}
use Rattle.std.proofs.lemmas.List.{length-map}
use Rattle.std.proofs.lemmas.List.Elements.{All-nil, All-cons, All-append, All-map, All-filter, All-weaker}
use Rattle.hp_syntax.specs.Networks as networks
use Rattle.hp_laws.specs.TreeLaws.{IsTaskAt, HasNext}
use Rattle.hp_laws.proofs.NetworkLemmas.{IsInForm, form_from_normal, part_in_form, part_below}

-- a network other than the empty one isn't empty
pub not_empty : (n : networks.Network) → n ≢ networks.Empty → networks.is_empty n ≡ false
not_empty networks.Empty h = absurd (h refl)
not_empty (networks.Task t i) h = refl
not_empty (networks.Ordered ns) h = refl
not_empty (networks.Unordered ns) h = refl

-- a network in normal form that isn't empty has a first place
pub some_first : (n : networks.Network) → IsInForm n → networks.is_empty n ≡ false → 0 < length (networks.firsts n)
unfolding networks.firsts
some_first networks.Empty h e = absurd cc
some_first (networks.Task t i) h e = omega arith
some_first (networks.Ordered networks.NoNetwork) h e = let l = h.0 in absurd cc
some_first (networks.Ordered (networks.And n ns)) h e = let l = some_first n h.1.1 h.1.0 in simp length-map l
some_first (networks.Unordered networks.NoNetwork) h e = let l = h.0 in absurd cc
some_first (networks.Unordered (networks.And n ns)) h e =
    let l = some_first n h.1.1 h.1.0 in simp (length-append, length-map) (omega arith)

-- at each first place stands a task
mutual
  unfolding networks.firsts networks.part_at

  pub first_tasks : (n : networks.Network) → All (IsTaskAt n) (networks.firsts n)
  first_tasks networks.Empty = All-nil (IsTaskAt networks.Empty)
  first_tasks (networks.Task t i) = All-cons (IsTaskAt (networks.Task t i)) [] [] (t, i, refl)
      (All-nil (IsTaskAt (networks.Task t i)))
  first_tasks (networks.Ordered ns) = first_tasks_of_first ns
  first_tasks (networks.Unordered ns) = first_tasks_from (networks.Unordered ns) 0 ns
      (λ j p. ap (λ i. networks.nth_part_at ns i p) (omega arith))

  -- at each first place of a first part stands a task
  first_tasks_of_first : (ns : networks.Networks) → All (IsTaskAt (networks.Ordered ns)) (networks.firsts_of_first ns)
  first_tasks_of_first networks.NoNetwork = All-nil (IsTaskAt (networks.Ordered networks.NoNetwork))
  first_tasks_of_first (networks.And n ns) = All-map (IsTaskAt (networks.Ordered (networks.And n ns))) (λ p. 0 ∷ p)
      (networks.firsts n) (first_tasks n)

  -- at each first place of the parts from a number on stands a task
  first_tasks_from : (net : networks.Network) (k : ℕ) (ns : networks.Networks)
      → ((j : ℕ) (p : networks.Place) → networks.part_at net ((k + j) ∷ p) ≡ networks.nth_part_at ns j p)
      → All (IsTaskAt net) (networks.firsts_from k ns)
  first_tasks_from net k networks.NoNetwork h = All-nil (IsTaskAt net)
  first_tasks_from net k (networks.And n ns) h =
      All-append (IsTaskAt net) (map (λ p. k ∷ p) (networks.firsts n)) (networks.firsts_from (suc k) ns)
      (All-map (IsTaskAt net) (λ p. k ∷ p) (networks.firsts n)
      (All-weaker (IsTaskAt n) (λ p. IsTaskAt net (k ∷ p))
      (λ p t. (t.0, t.1, ap (λ i. networks.part_at net (i ∷ p)) (omega arith) ∙ h 0 p ∙ t.2)) (networks.firsts n)
      (first_tasks n)))
      (first_tasks_from net (suc k) ns (λ j p. ap (λ i. networks.part_at net (i ∷ p)) (omega arith) ∙ h (suc j) p))

-- a filter keeps an element if one passes
some_kept : {X : Type 0} (p : X → Bool) (xs : List X) → list_any p xs ≡ true → 0 < length (filter p xs)
some_kept p [] h = absurd cc
some_kept p (x ∷ xs) h =
    ⊎_elim (λ t. rw t (omega arith))
    (λ f. let r : list_any p xs ≡ true = rw f at h in rw f (some_kept p xs r)) (cases_Bool (p x))

-- of some places some are left
some_immediate : (net : networks.Network) (ps : List networks.Place) → 0 < length ps
    → 0 < length (networks.immediate_first net ps)
some_immediate net ps l =
    cond_both (list_any (λ p. networks.is_immediate (networks.part_at net p)) ps) _ _ (λ qs. 0 < length qs)
    (λ h. some_kept (λ p. networks.is_immediate (networks.part_at net p)) ps h) (λ h. l)

-- a fact of places is one of those that are left
pub all_immediate : (P : networks.Place → Type 0) (net : networks.Network) (ps : List networks.Place) → All P ps
    → All P (networks.immediate_first net ps)
all_immediate P net ps a =
    cond_both (list_any (λ p. networks.is_immediate (networks.part_at net p)) ps) _ _ (All P)
    (λ h. All-filter (λ p. networks.is_immediate (networks.part_at net p)) P ps a) (λ h. a)

-- the candidates of a whole network are tasks, and there is one
pub next_of_whole : (net : networks.Network) → networks.normal net ≡ net → net ≢ networks.Empty → HasNext net None
unfolding networks.candidates
next_of_whole net e h = record {
  some = some_immediate net (networks.firsts net) (some_first net (form_from_normal net e) (not_empty net h));
  tasks = all_immediate (IsTaskAt net) net (networks.firsts net) (first_tasks net);
}

-- a task of a part is a task of the whole
task_below : (net : networks.Network) (p : networks.Place) (n : networks.Network) → networks.part_at net p ≡ Some n
    → (q : networks.Place)
    → IsTaskAt n q → IsTaskAt net (p ++ q)
task_below net p n e q t = (t.0, t.1, part_below net p q n e ∙ t.2)

-- the candidates below a focus are tasks, and there is one
pub next_of_part : (net : networks.Network) (p : networks.Place) (n : networks.Network) → networks.part_at net p
    ≡ Some n → networks.normal net ≡ net
    → n ≢ networks.Empty → HasNext net (Some p)
unfolding networks.candidates
next_of_part net p n e f h =
    let b = networks.firsts_below p (networks.part_at net p) in
    let g : b ≡ map (λ q. p ++ q) (networks.firsts n) = ap (networks.firsts_below p) e in
    let l : 0 < length (networks.firsts n) =
    some_first n (part_in_form net p n e (form_from_normal net f)) (not_empty n h) in
    record {
      some = some_immediate net b (subst (λ qs. 0 < length qs) (sym g) (simp length-map l));
      tasks =
          all_immediate (IsTaskAt net) net b
          (subst (All (IsTaskAt net)) (sym g)
          (All-map (IsTaskAt net) (λ q. p ++ q) (networks.firsts n)
          (All-weaker (IsTaskAt n) (λ q. IsTaskAt net (p ++ q)) (task_below net p n e) (networks.firsts n)
          (first_tasks n))));
    }
