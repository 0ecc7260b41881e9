-- Chains to which one more number is put, and chains that are read.
use Rattle.std.proofs.Common.{◌≡◌, ℕ, ◌+◌, ◌<◌, ◌≤◌, Bool, true, false, ◌==◌, cond, List, [], ◌∷◌, ◌++◌, length, Option, Some, None, slice_get, slice_set, refl, sym, ap, ◌∙◌, subst, ⊎_elim, arith, append_assoc, append-nil, length-append}
use Rattle.std.proofs.lemmas.Bool.Decides.{eqb_tells}
use Rattle.std.proofs.lemmas.List.{length-set}
use Rattle.std.proofs.lemmas.Option.{same_Some, slice_get_within}
use Rattle.hp_cells.proofs.PlaceLemmas.{same_in_longer, stands_last}
use Rattle.hp_laws.proofs.BindingLemmas.{slice_get-set_same, slice_get-set_other}
use Rattle.hp_derivation.specs.declared.chain.Chain.{Chain}
use Rattle.hp_derivation.specs.Chains.{Follows, IsApart, IsMidway, Reads}
use Rattle.hp_derivation.specs.Orders.{put_behind, put_in}

-- ---- numbers that are apart

-- a number that no link is for is none of a chain's
pub apart_beyond : (links : List (Option ℕ)) (n : ℕ) → length links ≤ n → (at : Option ℕ) (xs : List ℕ)
    → Follows links at xs → IsApart n xs
apart_beyond links n l at [] h = tt
apart_beyond links n l at (x ∷ xs) h =
    let within = slice_get_within links x h.2 h.3 in
    (λ e. absurd (omega (arith, within, l, e)), apart_beyond links n l h.2 xs h.4)

apart_case : (b : Bool) (k y : ℕ) (xs ys : List ℕ) → (y ≡ k → ⊥) → IsApart y xs → IsApart y ys
    → IsApart y (cond b (k ∷ xs) ys)
apart_case true k y xs ys n h g = (n, h)
apart_case false k y xs ys n h g = g

-- a number that is none of some and isn't put to them is none of them then
apart_put : (other k y : ℕ) → (y ≡ k → ⊥) → (xs : List ℕ) → IsApart y xs → IsApart y (put_behind other k xs)
apart_put other k y n [] h = tt
apart_put other k y n (x ∷ xs) h =
    (h.0, apart_case (x == other) k y xs (put_behind other k xs) n h.1 (apart_put other k y n xs h.1))

-- behind a number that is none of some no number is put
left_out : (other k : ℕ) (xs : List ℕ) → IsApart other xs → put_behind other k xs ≡ xs
left_out other k [] h = refl
left_out other k (x ∷ xs) h =
    ⊎_elim
    (λ p. absurd (h.0 (sym p.1)))
    (λ p. ap (λ b. x ∷ cond b (k ∷ xs) (put_behind other k xs)) p.0 ∙ ap (λ ys. x ∷ ys) (left_out other k xs h.1))
    (eqb_tells x other)

-- ---- how many there are

few_case : (b : Bool) (k : ℕ) (xs ys : List ℕ) → length ys ≤ length xs + 1
    → length (cond b (k ∷ xs) ys) ≤ length xs + 1
few_case true k xs ys h = omega arith
few_case false k xs ys h = h

-- one number is put at most
few_put : (other k : ℕ) (xs : List ℕ) → length (put_behind other k xs) ≤ length xs + 1
few_put other k [] = omega arith
few_put other k (x ∷ xs) =
    let h = few_case (x == other) k xs (put_behind other k xs) (few_put other k xs) in omega (arith, h)

-- ---- links that are kept

-- links that stay but for one number stay those of numbers apart from it
kept : (links new : List (Option ℕ)) (n : ℕ)
    → ((y : ℕ) → (n ≡ y → ⊥) → y < length links → slice_get new y ≡ slice_get links y)
    → (at : Option ℕ) (xs : List ℕ) → IsApart n xs → Follows links at xs → Follows new at xs
kept links new n same at [] a h = h
kept links new n same at (x ∷ xs) a h =
    (h.0, h.1, h.2, same x a.0 (slice_get_within links x h.2 h.3) ∙ h.3, kept links new n same h.2 xs a.1 h.4)

module _ (links : List (Option ℕ)) (last : Option ℕ) where
  -- one link more leaves the numbers as they follow one another
  longer_follows : (at : Option ℕ) (xs : List ℕ) → Follows links at xs → Follows (links ++ last ∷ []) at xs
  longer_follows at xs h =
      kept links (links ++ last ∷ []) (length links) (λ y n l. same_in_longer links (last ∷ []) y l) at xs
      (apart_beyond links (length links) (omega arith) at xs h) h

  longer : length (links ++ last ∷ []) ≡ length links + 1
  longer = omega (arith, length-append links (last ∷ []))

-- ---- one number more

-- in front of all
pub first_reads : (c d : Chain) (xs : List ℕ) → d.links.items ≡ c.links.items ++ c.first ∷ []
    → d.first ≡ Some (length c.links.items) → Reads c xs → Reads d (length c.links.items ∷ xs)
first_reads c d xs items first h =
    let links = c.links.items in
    let count = ap length items ∙ longer links c.first in
    record {
      follows =
          subst (λ ls. Follows ls d.first (length links ∷ xs)) (sym items) (
            first,
            apart_beyond links (length links) (omega arith) c.first xs h.follows,
            c.first,
            stands_last links c.first,
            longer_follows links c.first c.first xs h.follows,
          );
      few = omega (arith, count, h.few);
    }

-- left out
pub apart_reads : (c d : Chain) (xs : List ℕ) → d.links.items ≡ c.links.items ++ None ∷ []
    → d.first ≡ c.first → Reads c xs → Reads d xs
apart_reads c d xs items first h =
    let links = c.links.items in
    let count = ap length items ∙ longer links None in
    record {
      follows =
          subst (λ ls. Follows ls d.first xs) (sym items)
          (subst (λ a. Follows (links ++ None ∷ []) a xs) (sym first) (longer_follows links None c.first xs h.follows));
      few = omega (arith, count, h.few);
    }

module _ (links : List (Option ℕ)) (other : ℕ) (next : Option ℕ) (there : slice_get links other ≡ Some next) where
  abbrev k : ℕ
  k = length links

  abbrev new : List (Option ℕ)
  new = slice_set (links ++ next ∷ []) other (Some k)

  within : other < k
  within = slice_get_within links other next there

  same : (y : ℕ) → (other ≡ y → ⊥) → y < k → slice_get new y ≡ slice_get links y
  same y n l = slice_get-set_other (links ++ next ∷ []) other y (Some k) n ∙ same_in_longer links (next ∷ []) y l

  at_other : slice_get new other ≡ Some (Some k)
  at_other =
      let count = longer links next in
      slice_get-set_same (links ++ next ∷ []) other (Some k) (omega (arith, count, within))

  at_new : slice_get new k ≡ Some next
  at_new =
      slice_get-set_other (links ++ next ∷ []) other k (Some k) (λ e. absurd (omega (arith, e, within)))
      ∙ stands_last links next

  -- right behind another one
  follows_behind : (at : Option ℕ) (xs : List ℕ) → Follows links at xs → Follows new at (put_behind other k xs)
  follows_behind at [] h = h
  follows_behind at (x ∷ xs) h =
      let in-x = slice_get_within links x h.2 h.3 in
      let not_k : x ≡ k → ⊥ = λ e. absurd (omega (arith, e, in-x)) in
      let later = follows_behind h.2 xs h.4 in
      ⊎_elim
      (λ p. subst (λ b. Follows new at (x ∷ cond b (k ∷ xs) (put_behind other k xs))) (sym p.0)
      (let next_is = same_Some next h.2 (sym there ∙ subst (λ y. slice_get links y ≡ Some h.2) p.1 h.3) in (
        h.0,
        (not_k, h.1),
        Some k,
        subst (λ y. slice_get new y ≡ Some (Some k)) (sym p.1) at_other,
        (
          refl,
          apart_beyond links k (omega arith) h.2 xs h.4,
          next,
          at_new,
          subst (λ o. Follows new o xs) (sym next_is)
              (kept links new other same h.2 xs (subst (λ y. IsApart y xs) p.1 h.1) h.4),
        ),
      )))
      (λ p. subst (λ b. Follows new at (x ∷ cond b (k ∷ xs) (put_behind other k xs))) (sym p.0)
      (h.0, apart_put other k x not_k xs h.1, h.2, same x (λ e. p.1 (sym e)) in-x ∙ h.3, later))
      (eqb_tells x other)

pub behind_reads : (c d : Chain) (other : ℕ) (next : Option ℕ) (xs : List ℕ)
    → slice_get c.links.items other ≡ Some next
    → d.links.items ≡ slice_set (c.links.items ++ next ∷ []) other (Some (length c.links.items))
    → d.first ≡ c.first → Reads c xs → Reads d (put_behind other (length c.links.items) xs)
behind_reads c d other next xs there items first h =
    let links = c.links.items in
    let k = length links in
    let count = ap length items ∙ (length-set (links ++ next ∷ []) other (Some k) ∙ longer links next) in
    let put = few_put other k xs in
    record {
      follows =
          subst (λ ls. Follows ls d.first (put_behind other k xs)) (sym items)
          (subst (λ a. Follows (slice_set (links ++ next ∷ []) other (Some k)) a (put_behind other k xs)) (sym first)
          (follows_behind links other next there c.first xs h.follows));
      few = omega (arith, count, put, h.few);
    }

-- behind a number that isn't there it is left out
pub apart_in : (c d : Chain) (other : ℕ) (xs : List ℕ) → length c.links.items ≤ other → Reads c xs → Reads d xs
    → Reads d (put_behind other (length c.links.items) xs)
apart_in c d other xs l h g =
    subst (Reads d)
    (sym (left_out other (length c.links.items) xs (apart_beyond c.links.items other l c.first xs h.follows))) g

-- ---- reading

module _ (c : Chain) (i : ℕ) (xs listed : List ℕ) (left : i < length c.links.items) where
  -- nothing more comes
  pub midway_end : IsMidway c i listed None xs → IsMidway c (i + 1) listed None xs
  midway_end m = end_by m.others m.all m.follows
    where
      end_by : (others : List ℕ) → listed ++ others ≡ xs → Follows c.links.items None others
          → IsMidway c (i + 1) listed None xs
      end_by [] all f = record { others = []; all = all; follows = f; few = omega (arith, left) }
      end_by (y ∷ ys) all f = absurd (let e : None ≡ Some y = f.0 in cc)

  -- the number that is come to is listed
  pub midway_more : (number : ℕ) (next : Option ℕ) (new : List ℕ) → new ≡ listed ++ number ∷ []
      → ((o : Option ℕ) → slice_get c.links.items number ≡ Some o → next ≡ o)
      → IsMidway c i listed (Some number) xs → IsMidway c (i + 1) new next xs
  midway_more number next new is behind m = more_by m.others m.all m.follows m.few
    where
      more_by : (others : List ℕ) → listed ++ others ≡ xs → Follows c.links.items (Some number) others
          → length others + i ≤ length c.links.items → IsMidway c (i + 1) new next xs
      more_by [] all f few = absurd (let e : Some number ≡ None = f in cc)
      more_by (y ∷ ys) all f few =
          let e : number ≡ y = same_Some number y f.0 in
          let n : next ≡ f.2 = behind f.2 (subst (λ z. slice_get c.links.items z ≡ Some f.2) (sym e) f.3) in
          record {
            others = ys;
            all =
                ap (λ l. l ++ ys) is
                ∙ (append_assoc listed (number ∷ []) ys ∙ (ap (λ z. listed ++ z ∷ ys) e ∙ all));
            follows = subst (λ o. Follows c.links.items o ys) (sym n) f.4;
            few = omega (arith, few);
          }

-- before the first number
pub midway_begin : (c : Chain) (xs listed : List ℕ) → listed ≡ [] → Reads c xs → IsMidway c 0 listed c.first xs
midway_begin c xs listed e h = record {
  others = xs;
  all = ap (λ l. l ++ xs) e;
  follows = h.follows;
  few = omega (arith, h.few);
}

-- where no number is left to be counted, all are listed
pub midway_all : (c : Chain) (i : ℕ) (xs listed : List ℕ) (at : Option ℕ) → length c.links.items ≤ i
    → IsMidway c i listed at xs → listed ≡ xs
midway_all c i xs listed at l m = all_by m.others m.all m.few
  where
    all_by : (others : List ℕ) → listed ++ others ≡ xs → length others + i ≤ length c.links.items → listed ≡ xs
    all_by [] all few = sym (append-nil listed) ∙ all
    all_by (y ∷ ys) all few = absurd (omega (arith, few, l))
