-- What is nearest by an order, and what stands beside a stop, in either direction.
use Rattle.std.proofs.Common.{◌≡◌, ◌≢◌, ℕ, ◌<◌, ◌⊎◌, inl, inr, Option, Some, None, refl, sym, ap, subst, arith}
use Rattle.std.proofs.lemmas.Bool.{cases_eq}
use Rattle.std.proofs.lemmas.Option.{none-some, same_Some}
use Rattle.hp_chains.specs.Entries.{IsNearest, Reversed}
use Rattle.hp_chains.specs.Chained.{IsBeside, IsBeyond, IsStop}

-- what is nearest on a side is so on another that has the same places
pub nearest_on_side : (B : ℕ → ℕ → Type 0) (S Side Side' : ℕ → Type 0) (x : Option ℕ)
    → ((i : ℕ) → Side i → Side' i) → ((i : ℕ) → Side' i → Side i) → IsNearest B Side S x → IsNearest B Side' S x
nearest_on_side B S Side Side' None there back h = λ i m t. h i (back i m) t
nearest_on_side B S Side Side' (Some k) there back h = (there k h.0, h.1, λ i m l t. h.2 i (back i m) l t)

-- what is nearest on a side is so where the same stands there
pub nearest_same : (B : ℕ → ℕ → Type 0) (Side S T : ℕ → Type 0) (x : Option ℕ) → ((i : ℕ) → Side i → S i → T i)
    → ((i : ℕ) → Side i → T i → S i) → IsNearest B Side S x → IsNearest B Side T x
nearest_same B Side S T None there back h = λ i m t. h i m (back i m t)
nearest_same B Side S T (Some k) there back h = (h.0, there k h.0 h.1, λ i m l t. h.2 i m l (back i m t))

-- an order of places
pub record IsOrder (Before : ℕ → ℕ → Type 0) : Type 0 where
  pub apart : (i : ℕ) → Before i i → ⊥
  pub along : (i j k : ℕ) → Before i j → Before j k → Before i k
  pub either : (i j : ℕ) → Before i j ⊎ ((i ≡ j) ⊎ Before j i)

-- less is an order
pub ascending : IsOrder ◌<◌
ascending = record {
  apart = λ i l. omega arith;
  along = λ i j k l m. omega arith;
  either = λ i j. grind arith;
}

-- an order is one the other way round too
pub order_reversed : (B : ℕ → ℕ → Type 0) → IsOrder B → IsOrder (Reversed B)
order_reversed B o = record {
  apart = o.apart;
  along = λ i j k l m. o.along k j i m l;
  either = λ i j. elim (o.either i j) [ inl l ↦ inr (inr l) | inr e ↦ elim e [ inl s ↦ inr (inl s) | inr l ↦ inl l ] ];
}

-- two stops are one, or not
pub cases_stop : (s t : Option ℕ) → (s ≡ t) ⊎ (s ≡ t → ⊥)
cases_stop None None = inl refl
cases_stop None (Some j) = inr (λ e. none-some j e)
cases_stop (Some i) None = inr (λ e. none-some i (sym e))
cases_stop (Some i) (Some j) = elim (cases_eq i j) [ inl e ↦ inl (ap Some e) | inr n ↦ inr (λ e. n (same_Some i j e)) ]

-- a stop is one where the same stands
pub stop_same : (S T : ℕ → Type 0) (t : Option ℕ) → ((i : ℕ) → S i → T i) → IsStop S t → IsStop T t
stop_same S T None there h = tt
stop_same S T (Some i) there h = there i h

-- what is nearest is a stop
pub nearest_stops : (B : ℕ → ℕ → Type 0) (Side S : ℕ → Type 0) (x : Option ℕ) → IsNearest B Side S x → IsStop S x
nearest_stops B Side S None h = tt
nearest_stops B Side S (Some i) h = h.1

-- no place is beside itself
pub beside_apart : (B : ℕ → ℕ → Type 0) → IsOrder B → (S : ℕ → Type 0) (i : ℕ) (x : Option ℕ)
    → IsBeside B S (Some i) x → x ≡ Some i → ⊥
beside_apart B o S i None h e = none-some i e
beside_apart B o S i (Some j) h e = o.apart i (subst (λ (k : ℕ). B i k) (same_Some j i e) h.0)

-- what is beside a stop is one alone
pub beside_unique : (B : ℕ → ℕ → Type 0) → IsOrder B → (S : ℕ → Type 0) (s x y : Option ℕ) → IsBeside B S s x
    → IsBeside B S s y → x ≡ y
beside_unique B o S s None None h g = refl
beside_unique B o S s None (Some j) h g = absurd (h j g.0 g.1)
beside_unique B o S s (Some i) None h g = absurd (g i h.0 h.1)
beside_unique B o S s (Some i) (Some j) h g = elim (o.either i j) [
  | inl l ↦ absurd (g.2 i h.0 l h.1)
  | inr e ↦ elim e [ inl q ↦ ap Some q | inr l ↦ absurd (h.2 j g.0 l g.1) ]
]

-- the stop from which nothing stands up to a place is the one before it
pub stop_before : (B : ℕ → ℕ → Type 0) → IsOrder B → (S : ℕ → Type 0) (place : ℕ) (s p : Option ℕ) → IsStop S s
    → IsBeyond B s place → ((j : ℕ) → IsBeyond B s j → B j place → S j → ⊥)
    → IsBeside (Reversed B) S (Some place) p → s ≡ p
stop_before B o S place None p stop beyond free h =
    beside_unique (Reversed B) (order_reversed B o) S (Some place) None p (λ i l t. free i tt l t) h
stop_before B o S place (Some q) p stop beyond free h =
    beside_unique (Reversed B) (order_reversed B o) S (Some place) (Some q) p
    (beyond, stop, λ j l m t. free j m l t) h

-- a stop that has a place beside it is the one before that place
pub stop_beside : (B : ℕ → ℕ → Type 0) → IsOrder B → (S : ℕ → Type 0) (place : ℕ) (s p : Option ℕ) → IsStop S s
    → IsBeside B S s (Some place) → IsBeside (Reversed B) S (Some place) p → s ≡ p
stop_beside B o S place s p stop h = stop_before B o S place s p stop h.0 h.2

-- between a place and the stop before it nothing stands
pub none_between : (B : ℕ → ℕ → Type 0) (S : ℕ → Type 0) (place : ℕ) (p : Option ℕ)
    → IsBeside (Reversed B) S (Some place) p → (j : ℕ) → IsBeyond B p j → B j place → S j → ⊥
none_between B S place None h j m l t = h j l t
none_between B S place (Some q) h j m l t = h.2 j l m t

-- a place is beyond the stop before it
pub beyond_before : (B : ℕ → ℕ → Type 0) (S : ℕ → Type 0) (place : ℕ) (p : Option ℕ)
    → IsBeside (Reversed B) S (Some place) p → IsBeyond B p place
beyond_before B S place None h = tt
beyond_before B S place (Some q) h = h.0

-- what is beyond what is beyond a stop is beyond that stop
pub beyond_more : (B : ℕ → ℕ → Type 0) → IsOrder B → (s : Option ℕ) (i j : ℕ) → IsBeyond B s i → B i j
    → IsBeyond B s j
beyond_more B o None i j h l = tt
beyond_more B o (Some q) i j h l = o.along q i j h l

module _ (B : ℕ → ℕ → Type 0) (o : IsOrder B) (S T : ℕ → Type 0) (place : ℕ) where
  -- where a place is taken out, what stands beyond it is beside the stop before it
  pub bridged : (p n : Option ℕ) → ((i : ℕ) → T i → S i × (i ≢ place)) → ((i : ℕ) → S i → i ≢ place → T i)
      → IsBeside (Reversed B) S (Some place) p → IsBeside B S (Some place) n → IsBeside B T p n
  bridged p None fewer kept h g = λ i m t.
      let f = fewer i t in
      elim (o.either i place) [
        | inl l ↦ none_between B S place p h i m l f.0
        | inr e ↦ elim e [ inl q ↦ f.1 q | inr l ↦ g i l f.0 ]
      ]
  bridged p (Some k) fewer kept h g = (
    beyond_more B o p place k (beyond_before B S place p h) g.0,
    kept k g.1 (λ q. o.apart place (subst (λ (x : ℕ). B place x) q g.0)),
    λ i m before t.
        let f = fewer i t in
        elim (o.either i place) [
          | inl l ↦ none_between B S place p h i m l f.0
          | inr e ↦ elim e [ inl q ↦ f.1 q | inr l ↦ g.2 i l before f.0 ]
        ],
  )

  -- where a place is taken out, what else was beside a stop is there still
  pub still_beside : (s x : Option ℕ) → ((i : ℕ) → T i → S i) → ((i : ℕ) → S i → i ≢ place → T i)
      → (x ≡ Some place → ⊥) → IsBeside B S s x → IsBeside B T s x
  still_beside s None fewer kept n h = λ i m t. h i m (fewer i t)
  still_beside s (Some k) fewer kept n h =
      (h.0, kept k h.1 (λ q. n (ap Some q)), λ i m l t. h.2 i m l (fewer i t))

  -- a place that is put back is beside the stop before it
  pub beside_before : (p : Option ℕ) → ((i : ℕ) → T i → S i ⊎ (i ≡ place)) → T place
      → IsBeside (Reversed B) S (Some place) p → IsBeside B T p (Some place)
  beside_before p more here h = (
    beyond_before B S place p h,
    here,
    λ i m l t. elim (more i t) [
      | inl f ↦ none_between B S place p h i m l f
      | inr q ↦ o.apart place (subst (λ (x : ℕ). B x place) q l)
    ],
  )

  -- a place that is put back has beside it what stood beyond it
  pub beside_place : (n : Option ℕ) → ((i : ℕ) → T i → S i ⊎ (i ≡ place)) → ((i : ℕ) → S i → T i)
      → IsBeside B S (Some place) n → IsBeside B T (Some place) n
  beside_place None more kept h = λ i l t. elim (more i t) [
    | inl f ↦ h i l f
    | inr q ↦ o.apart place (subst (λ (x : ℕ). B place x) q l)
  ]
  beside_place (Some k) more kept h = (
    h.0,
    kept k h.1,
    λ i l m t. elim (more i t) [
      | inl f ↦ h.2 i l m f
      | inr q ↦ o.apart place (subst (λ (x : ℕ). B place x) q l)
    ],
  )

  -- where a place is put back that isn't beyond a stop and before what is beside it, that is there still
  pub beside_kept : (s x : Option ℕ) → ((i : ℕ) → T i → S i ⊎ (i ≡ place)) → ((i : ℕ) → S i → T i)
      → (IsBeyond B s place → ((j : ℕ) → IsBeyond B s j → B j place → S j → ⊥) → T place → ⊥)
      → IsBeside B S s x → IsBeside B T s x
  beside_kept s None more kept out h = λ i m t. elim (more i t) [
    | inl f ↦ h i m f
    | inr q ↦
        out (subst (λ (x : ℕ). IsBeyond B s x) q m) (λ j b l f. h j b f) (subst T q t)
  ]
  beside_kept s (Some k) more kept out h = (
    h.0,
    kept k h.1,
    λ i m l t. elim (more i t) [
      | inl f ↦ h.2 i m l f
      | inr q ↦
          out (subst (λ (x : ℕ). IsBeyond B s x) q m)
          (λ j b before f. h.2 j b (o.along j place k before (subst (λ (x : ℕ). B x k) q l)) f) (subst T q t)
    ],
  )
