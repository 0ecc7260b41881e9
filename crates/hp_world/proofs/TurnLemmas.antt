-- Turns of a search: each goes on behind a place before which something holds nowhere.
use Rattle.std.proofs.Common.{◌≡◌, ℕ, ◌+◌, ◌<◌, ◌≤◌, inl, inr, Some, None, subst, arith}
use Rattle.std.proofs.lemmas.Bool.{cases_lt}
use Rattle.hp_world.specs.Named.{IsNextAt, IsNoLaterThan}

-- something holds at no place from one on up to another
abbrev pub IsFree : (ℕ → Type 0) → ℕ → ℕ → Type 0
IsFree Holds from at = (j : ℕ) → from ≤ j → j < at → Holds j → ⊥

module _ (Holds : ℕ → Type 0) (count from at : ℕ) (free : IsFree Holds from at) where
  -- where nothing holds from a place on, nothing holds before it either
  pub turns_none : IsNoLaterThan Holds count at None → IsNextAt Holds from None
  turns_none h = λ i l k. elim (cases_lt i at) [ inl before ↦ free i l before k | inr behind ↦ h i behind k ]

  -- past the last place nothing holds
  pub turns_past : count ≤ at → ((i : ℕ) → Holds i → i < count) → IsNextAt Holds from None
  turns_past past within = turns_none (λ i l k. let w = within i k in omega arith)

  -- a place that holds, and before which from the last turn on nothing does, is the next at all
  pub turns_found : from ≤ at → (place : ℕ) → IsNoLaterThan Holds count at (Some place) → Holds place
      → IsNextAt Holds from (Some place)
  turns_found on place h here = (
    omega (arith, on, h.0),
    here,
    λ j l m k. elim (cases_lt j at) [ inl before ↦ free j l before k | inr behind ↦ h.2 j behind m k ],
  )

  -- behind a place that does not hold a turn goes on
  pub turns_on : (place : ℕ) → IsNoLaterThan Holds count at (Some place) → (Holds place → ⊥)
      → IsFree Holds from (place + 1)
  turns_on place h not = λ j l m k. elim (cases_lt j at) [
    | inl before ↦ free j l before k
    | inr behind ↦ elim (cases_lt j place) [
      | inl sooner ↦ h.2 j behind sooner k
      | inr past ↦ let here : j ≡ place = omega (arith, past, m) in not (subst Holds here k)
    ]
  ]
