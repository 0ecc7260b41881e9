-- Steps of halving between a number of parts that are satisfied and one with which nothing is found.
use Rattle.std.proofs.Common.{◌≡◌, ◌≢◌, ℕ, ◌+◌, ◌<◌, ◌≤◌, inl, inr, sym, ap, ◌∙◌, arith}
use Rattle.std.proofs.lemmas.Bool.{cases_lt}
use Rattle.hp_choice.specs.declared.asking.Prefix.{Prefix}
use Rattle.hp_syntax.specs.Events.{Finding, Satisfied, Nothing}
use Rattle.hp_unmet.specs.Halving.{IsBetween}
use Rattle.hp_unmet.specs.Trials.{IsFirstMissing}
use Rattle.hp_unmet.specs.declared.unmet.Between.{Between}

abbrev pub between : Prefix → ℕ → Between
between met unmet = record { met = met; unmet = unmet }

module _ (found : ℕ → Finding) (count : ℕ) where
  -- first parts that are satisfied are fewer than all, where nothing is found with all
  fewer : (n : ℕ) → n ≤ count → found n ≡ Satisfied → found count ≡ Nothing → n < count
  fewer n within e h = elim (cases_lt n count) [
    | inl less ↦ less
    | inr over ↦
        let same : n ≡ count = omega (arith, within, over) in
        let never : Satisfied ≡ Nothing = sym e ∙ ap found same ∙ h in
        absurd cc
  ]

  -- at first some parts are satisfied, and nothing is found with all
  pub between_all : (met : Prefix) → met.count ≤ count → found met.count ≡ Satisfied → found count ≡ Nothing
      → IsBetween found count (between met count)
  between_all met within e h =
      record { met = e; missing = h; below = fewer met.count within e h; within = omega arith }

  module _ (b : Between) (middle : Prefix) (h : IsBetween found count b) where
    -- a number in the middle that isn't satisfied takes the place of the greater one
    pub between_lower : ((j k : ℕ) → j ≤ k → found j ≢ Satisfied → found k ≡ found j)
        → found middle.count ≢ Satisfied → b.met.count < middle.count → middle.count < b.unmet
        → IsBetween found count (between b.met middle.count)
    between_lower keeps unmet l m =
        let w = h.within in
        record {
          met = h.met;
          missing = sym (keeps middle.count b.unmet (omega arith) unmet) ∙ h.missing;
          below = l;
          within = omega arith;
        }

  -- in the end they are neighbours
  pub neighbours : (b : Between) → IsBetween found count b → b.unmet ≤ b.met.count + 1
      → IsFirstMissing found count b.met.count
  neighbours b h l =
      let k = h.below in
      let w = h.within in
      let next : b.unmet ≡ b.met.count + 1 = omega arith in
      record { within = omega arith; met = h.met; missing = ap found (sym next) ∙ h.missing }
