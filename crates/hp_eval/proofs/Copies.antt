-- Slots that are copied.
use Rattle.std.specs.Prelude.{slice_get, slice_set, unwrap_or}
use Rattle.std.proofs.Common.{◌≡◌, ℕ, ◌+◌, ◌<◌, ◌≤◌, below_more, length, Some, None, sym, ◌∙◌, ap, arith}
use Rattle.std.proofs.lemmas.List.{ext_get_or, length-set}
use Rattle.std.proofs.lemmas.Option.{unwrap_or-slice_get}
use Rattle.hp_laws.proofs.BindingLemmas.{slice_get-set_same, slice_get-set_other}
use Rattle.hp_eval.specs.Slotted.{Slotted, AreBelow, with_bound, flat}
use Rattle.hp_eval.proofs.AttemptLemmas.{place_free, place_bound}

-- slots with equal values bind the same, to cells below the same count
pub same_below : (n : ℕ) (a b : Slotted) → a.values ≡ b.values → AreBelow n b → AreBelow n a
same_below n a b e h v cell k = h v cell (sym (ap (λ vs. slice_get vs v) e) ∙ k)

-- slots are copied up to a variable: those before stand for the same, and the others for nothing
pub record IsCopiedTo (v : ℕ) (copy slots : Slotted) : Type 0 where
  pub vars : length copy.values ≡ length slots.values
  pub before : (w : ℕ) → w < v → slice_get copy.values w ≡ slice_get slots.values w
  pub beyond : (w : ℕ) → v ≤ w → w < length slots.values → slice_get copy.values w ≡ Some None

-- a variable that stands for nothing is copied as it is
pub copied_free : (v : ℕ) (copy slots : Slotted) → IsCopiedTo v copy slots → v < length slots.values
    → flat (slice_get slots.values v) ≡ None → IsCopiedTo (v + 1) copy slots
copied_free v copy slots h l free = record {
  vars = h.vars;
  before =
      below_more (λ w. slice_get copy.values w ≡ slice_get slots.values w) v h.before
      (h.beyond v (omega arith) l ∙ sym (place_free slots v l free));
  beyond = λ w k m. h.beyond w (omega arith) m;
}

-- a variable is copied where it is bound to the same cell
pub copied_bound : (v cell : ℕ) (copy slots : Slotted) → IsCopiedTo v copy slots → v < length slots.values
    → flat (slice_get slots.values v) ≡ Some cell → IsCopiedTo (v + 1) (with_bound v cell copy) slots
copied_bound v cell copy slots h l bound = record {
  vars = length-set copy.values v (Some cell) ∙ h.vars;
  before =
      below_more (λ w. slice_get (slice_set copy.values v (Some cell)) w ≡ slice_get slots.values w) v
      (λ w k. slice_get-set_other copy.values v w (Some cell) (omega arith) ∙ h.before w k)
      (slice_get-set_same copy.values v (Some cell) (omega (arith, h.vars))
      ∙ sym (place_bound slots v cell bound));
  beyond =
      λ w k m. slice_get-set_other copy.values v w (Some cell) (omega arith) ∙ h.beyond w (omega arith) m;
}

-- slots that are copied to the end have equal values
pub copied_all : (v : ℕ) (copy slots : Slotted) → IsCopiedTo v copy slots → length slots.values ≤ v
    → copy.values ≡ slots.values
copied_all v copy slots h l =
    ext_get_or None copy.values slots.values h.vars
    (λ i k. sym (unwrap_or-slice_get copy.values i None)
    ∙ (ap (λ o. unwrap_or o None) (h.before i (omega (arith, h.vars))) ∙ unwrap_or-slice_get slots.values i None))
