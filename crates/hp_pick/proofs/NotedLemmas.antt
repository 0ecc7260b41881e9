-- Values that are noted while slots hold them.
use Rattle.std.proofs.Common.{◌≡◌, ℕ, ◌+◌, ◌<◌, ◌^◌, List, [], ◌∷◌, ◌++◌, length, take, Option, None, sym, ◌∙◌, ap, subst}
use Rattle.std.specs.Prelude.{slice_get}
use Rattle.std.specs.List.{All}
use Rattle.std.proofs.lemmas.List.{take_more}
use Rattle.std.proofs.lemmas.List.Elements.{All-push}
use Rattle.std.proofs.lemmas.Option.{slice_get-get_or}
use Rattle.hp_eval.specs.Slotted.{Slotted, slotted, Binds, AreBelow, flat}
use Rattle.hp_eval.proofs.SlotLemmas.{binds_vars, binds_keep}
use Rattle.hp_pick.specs.declared.noted.Noted.{Noted}
use Rattle.hp_pick.specs.Noted.{KeepsCells, IsNoted}

-- slots keep what stands below them
pub extends_below : (start e : Slotted) → Binds start e → KeepsCells e.values start
extends_below start e h = record { as_many = sym (binds_vars start e h); keeps = binds_keep start e h }

-- one value more is copied
pub copied_more : (values : List (Option ℕ)) (v : ℕ) → v < length values
    → take v values ++ flat (slice_get values v) ∷ [] ≡ take (v + 1) values
copied_more values v h =
    ap (λ x. take v values ++ x ∷ []) (ap flat (slice_get-get_or values v None h)) ∙ sym (take_more values v None h)

-- a satisfier more is noted while slots hold it
pub noted_more : (count : ℕ) (start e : Slotted) (ns : List Noted) (n : Noted) → Binds start e → AreBelow count e
    → n.values.items ≡ e.values → length n.values.items < 2 ^ 32 → All (IsNoted count start) ns
    → All (IsNoted count start) (ns ++ n ∷ [])
noted_more count start e ns n above below same few h =
    All-push (IsNoted count start) ns n h record {
      extends = subst (λ values. KeepsCells values start) (sym same) (extends_below start e above);
      below = subst (λ values. AreBelow count (slotted values [])) (sym same) below;
      few = few;
    }
