-- Slots that are undone to marks: those that agree at a mark, and what the bindings at a later one extend.
use Rattle.std.proofs.Common.{◌≡◌, ℕ, ◌≤◌, List, length, take, Option, Some, None, arith, refl, sym, ◌∙◌, ap, option_map}
use Rattle.std.specs.Prelude.{slice_get}
use Rattle.std.proofs.lemmas.List.{length-map, length-take-le}
use Rattle.std.proofs.lemmas.Option.{slice_get-map, none-some}
use Rattle.hp_syntax.specs.Terms.{Term}
use Rattle.hp_syntax.specs.Values.{Extends, flat_option}
use Rattle.hp_eval.specs.Slotted.{Slotted, Binds, undone, named, bindings_of}
use Rattle.hp_eval.proofs.SlotLemmas.{binds_keep, binds_vars, undone_twice}

-- slots that agree at a mark agree at an earlier one
pub undone_earlier : (j m : ℕ) (e f : Slotted) → j ≤ m → m ≤ length e.trail → m ≤ length f.trail
    → undone m e ≡ undone m f → undone j e ≡ undone j f
undone_earlier j m e f l in_e in_f same =
    sym (undone_twice j m e l in_e) ∙ (ap (undone j) same ∙ undone_twice j m f l in_f)

-- the bindings at a later mark stand above those at an earlier one
pub binds_later : (j m : ℕ) (e : Slotted) → j ≤ m → m ≤ length e.trail → Binds (undone j e) (undone m e)
binds_later j m e l in_e =
    let short : length (take j e.trail) ≡ j = length-take-le j e.trail (omega arith) in
    let long : length (take m e.trail) ≡ m = length-take-le m e.trail in_e in
    record { later = omega arith; undoes = ap (λ n. undone n (undone m e)) short ∙ undone_twice j m e l in_e }

module _ (terms : List Term) where
  -- bindings that stand above others extend them
  pub binds_extend : (old new : Slotted) → Binds old new → Extends (bindings_of terms old) (bindings_of terms new)
  binds_extend old new b = record {
    as_many =
        length-map new.values (named terms) ∙ (binds_vars old new b ∙ sym (length-map old.values (named terms)));
    keeps =
        λ v t h. let o = slice_get-map (named terms) old.values v in
        let n = slice_get-map (named terms) new.values v in
        ap flat_option n ∙ still v t (slice_get old.values v) refl (ap flat_option (sym o) ∙ h);
  }
    where
      still : (v : ℕ) (t : Term) (o : Option (Option ℕ)) → slice_get old.values v ≡ o
          → flat_option (option_map (named terms) o) ≡ Some t
          → flat_option (option_map (named terms) (slice_get new.values v)) ≡ Some t
      still v t None p h = absurd (none-some t h)
      still v t (Some None) p h = absurd (none-some t h)
      still v t (Some (Some cell)) p h =
          ap (λ x. flat_option (option_map (named terms) x)) (binds_keep old new b v cell p) ∙ h

  -- the bindings at a later mark extend those at an earlier one
  pub later_extends : (j m : ℕ) (e : Slotted) → j ≤ m → m ≤ length e.trail
      → Extends (bindings_of terms (undone j e)) (bindings_of terms (undone m e))
  later_extends j m e l in_e = binds_extend (undone j e) (undone m e) (binds_later j m e l in_e)
