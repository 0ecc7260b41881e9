-- A heard list stays fit to be given while it is given.
use Rattle.std.proofs.Common.{◌≡◌, ℕ, ◌≤◌, length, sym, subst, arith}
use Rattle.std.specs.List.{All}
use Rattle.std.proofs.lemmas.List.{length-take-le}
use Rattle.hp_eval.specs.Slotted.{Slotted, AreBelow, Binds, undone}
use Rattle.hp_eval.proofs.SlotLemmas.{undone_above}
use Rattle.hp_pick.specs.declared.heard.Heard.{Heard}
use Rattle.hp_pick.specs.Noted.{IsNoted}
use Rattle.hp_pick.specs.Heard.{FitsHeard}

-- as many bindings stand above those of a mark as the mark
pub mark_above : (mark : ℕ) (e f : Slotted) → mark ≤ length e.trail → Binds (undone mark e) f → mark ≤ length f.trail
mark_above mark e f h b = omega (arith, length-take-le mark e.trail h, b.later)

-- bindings above those of a mark leave a heard list fit to be given
pub fits_above : (mark : ℕ) (old new : Heard) (e f : Slotted) → FitsHeard mark old e → Binds (undone mark e) f
    → AreBelow old.kept f → new.notes.sats ≡ old.notes.sats → new.kept ≡ old.kept → FitsHeard mark new f
fits_above mark old new e f fits b below same kept = record {
  above = mark_above mark e f fits.above b;
  below = subst (λ n. AreBelow n f) (sym kept) below;
  noted =
      subst (λ n. All (IsNoted n (undone mark f)) new.notes.sats.items) (sym kept)
      (subst (λ v. All (IsNoted old.kept (undone mark f)) v.items) (sym same)
      (subst (λ s. All (IsNoted old.kept s) old.notes.sats.items) (sym (undone_above mark e f fits.above b))
      fits.noted));
}
