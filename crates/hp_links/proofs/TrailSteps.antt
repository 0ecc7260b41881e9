-- One change of a store, noted or undone.
use Rattle.std.proofs.Common.{◌≡◌, ℕ, ◌+◌, ◌≤◌, List, [], ◌∷◌, ◌++◌, Option, length, sym, ap, ◌∙◌, subst, arith, vec_len}
use Rattle.std.proofs.lemmas.List.{length_push}
use Rattle.hp_world.specs.Histories.{history, undone_to, KeepsPasts}
use Rattle.hp_world.specs.Trails.{IsUndoable}
use Rattle.hp_world.proofs.HistoryLemmas.{undone_pushed}
use Rattle.hp_world.proofs.TrailLemmas.{keeps_pushed, undoable_pushed, undoable_popped}
use Rattle.hp_links.specs.declared.undo.Change.{Change}
use Rattle.hp_links.specs.declared.store.Store.{Store}
use Rattle.hp_links.specs.Labelled.{Tree}
use Rattle.hp_links.specs.Linked.{Linked, whole}
use Rattle.hp_links.specs.Undoing.{undone, Fits, IsStage, stage_of, history_of, IsSound, Steps, Undoes}

-- the last change on a sound trail fits
pub last_fits : (ts rest : List Change) (t : Change) (s : Linked) → IsUndoable undone Fits IsStage ts s
    → ts ≡ rest ++ t ∷ [] → Fits t s
last_fits ts rest t s h trail =
    (undoable_popped undone Fits IsStage rest t s
    (subst (λ (us : List Change). IsUndoable undone Fits IsStage us s) trail h)).0

-- where the last change was taken back, the others can be undone, and earlier times are the same
pub taken_back : (old new : Store) (t : Change) → IsSound old → old.trail.items ≡ new.trail.items ++ t ∷ []
    → vec_len new.trail + 1 ≡ vec_len old.trail → stage_of new ≡ undone t (stage_of old) → Undoes old new
taken_back old new t sound trail fewer back =
    let rest = new.trail.items in
    let popped =
    undoable_popped undone Fits IsStage rest t (stage_of old)
    (subst (λ (us : List Change). IsUndoable undone Fits IsStage us (stage_of old)) trail sound) in
    record {
      sound = subst (λ (q : Linked). IsUndoable undone Fits IsStage rest q) (sym back) popped.1;
      fewer = fewer;
      back = λ m l.
          let n : m ≤ length rest = omega (arith, l, ap length trail, length_push rest t, old.trail.ok.0) in
          ap (λ (q : Linked). undone_to m (history undone rest q)) back
          ∙ sym (ap (λ (us : List Change). undone_to m (history undone us (stage_of old))) trail
          ∙ undone_pushed undone m rest t (stage_of old) n);
    }

-- one change more that fits, and that undoing takes back, keeps what stood before
pub noted : (old new : Store) (t : Change) → IsSound old → new.trail.items ≡ old.trail.items ++ t ∷ []
    → undone t (stage_of new) ≡ stage_of old → Fits t (stage_of new) → IsStage (stage_of new)
    → IsSound new × KeepsPasts (history_of old) (history_of new)
noted old new t sound trail back fits stage =
    let before : IsUndoable undone Fits IsStage old.trail.items (undone t (stage_of new)) =
    subst (λ (q : Linked). IsUndoable undone Fits IsStage old.trail.items q) (sym back) sound in
    let keeps : KeepsPasts (history undone old.trail.items (undone t (stage_of new)))
    (history undone (old.trail.items ++ t ∷ []) (stage_of new)) = keeps_pushed undone old.trail.items t
    (stage_of new) in (
      subst (λ (ts : List Change). IsUndoable undone Fits IsStage ts (stage_of new)) (sym trail)
          (undoable_pushed undone Fits IsStage old.trail.items t (stage_of new) stage fits before),
      subst (λ (ts : List Change). KeepsPasts (history_of old) (history undone ts (stage_of new))) (sym trail)
          (subst
          (λ (s : Linked). KeepsPasts (history undone old.trail.items s) (history undone (old.trail.items ++ t ∷ [])
          (stage_of new)))
          back keeps),
    )

-- the present of a sound trail is sound
pub stage_now : (ts : List Change) (s : Linked) → IsUndoable undone Fits IsStage ts s → IsStage s
stage_now [] s h = h
stage_now (t ∷ ts) s h = stage_now ts s h.2

-- a step that is noted keeps what stood before, and the network is the step's
pub noted_step : (old new : Store) (mid : Linked) (t : Change) (tree : Tree) (f : Option ℕ) → IsSound old
    → new.trail.items ≡ old.trail.items ++ t ∷ [] → Steps t tree f (stage_of old) mid → stage_of new ≡ mid
    → IsSound new × KeepsPasts (history_of old) (history_of new) × (whole (stage_of new) ≡ tree) × (new.focus ≡ f)
noted_step old new mid t tree f sound trail step is =
    let r = noted old new t sound trail (ap (undone t) is ∙ step.back) (subst (Fits t) (sym is) step.fits)
    (subst IsStage (sym is) step.stage) in
    (r.0, r.1, ap whole is ∙ step.whole, ap (λ (s : Linked). s.focus) is ∙ step.focus)
