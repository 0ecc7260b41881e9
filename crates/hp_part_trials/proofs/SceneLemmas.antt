-- Scenes in which generators begin and go on.
use Rattle.std.proofs.Common.{◌≡◌, ℕ, List, length, arith, refl, sym, subst}
use Rattle.hp_syntax.specs.Applying as plain
use Rattle.hp_syntax.specs.Applying.{AppliedOf}
use Rattle.hp_syntax.specs.Terms.{Term}
use Rattle.hp_eval.specs.Growth.{Grows}
use Rattle.hp_eval.specs.Slotted.{Slotted, AreBelow}
use Rattle.hp_eval.proofs.GrowthLemmas.{below_grows}
use Rattle.hp_gen.specs.declared.generator.Gen.{Gen}
use Rattle.hp_gen.specs.GenLaws.{Suits}
use Rattle.hp_suspended.specs.declared.scene.Scene.{Scene}
use Rattle.hp_suspended.specs.Fitting.{Fits}
use Rattle.hp_suspended.specs.SceneViews.{IsReady, code_in}
use Rattle.hp_suspended.specs.Views.{view}
use Rattle.hp_suspended.proofs.CallLemmas.{ready_grows}
use Rattle.hp_world.specs.Answers.{Gives}
use Rattle.hp_world.specs.declared.store.Applied.{Applied}
use Rattle.hp_world.specs.declared.store.Applied.TheVariants.{Done, Guarded}
use Rattle.hp_world.specs.Histories.{History, KeepsPasts, mark_of, undone_to}
use Rattle.hp_world.specs.Recorded.{IndexedBelow, Knows, history_in}
use Rattle.hp_world.specs.Stages.{AllBelow, Stage, StageBelow, live_atoms}
use Rattle.hp_world.proofs.HistoryLemmas.{rewound}

-- a history keeps its own pasts
keeps_own : (h : History Stage) → KeepsPasts h h
keeps_own h = record { mark = omega arith; past = λ m l. refl }

-- what stands behind changes keeps the pasts before them
pub changes_keep : (a : Applied) (x : AppliedOf ℕ) (h g : History Stage) → Gives a x h g → KeepsPasts h g
changes_keep Done (plain.Now atoms guards) h g k = k.2
changes_keep Done (plain.Guarded d) h g k = absurd k
changes_keep (Guarded a) (plain.Now atoms guards) h g k = absurd k
changes_keep (Guarded a) (plain.Guarded d) h g k = subst (KeepsPasts h) (sym k.1) (keeps_own h)

-- changes that are undone to the mark before them leave what stood there
pub changed_back : (a : Applied) (x : AppliedOf ℕ) (h g : History Stage) → Gives a x h g → undone_to (mark_of h) g ≡ h
changed_back a x h g k = rewound h g (changes_keep a x h g k)

-- a generator goes on in a scene whose world is as it was
pub suits_again : (g : Gen) (s t : Scene) (c : List Term) → Suits g s c → code_in t ≡ code_in s
    → history_in t.world ≡ history_in s.world → Knows c t.world → IndexedBelow g.kept t.world → Suits g t c
suits_again g s t c u code same knows indexes = record {
  fits = subst (λ k. Fits k g.kept g.bound (view g.suspended)) (sym code) u.fits;
  start = u.start;
  atoms = subst (λ (h : History Stage). AllBelow g.kept (live_atoms h.now.places)) (sym same) u.atoms;
  indexes = indexes;
  knows = knows;
}

-- a scene of which all are cells is ready for slots, also once there are more cells
pub ready_within : (s : Scene) (old new : List Term) (e : Slotted) → Knows old s.world
    → StageBelow (length old) s.world.now → AreBelow (length old) e → Grows old new → IsReady s new e
ready_within s old new e knows below bindings grown =
    ready_grows s old new grown e e (record { atoms = below.atoms; knows = knows; bindings = bindings })
    (below_grows old new grown e bindings)
