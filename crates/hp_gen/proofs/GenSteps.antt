-- Calls of a generator, by those of what is suspended in it.
use Rattle.std.proofs.Common.{◌≡◌, ℕ, ◌<◌, ◌≤◌, List, [], ◌∷◌, length, take, Some, true, is_some, arith, refl, ap, sym, ◌∙◌, subst}
use Rattle.std.proofs.lemmas.List.Elements.{All-weaker}
use Rattle.hp_syntax.specs.Events as plain
use Rattle.hp_syntax.specs.Events.{sat}
use Rattle.hp_syntax.specs.Preconditions.{heard}
use Rattle.hp_syntax.specs.Syntax.{Expression}
use Rattle.hp_syntax.specs.Terms.{Term}
use Rattle.hp_syntax.specs.Values.{Bindings}
use Rattle.hp_eval.specs.declared.event.Event.{Event}
use Rattle.hp_eval.specs.declared.event.Event.TheVariants as events
use Rattle.hp_eval.specs.Events.{PlainEvent, event_of, left_after, AreOfFirst}
use Rattle.hp_eval.specs.Growth.{Grows}
use Rattle.hp_eval.specs.Slotted.{Slotted, AreBelow, bindings_of, undone}
use Rattle.hp_eval.proofs.GrowthLemmas.{grows_length, grows_self, kept_agree}
use Rattle.hp_eval.proofs.SlotLemmas.{below_undone}
use Rattle.hp_eval.specs.SlotLaws.{undone_whole}
use Rattle.hp_world.specs.Recorded.{IndexedBelow}
use Rattle.hp_world.specs.Stages.{AllBelow, live_atoms}
use Rattle.hp_world.proofs.LearningLemmas.{known_are_cells}
use Rattle.hp_gen.specs.declared.generator.Gen.{Gen}
use Rattle.hp_suspended.specs.declared.scene.Scene.{Scene}
use Rattle.hp_suspended.specs.declared.suspended.Suspended.{Suspended}
use Rattle.hp_suspended.specs.Answering.{Gives, GivesOver, Keeps, LeavesNothing, LeavesOver, Moves}
use Rattle.hp_suspended.specs.Fitting.{Fits, IsExpressionAt, base_of}
use Rattle.hp_suspended.specs.Left.{left}
use Rattle.hp_suspended.specs.Nodes.{expression_at}
use Rattle.hp_suspended.specs.SceneViews.{IsReady, code_in, setting_of}
use Rattle.hp_suspended.specs.Settings.{axioms_in, expression_events, node_events, state_in}
use Rattle.hp_suspended.specs.Views.{Fresh, One, View, view}
use Rattle.hp_suspended.proofs.CallLemmas.{knows_grow, moved_above}
use Rattle.hp_suspended.proofs.CellsAgree.{left_over}
use Rattle.hp_suspended.proofs.Fitted.{fits_more}
use Rattle.hp_suspended.proofs.OneSteps.{length-undone}
use Rattle.hp_gen.specs.GenLaws.{FitsSlots, Suits, rest_of}

-- ---- one event

-- what a call says of an event, of the heard lists before and after
pub record Hears (x : Event) (b : Bindings) (old new : List PlainEvent) : Type 0 where
  pub event : x ≡ event_of (heard old)
  pub rest : heard new ≡ left_after (heard old)
  pub sat : AreOfFirst (heard old) b

-- an event that is given is heard
pub given_heard : (x : Event) (b : Bindings) (old new : List PlainEvent) → Gives x b old new → LeavesNothing x new
    → Hears x b old new
given_heard events.Sat b old new g l = rw g (record { event = refl; rest = refl; sat = refl })
given_heard events.Cut b old new g l = rw g (record { event = refl; rest = refl; sat = tt })
given_heard (events.Fault f) b old new g l = rw (g.1, l) (record { event = refl; rest = refl; sat = tt })
given_heard events.End b old new g l = rw (g, l) (record { event = refl; rest = refl; sat = tt })

module _ (g : Gen) (s : Scene) (c : List Term) (e : Slotted) (u : Suits g s c) (h : FitsSlots g e)
    (within : g.kept ≤ length c) where
  -- what is suspended fits the slots and all cells
  pub fits_all : Fits (code_in s) (length c) (length e.trail) (view g.suspended)
  fits_all =
      subst (λ n. Fits (code_in s) (length c) n (view g.suspended)) (sym h.bound)
      (fits_more (code_in s) g.kept (length c) within g.bound (view g.suspended) u.fits)

  module _ (d : List Term) (grown : Grows c d) where
    -- over more cells the same is left
    left_before : left (setting_of s c) e (view g.suspended) ≡ left (setting_of s d) e (view g.suspended)
    left_before =
        left_over (setting_of s c) d g.kept (kept_agree c d grown g.kept within) u.atoms (code_in s) g.bound
        (view g.suspended) e u.fits h.below

    -- an event that is given is the first that is left
    pub gen_hears : (x : Event) (f : Slotted) (v : View)
        → GivesOver s d f x (λ w. left w e (view g.suspended)) (λ w. left w f v)
        → LeavesOver s d x (λ w. left w f v)
        → Hears x (bindings_of d f) (left (setting_of s c) e (view g.suspended)) (left (setting_of s d) f v)
    gen_hears x f v gives leaves =
        subst (λ xs. Hears x (bindings_of d f) xs (left (setting_of s d) f v)) (sym left_before)
        (given_heard x (bindings_of d f) (left (setting_of s d) e (view g.suspended)) (left (setting_of s d) f v)
        (gives d (grows_self d)) (leaves d (grows_self d)))

    -- a world goes on suiting a generator that keeps as many cells as there are now
    suits_now : (new : Gen) → Fits (code_in s) (length d) new.bound (view new.suspended)
        → base_of (view new.suspended) ≡ new.mark → new.kept ≡ length d → Suits new s d
    suits_now new fits start kept =
        let l = grows_length c d grown in
        let knows = knows_grow s c d grown u.knows in
        let P = λ (n : ℕ). AllBelow n (live_atoms s.world.now.places) in
        let atoms : P (length d) =
        All-weaker (λ x. x < g.kept) (λ x. x < length d) (λ x b. omega arith) (live_atoms s.world.now.places)
        u.atoms in
        record {
          fits = subst (λ n. Fits (code_in s) n new.bound (view new.suspended)) (sym kept) fits;
          start = start;
          atoms = subst P (sym kept) atoms;
          indexes = subst (λ n. IndexedBelow n s.world) (sym kept) (known_are_cells d s.world knows);
          knows = knows;
        }

    -- after a call that keeps what is suspended
    pub suits_on : (new : Gen) (f : Slotted) → Keeps (code_in s) (length d) f (view g.suspended) (view new.suspended)
        → new.bound ≡ length f.trail → new.kept ≡ length d → new.mark ≡ g.mark → Suits new s d
    suits_on new f keeps bound kept mark =
        suits_now new (subst (λ n. Fits (code_in s) (length d) n (view new.suspended)) (sym bound) keeps.fits)
        (keeps.start ∙ u.start ∙ sym mark) kept

    -- after a call that failed
    pub suits_end : (new : Gen) → view new.suspended ≡ One g.mark events.End → new.bound ≡ g.mark
        → new.kept ≡ length d → new.mark ≡ g.mark → Suits new s d
    suits_end new ended bound kept mark =
        suits_now new
        (subst (Fits (code_in s) (length d) new.bound) (sym ended) (let b = bound in omega arith))
        (ap base_of ended ∙ sym mark) kept

    -- and the slots are those of the start
    pub slots_end : (new : Gen) (f : Slotted) → Moves (base_of (view g.suspended)) c d e f
        → new.bound ≡ g.mark → new.kept ≡ length d → new.mark ≡ g.mark → FitsSlots new (undone g.mark f)
    slots_end new f moves bound kept mark =
        let at' = u.start in
        let low : g.mark ≤ length e.trail = let a = h.start in let b = h.bound in omega arith in
        let high : g.mark ≤ length f.trail =
        moved_above g.mark c d e f low (subst (λ m. Moves m c d e f) at' moves) in
        record {
          bound = length-undone g.mark f high ∙ sym bound;
          start = (let a = bound in let b = mark in omega arith);
          below = subst (λ n. AreBelow n (undone g.mark f)) (sym kept) (below_undone (length d) g.mark f moves.below);
        }

-- ---- the start

module _ (s : Scene) (c : List Term) (e : Slotted) (r : IsReady s c e) (node nest : ℕ)
    (is : IsExpressionAt (code_in s) node) where
  -- all events of the expression are left
  pub start_left : (m : ℕ) (f : Suspended) → m ≡ length e.trail → view f ≡ Fresh m nest node
      → (E : Expression) → expression_at (code_in s) node ≡ Some E
      → left (setting_of s c) e (view f)
      ≡ sat (axioms_in (setting_of s c)) nest (state_in (setting_of s c)) E (bindings_of c e)
  unfolding node_events
  start_left m f at' fresh E whole =
      ap (left (setting_of s c) e) fresh
      ∙ ap (λ o. expression_events (setting_of s c) nest o (bindings_of c (undone m e))) whole
      ∙ ap (λ x. sat (axioms_in (setting_of s c)) nest (state_in (setting_of s c)) E (bindings_of c x))
      (undone_whole m e (sym at'))

  -- and the world suits a generator that begins
  pub start_suits : (new : Gen) → new.mark ≡ length e.trail → view new.suspended ≡ Fresh new.mark nest node
      → new.bound ≡ new.mark → new.kept ≡ length c → Suits new s c
  start_suits new mark fresh bound kept =
      let fits : Fits (code_in s) (length c) new.bound (Fresh new.mark nest node) = (bound, is) in
      let P = λ (n : ℕ). AllBelow n (live_atoms s.world.now.places) in
      record {
        fits =
            subst (λ n. Fits (code_in s) n new.bound (view new.suspended)) (sym kept)
            (subst (Fits (code_in s) (length c) new.bound) (sym fresh) fits);
        start = ap base_of fresh;
        atoms = subst P (sym kept) r.atoms;
        indexes = subst (λ n. IndexedBelow n s.world) (sym kept) (known_are_cells c s.world r.knows);
        knows = r.knows;
      }
