use Rattle.std.proofs.Common.{ℕ, length, ◌∙◌, ap, subst, sym}
use Rattle.hp_syntax.specs.Applying.{ChangesOf}
use Rattle.hp_world.specs.Histories.{History}
use Rattle.hp_world.specs.Keyed.{Keyed, IsAsRoomy, Learns, RightFor, parts_of}
use Rattle.hp_world.specs.Recorded.{Recorded, IndexedBelow, Knows, history_in}
use Rattle.hp_world.specs.Pasts.{PastsBelow}
use Rattle.hp_world.specs.Stages.{Stage, StageBelow}
use Rattle.hp_world.specs.Undoing.{history_of}
use Rattle.hp_world.proofs.AnswerLemmas.{applied_below}
use Rattle.hp_world.proofs.LearningLemmas.{all_known, known_roomier, below_learnt, below_roomier}
use Rattle.hp_world.proofs.SoundLemmas.{all_stood}
use Rattle.hp_world.proofs.ZipLemmas.{zip_map}
use Rattle.hp_world.proofs.world.World.apply_in.Goals as goal

pub returns-in_err-prepare-clause-knows : goal.returns-in_err-prepare-clause-knows
returns-in_err-prepare-clause-knows c = λ known.
    known_roomier c.args.cells.now c.self.inside.store.parts.items c.prepare.new.self.parts.items
    (subst (λ (w : Recorded). Knows c.args.cells.now w) (sym c.self.view_is) known) c.prepare.ensures.roomier

pub returns-clause-knows : goal.returns-clause-knows
returns-clause-knows c = λ known.
    all_known c.args.cells.now c.args.add.now c.prepare.new.self.parts.items c.apply.new.self.parts.items
    (known_roomier c.args.cells.now c.self.inside.store.parts.items c.prepare.new.self.parts.items
    (subst (λ (w : Recorded). Knows c.args.cells.now w) (sym c.self.view_is) known) c.prepare.ensures.roomier)
    c.in_ok-prepare.ensures.awaits c.apply.ensures.parts

pub returns-clause-below : goal.returns-clause-below
returns-clause-below c = λ n s b.
    let changes : ChangesOf ℕ = record {
      unguard = c.args.unguard.now;
      delete = c.args.del.now;
      add = c.args.add.now;
      guard = c.args.guard.now;
    } in
    applied_below c.apply.result changes (history_of c.prepare.new.self) (history_of c.apply.new.self)
    c.apply.ensures.ok c.apply.ensures.err n
    (subst (λ (h : History Stage). StageBelow n h.now) (sym c.prepare.ensures.same)
    (subst (λ (w : Recorded). StageBelow n w.now) (sym c.self.view_is) s)) b

pub returns-in_err-prepare-clause-indexes : goal.returns-in_err-prepare-clause-indexes
returns-in_err-prepare-clause-indexes c =
    zip_map (λ (p : Keyed). p.part) IsAsRoomy (λ p q f. f.part) c.self.inside.store.parts.items
    c.prepare.new.self.parts.items c.prepare.ensures.roomier
    ∙ ap (λ (w : Recorded). parts_of w.parts) c.self.view_is

pub returns-clause-indexes : goal.returns-clause-indexes
returns-clause-indexes c =
    zip_map (λ (p : Keyed). p.part) (Learns (RightFor c.args.add.now) c.args.add.now (length c.args.add.now))
    (λ p q f. f.part)
    c.prepare.new.self.parts.items c.apply.new.self.parts.items c.apply.ensures.parts
    ∙ zip_map (λ (p : Keyed). p.part) IsAsRoomy (λ p q f. f.part) c.self.inside.store.parts.items
    c.prepare.new.self.parts.items c.prepare.ensures.roomier
    ∙ ap (λ (w : Recorded). parts_of w.parts) c.self.view_is

pub returns-in_err-prepare-clause-stood : goal.returns-in_err-prepare-clause-stood
returns-in_err-prepare-clause-stood c = all_stood c.prepare.new.self c.prepare.ensures.sound

pub returns-clause-stood : goal.returns-clause-stood
returns-clause-stood c = all_stood c.apply.new.self c.apply.ensures.sound

pub returns-in_err-prepare-clause-entries : goal.returns-in_err-prepare-clause-entries
returns-in_err-prepare-clause-entries c = λ n l below.
    below_roomier n c.self.inside.store.parts.items c.prepare.new.self.parts.items
    (subst (λ (w : Recorded). IndexedBelow n w) (sym c.self.view_is) below) c.prepare.ensures.roomier

pub returns-clause-entries : goal.returns-clause-entries
returns-clause-entries c = λ n l below.
    let add = c.args.add.now in
    below_learnt (RightFor add) add (length add) n c.prepare.new.self.parts.items c.apply.new.self.parts.items l
    (below_roomier n c.self.inside.store.parts.items c.prepare.new.self.parts.items
    (subst (λ (w : Recorded). IndexedBelow n w) (sym c.self.view_is) below) c.prepare.ensures.roomier)
    c.apply.ensures.parts

pub returns-in_err-prepare-clause-pasts : goal.returns-in_err-prepare-clause-pasts
returns-in_err-prepare-clause-pasts c = λ n l below.
    subst (PastsBelow n) (sym c.prepare.ensures.same)
    (subst (λ (w : Recorded). PastsBelow n (history_in w)) (sym c.self.view_is) below)

pub returns-clause-pasts : goal.returns-clause-pasts
returns-clause-pasts c = λ n l below.
    c.apply.ensures.pasts n l
    (subst (PastsBelow n) (sym c.prepare.ensures.same)
    (subst (λ (w : Recorded). PastsBelow n (history_in w)) (sym c.self.view_is) below))
