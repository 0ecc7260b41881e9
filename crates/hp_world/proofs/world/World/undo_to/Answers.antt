use Rattle.std.proofs.Common.{◌<◌, [], ◌∙◌, ap, subst, sym}
use Rattle.std.proofs.lemmas.List.Elements.{All-nil}
use Rattle.hp_world.specs.Keyed.{Keyed, KnowsParts, Learns, Nothing, parts_of}
use Rattle.hp_world.specs.Recorded.{Recorded, IndexedBelow, Knows}
use Rattle.hp_world.proofs.LearningLemmas.{below_learnt}
use Rattle.hp_world.proofs.SoundLemmas.{all_stood}
use Rattle.hp_world.proofs.ZipLemmas.{all_zipped, zip_map}
use Rattle.hp_world.proofs.world.World.undo_to.Goals as goal

pub returns-clause-knows : goal.returns-clause-knows
returns-clause-knows c = λ terms known.
    all_zipped (KnowsParts terms) (KnowsParts terms) (Learns Nothing [] 0) (λ p q h f. f.knows terms tt h)
    c.self.inside.store.parts.items c.undo_to.new.self.parts.items
    (subst (λ (w : Recorded). Knows terms w) (sym c.self.view_is) known) c.undo_to.ensures.parts

pub returns-clause-indexes : goal.returns-clause-indexes
returns-clause-indexes c =
    zip_map (λ (p : Keyed). p.part) (Learns Nothing [] 0) (λ p q f. f.part) c.self.inside.store.parts.items
    c.undo_to.new.self.parts.items c.undo_to.ensures.parts
    ∙ ap (λ (w : Recorded). parts_of w.parts) c.self.view_is

pub returns-clause-stood : goal.returns-clause-stood
returns-clause-stood c = all_stood c.undo_to.new.self c.undo_to.ensures.sound

pub returns-clause-entries : goal.returns-clause-entries
returns-clause-entries c = λ n below.
    below_learnt Nothing [] 0 n c.self.inside.store.parts.items c.undo_to.new.self.parts.items (All-nil (λ x. x < n))
    (subst (λ (w : Recorded). IndexedBelow n w) (sym c.self.view_is) below) c.undo_to.ensures.parts
