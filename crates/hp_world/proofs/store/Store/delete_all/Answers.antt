use Rattle.std.proofs.Common.{◌≡◌, ◌+◌, ◌<◌, [], ◌∷◌, List, ℕ, suc, length, drop, drop-cons, add-one, rules, refl, sym, ap, ◌∙◌, arith}
use Rattle.hp_world.specs.Deleting.{deleted}
use Rattle.hp_world.specs.Stages.{live_atoms}
use Rattle.hp_world.specs.Keyed.{Learns, Nothing}
use Rattle.hp_world.proofs.LearningLemmas.{learns_same, learns_on}
use Rattle.hp_world.proofs.ZipLemmas.{zip_same, zip_twice}
use Rattle.hp_world.proofs.UndoingLemmas.{moves_more}
use Rattle.hp_world.proofs.store.Store.delete_all.Goals as goal

pub loop-atom-init : goal.loop-atom-init
loop-atom-init c = record {
  atoms = search rules;
  guards = refl;
  places = refl;
  parts = zip_same (Learns Nothing [] 0) (learns_same Nothing [] 0) c.args.self.now.parts.items _ refl;
  moves = search rules;
}

pub loop-atom-preserved : goal.loop-atom-preserved
loop-atom-preserved c =
    let i = c.loop-atom.atom-index in
    let a = c.atom-item.result in
    let atoms : List ℕ = c.args.atoms.now in
    let within : i < length atoms = omega arith in
    let next : drop i atoms ≡ a ∷ drop (i + 1) atoms =
    drop-cons atoms i a within ∙ ap (λ x. x ∷ drop (suc i) atoms) (sym c.atom-item.is)
    ∙ ap (λ n. a ∷ drop n atoms) (sym (add-one i)) in
    record {
      atoms =
          ap (λ xs. deleted xs (drop (i + 1) atoms)) c.delete.ensures.atoms
          ∙ ap (λ xs. deleted (live_atoms c.loop-atom.self.places.places) xs) (sym next) ∙ c.loop-atom.invariant.atoms;
      guards = c.delete.ensures.guards ∙ c.loop-atom.invariant.guards;
      places = c.delete.ensures.places ∙ c.loop-atom.invariant.places;
      parts =
          zip_twice (Learns Nothing [] 0) (Learns Nothing [] 0) (Learns Nothing [] 0) learns_on
          c.args.self.now.parts.items c.loop-atom.self.parts.items c.delete.new.self.parts.items
          c.loop-atom.invariant.parts c.delete.ensures.parts;
      moves = moves_more _ _ [] _ _ _ c.loop-atom.invariant.moves c.delete.ensures.moves;
    }
