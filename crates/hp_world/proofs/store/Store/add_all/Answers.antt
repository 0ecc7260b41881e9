use Rattle.std.proofs.Common.{◌≡◌, ◌+◌, ◌-◌, ◌<◌, ℕ, suc, [], ◌∷◌, List, Some, drop, drop-cons, add-one, slice_get, length, rules, refl, sym, ap, subst, ◌∙◌, arith}
use Rattle.std.specs.List.{All}
use Rattle.std.proofs.lemmas.Option.{slice_get-get_or}
use Rattle.hp_syntax.specs.Applying.{with_added}
use Rattle.hp_world.specs.Stages.{live_atoms, same_cell}
use Rattle.hp_world.specs.Keyed.{HasWaiting, Learns, RightAt, RightFor}
use Rattle.hp_world.proofs.LearningLemmas.{learns_same, learns_each, waits_still, one_below}
use Rattle.hp_world.proofs.ZipLemmas.{all_zipped, zip_same, zip_twice}
use Rattle.hp_world.proofs.UndoingLemmas.{moves_more, moves_wider}
use Rattle.hp_world.proofs.store.Store.add_all.Goals as goal

-- a number less nothing is the number
sub-zero' : (n : ℕ) → n ≡ n - 0
sub-zero' n = omega arith

pub loop-number-init : goal.loop-number-init
loop-number-init c = record {
  atoms = search rules;
  guards = refl;
  places = omega arith;
  parts =
      let atoms = c.args.atoms.now in
      zip_same (Learns (RightFor atoms) atoms 0) (learns_same (RightFor atoms) atoms 0)
      c.args.self.now.parts.items _ refl;
  waits =
      subst (λ m. All (HasWaiting (length c.args.atoms.now) m) c.args.self.now.parts.items)
      (sub-zero' (length c.args.atoms.now)) c.requires.waits;
  moves = search rules;
}

pub loop-number-preserved : goal.loop-number-preserved
loop-number-preserved c =
    let n = c.loop-number.number in
    let a = c.index-atoms-number.result in
    let atoms : List ℕ = c.args.atoms.now in
    let within : n < length atoms = omega arith in
    let at : slice_get atoms n ≡ Some a = slice_get-get_or atoms n a within ∙ ap Some (sym c.index-atoms-number.is) in
    let next : drop n atoms ≡ a ∷ drop (n + 1) atoms =
    drop-cons atoms n a within ∙ ap (λ x. x ∷ drop (suc n) atoms) (sym c.index-atoms-number.is)
    ∙ ap (λ m. a ∷ drop m atoms) (sym (add-one n)) in
    let left : length atoms - n ≡ (length atoms - (n + 1)) + 1 = omega (arith, within) in
    record {
      atoms =
          ap (λ xs. with_added same_cell xs (drop (n + 1) atoms)) c.add.ensures.atoms
          ∙ ap (λ xs. with_added same_cell (live_atoms c.loop-number.self.places.places) xs) (sym next)
          ∙ c.loop-number.invariant.atoms;
      guards = c.add.ensures.guards ∙ c.loop-number.invariant.guards;
      places = omega (arith, c.loop-number.invariant.places, c.add.ensures.places);
      parts =
          zip_twice (Learns (RightFor atoms) atoms n) (Learns (RightAt a n) (a ∷ []) 1)
          (Learns (RightFor atoms) atoms (n + 1))
          (λ p q r f g. learns_each atoms n a p q r at f g) c.args.self.now.parts.items
          c.loop-number.self.parts.items c.add.new.self.parts.items c.loop-number.invariant.parts c.add.ensures.parts;
      waits =
          all_zipped (HasWaiting (length atoms) (length atoms - n)) (HasWaiting (length atoms) (length atoms - (n + 1)))
          (Learns (RightAt a n) (a ∷ []) 1)
          (λ p q h f. waits_still (RightAt a n) (a ∷ []) (length atoms) (length atoms - n)
          (length atoms - (n + 1)) 1 left p q h f)
          c.loop-number.self.parts.items c.add.new.self.parts.items c.loop-number.invariant.waits c.add.ensures.parts;
      moves = moves_more _ _ atoms _ _ _ c.loop-number.invariant.moves
          (moves_wider 1 (a ∷ []) atoms _ _ (λ k l. one_below k atoms n a l at) c.add.ensures.moves);
    }
