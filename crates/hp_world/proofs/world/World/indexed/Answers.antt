use Rattle.std.proofs.Common.{◌<◌, ℕ, List, [], ◌∷◌, ◌++◌, length, get_or, ap, sym, ◌∙◌, arith}
use Rattle.std.proofs.lemmas.List.{take_more}
use Rattle.hp_world.proofs.SoundLemmas.{all_stood}
use Rattle.hp_world.proofs.world.World.indexed.Goals as goal

pub loop-part-preserved : goal.loop-part-preserved
loop-part-preserved c =
    let parts : List ℕ = c.args.parts.now in
    let n = c.loop-part.part-index in
    let within : n < length parts = omega arith in
    record {
      sound = c.add_part.ensures.sound;
      empty = c.add_part.ensures.same ∙ c.loop-part.invariant.empty;
      indexes =
          c.in_ok-add_part.ensures.indexes
          ∙ ap (λ (xs : List ℕ). xs ++ get_or parts n 0 ∷ []) c.loop-part.invariant.indexes
          ∙ sym (take_more parts n 0 within);
      knows = λ terms. c.add_part.ensures.knows terms (c.loop-part.invariant.knows terms);
      entries = λ n. c.add_part.ensures.below n (c.loop-part.invariant.entries n);
    }

pub returns-clause-stood : goal.returns-clause-stood
returns-clause-stood c = all_stood c.loop-part.store c.loop-part.invariant.sound
