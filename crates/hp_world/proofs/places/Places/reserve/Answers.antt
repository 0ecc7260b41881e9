use Rattle.std.proofs.Common.{◌<◌, List, ℕ, take, get_or, subst, ◌∙◌, arith}
use Rattle.std.proofs.lemmas.List.{take_all}
use Rattle.std.proofs.lemmas.List.Elements.{All-weaker, All-more}
use Rattle.hp_world.specs.Stages.{AllBelow}
use Rattle.hp_world.proofs.places.Places.reserve.Goals as goal

pub loop-atom-preserved : goal.loop-atom-preserved
loop-atom-preserved c =
    let atoms : List ℕ = c.args.atoms.now in
    let i = c.loop-atom.atom-index in
    let width = c.widen.new.self.width in
    let wider = c.widen.ensures.wider in
    let below : ℕ → Type 0 = λ a. a < width in
    let here : get_or atoms i c.atom-item.result < width =
    subst below c.atom-item.is c.in_ok-widen.ensures.width in
    record {
      places = c.widen.ensures.places ∙ c.loop-atom.invariant.places;
      room = c.widen.ensures.room ∙ c.loop-atom.invariant.room;
      wider = omega (arith, wider, c.loop-atom.invariant.wider);
      width =
          All-more below atoms i c.atom-item.result c.loop-atom-test.true
          (All-weaker (λ a. a < c.loop-atom.self.width) below (λ a l. omega (arith, wider)) (take i atoms)
          c.loop-atom.invariant.width)
          here;
    }

pub returns-clause-width : goal.returns-clause-width
returns-clause-width c =
    let atoms : List ℕ = c.args.atoms.now in
    let whole = take_all c.loop-atom.atom-index atoms c.loop-atom-test.false in
    subst (λ (xs : List ℕ). AllBelow c.loop-atom.self.width xs) whole c.loop-atom.invariant.width
