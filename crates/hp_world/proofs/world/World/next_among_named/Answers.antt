use Rattle.std.proofs.Common.{◌<◌, ℕ, Some, None, length, sym, ◌∙◌, arith}
use Rattle.std.proofs.lemmas.Bool.{false≢true}
use Rattle.std.proofs.lemmas.Option.{slice_get_within}
use Rattle.hp_world.specs.Named.{IsNamedWithAt}
use Rattle.hp_world.proofs.PartAtLemmas.{likely_named}
use Rattle.hp_world.proofs.TurnLemmas.{turns_found, turns_none, turns_on, turns_past}
use Rattle.hp_world.proofs.world.World.next_among_named.Goals as goal

pub is_at-requires-clause-place : goal.is_at-requires-clause-place
is_at-requires-clause-place c =
    let named = c.in_ok-place.ensures in
    slice_get_within c.args.self.now.now.places c.in_ok-place.place (Some named.1.atom) named.1.stands

pub overflow_add-named : goal.overflow_add-named
overflow_add-named c =
    let named = c.in_ok-place.ensures in
    let within : c.in_ok-place.place < length c.args.self.now.now.places =
    slice_get_within c.args.self.now.now.places c.in_ok-place.place (Some named.1.atom) named.1.stands in
    omega (arith, within, c.places-end.ensures)

pub returns-in_err-place : goal.returns-in_err-place
returns-in_err-place c =
    let places = c.args.self.now.now.places in
    let Holds : ℕ → Type 0 = IsNamedWithAt c.args.cells.now c.args.name c.args.part c.args.argument places in
    rw c.from_residual.ensures (turns_none Holds (length places) c.args.from c.loop-named.named
    c.loop-named.invariant.none
    (likely_named c.args.cells.now c.args.name c.args.part c.args.argument c.loop-named.named places None
    c.in_err-place.ensures))

pub returns-then-is_at : goal.returns-then-is_at
returns-then-is_at c =
    let places = c.args.self.now.now.places in
    let Holds : ℕ → Type 0 = IsNamedWithAt c.args.cells.now c.args.name c.args.part c.args.argument places in
    turns_found Holds (length places) c.args.from c.loop-named.named c.loop-named.invariant.none
    c.loop-named.invariant.on c.in_ok-place.place
    (likely_named c.args.cells.now c.args.name c.args.part c.args.argument c.loop-named.named places
    (Some c.in_ok-place.place) c.in_ok-place.ensures)
    (c.is_at.ensures.0 c.if-is_at.true)

pub loop-named-preserved : goal.loop-named-preserved
loop-named-preserved c =
    let places = c.args.self.now.now.places in
    let Holds : ℕ → Type 0 = IsNamedWithAt c.args.cells.now c.args.name c.args.part c.args.argument places in
    let named = c.in_ok-place.ensures in
    record {
      on = omega (arith, c.loop-named.invariant.on, named.0);
      none =
          turns_on Holds (length places) c.args.from c.loop-named.named c.loop-named.invariant.none
          c.in_ok-place.place
          (likely_named c.args.cells.now c.args.name c.args.part c.args.argument c.loop-named.named places
          (Some c.in_ok-place.place) named)
          (λ k. false≢true (sym c.if-is_at.false ∙ c.is_at.ensures.1 k));
    }

pub returns : goal.returns
returns c =
    let places = c.args.self.now.now.places in
    let Holds : ℕ → Type 0 = IsNamedWithAt c.args.cells.now c.args.name c.args.part c.args.argument places in
    turns_past Holds (length places) c.args.from c.loop-named.named c.loop-named.invariant.none
    (omega (arith, c.loop-named-test.false, c.places-end.ensures))
    (λ i k. slice_get_within places i (Some k.named.atom) k.named.stands)
