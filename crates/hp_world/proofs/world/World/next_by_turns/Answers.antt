use Rattle.std.proofs.Common.{◌<◌, ℕ, Some, None, length, sym, ◌∙◌, arith}
use Rattle.std.proofs.lemmas.Bool.{false≢true}
use Rattle.std.proofs.lemmas.Option.{slice_get_within}
use Rattle.hp_world.specs.Named.{IsNamedWithAt}
use Rattle.hp_world.proofs.PartAtLemmas.{likely_named}
use Rattle.hp_world.proofs.TurnLemmas.{turns_found, turns_none, turns_on, turns_past}
use Rattle.hp_world.proofs.world.World.next_by_turns.Goals as goal

pub is_at-requires-in-loop-parted-clause-place : goal.is_at-requires-in-loop-parted-clause-place
is_at-requires-in-loop-parted-clause-place c =
    let named = c.in_ok-other.ensures in
    slice_get_within c.args.self.now.now.places c.in_ok-other.other (Some named.1.atom) named.1.stands

pub overflow_add-named : goal.overflow_add-named
overflow_add-named c =
    let named = c.in_ok-other.ensures in
    let within : c.in_ok-other.other < length c.args.self.now.now.places =
    slice_get_within c.args.self.now.now.places c.in_ok-other.other (Some named.1.atom) named.1.stands in
    omega (arith, within, c.places-end.ensures)

pub returns-in_err-likely : goal.returns-in_err-likely
returns-in_err-likely c =
    let places = c.args.self.now.now.places in
    let Holds : ℕ → Type 0 = IsNamedWithAt c.args.cells.now c.args.name c.args.part c.args.argument places in
    rw c.from_residual.ensures (turns_none Holds (length places) c.args.from c.loop-parted.parted
    c.loop-parted.invariant.none_parted c.in_err-likely.ensures)

pub returns-then-is_at : goal.returns-then-is_at
returns-then-is_at c =
    let places = c.args.self.now.now.places in
    let Holds : ℕ → Type 0 = IsNamedWithAt c.args.cells.now c.args.name c.args.part c.args.argument places in
    turns_found Holds (length places) c.args.from c.loop-parted.parted c.loop-parted.invariant.none_parted
    c.loop-parted.invariant.on_parted c.in_ok-likely.likely c.in_ok-likely.ensures (c.is_at.ensures.0 c.if-is_at.true)

pub returns-in_err-other : goal.returns-in_err-other
returns-in_err-other c =
    let places = c.args.self.now.now.places in
    let Holds : ℕ → Type 0 = IsNamedWithAt c.args.cells.now c.args.name c.args.part c.args.argument places in
    rw c.from_residual-in_err-other.ensures (turns_none Holds (length places) c.args.from c.loop-parted.named
    c.loop-parted.invariant.none_named
    (likely_named c.args.cells.now c.args.name c.args.part c.args.argument c.loop-parted.named places None
    c.in_err-other.ensures))

pub returns-then-is_at-2 : goal.returns-then-is_at-2
returns-then-is_at-2 c =
    let places = c.args.self.now.now.places in
    let Holds : ℕ → Type 0 = IsNamedWithAt c.args.cells.now c.args.name c.args.part c.args.argument places in
    turns_found Holds (length places) c.args.from c.loop-parted.named c.loop-parted.invariant.none_named
    c.loop-parted.invariant.on_named c.in_ok-other.other
    (likely_named c.args.cells.now c.args.name c.args.part c.args.argument c.loop-parted.named places
    (Some c.in_ok-other.other) c.in_ok-other.ensures)
    (c.is_at-in-loop-parted.ensures.0 c.if-is_at-2.true)

pub loop-parted-preserved : goal.loop-parted-preserved
loop-parted-preserved c =
    let places = c.args.self.now.now.places in
    let Holds : ℕ → Type 0 = IsNamedWithAt c.args.cells.now c.args.name c.args.part c.args.argument places in
    let likely = c.in_ok-likely.ensures in
    let named = c.in_ok-other.ensures in
    record {
      on_parted = omega (arith, c.loop-parted.invariant.on_parted, likely.0);
      on_named = omega (arith, c.loop-parted.invariant.on_named, named.0);
      none_parted =
          turns_on Holds (length places) c.args.from c.loop-parted.parted c.loop-parted.invariant.none_parted
          c.in_ok-likely.likely likely (λ k. false≢true (sym c.if-is_at.false ∙ c.is_at.ensures.1 k));
      none_named =
          turns_on Holds (length places) c.args.from c.loop-parted.named c.loop-parted.invariant.none_named
          c.in_ok-other.other
          (likely_named c.args.cells.now c.args.name c.args.part c.args.argument c.loop-parted.named places
          (Some c.in_ok-other.other) named)
          (λ k. false≢true (sym c.if-is_at-2.false ∙ c.is_at-in-loop-parted.ensures.1 k));
    }

pub returns : goal.returns
returns c =
    let places = c.args.self.now.now.places in
    let Holds : ℕ → Type 0 = IsNamedWithAt c.args.cells.now c.args.name c.args.part c.args.argument places in
    turns_past Holds (length places) c.args.from c.loop-parted.parted c.loop-parted.invariant.none_parted
    (omega (arith, c.loop-parted-test.false, c.places-end.ensures))
    (λ i k. slice_get_within places i (Some k.named.atom) k.named.stands)

pub loop-parted-preserved-then-lead-lt-LEAD : goal.loop-parted-preserved-then-lead-lt-LEAD
loop-parted-preserved-then-lead-lt-LEAD c =
    let places = c.args.self.now.now.places in
    let Holds : ℕ → Type 0 = IsNamedWithAt c.args.cells.now c.args.name c.args.part c.args.argument places in
    let likely = c.in_ok-likely.ensures in
    record {
      on_parted = omega (arith, c.loop-parted.invariant.on_parted, likely.0);
      on_named = c.loop-parted.invariant.on_named;
      none_parted =
          turns_on Holds (length places) c.args.from c.loop-parted.parted c.loop-parted.invariant.none_parted
          c.in_ok-likely.likely likely (λ k. false≢true (sym c.if-is_at.false ∙ c.is_at.ensures.1 k));
      none_named = c.loop-parted.invariant.none_named;
    }
