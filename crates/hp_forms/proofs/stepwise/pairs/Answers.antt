use Rattle.std.proofs.Common.{◌≡◌, map, refl, ◌∙◌}
use Rattle.std.proofs.lemmas.List.{map-append}
use Rattle.std.proofs.lemmas.Option.{MatchOption-at_some}
use Rattle.hp_syntax.specs.Text.{Closing}
use Rattle.hp_syntax.specs.Views.{pair_of}
use Rattle.hp_text.specs.Stepping.{place_of, text_of}
use Rattle.hp_forms.specs.Stepwise.{PassesPair}
use Rattle.hp_forms.proofs.StepwiseSteps.{no_pairs, pair_more, pairs_read, bracket_in, less_left, pair_takes}
use Rattle.hp_forms.proofs.stepwise.pairs.Goals as goal

pub loop-pairs-init : goal.loop-pairs-init
loop-pairs-init c = record {
  placed = c.requires;
  text = refl;
  pairs =
      rw c.new-pairs.ensures.items
      (no_pairs (text_of c.args.reader.now) (place_of c.args.reader.now) c.args.scope.now.names.keys);
}

pub returns-then-leave-clause-pairs : goal.returns-then-leave-clause-pairs
returns-then-leave-clause-pairs c =
    let text = text_of c.args.reader.now in
    let place = place_of c.loop-pairs.reader in
    let behind = place_of c.pair.new.reader in
    let passes = MatchOption-at_some _ _ c.in-Some.next c.in-Some.is c.in_ok-next.ensures.pair in
    let own : PassesPair text place behind c.loop-pairs.scope.names.keys c.pair.new.scope.names.keys
    (pair_of c.in-Some.next) = rw (← c.loop-pairs.invariant.text) passes in (
      behind,
      λ end. rw (c.in_ok-push.ensures.items, map-append)
          (pairs_read text (place_of c.args.reader.now) place behind c.args.scope.now.names.keys
          c.loop-pairs.scope.names.keys c.pair.new.scope.names.keys (map pair_of c.loop-pairs.pairs.items)
          (pair_of c.in-Some.next) c.loop-pairs.invariant.pairs own end),
      bracket_in Closing text (text_of c.pair.new.reader) behind (place_of c.leave.new.self)
          (c.in_ok-next.ensures.text ∙ c.loop-pairs.invariant.text) (c.if-leave.ensures.leaves refl),
    )

pub loop-pairs-smaller : goal.loop-pairs-smaller
loop-pairs-smaller c =
    let text = text_of c.loop-pairs.reader in
    let place = place_of c.loop-pairs.reader in
    let behind = place_of c.pair.new.reader in
    let passes = MatchOption-at_some _ _ c.in-Some.next c.in-Some.is c.in_ok-next.ensures.pair in
    let same : place_of c.leave.new.self ≡ behind = c.leave.ensures.stays c.if-leave.false in
    less_left text (text_of c.leave.new.self) text place (place_of c.leave.new.self)
    (c.leave.ensures.text ∙ c.in_ok-next.ensures.text) refl
    (rw same (pair_takes text place behind c.loop-pairs.scope.names.keys c.pair.new.scope.names.keys
    (pair_of c.in-Some.next) passes)) c.leave.ensures.placed.between.within

pub loop-pairs-preserved : goal.loop-pairs-preserved
loop-pairs-preserved c =
    let text = text_of c.args.reader.now in
    let place = place_of c.loop-pairs.reader in
    let behind = place_of c.pair.new.reader in
    let passes = MatchOption-at_some _ _ c.in-Some.next c.in-Some.is c.in_ok-next.ensures.pair in
    let own : PassesPair text place behind c.loop-pairs.scope.names.keys c.pair.new.scope.names.keys
    (pair_of c.in-Some.next) = rw (← c.loop-pairs.invariant.text) passes in
    record {
      placed = c.leave.ensures.placed;
      text = c.leave.ensures.text ∙ (c.in_ok-next.ensures.text ∙ c.loop-pairs.invariant.text);
      pairs =
          rw (c.leave.ensures.stays c.if-leave.false, c.in_ok-push.ensures.items, map-append)
          (pair_more text (place_of c.args.reader.now) place behind c.args.scope.now.names.keys
          c.loop-pairs.scope.names.keys c.pair.new.scope.names.keys (map pair_of c.loop-pairs.pairs.items)
          (pair_of c.in-Some.next) c.loop-pairs.invariant.pairs own);
    }
