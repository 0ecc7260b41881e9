use Rattle.std.proofs.Common.{◌≤◌, ◌+◌, arith, length, map, subst}
use Rattle.hp_syntax.specs.declared.status.Status.TheVariants as status
use Rattle.hp_syntax.specs.GroundPatterns.{IsGroundPair}
use Rattle.hp_syntax.specs.Report.{behind, pair_header}
use Rattle.hp_syntax.specs.Views.{pair_of}
use Rattle.hp_top.specs.Engines.{told_of_pairs, told_pair}
use Rattle.hp_top.proofs.PairSteps.{IsLeft, all_left, from_pair, from_the_first, halts_in_all, held_at, less_left, next_pair, no_pair, none_left}
use Rattle.hp_top.proofs.pairs.tell_pairs.Goals as goal

pub loop-number-init : goal.loop-number-init
loop-number-init g c =
    let w = c.args.wanted in
    record {
      left = λ rules by.
          subst
          (λ x. IsLeft (told_of_pairs w rules (map pair_of c.args.pairs.now)) x
          status.Done (g.K.Sink.bytes c.args.out.now) (g.K.Sink.bytes c.args.out.now))
          (from_the_first (told_pair w rules) c.args.pairs.now)
          (all_left (told_of_pairs w rules (map pair_of c.args.pairs.now))
          (g.K.Sink.bytes c.args.out.now));
      later = omega arith;
    }

pub tell_numbered-requires-clause-pair : goal.tell_numbered-requires-clause-pair
tell_numbered-requires-clause-pair g c =
    held_at IsGroundPair c.args.pairs.now c.loop-number.number c.index-pairs-number.result c.loop-number-test.true
    c.index-pairs-number.is c.requires.pairs

-- the next pair is told, and the others are left
pub loop-number-preserved : goal.loop-number-preserved
loop-number-preserved g c =
    let w = c.args.wanted in
    let ps = c.args.pairs.now in
    let i = c.loop-number.number in
    let p = c.index-pairs-number.result in
    let before : g.K.Sink.faults c.args.out.now ≤ g.K.Sink.faults c.loop-number.out = c.loop-number.invariant.later in
    let after : g.K.Sink.faults c.loop-number.out ≤ g.K.Sink.faults c.tell_numbered.new.out =
    c.tell_numbered.ensures.later in
    record {
      left = λ rules by.
          let all = told_of_pairs w rules (map pair_of ps) in
          let one = behind (pair_header (i + 1) (length ps)) (told_pair w rules (pair_of p)) in
          let others = from_pair (told_pair w rules) ps (i + 1) in
          let next = next_pair (told_pair w rules) ps i p c.loop-number-test.true c.index-pairs-number.is in
          let it = c.in-Ok.ensures.told rules by in
          less_left all one others c.loop-number.status c.worse-status.result c.in-Ok.other
          (g.K.Sink.bytes c.args.out.now) (g.K.Sink.bytes c.loop-number.out) (g.K.Sink.bytes c.tell_numbered.new.out)
          (subst (λ x. IsLeft all x c.loop-number.status (g.K.Sink.bytes c.args.out.now)
          (g.K.Sink.bytes c.loop-number.out)) next (c.loop-number.invariant.left rules by))
          it.1 it.0 c.worse-status.ensures;
      later = omega arith;
    }

-- a stop of what is told of the next pair is one of all
pub returns-in-Err-clause-told : goal.returns-in-Err-clause-told
returns-in-Err-clause-told g c = λ rules by.
    let w = c.args.wanted in
    let ps = c.args.pairs.now in
    let i = c.loop-number.number in
    let p = c.index-pairs-number.result in
    let all = told_of_pairs w rules (map pair_of ps) in
    let one = behind (pair_header (i + 1) (length ps)) (told_pair w rules (pair_of p)) in
    let others = from_pair (told_pair w rules) ps (i + 1) in
    let next = next_pair (told_pair w rules) ps i p c.loop-number-test.true c.index-pairs-number.is in
    halts_in_all c.in-Err.halt all one others c.loop-number.status (g.K.Sink.faults c.args.out.now)
    (g.K.Sink.faults c.loop-number.out) (g.K.Sink.faults c.tell_numbered.new.out) (g.K.Sink.bytes c.args.out.now)
    (g.K.Sink.bytes c.loop-number.out) (g.K.Sink.bytes c.tell_numbered.new.out) c.loop-number.invariant.later
    (subst (λ x. IsLeft all x c.loop-number.status (g.K.Sink.bytes c.args.out.now)
    (g.K.Sink.bytes c.loop-number.out)) next (c.loop-number.invariant.left rules by))
    (c.in-Err.ensures.told rules by)

pub returns-in-Err-clause-later : goal.returns-in-Err-clause-later
returns-in-Err-clause-later g c =
    let before : g.K.Sink.faults c.args.out.now ≤ g.K.Sink.faults c.loop-number.out = c.loop-number.invariant.later in
    let after : g.K.Sink.faults c.loop-number.out ≤ g.K.Sink.faults c.tell_numbered.new.out =
    c.tell_numbered.ensures.later in
    omega arith

-- behind the last pair all was told
pub returns-clause-told : goal.returns-clause-told
returns-clause-told g c = λ rules by.
    let w = c.args.wanted in
    none_left (told_of_pairs w rules (map pair_of c.args.pairs.now))
    (from_pair (told_pair w rules) c.args.pairs.now c.loop-number.number) c.loop-number.status
    (g.K.Sink.faults c.args.out.now) (g.K.Sink.faults c.loop-number.out) (g.K.Sink.bytes c.args.out.now)
    (g.K.Sink.bytes c.loop-number.out) (no_pair (told_pair w rules) c.args.pairs.now c.loop-number.number
    c.loop-number-test.false)
    (c.loop-number.invariant.left rules by)

pub returns-clause-later : goal.returns-clause-later
returns-clause-later g c = c.loop-number.invariant.later
