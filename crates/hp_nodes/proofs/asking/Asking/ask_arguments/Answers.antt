use Rattle.std.proofs.Common.{◌∙◌, refl, ap, ap₂}
use Rattle.hp_syntax.specs.Views.{pattern_of, patterns_of}
use Rattle.hp_nodes.specs.Asked.{all_variables, variables}
use Rattle.hp_nodes.specs.Marks.{marked}
use Rattle.hp_nodes.proofs.AskingLemmas.{argument_more, arguments_all}
use Rattle.hp_nodes.proofs.MarkLemmas.{all_marked, marked_one_more}
use Rattle.hp_nodes.proofs.asking.Asking.ask_arguments.Goals as goal

pub loop-number-preserved : goal.loop-number-preserved
unfolding all_variables
loop-number-preserved c =
    let i = c.loop-number.number in
    let argument = c.index-arguments-number in
    let before = c.loop-number.self in
    let after = c.ask_argument.new.self in
    let told = c.in_ok-ask_argument.ensures.known in
    let shown = ap (λ k. k.seen) told in
    let sure = ap (λ k. k.sure) told ∙ c.loop-number.invariant.sure in
    record {
      head = ap (λ k. k.head) told ∙ c.loop-number.invariant.head;
      sure = sure;
      seen =
          marked_one_more (λ ps. all_variables (patterns_of ps)) (λ p. variables (pattern_of p)) c.args.arguments.now
          i argument.result before.seen.items after.seen.items (λ p ps. refl) c.loop-number-test.true argument.is
          shown _ c.loop-number.invariant.seen;
      asked =
          rw c.may_serve_behind-may_serve.ensures
          (rw (ap marked c.as_slice.ensures.value ∙ sure)
          (argument_more c.args.arguments.now i argument.result (marked c.args.self.now.sure.items) before.seen.items
          before.asked.items after.seen.items after.asked.items c.loop-number-test.true argument.is shown
          c.loop-number.may_serve c.in_ok-ask_argument.ensures.asked _ c.loop-number.invariant.asked));
    }

pub returns-clause-known : goal.returns-clause-known
unfolding all_variables
returns-clause-known c =
    let after = c.loop-number.self in
    let seen = all_marked (λ ps. all_variables (patterns_of ps)) c.args.arguments.now c.loop-number.number
    after.seen.items _ c.loop-number-test.false refl c.loop-number.invariant.seen in
    ap (λ head. record { head = head; sure = marked after.sure.items; seen = marked after.seen.items })
    c.loop-number.invariant.head
    ∙ ap₂ (λ sure seen. record { head = marked c.args.self.now.head.items; sure = sure; seen = seen })
    c.loop-number.invariant.sure seen

pub returns-clause-asked : goal.returns-clause-asked
returns-clause-asked c =
    arguments_all c.args.arguments.now c.loop-number.number c.loop-number.may_serve _ _ c.loop-number.self.asked.items _
    c.loop-number-test.false c.loop-number.invariant.asked
