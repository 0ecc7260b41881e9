-- One tree more is passed in each turn.
use Rattle.std.proofs.Common.{◌≡◌, suc, ◌+◌, ◌-◌, ap, sym, ◌∙◌, arith}
use Rattle.hp_code.specs.Codes.{code_of}
use Rattle.hp_choice.specs.Asking as plain
use Rattle.hp_unmet.proofs.nodes.past.Goals as goal

pub loop-preserved : goal.loop-preserved
loop-preserved c =
    let nodes = (code_of c.args.code.now).nodes in
    let left = c.args.count - (c.loop.counter + 1) in
    let less = c.loop-test.true in
    let one_less : c.args.count - c.loop.counter ≡ suc left = omega (arith, less) in
    c.loop.invariant ∙ ap (plain.past nodes c.loop.next) one_less
    ∙ ap (λ i. plain.past nodes i left) (sym c.next_tree-next.ensures)
