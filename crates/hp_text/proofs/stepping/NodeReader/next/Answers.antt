use Rattle.std.proofs.Common.{◌≡◌, ◌<◌, ◌≤◌, length, arith}
use Rattle.hp_syntax.specs.Text.{Closing, kind_at}
use Rattle.hp_text.proofs.ByteLemmas.{closing_byte}
use Rattle.hp_text.proofs.Stepped.{closes_here, node_comes}
use Rattle.hp_text.proofs.stepping.NodeReader.next.Goals as goal
use Rattle.hp_text.proofs.stepping.NodeReader.next.Goals.{then-at-self-via-then-at-self, then-at-self-via-else-at-self+then-self-at-eq41}

pub node-requires-clause-no_close : goal.node-requires-clause-no_close
node-requires-clause-no_close c = λ k.
    c.if-self-at-eq41.false (closing_byte c.args.self.now.bytes.now c.skip_gap-at.result k)

pub returns-then-at-self-clause-exact : goal.returns-then-at-self-clause-exact
returns-then-at-self-clause-exact c = λ n to passes.
    let text = c.args.self.now.bytes.now in
    let i = c.skip_gap-at.result in
    let stop = c.skip_gap-at.ensures.stop in
    let comes : (i < length text) × (kind_at text i ≡ Closing → ⊥) =
    node_comes text c.args.self.now.at i to n c.skip_gap-at.ensures.gap stop passes in
    elim c.then-at-self.branch [
      | then-at-self-via-then-at-self w ↦
          let within : i < length text = comes.0 in
          let behind : length text ≤ i = w.if-at-self.true in
          absurd (omega arith)
      | then-at-self-via-else-at-self+then-self-at-eq41 w ↦
          comes.1 (closes_here text i comes.0 stop w.if-self-at-eq41.true)
    ]
