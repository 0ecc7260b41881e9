use Rattle.std.proofs.Common.{◌≡◌, ◌<◌, ◌≤◌, length, sym, ◌∙◌, arith}
use Rattle.hp_syntax.specs.Text.{Closing, End, kind_at}
use Rattle.hp_syntax.proofs.TextLemmas.{kind_within}
use Rattle.hp_text.proofs.ByteLemmas.{closing_byte}
use Rattle.hp_text.proofs.Stepped.{closes_here, between_behind_closing, bracket_passed, bracket_comes}
use Rattle.hp_text.proofs.stepping.NodeReader.leave.Goals as goal
use Rattle.hp_text.proofs.stepping.NodeReader.leave.Goals.{else-at-self-via-then-at-self+else-self-at-eq41, else-at-self-via-else-at-self}

pub returns-then-self-at-eq41-clause-placed : goal.returns-then-self-at-eq41-clause-placed
returns-then-self-at-eq41-clause-placed c = record {
  clear = c.requires.clear;
  between =
      between_behind_closing c.args.self.now.bytes.now c.skip_gap-at.result c.if-at-self.true c.skip_gap-at.ensures.stop
      c.if-self-at-eq41.true;
}

pub returns-then-self-at-eq41-clause-leaves : goal.returns-then-self-at-eq41-clause-leaves
returns-then-self-at-eq41-clause-leaves c = λ _.
    bracket_passed Closing c.args.self.now.bytes.now c.args.self.now.at c.skip_gap-at.result c.skip_gap-at.ensures.gap
    (closes_here c.args.self.now.bytes.now c.skip_gap-at.result c.if-at-self.true c.skip_gap-at.ensures.stop
    c.if-self-at-eq41.true)

pub returns-clause-exact : goal.returns-clause-exact
returns-clause-exact c = λ to passes.
    let text = c.args.self.now.bytes.now in
    let i = c.skip_gap-at.result in
    let comes : kind_at text i ≡ Closing =
    bracket_comes Closing text c.args.self.now.at i to (λ e. cc) c.skip_gap-at.ensures.gap c.skip_gap-at.ensures.stop passes in
    let within : i < length text = kind_within text i (λ e. let x : Closing ≡ End = sym comes ∙ e in cc) in
    elim c.else-at-self.branch [
      | else-at-self-via-then-at-self+else-self-at-eq41 w ↦ absurd (w.if-self-at-eq41.false (closing_byte text i comes))
      | else-at-self-via-else-at-self w ↦ let behind : length text ≤ i = w.if-at-self.false in absurd (omega arith)
    ]
