use Rattle.std.proofs.Common.{rules, ◌≡◌, ◌<◌, ◌≤◌, sym, ◌∙◌, ap, length, arith}
use Rattle.hp_syntax.specs.declared.limits.TheConstants.{LARGEST_TEXT}
use Rattle.hp_syntax.specs.declared.text.TextKind.TheVariants.{TooLarge}
use Rattle.hp_syntax.specs.Refusal.{refused, refusal_at}
use Rattle.hp_syntax.proofs.TextLemmas.{refusal_at-limit}
use Rattle.hp_text.specs.Refusals.{plain_refusal}
use Rattle.hp_text.proofs.scan.first_refusal.Goals as goal
use Rattle.hp_text.proofs.ScanSteps.{scan_begins, refused_first, clear_behind, refusal_at-last}

-- nothing is open before the first byte
pub loop-state-init : goal.loop-state-init
loop-state-init c =
    scan_begins c.args.bytes.now c.min-end.result c.new-state.result c.new-state.ensures.at
    c.new-state.ensures.brackets

-- the bytes that a step passes are scanned
pub loop-state-preserved : goal.loop-state-preserved
loop-state-preserved c = search rules

-- the text is too large
pub returns-then-end-bytes-clause-refused : goal.returns-then-end-bytes-clause-refused
returns-then-end-bytes-clause-refused c =
    let text = c.args.bytes.now in
    let i = c.loop-state.state.at in
    let most : i ≤ c.min-end.result = c.loop-state.invariant.within in
    let here : i ≡ c.min-end.result = omega arith in
    let limit : i ≡ LARGEST_TEXT = omega arith in
    let within : i < length text = omega arith in
    let same : plain_refusal c.refused.result ≡ refusal_at text i =
    c.refused.ensures ∙ ap (refused TooLarge) (sym here) ∙ sym (refusal_at-limit text i limit within) in
    refused_first text i c.refused.result (omega arith) c.loop-state.invariant.clear same

-- the refusal at the end
pub returns-clause-refused : goal.returns-clause-refused
returns-clause-refused c =
    let text = c.args.bytes.now in
    let i = c.loop-state.state.at in
    let most : i ≤ c.min-end.result = c.loop-state.invariant.within in
    let end : length text ≤ i = omega arith in
    let same : plain_refusal c.end_refusal.result ≡ refusal_at text i =
    c.end_refusal.ensures ∙ sym (refusal_at-last text i _ end c.loop-state.invariant.brackets) in
    refused_first text i c.end_refusal.result (omega arith) c.loop-state.invariant.clear same

-- nothing is refused at the end either
pub returns-clause-clear : goal.returns-clause-clear
returns-clause-clear c =
    let text = c.args.bytes.now in
    let i = c.loop-state.state.at in
    let most : i ≤ c.min-end.result = c.loop-state.invariant.within in
    let end : length text ≤ i = omega arith in
    let same : plain_refusal c.end_refusal.result ≡ refusal_at text i =
    c.end_refusal.ensures ∙ sym (refusal_at-last text i _ end c.loop-state.invariant.brackets) in
    let whole : i ≡ length text = omega arith in
    rw (← whole) (clear_behind text i c.end_refusal.result c.loop-state.invariant.clear same)
