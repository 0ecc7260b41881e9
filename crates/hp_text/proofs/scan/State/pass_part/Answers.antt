use Rattle.std.proofs.Common.{◌≡◌, ◌<◌, length, slice_index, sym, ◌∙◌, ap, arith}
use Rattle.hp_syntax.specs.declared.limits.TheConstants.{LARGEST_TEXT}
use Rattle.hp_syntax.specs.Text.{Opening, Closing, Bad, byte_kind, kind_at}
use Rattle.hp_text.proofs.scan.State.pass_part.Goals as goal
use Rattle.hp_syntax.proofs.TextLemmas.{name_kind}
use Rattle.hp_text.proofs.ByteLemmas.{unblank_byte, bad_byte}
use Rattle.hp_text.proofs.ScanSteps.{refusal_at-opening, refusal_at-closing, refusal_at-bad, refused_first, scanned_behind}

-- an opening bracket
pub returns-then-byte-eq40-clause-refused : goal.returns-then-byte-eq40-clause-refused
returns-then-byte-eq40-clause-refused c =
    let text = c.args.bytes.now in
    let i = c.args.self.now.at in
    let within : i < length text = omega arith in
    let small : i < LARGEST_TEXT = omega arith in
    let kind : kind_at text i ≡ Opening =
    unblank_byte text i within c.requires.stop ∙ ap byte_kind c.if-byte-eq40.true in
    refused_first text i c.open_bracket.result (omega arith) c.requires.scanned.clear
    (c.open_bracket.ensures.refused ∙ sym (refusal_at-opening text i _ small kind c.requires.scanned.brackets))

-- one more bracket is open
pub returns-then-byte-eq40-clause-scanned : goal.returns-then-byte-eq40-clause-scanned
returns-then-byte-eq40-clause-scanned c =
    let text = c.args.bytes.now in
    let i = c.args.self.now.at in
    let within : i < length text = omega arith in
    let small : i < LARGEST_TEXT = omega arith in
    let kind : kind_at text i ≡ Opening =
    unblank_byte text i within c.requires.stop ∙ ap byte_kind c.if-byte-eq40.true in
    scanned_behind text c.args.end c.args.self.now c.open_bracket.new.self c.open_bracket.result Opening
    c.requires.scanned c.requires.within c.requires.end kind (λ e. cc) (λ e. cc)
    (c.open_bracket.ensures.refused ∙ sym (refusal_at-opening text i _ small kind c.requires.scanned.brackets))
    c.open_bracket.ensures.brackets c.open_bracket.ensures.at

-- a closing bracket
pub returns-then-byte-eq41-clause-refused : goal.returns-then-byte-eq41-clause-refused
returns-then-byte-eq41-clause-refused c =
    let text = c.args.bytes.now in
    let i = c.args.self.now.at in
    let within : i < length text = omega arith in
    let small : i < LARGEST_TEXT = omega arith in
    let kind : kind_at text i ≡ Closing =
    unblank_byte text i within c.requires.stop ∙ ap byte_kind c.if-byte-eq41.true in
    refused_first text i c.close_bracket.result (omega arith) c.requires.scanned.clear
    (c.close_bracket.ensures.refused ∙ sym (refusal_at-closing text i _ small kind c.requires.scanned.brackets))

-- one bracket fewer is open
pub returns-then-byte-eq41-clause-scanned : goal.returns-then-byte-eq41-clause-scanned
returns-then-byte-eq41-clause-scanned c =
    let text = c.args.bytes.now in
    let i = c.args.self.now.at in
    let within : i < length text = omega arith in
    let small : i < LARGEST_TEXT = omega arith in
    let kind : kind_at text i ≡ Closing =
    unblank_byte text i within c.requires.stop ∙ ap byte_kind c.if-byte-eq41.true in
    scanned_behind text c.args.end c.args.self.now c.close_bracket.new.self c.close_bracket.result Closing
    c.requires.scanned c.requires.within c.requires.end kind (λ e. cc) (λ e. cc)
    (c.close_bracket.ensures.refused ∙ sym (refusal_at-closing text i _ small kind c.requires.scanned.brackets))
    c.close_bracket.ensures.brackets c.close_bracket.ensures.at

-- the first byte of a token
pub pass_token-requires-clause-byte : goal.pass_token-requires-clause-byte
pass_token-requires-clause-byte c =
    let text = c.args.bytes.now in
    let i = c.args.self.now.at in
    let within : i < length text = omega arith in
    unblank_byte text i within c.requires.stop
    ∙ name_kind (slice_index text i) (sym c.is_name_byte.ensures ∙ c.if-is_name_byte.true)

-- a bad byte
pub returns-clause-refused : goal.returns-clause-refused
returns-clause-refused c =
    let text = c.args.bytes.now in
    let i = c.args.self.now.at in
    let within : i < length text = omega arith in
    let small : i < LARGEST_TEXT = omega arith in
    let kind : kind_at text i ≡ Bad =
    bad_byte text i within c.requires.stop c.if-byte-eq40.false c.if-byte-eq41.false
    (sym c.is_name_byte.ensures ∙ c.if-is_name_byte.false) in
    refused_first text i c.refused.result (omega arith) c.requires.scanned.clear
    (c.refused.ensures ∙ sym (refusal_at-bad text i small kind))
