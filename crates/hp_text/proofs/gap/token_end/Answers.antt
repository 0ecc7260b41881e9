use Rattle.std.proofs.Common.{◌≡◌, ◌+◌, ◌<◌, ◌≤◌, false, true, length, slice_index, sym, ap, ◌∙◌, arith}
use Rattle.hp_syntax.specs.Text.{NameByte, is_name_byte, kind_at}
use Rattle.hp_text.proofs.gap.token_end.Goals as goal
use Rattle.hp_text.proofs.ByteLemmas.{name_byte}
use Rattle.hp_text.proofs.PlaceLemmas.{rest_byte, rest_length, token_begins, token_more, quiet_behind_name, token_ends, token_ends_there, between_tokens}

-- the first byte
pub loop-byte-init : goal.loop-byte-init
loop-byte-init c =
    let text = c.args.bytes.now in
    let from = c.args.from in
    let l : from < length text = c.requires.within in
    record {
      some = omega arith;
      within = omega arith;
      run = token_begins text from c.requires.byte;
      quiet = quiet_behind_name text from c.requires.byte;
    }

-- one more byte
pub loop-byte-preserved : goal.loop-byte-preserved
loop-byte-preserved c =
    let text = c.args.bytes.now in
    let i = c.loop-byte.end in
    let so_far = c.loop-byte.invariant in
    let next : i ≡ c.args.from + 1 + c.loop-byte.byte-index = so_far.some in
    let short : i < length text = omega (arith, rest_length text (c.args.from + 1)) in
    let byte : is_name_byte (slice_index text i) ≡ true =
    ap is_name_byte (sym (rest_byte text (c.args.from + 1) c.loop-byte.byte-index i next))
    ∙ sym c.is_name_byte.ensures ∙ c.if-not-is_name_byte.false in
    let kind : kind_at text i ≡ NameByte = name_byte text i short so_far.quiet byte in
    record {
      some = omega arith;
      within = omega arith;
      run = token_more text c.args.from i so_far.run kind;
      quiet = quiet_behind_name text i kind;
    }

-- the token ends before the text does
pub returns-then-not-is_name_byte-clause-token : goal.returns-then-not-is_name_byte-clause-token
returns-then-not-is_name_byte-clause-token c =
    let text = c.args.bytes.now in
    let i = c.loop-byte.end in
    let next : i ≡ c.args.from + 1 + c.loop-byte.byte-index = c.loop-byte.invariant.some in
    let byte : is_name_byte (slice_index text i) ≡ false =
    ap is_name_byte (sym (rest_byte text (c.args.from + 1) c.loop-byte.byte-index i next))
    ∙ sym c.is_name_byte.ensures ∙ c.if-not-is_name_byte.true in
    record {
      some = omega arith;
      run = c.loop-byte.invariant.run;
      begins = c.requires.outside;
      ends = token_ends text i byte;
    }

-- nothing goes on there
pub returns-then-not-is_name_byte-clause-place : goal.returns-then-not-is_name_byte-clause-place
returns-then-not-is_name_byte-clause-place c =
    let text = c.args.bytes.now in
    let i = c.loop-byte.end in
    let next : i ≡ c.args.from + 1 + c.loop-byte.byte-index = c.loop-byte.invariant.some in
    let byte : is_name_byte (slice_index text i) ≡ false =
    ap is_name_byte (sym (rest_byte text (c.args.from + 1) c.loop-byte.byte-index i next))
    ∙ sym c.is_name_byte.ensures ∙ c.if-not-is_name_byte.true in
    between_tokens text i c.loop-byte.invariant.within (token_ends text i byte) c.loop-byte.invariant.quiet

-- the token ends with the text
pub returns-clause-token : goal.returns-clause-token
returns-clause-token c =
    let text = c.args.bytes.now in
    let i = c.loop-byte.end in
    let next : i ≡ c.args.from + 1 + c.loop-byte.byte-index = c.loop-byte.invariant.some in
    let last : length text ≤ i = omega (arith, rest_length text (c.args.from + 1)) in
    record {
      some = omega arith;
      run = c.loop-byte.invariant.run;
      begins = c.requires.outside;
      ends = token_ends_there text i last;
    }

-- nothing goes on at the text's end
pub returns-clause-place : goal.returns-clause-place
returns-clause-place c =
    let text = c.args.bytes.now in
    let i = c.loop-byte.end in
    let next : i ≡ c.args.from + 1 + c.loop-byte.byte-index = c.loop-byte.invariant.some in
    let last : length text ≤ i = omega (arith, rest_length text (c.args.from + 1)) in
    between_tokens text i c.loop-byte.invariant.within (token_ends_there text i last) c.loop-byte.invariant.quiet
