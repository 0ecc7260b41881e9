use Rattle.std.proofs.Common.{◌≡◌, ◌<◌, true, false, length, slice_index, refl, sym, ◌∙◌, arith}
use Rattle.hp_syntax.specs.Text.{is_blank, in_comment}
use Rattle.hp_text.proofs.gap.skip_blanks.Goals as goal
use Rattle.hp_text.proofs.ByteLemmas.{blank_byte}
use Rattle.hp_text.proofs.PlaceLemmas.{gap_none, gap_more, between_blanks}

-- no blank is passed at first
pub loop-end-init : goal.loop-end-init
loop-end-init c = record { gap = gap_none c.args.bytes.now c.args.at c.args.at refl; place = c.requires }

-- one more blank
pub loop-end-preserved : goal.loop-end-preserved
loop-end-preserved c =
    let text = c.args.bytes.now in
    let i = c.loop-end.end in
    let short : i < length text = omega arith in
    let quiet : in_comment text i ≡ false = c.loop-end.invariant.place.quiet short in
    let blank : is_blank (slice_index text i) ≡ true = sym c.is_blank.ensures ∙ c.if-is_blank.true in
    record {
      gap = gap_more text c.args.at i c.loop-end.invariant.gap (blank_byte text i short quiet blank);
      place = between_blanks text i short quiet blank;
    }
