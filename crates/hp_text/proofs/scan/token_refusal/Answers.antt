use Rattle.std.proofs.Common.{◌+◌, ◌<◌, ◌≤◌, arith}
use Rattle.hp_syntax.specs.declared.limits.TheConstants.{LARGEST_TEXT, LONGEST_TOKEN}
use Rattle.hp_text.proofs.scan.token_refusal.Goals as goal
use Rattle.hp_text.proofs.scan.token_refusal.Goals.{else-to-longest-via-then-to-longest+else-end-longest, else-to-longest-via-else-to-longest}
use Rattle.hp_text.proofs.ScanSteps.{long_token_told, cut_token_clear, token_told}

-- the token is too long
pub returns-then-end-longest-clause-refused : goal.returns-then-end-longest-clause-refused
returns-then-end-longest-clause-refused c =
    let small : c.args.from + LONGEST_TOKEN < LARGEST_TEXT = omega arith in
    let long : c.args.from + LONGEST_TOKEN < c.args.to = omega arith in
    long_token_told c.args.bytes.now c.args.from c.args.to c.refused.result c.requires.token c.requires.within long
    small c.requires.clear c.refused.ensures

-- the token goes on behind what is looked at
pub returns-then-to-end-clause-clear : goal.returns-then-to-end-clause-clear
returns-then-to-end-clause-clear c =
    let cut : c.args.end < c.args.to = omega arith in
    let short : c.args.end ≤ c.args.from + LONGEST_TOKEN =
    elim c.else-to-longest.branch [
      | else-to-longest-via-then-to-longest+else-end-longest w ↦ omega arith
      | else-to-longest-via-else-to-longest w ↦ omega arith
    ] in
    let clear =
    cut_token_clear c.args.bytes.now c.args.from c.args.to c.args.end c.requires.token cut c.requires.small short
    c.requires.clear in
    λ i l m. clear i m

-- the token is looked at whole
pub returns-clause-refused : goal.returns-clause-refused
returns-clause-refused c =
    let small : c.args.to ≤ LARGEST_TEXT = omega arith in
    let short : c.args.to ≤ c.args.from + LONGEST_TOKEN =
    elim c.else-to-longest.branch [
      | else-to-longest-via-then-to-longest+else-end-longest w ↦ omega arith
      | else-to-longest-via-else-to-longest w ↦ omega arith
    ] in
    let told =
    token_told c.args.bytes.now c.args.from c.args.to c.args.end c.numeral_refusal.result c.requires.token
    c.requires.within small short c.requires.clear c.numeral_refusal.ensures in
    told.0

-- its spelling isn't refused
pub returns-clause-clear : goal.returns-clause-clear
returns-clause-clear c =
    let small : c.args.to ≤ LARGEST_TEXT = omega arith in
    let short : c.args.to ≤ c.args.from + LONGEST_TOKEN =
    elim c.else-to-longest.branch [
      | else-to-longest-via-then-to-longest+else-end-longest w ↦ omega arith
      | else-to-longest-via-else-to-longest w ↦ omega arith
    ] in
    let told =
    token_told c.args.bytes.now c.args.from c.args.to c.args.end c.numeral_refusal.result c.requires.token
    c.requires.within small short c.requires.clear c.numeral_refusal.ensures in
    told.1
