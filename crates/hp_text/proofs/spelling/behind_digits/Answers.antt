use Rattle.std.proofs.Common.{◌≡◌, ◌∙◌, ◌<◌, ◌+◌, true, take, length, sym, add-one, arith}
use Rattle.std.specs.List.{list_all}
use Rattle.std.proofs.lemmas.Bool.{ne_eqb}
use Rattle.std.proofs.lemmas.List.{take_all, take_rest}
use Rattle.hp_syntax.specs.Text.{is_digit}
use Rattle.hp_text.proofs.SpellingLemmas.{parts_of_digits, parts_at_point, no_decimal}
use Rattle.hp_text.proofs.spelling.behind_digits.Goals as goal

-- digits alone have no point
pub returns-then-end-bytes-clause-some : goal.returns-then-end-bytes-clause-some
returns-then-end-bytes-clause-some c =
    let bytes = c.args.bytes.now in
    let all : take c.args.end bytes ≡ bytes = take_all c.args.end bytes (omega arith) in
    let digits : list_all is_digit bytes ≡ true = rw all at c.requires.digits in
    let parts = parts_of_digits bytes digits in
    (sym parts.1, parts.0 ∙ sym all)

-- the point parts the digits from what is behind it
pub returns-then-bytes-end-eq46-clause-some : goal.returns-then-bytes-end-eq46-clause-some
returns-then-bytes-end-eq46-clause-some c =
    let bytes = c.args.bytes.now in
    let within : c.args.end < length bytes = omega arith in
    let parts = parts_at_point bytes c.args.end c.requires.digits within c.if-bytes-end-eq46.true in
    (take_rest bytes (c.args.end + 1) ∙ rw add-one (sym parts.1), parts.0)

-- another byte belongs to no decimal
pub returns-clause-none : goal.returns-clause-none
returns-clause-none c =
    let bytes = c.args.bytes.now in
    let within : c.args.end < length bytes = omega arith in
    no_decimal bytes c.args.end c.requires.digits within (c.requires.ends within)
    (ne_eqb _ 46 c.if-bytes-end-eq46.false)
