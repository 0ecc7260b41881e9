use Rattle.std.proofs.Common.{rules, ◌≡◌, ◌<◌, ◌≤◌, length, slice_range, refl, sym, ap, ◌∙◌, w64, to_z-of_z}
use Rattle.hp_syntax.specs.declared.limits.TheConstants.{LARGEST_TEXT}
use Rattle.std.specs.Int.RustNames.{FitsSigned as SFits}
use Rattle.hp_syntax.specs.Text.{ANumber, spelling_of}
use Rattle.hp_text.specs.Spellings.{plain_spelling}
use Rattle.hp_text.proofs.NodeLemmas.{name_at, number_at}
use Rattle.hp_text.proofs.reader.word.Goals as goal
use Rattle.hp_text.proofs.PlaceLemmas.{name_within}
use Rattle.hp_text.proofs.Clear.{clear_is_short, token_is_spelled, no_other_spelling}

-- the token's first byte stands within the text
pub token_end-to-requires-clause-within : goal.token_end-to-requires-clause-within
token_end-to-requires-clause-within c = name_within c.args.bytes.now c.args.from c.requires.byte

-- a clear text isn't too large
pub overflow_cast-span : goal.overflow_cast-span
overflow_cast-span c =
    let short : length c.args.bytes.now ≤ LARGEST_TEXT = clear_is_short c.args.bytes.now c.requires.clear in
    let within : c.args.from < length c.args.bytes.now = name_within c.args.bytes.now c.args.from c.requires.byte in
    search rules

-- the token ends within the text
pub overflow_cast-span-2 : goal.overflow_cast-span-2
overflow_cast-span-2 c =
    let short : length c.args.bytes.now ≤ LARGEST_TEXT = clear_is_short c.args.bytes.now c.requires.clear in
    let within : c.token_end-to.result ≤ length c.args.bytes.now = c.token_end-to.ensures.place.within in
    search rules

-- a token of a clear text is a name or a number
pub unreachable-requires : goal.unreachable-requires
unreachable-requires c =
    no_other_spelling _ c.args.from c.spelling_of.result c.spelling_of.ensures
    (token_is_spelled c.args.bytes.now c.args.from c.token_end-to.result c.requires.clear
    c.token_end-to.ensures.token) c.in-NoNumber.is

-- a name is read
pub returns-in_ok-name-in-Name : goal.returns-in_ok-name-in-Name
returns-in_ok-name-in-Name c =
    let token = c.token_end-to.ensures in
    name_at c.args.bytes.now c.args.from c.token_end-to.result _ c.in_ok-name-in-Name.name refl refl refl token.token
    token.place c.in_ok-name-in-Name.ensures.same (sym c.spelling_of.ensures ∙ ap plain_spelling c.in-Name.is)

-- a number is read
pub returns-in-Number : goal.returns-in-Number
returns-in-Number c =
    let token = c.token_end-to.ensures in
    let fits : SFits w64 c.in-Number.n = search rules in
    let spells : spelling_of (slice_range c.args.bytes.now c.args.from c.token_end-to.result) ≡ ANumber c.in-Number.n =
    sym c.spelling_of.ensures ∙ ap plain_spelling c.in-Number.is in
    number_at c.args.bytes.now c.args.from c.token_end-to.result _ _ refl refl refl token.token token.place
    (rw (to_z-of_z fits) spells)
