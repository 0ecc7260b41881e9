use Rattle.std.proofs.Common.{◌∙◌, sym, bytes_eq, codes}
use Rattle.hp_words.specs.PathWords.{pieces}
use Rattle.hp_words.specs.declared.paths.TheConstants.{MOST_NUMBERS}
use Rattle.hp_words.proofs.PieceLemmas.{word_of_numbers}
use Rattle.hp_words.proofs.paths.path.Goals as goal

pub numbers-requires : goal.numbers-requires
numbers-requires c =
    rw c.as_bytes.ensures.value
    (word_of_numbers (bytes_eq c.args.word.now (codes "-")) MOST_NUMBERS (pieces c.args.word.now)
    (sym c.eq.ensures ∙ c.if-eq.false) c.requires)
