-- Nodes that a text can spell: each name is a token that is no numeral, and each number is one of the language.
use Rattle.std.proofs.Common.{◌≡◌, ℕ, ◌<◌, ◌≤◌, true, ℤ, List, length}
use Rattle.std.specs.List.{list_all}
use Rattle.hp_syntax.specs.declared.limits.TheConstants.{LONGEST_TOKEN}
use Rattle.hp_syntax.specs.Text.{is_name_byte, AName, ANumber, spelling_of}
use Rattle.hp_syntax.specs.TermTexts.{num_text}
use Rattle.hp_syntax.specs.Forest.{Node, Word, Numeral, Group, Forest, Bare, Grow}

-- name bytes, not too many, that are no numeral
pub record IsName (text : List ℕ) : Type 0 where
  pub bytes : list_all is_name_byte text ≡ true
  pub some : 0 < length text
  pub short : length text ≤ LONGEST_TOKEN
  pub spells : spelling_of text ≡ AName

-- a number whose text spells it
pub record IsNumber (n : ℤ) : Type 0 where
  pub bytes : list_all is_name_byte (num_text n) ≡ true
  pub some : 0 < length (num_text n)
  pub short : length (num_text n) ≤ LONGEST_TOKEN
  pub spells : spelling_of (num_text n) ≡ ANumber n

abbrev mutual
  pub CanSpell : Node → Type 0
  CanSpell (Word s text) = IsName text
  CanSpell (Numeral s n) = IsNumber n
  CanSpell (Group s parts) = CanSpellAll parts

  pub CanSpellAll : Forest → Type 0
  CanSpellAll Bare = Unit {0}
  CanSpellAll (Grow n f) = CanSpell n × CanSpellAll f
