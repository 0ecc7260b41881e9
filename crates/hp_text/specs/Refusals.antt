-- The views of the reader's answers on a text.
use Rattle.std.specs.Prelude.{ℕ, List, Option, Some, None}
use Rattle.hp_syntax.specs.Refusal.{Refusal, IsRefused}
use Rattle.hp_text.specs.declared.scan.FirstRefusal.{FirstRefusal}
use Rattle.hp_text.specs.declared.forest.TextRefusal.{TextRefusal}
use Rattle.hp_text.specs.declared.forest.TextRefusal.TheVariants.{Bad, NoMemory}

-- the refusal that is found, where one is
abbrev pub plain_refusal : Option FirstRefusal → Option Refusal
plain_refusal None = None
plain_refusal (Some r) = Some (record { kind = r.kind; offset = r.offset })

-- the text is refused for what is told
abbrev pub TellsFirst : List ℕ → FirstRefusal → Type 0
TellsFirst text r = IsRefused text (record { kind = r.kind; offset = r.offset })

-- the text has this refusal, or there is too little memory for its forest
abbrev pub RefusesText : List ℕ → TextRefusal → Type 0
RefusesText text (Bad kind offset) = IsRefused text (record { kind = kind; offset = offset })
RefusesText text NoMemory = Unit {0}
