-- The results of reading: a value whose view is the result of a step of the grammar, or its refusal.
use Rattle.std.specs.Prelude.{◌≡◌, List, ◌++◌, Option, Result, Ok, Err}
use Rattle.hp_syntax.specs.declared.pattern.Pat.{Pat}
use Rattle.hp_syntax.specs.declared.pattern.Tail.{Tail}
use Rattle.hp_syntax.specs.Steps.{Misform, Expected, Names, Parse}
use Rattle.hp_syntax.specs.Syntax.{Patterns}
use Rattle.hp_syntax.specs.Views.{patterns_of}
use Rattle.hp_syntax.specs.Grammar as grammar
use Rattle.hp_terms.specs.declared.refusal.FormRefusal.{FormRefusal}
use Rattle.hp_terms.specs.declared.refusal.FormRefusal.TheVariants as refusals
use Rattle.hp_terms.specs.declared.terms.Setting.{Setting}
use Rattle.hp_terms.specs.declared.terms.Setting.TheVariants as settings

-- a refusal is the one that is given; without memory nothing is known
abbrev pub Refuses : {Y : Type 0} → FormRefusal → Result Y Misform → Type 0
Refuses (refusals.Expected what span) r = r ≡ Err (Expected what span)
Refuses refusals.NoMemory r = Unit {0}

-- a result, as it is seen through a view, is what is given
abbrev pub Gives : {X Y : Type 0} → (X → Y) → Result X FormRefusal → Result Y Misform → Type 0
Gives view (Ok x) r = r ≡ Ok (view x)
Gives view (Err e) r = Refuses e r

-- the same of a step that goes from some names to others
abbrev pub Reads : {X Y : Type 0} → (X → Y) → Result X FormRefusal → Parse Y → Names → Names → Type 0
Reads view (Ok x) step before after = step before ≡ Ok (view x, after)
Reads view (Err e) step before after = Refuses e (step before)

-- parts that were added to a list, and their tail, are what a step gives
abbrev pub Adds : Result (Option Tail) FormRefusal → Parse (Patterns × Option Tail) → List Pat → List Pat
    → Names → Names → Type 0
Adds (Ok tail) step old new before after =
    (more : List Pat) × (new ≡ old ++ more) × (step before ≡ Ok ((patterns_of more, tail), after))
Adds (Err e) step old new before after = Refuses e (step before)

-- where a term stands
abbrev pub setting_of : Setting → grammar.Setting
setting_of settings.Rule = grammar.InRule
setting_of settings.Problem = grammar.InProblem
