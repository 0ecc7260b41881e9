-- The results of reading the terms of a plan file.
use Rattle.std.specs.Prelude.{◌≡◌, List, ◌++◌, Result, Ok, Err}
use Rattle.hp_syntax.specs.declared.pattern.Ground.{Ground}
use Rattle.hp_syntax.specs.GroundViews.{grounds_of}
use Rattle.hp_syntax.specs.Steps.{Misform}
use Rattle.hp_syntax.specs.Terms.{Terms}
use Rattle.hp_terms.specs.FormReads.{Refuses}
use Rattle.hp_terms.specs.declared.refusal.FormRefusal.{FormRefusal}

-- terms that were added to a list are what is given
abbrev pub Adds : Result (Unit {0}) FormRefusal → Result Terms Misform → List Ground → List Ground → Type 0
Adds (Ok done) r old new = (more : List Ground) × (new ≡ old ++ more) × (r ≡ Ok (grounds_of more))
Adds (Err e) r old new = Refuses e r
