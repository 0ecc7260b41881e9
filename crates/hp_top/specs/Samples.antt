-- A folder with the sample basic, and the words that plan it.
use Rattle.std.specs.Prelude.{ℕ, cond, List, [], ◌∷◌, Some, None, bytes_eq, codes}
use Rattle.hp_syntax.specs.Samples.{basic_text}
use Rattle.hp_top.specs.Outcome.{Files}

-- the domain `d` and a problem `p`
abbrev pub basic_files : List ℕ → Files
basic_files problem name =
    cond (bytes_eq name (codes "d")) (Some basic_text)
    (cond (bytes_eq name (codes "p")) (Some problem) None)

-- `plan d p K DEPTH`
abbrev pub plan_words : List ℕ → List ℕ → List (List ℕ)
plan_words k depth = codes "plan" ∷ codes "d" ∷ codes "p" ∷ k ∷ depth ∷ []
