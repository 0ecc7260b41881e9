-- Problems that are made: their files, and what is told of their first plan.
use Rattle.std.specs.Prelude.{ℕ, cond, List, ◌++◌, Option, Some, None, bytes_eq, codes, decimal}
use Rattle.hp_make.specs.Texts.{domain_text, problem_text}
use Rattle.hp_syntax.specs.Syntax.{Problem}
use Rattle.hp_top.specs.CheckTexts.{atoms_written}
use Rattle.hp_words.specs.Command.{Command, make_command, Summing}

-- the files that are made: a domain, and a problem of a seed with so many packages
abbrev pub made_files : ℕ → ℕ → List ℕ → Option (List ℕ)
made_files seed packages name =
    cond (bytes_eq name (codes "domain")) (Some domain_text)
    (cond (bytes_eq name (codes "problem")) (Some (problem_text seed packages)) None)

-- the command that sums them up
abbrev pub made_command : ℕ → ℕ → Command
made_command seed packages = make_command (codes "domain") (codes "problem") (Summing seed packages)

-- the lines of a made problem: its seed and packages, and how many atoms its state has as they are written
unfoldable pub made_lines : ℕ → ℕ → Problem → List ℕ
made_lines seed packages p =
    codes "made seed " ++ decimal seed ++ codes " packages " ++ decimal packages
    ++ codes "\nstate atoms " ++ decimal (atoms_written p.pairs) ++ codes "\n"
