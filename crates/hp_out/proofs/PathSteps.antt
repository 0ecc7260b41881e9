-- The texts of paths, of the parts that are put one behind the other.
use Rattle.std.proofs.Common.{◌≡◌, ℕ, ◌-◌, ◌≤◌, List, [], ◌∷◌, ◌++◌, Bool, true, false, cond, length, take, drop, get_or, codes, decimal, ap, sym, arith, append_assoc}
use Rattle.std.specs.List.{flat_map}
use Rattle.std.proofs.lemmas.Grind.{common_steps}
use Rattle.hp_syntax.specs.Report.{path_line, path_text}

-- a number of a path, behind a point
abbrev pub next_text : ℕ → List ℕ
next_text i = codes "." ++ decimal i

-- the numbers behind the first
abbrev pub others_text : List ℕ → List ℕ
others_text is = flat_map next_text is

-- the first number and then the others
pub path_parts : (path : List ℕ) (d : ℕ) → 1 ≤ length path
    → decimal (get_or path 0 d) ++ others_text (take (length path - 1) (drop 1 path)) ≡ path_text path
path_parts [] d h = absurd (omega arith)
path_parts (i ∷ is) d h =
    let same : take (length (i ∷ is) - 1) (drop 1 (i ∷ is)) ≡ is = grind (arith, common_steps) in
    ap (λ js. decimal i ++ others_text js) same

-- the word, the path and the end of its line
pub path_words : (path : List ℕ) → codes "path " ++ (path_text path ++ codes "\n") ≡ path_line path
unfolding path_line
path_words path = sym (append_assoc (codes "path ") (path_text path) (codes "\n"))

-- a line that isn't asked for is no text
pub not_asked : (asked : Bool) (line : List ℕ) → asked ≡ false → [] ≡ cond asked line []
not_asked asked line e = ap (λ b. cond b line []) (sym e)

-- a line that is asked for
pub is_asked : (asked : Bool) (line : List ℕ) → asked ≡ true → line ≡ cond asked line []
is_asked asked line e = ap (λ b. cond b line []) (sym e)
