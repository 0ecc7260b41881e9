-- The texts that are made.
use Rattle.std.specs.Prelude.{ℕ, zero, suc, ◌+◌, List, [], ◌++◌, codes, decimal}
use Rattle.hp_make.specs.Draws.{next, draw}

-- the domain of each problem: a truck that drives between places, and loads and unloads packages
abbrev pub domain_text : List ℕ
domain_text =
    codes "(defdomain transport (\n"
    ++ codes "(:operator (!drive ?a ?b) ((truck ?a)) ((truck ?a)) ((truck ?b)) 2)\n"
    ++ codes "(:operator (!load ?p ?a) ((truck ?a) (at ?p ?a)) ((at ?p ?a)) ((in ?p)))\n"
    ++ codes "(:operator (!unload ?p ?a) ((truck ?a) (in ?p)) ((in ?p)) ((at ?p ?a)))\n"
    ++ codes "(:method (go ?b) here ((truck ?b)) () away ((truck ?a)) ((!drive ?a ?b)))\n"
    ++ codes "(:method (deliver ?p ?b) done ((at ?p ?b)) () move ((at ?p ?a)) ((go ?a) (!load"
    ++ codes " ?p ?a) (go ?b) (!unload ?p ?b)))\n"
    ++ codes "(:method (all) next ((goal ?p ?b) (not (at ?p ?b))) ((deliver ?p ?b) (all)) done () ())\n"
    ++ codes "))\n"

-- an atom of package i and place a, by what it begins with
abbrev pub atom_text : List ℕ → ℕ → ℕ → List ℕ
atom_text opening i a = opening ++ decimal i ++ codes " t" ++ decimal a ++ codes ")"

-- package i, which is at place a and is to be at place b
abbrev pub package_text : ℕ → ℕ → ℕ → List ℕ
package_text i a b = atom_text (codes " (at p") i a ++ atom_text (codes " (goal p") i b

-- n packages from number i on: from state s, the place of each is the next draw, and where it is to be the draw
-- after that
abbrev pub packages_text : ℕ → ℕ → ℕ → List ℕ
packages_text s i zero = []
packages_text s i (suc n) =
    package_text i (draw (next s)) (draw (next (next s))) ++ packages_text (next (next s)) (i + 1) n

-- the problem of a seed with n packages, on one line
abbrev pub problem_text : ℕ → ℕ → List ℕ
problem_text seed n =
    codes "(defproblem made transport ((truck t0)" ++ packages_text seed 0 n ++ codes ") ((all)))\n"
