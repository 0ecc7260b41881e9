-- The views of a shelf.
use Rattle.std.specs.Prelude.{ℕ, Bool, cond, List, Option, Some, None, option_map, is_some, bytes_eq, codes}
use Rattle.hp_io.specs.Inputs.{by_input}
use Rattle.hp_io.specs.declared.folder.Input.{Input}
use Rattle.hp_embedding.specs.declared.shelf.Shelf.{Shelf}

-- two texts by their names
abbrev pub texts : List ℕ → List ℕ → List ℕ → Option (List ℕ)
texts domain problem n =
    cond (bytes_eq n (codes "domain")) (Some domain) (cond (bytes_eq n (codes "problem")) (Some problem) None)

abbrev pub text_named : Shelf → List ℕ → Option (List ℕ)
text_named s n = texts s.domain.now s.problem.now n

-- the bytes of a begun input that are left to read
abbrev pub left_of : Shelf → Input → Option (List ℕ)
left_of s which =
    by_input which (option_map (λ t. t.now) s.domain_left) (option_map (λ t. t.now) s.problem_left)
    (option_map (λ t. t.now) s.plan_left)

-- whether an input was begun
abbrev pub is_begun : Shelf → Input → Bool
is_begun s which = by_input which (is_some s.domain_left) (is_some s.problem_left) (is_some s.plan_left)
