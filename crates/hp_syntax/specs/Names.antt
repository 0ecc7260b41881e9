-- Kinds of names.
use Rattle.std.specs.Prelude.{ℕ, Bool, true, false, ◌||◌, ◌&&◌, not, ◌==◌, List, [], ◌∷◌, bytes_eq, codes}
use Rattle.std.specs.List.{list_any}

abbrev pub begins_with : ℕ → List ℕ → Bool
begins_with b [] = false
begins_with b (c ∷ cs) = c == b

abbrev pub has_more : List ℕ → Bool
has_more [] = false
has_more (c ∷ []) = false
has_more (c ∷ d ∷ cs) = true

-- a variable begins with `?` and has another byte
abbrev pub is_variable : List ℕ → Bool
is_variable name = begins_with 63 name && has_more name

abbrev pub reserved : List (List ℕ)
reserved =
    codes "." ∷ codes "nil" ∷ codes "and" ∷ codes "or" ∷ codes "not" ∷ codes "imply"
    ∷ codes "forall" ∷ codes "assign" ∷ codes "call" ∷ []

-- a plain name may name an atom: it begins with neither `?` nor `:` and has no meaning of its own
abbrev pub is_plain : List ℕ → Bool
is_plain name = not (begins_with 63 name || begins_with 58 name || list_any (bytes_eq name) reserved)

-- the name of a primitive task begins with `!`
abbrev pub is_primitive : List ℕ → Bool
is_primitive name = is_plain name && begins_with 33 name

abbrev pub is_compound : List ℕ → Bool
is_compound name = is_plain name && not (begins_with 33 name)

-- a branch may be named by a plain name, or by a word that begins an expression and is no call
abbrev pub is_branch_name : List ℕ → Bool
is_branch_name name =
    is_plain name
    || list_any (bytes_eq name)
    (codes "and" ∷ codes "or" ∷ codes "not" ∷ codes "imply" ∷ codes "forall" ∷ codes "assign" ∷ [])
