use Rattle.std.proofs.Common.{◌≡◌, Bool, List, [], ◌∷◌, ◌||◌, rules, tests, map, ap, refl, ◌∙◌, bytes_eq}
use Rattle.std.proofs.lemmas.Iterator.{YieldsList-from_slice}
use Rattle.std.proofs.lemmas.Iterator.Search.{any_from_yields_List}
use Rattle.std.specs.List.{list_any}
use Rattle.hp_lint.proofs.asking.is_one_of.Goals as goal

-- a test of some value of a list is a test of some value that its elements become
list_any-map : {X Y : Type 0} (f : X → Y) (p : Y → Bool) (xs : List X)
    → list_any (λ x. p (f x)) xs ≡ list_any p (map f xs)
list_any-map f p [] = refl
list_any-map f p (x ∷ xs) = ap (λ b. p (f x) || b) (list_any-map f p xs)

pub returns : goal.returns
returns c =
    any_from_yields_List (λ n. bytes_eq c.args.name.now n.now) _ _ c.any.result c.any.ensures.ran
    (YieldsList-from_slice c.args.names.now cc) (λ x b q k. search (rules, tests))
    ∙ list_any-map (λ n. n.now) (bytes_eq c.args.name.now) c.args.names.now
