-- The term that a ground term in memory stands for, variant by variant.
use Rattle.std.specs.Prelude.{◌≡◌, ℤ, List, [], ◌∷◌, map, Vec}
use Rattle.std.specs.Global.{Global}
use Rattle.std.proofs.Common.{ap, ◌∙◌}
use Rattle.hp_syntax.specs.declared.name.Name.{Name}
use Rattle.hp_syntax.specs.declared.pattern.Ground.{Ground, out-Ground}
use Rattle.hp_syntax.specs.declared.pattern.Ground.TheVariants as grounds
use Rattle.hp_syntax.specs.declared.pattern.Ground.TheVariants.{outs-Sym, outs-Num, outs-List}
use Rattle.hp_syntax.specs.declared.pattern.Ground.TheOpen.{Ground-F}
use Rattle.hp_syntax.specs.declared.pattern.Ground.TheOpen as open_grounds
use Rattle.hp_syntax.specs.declared.pattern.Ground.TheFolds.{fold-Ground, fold_out-Ground, map-Ground}
use Rattle.hp_syntax.specs.Terms as plain
use Rattle.hp_syntax.specs.Terms.{Term, Terms}

abbrev pub as_terms : List Term → Terms
as_terms [] = plain.NoTerm
as_terms (t ∷ ts) = plain.More t (as_terms ts)

abbrev pub ground_layer : Ground-F Term → Term
ground_layer (open_grounds.Sym name) = plain.Symbol name
ground_layer (open_grounds.Num n) = plain.Number n
ground_layer (open_grounds.List parts) = plain.Listed (as_terms parts.items)

-- the term that a ground term stands for
unfoldable pub ground_of : Ground → Term
ground_of = fold-Ground Term ground_layer

abbrev pub grounds_of : List Ground → Terms
grounds_of gs = as_terms (map ground_of gs)

ground_stands : Ground-F Ground → Term
ground_stands x = ground_layer (map-Ground Ground Term ground_of x)

by_ground : (g : Ground) (x : Ground-F Ground) → out-Ground g ≡ x → ground_of g ≡ ground_stands x
unfolding ground_stands ground_of
by_ground g x h = fold_out-Ground Term ground_layer g ∙ ap (λ y. ground_layer (map-Ground Ground Term ground_of y)) h

-- a symbol stands for itself
pub ground_of-sym : (name : Name) → ground_of (grounds.Sym name) ≡ plain.Symbol name
unfolding ground_stands
ground_of-sym name = by_ground (grounds.Sym name) _ (outs-Sym name)

-- a number stands for itself
pub ground_of-num : (n : ℤ) → ground_of (grounds.Num n) ≡ plain.Number n
unfolding ground_stands
ground_of-num n = by_ground (grounds.Num n) _ (outs-Num n)

-- a list stands for that of what its parts stand for
pub ground_of-list : (parts : Vec Ground Global)
    → ground_of (grounds.List parts) ≡ plain.Listed (grounds_of parts.items)
unfolding ground_stands
ground_of-list parts = by_ground (grounds.List parts) _ (outs-List parts)
