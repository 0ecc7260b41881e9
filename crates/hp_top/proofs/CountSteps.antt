-- Rules that are counted by kind.
use Rattle.std.proofs.Common.{◌≡◌, ℕ, ◌+◌, ◌<◌, Bool, true, false, List, take, map, length, get_or, arith}
use Rattle.std.proofs.lemmas.Grind.{common_steps}
use Rattle.std.specs.List.{count_by}
use Rattle.hp_syntax.specs.Syntax as plain
use Rattle.hp_syntax.specs.Views.{rule_of}
use Rattle.hp_syntax.specs.declared.domain.Rule.{Rule}

-- one more rule that is counted is one more in the count
pub counted : (p : plain.Rule → Bool) (rules : List Rule) (i n : ℕ) (r s : Rule) → i < length rules
    → r ≡ get_or rules i r → r ≡ s → p (rule_of s) ≡ true → n ≡ count_by p (map rule_of (take i rules))
    → n + 1 ≡ count_by p (map rule_of (take (i + 1) rules))
counted p rules i n r s h here same kind so_far = grind (arith, common_steps)

-- one more rule that isn't counted leaves the count
pub passed : (p : plain.Rule → Bool) (rules : List Rule) (i n : ℕ) (r s : Rule) → i < length rules
    → r ≡ get_or rules i r → r ≡ s → p (rule_of s) ≡ false → n ≡ count_by p (map rule_of (take i rules))
    → n ≡ count_by p (map rule_of (take (i + 1) rules))
passed p rules i n r s h here same kind so_far = grind (arith, common_steps)
