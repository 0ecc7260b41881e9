-- Tables that are filled rule by rule.
use Rattle.std.proofs.Common.{◌≡◌, ℕ, ◌+◌, ◌<◌, ◌≤◌, true, false, cond, List, [], ◌∷◌, ◌++◌, length, drop, get_or, map, refl, ap, ap₂, sym, ◌∙◌}
use Rattle.std.proofs.lemmas.List.{append-nil, append_assoc, drop_all, drop_more}
use Rattle.hp_syntax.specs.declared.domain.Rule as public_rule
use Rattle.hp_syntax.specs.Views.{rule_of}
use Rattle.hp_laws.specs.RulesByName.{is_name}
use Rattle.hp_tables.specs.declared.Kind.{Kind}
use Rattle.hp_tables.specs.Tables.{name_as, places_of, with_place}

-- no rules have no places
none_placed : (kind : Kind) (name : List ℕ) (is : List ℕ) → places_of kind name is [] ≡ []
none_placed kind name [] = refl
none_placed kind name (i ∷ is) = refl

module _ (kind : Kind) (name : List ℕ) (is : List ℕ) (rules : List public_rule.Rule) (n : ℕ) (old whole : List ℕ)
    (so_far : whole ≡ old ++ places_of kind name (drop n is) (map rule_of (drop n rules))) where
  -- the place of the next rule goes behind those that are there, where the rule stands under the name
  pub place_more : (i d : ℕ) (r : public_rule.Rule) (new : List ℕ) → n < length is → i ≡ get_or is n d
      → n < length rules → r ≡ get_or rules n r → new ≡ with_place (is_name name (name_as kind (rule_of r))) i old
      → whole ≡ new ++ places_of kind name (drop (n + 1) is) (map rule_of (drop (n + 1) rules))
  place_more i d r new k at l is_there e =
      so_far
      ∙ (ap₂ (λ js rs. old ++ places_of kind name js (map rule_of rs))
      (drop_more is n d k ∙ ap (λ j. j ∷ drop (n + 1) is) (sym at))
      (drop_more rules n r l ∙ ap (λ q. q ∷ drop (n + 1) rules) (sym is_there))
      ∙ (elim (is_name name (name_as kind (rule_of r))) as
      (λ b. old ++ cond b (i ∷ left) left ≡ with_place b i old ++ left) [
        | true ↦ sym (append_assoc old (i ∷ []) left)
        | false ↦ refl
      ]
      ∙ ap (λ xs. xs ++ left) (sym e)))
    where
      left : List ℕ
      left = places_of kind name (drop (n + 1) is) (map rule_of (drop (n + 1) rules))

  -- where no rule is left, all places are there
  pub place_all : length rules ≤ n → old ≡ whole
  place_all l =
      sym (so_far
      ∙ (ap (λ rs. old ++ places_of kind name (drop n is) (map rule_of rs)) (drop_all n rules l)
      ∙ (ap (λ xs. old ++ xs) (none_placed kind name (drop n is)) ∙ append-nil old)))
