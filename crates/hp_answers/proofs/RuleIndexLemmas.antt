-- Rules by their names.
use Rattle.std.proofs.Common.{◌≡◌, ℕ, suc, ◌+◌, ◌<◌, ◌≤◌, true, false, cond, List, [], ◌∷◌, ◌++◌, length, drop, get_or, map, slice_get, Option, None, Some, option_map, Bor, inl, inr, refl, sym, ◌∙◌, ap, ap₂, arith}
use Rattle.std.specs.Prelude.{bytes_eq, MatchOption}
use Rattle.std.specs.List.{HoldsAt}
use Rattle.std.specs.Option.{option_and_then, option_copied}
use Rattle.std.proofs.lemmas.List.{append-nil, append_assoc, drop_all}
use Rattle.std.proofs.lemmas.Option.{none-some, slice_get_cases, slice_get_past, slice_get-get_or, slice_get-map}
use Rattle.hp_syntax.specs.declared.domain.Rule as public_rule
use Rattle.hp_syntax.specs.Views.{rule_of}
use Rattle.hp_eval.proofs.Loops.{left_more}
use Rattle.hp_syntax.specs.Syntax.{Rule, Does, Refines, Concludes}
use Rattle.hp_syntax.specs.Networks.{Task}
use Rattle.hp_syntax.specs.Events.{axiom_if}
use Rattle.hp_laws.proofs.ResultLemmas.{map_some}
use Rattle.hp_tables.specs.declared.Kind.{Kind}
use Rattle.hp_tables.specs.declared.Kind.TheVariants as kinds
use Rattle.hp_laws.specs.RulesByName.{concluding, relevant, is_name}
use Rattle.hp_answers.specs.RuleIndexes.{axiom_at, places_from}
use Rattle.hp_tables.specs.Tables.{name_as, with_place}

module _ (all : List Rule) (name : List ℕ) where
  -- rules from a place on
  abbrev IsRestFrom : ℕ → List Rule → Type 0
  IsRestFrom i rs = (k : ℕ) → slice_get all (i + k) ≡ slice_get rs k

  rest_after : (i : ℕ) (r : Rule) (rs : List Rule) → IsRestFrom i (r ∷ rs) → IsRestFrom (i + 1) rs
  rest_after i r rs h k = ap (slice_get all) (omega arith) ∙ h (suc k)

  -- at the places under a name stand the axioms that conclude it
  pub places_conclude : (i : ℕ) (rs : List Rule) → IsRestFrom i rs
      → map (axiom_at all) (places_from kinds.Axiom name i rs) ≡ map Some (concluding name rs)
  places_conclude i [] h = refl
  places_conclude i (Does o ∷ rs) h = places_conclude (i + 1) rs (rest_after i (Does o) rs h)
  places_conclude i (Refines m ∷ rs) h = places_conclude (i + 1) rs (rest_after i (Refines m) rs h)
  places_conclude i (Concludes x ∷ rs) h =
      let later = places_conclude (i + 1) rs (rest_after i (Concludes x) rs h) in
      let here : axiom_at all i ≡ Some x = ap (option_and_then axiom_if) (ap (slice_get all) (omega arith) ∙ h 0) in
      elim (bytes_eq x.head.name name) as
      (λ b. map (axiom_at all)
      (cond b (i ∷ places_from kinds.Axiom name (i + 1) rs) (places_from kinds.Axiom name (i + 1) rs))
      ≡ map Some (cond b (x ∷ concluding name rs) (concluding name rs))) [
        | true ↦ ap₂ ◌∷◌ here later
        | false ↦ later
      ]

  -- at the places of operators and methods under a name stand those that are relevant to its tasks
  pub places_relevant : (i : ℕ) (rs : List Rule) → IsRestFrom i rs
      → map (slice_get all) (places_from kinds.Task name i rs) ≡ map Some (relevant (Some name) rs)
  places_relevant i [] h = refl
  places_relevant i (r ∷ rs) h =
      let later = places_relevant (i + 1) rs (rest_after i r rs h) in
      let here : slice_get all i ≡ Some r = ap (slice_get all) (omega arith) ∙ h 0 in
      elim (is_name name (name_as kinds.Task r)) as
      (λ b. map (slice_get all)
      (cond b (i ∷ places_from kinds.Task name (i + 1) rs) (places_from kinds.Task name (i + 1) rs))
      ≡ map Some (cond b (r ∷ relevant (Some name) rs) (relevant (Some name) rs))) [
        | true ↦ ap₂ ◌∷◌ here later
        | false ↦ later
      ]

-- at the places that all rules have under a name stand the axioms that conclude it
pub all_conclude : (all : List Rule) (name : List ℕ)
    → map (axiom_at all) (places_from kinds.Axiom name 0 all) ≡ map Some (concluding name all)
all_conclude all name = places_conclude all name 0 all (λ k. ap (slice_get all) (omega arith))

-- at the places that all rules have under a name stand those that are relevant to its tasks
pub all_relevant : (all : List Rule) (name : List ℕ)
    → map (slice_get all) (places_from kinds.Task name 0 all) ≡ map Some (relevant (Some name) all)
all_relevant all name = places_relevant all name 0 all (λ k. ap (slice_get all) (omega arith))

-- ---- places

-- looking up a place of a list gives the element there
pub looked_up : (xs : List ℕ) (i : ℕ) (r : Option (Bor ℕ))
    → MatchOption r (length xs ≤ i) (λ x. (i < length xs) × HoldsAt (λ y. x.now ≡ y) xs i)
    → option_copied r ≡ slice_get xs i
looked_up xs i None h = sym (slice_get_past xs i h)
looked_up xs i (Some x) h = ap Some (h.1 x.now) ∙ sym (slice_get-get_or xs i x.now h.0)

module _ (rules own : List Rule) (k : ℕ) (o : Option ℕ)
    (is : option_map (slice_get rules) o ≡ option_map Some (slice_get own k)) where
  -- the rule at a place among others is one of all
  pub rule_at_place : (place : ℕ) → o ≡ Some place
      → (r : Rule) × (slice_get own k ≡ Some r) × (slice_get rules place ≡ Some r)
  rule_at_place place e =
      let (r, there, same) =
      map_some Some (slice_get own k) (slice_get rules place) (sym is ∙ ap (option_map (slice_get rules)) e) in
      (r, there, sym same)

  -- where no place is, so many are not there
  pub no_place : o ≡ None → length own ≤ k
  no_place e =
      elim ((slice_get_cases own k).1) [
        | inl w ↦ absurd (let never : None ≡ Some (Some w.0) =
            sym (ap (option_map (slice_get rules)) e) ∙ (is ∙ ap (option_map Some) w.2) in none-some (Some w.0) never)
        | inr w ↦ w.0
      ]

-- ---- tables

module _ (kind : Kind) (name : List ℕ) (rules : List public_rule.Rule) (i : ℕ)
    (old whole : List ℕ) (so_far : whole ≡ old ++ places_from kind name i (map rule_of (drop i rules))) where
  -- the place of the next rule goes behind those that are there, where the rule stands under the name
  pub place_more : (r : public_rule.Rule) (new : List ℕ) → i < length rules → r ≡ get_or rules i r
      → new ≡ with_place (is_name name (name_as kind (rule_of r))) i old
      → whole ≡ new ++ places_from kind name (i + 1) (map rule_of (drop (i + 1) rules))
  place_more r new l is e =
      so_far
      ∙ (ap (λ rs. old ++ places_from kind name i (map rule_of rs)) (left_more rules i r l is)
      ∙ (elim (is_name name (name_as kind (rule_of r))) as
      (λ b. old ++ cond b (i ∷ left) left ≡ with_place b i old ++ left) [
        | true ↦ sym (append_assoc old (i ∷ []) left)
        | false ↦ refl
      ]
      ∙ ap (λ xs. xs ++ left) (sym e)))
    where
      left : List ℕ
      left = places_from kind name (i + 1) (map rule_of (drop (i + 1) rules))

  -- where no rule is left, all places are there
  pub place_all : length rules ≤ i → old ≡ whole
  place_all l =
      sym (so_far
      ∙ (ap (λ rs. old ++ places_from kind name i (map rule_of rs)) (drop_all i rules l) ∙ append-nil old))

-- a rule of the domain stands at its number
pub rule_there : {list items : List public_rule.Rule} {x r : public_rule.Rule} (i : ℕ) → list ≡ items
    → i < length list → x ≡ get_or list i x → x ≡ r → slice_get (map rule_of items) i ≡ Some (rule_of r)
rule_there {list = list} {x = x} i same l is e =
    ap (λ xs. slice_get (map rule_of xs) i) (sym same)
    ∙ (slice_get-map rule_of list i
    ∙ ap (option_map rule_of) (slice_get-get_or list i x l ∙ ap Some (sym is ∙ e)))

-- beyond the rules there is none
pub rule_missing : {list items : List public_rule.Rule} (i : ℕ) → list ≡ items → length list ≤ i
    → slice_get (map rule_of items) i ≡ None
rule_missing {list = list} i same l =
    ap (λ xs. slice_get (map rule_of xs) i) (sym same)
    ∙ (slice_get-map rule_of list i ∙ ap (option_map rule_of) (slice_get_past list i l))
