-- What is found with more and more of the first parts of a conjunction.
use Rattle.std.proofs.Common.{◌≡◌, ◌≢◌, ℕ, ◌≤◌, min, List, ◌++◌, length, take, drop, Option, Some, None, refl, sym, ap, ◌∙◌}
use Rattle.std.proofs.lemmas.List.{take-append-drop, take-take, take_min}
use Rattle.hp_syntax.specs.Events.{Satisfied, State, axioms_of}
use Rattle.hp_choice.specs.FirstSatisfier.{first_sat}
use Rattle.hp_syntax.specs.Preconditions.{precondition_events}
use Rattle.hp_syntax.specs.Syntax as syntax
use Rattle.hp_syntax.specs.Values.{Bindings}
use Rattle.hp_syntax.specs.Views.{as_expressions}
use Rattle.hp_unmet.specs.Conjunctions.{Conjunction, first_events, first_values, found, or_unbound}
use Rattle.hp_unmet.proofs.FindingLemmas.{found_asking, found_with_more, found_with_none}

-- the first parts begin those of which there are more
split_at : {A : Type 0} (xs : List A) (j k : ℕ) → j ≤ k → take k xs ≡ take j xs ++ drop j (take k xs)
split_at xs j k l =
    sym (take-append-drop j (take k xs)) ∙ ap (λ ys. ys ++ drop j (take k xs)) (take-take j k xs l)

module _ (rules : List syntax.Rule) (nest : ℕ) (state : State) (c : Conjunction) where
  -- where some first parts aren't satisfied, the same is found with more of them
  pub keeps : (o : Option Bindings) (j k : ℕ) → j ≤ k → found rules nest state c o j ≢ Satisfied
      → found rules nest state c o k ≡ found rules nest state c o j
  keeps None j k l unmet = refl
  keeps (Some e) j k l unmet =
      let asking = found_asking (axioms_of rules) state c.span nest e in
      ap asking (split_at c.parts j k l)
      ∙ found_with_more (axioms_of rules) state c.span nest e (take j c.parts) (drop j (take k c.parts)) unmet

  -- where there are bindings, no part is satisfied
  pub none_where : (e : Bindings) → found rules nest state c (Some e) 0 ≡ Satisfied
  none_where e = found_with_none (axioms_of rules) state c.span nest e

  -- as many of the first parts as there are, at most so many, meet what so many do
  pub few_events : (o : Option Bindings) (n : ℕ)
      → first_events rules nest state c o (min n (length c.parts)) ≡ first_events rules nest state c o n
  few_events None n = refl
  few_events (Some e) n =
      ap
      (λ ps. precondition_events (axioms_of rules) nest state (syntax.Plain (syntax.And c.span (as_expressions ps))) e)
      (take_min n c.parts)

  -- and so they give the values that so many do
  pub few_values : (o : Option Bindings) (n : ℕ)
      → first_values rules nest state c o (min n (length c.parts)) ≡ first_values rules nest state c o n
  few_values o n = ap (λ xs. or_unbound (first_sat xs)) (few_events o n)
