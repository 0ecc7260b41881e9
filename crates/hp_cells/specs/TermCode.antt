-- Terms as ghost values: each is coded as the steps that build it.
use Rattle.std.specs.Prelude.{◌≡◌, ℕ, ℤ, Bool, true, false, List, [], ◌∷◌, ◌++◌, ◌⊎◌, refl}
use Rattle.std.specs.List.{fold}
use Rattle.std.specs.Coded.{Coded, code_by, coded_ℕ, coded_ℤ, coded_bool, coded_list, coded⊎}
use Rattle.std.proofs.Common.{◌∙◌, ap, inl, inr}
use Rattle.std.proofs.lemmas.List.Sums.{fold-append}
use Rattle.hp_syntax.specs.Terms.{Term, Terms, Symbol, Number, Listed, NoTerm, More}

-- a step puts a symbol, a number or the empty list on a stack, or takes a term and a list from it for the longer list
abbrev pub BuildStep : Type 0
BuildStep = List ℕ ⊎ (ℤ ⊎ Bool)

-- the steps that build a term
abbrev mutual
  pub steps : Term → List BuildStep
  steps (Symbol name) = inl name ∷ []
  steps (Number n) = inr (inl n) ∷ []
  steps (Listed ts) = list_steps ts

  pub list_steps : Terms → List BuildStep
  list_steps NoTerm = inr (inr false) ∷ []
  list_steps (More t ts) = steps t ++ list_steps ts ++ inr (inr true) ∷ []

-- the stack after a step
abbrev pub stacked : List Term → BuildStep → List Term
stacked stack (inl name) = Symbol name ∷ stack
stacked stack (inr (inl n)) = Number n ∷ stack
stacked stack (inr (inr false)) = Listed NoTerm ∷ stack
stacked (Listed ts ∷ t ∷ stack) (inr (inr true)) = Listed (More t ts) ∷ stack
stacked stack (inr (inr true)) = stack

-- the term on top of a stack
abbrev pub top : List Term → Term
top [] = Listed NoTerm
top (t ∷ stack) = t

-- the term that steps build
abbrev pub built : List BuildStep → Term
built xs = top (fold stacked [] xs)

-- the steps of a term put it on the stack
mutual
  pub fold-steps : (t : Term) (stack : List Term) → fold stacked stack (steps t) ≡ t ∷ stack
  fold-steps (Symbol name) stack = refl
  fold-steps (Number n) stack = refl
  fold-steps (Listed ts) stack = fold-list_steps ts stack

  -- the steps of a list put it on the stack
  pub fold-list_steps : (ts : Terms) (stack : List Term) → fold stacked stack (list_steps ts) ≡ Listed ts ∷ stack
  fold-list_steps NoTerm stack = refl
  fold-list_steps (More t ts) stack =
      fold-append stacked stack (steps t ++ list_steps ts) (inr (inr true) ∷ [])
      ∙ ap (λ s. stacked s (inr (inr true)))
      (fold-append stacked stack (steps t) (list_steps ts)
      ∙ ap (λ s. fold stacked s (list_steps ts)) (fold-steps t stack)
      ∙ fold-list_steps ts (t ∷ stack))

-- the steps of a term build it
pub built-steps : (t : Term) → built (steps t) ≡ t
built-steps t = ap top (fold-steps t [])

abbrev pub term_code : Coded Term
term_code =
    code_by (List BuildStep) (coded_list (coded⊎ (coded_list coded_ℕ) (coded⊎ coded_ℤ coded_bool))) steps built
    built-steps

abbrev pub terms_code : Coded (List Term)
terms_code = coded_list term_code
