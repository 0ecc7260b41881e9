-- A head that matches a task, or doesn't.
use Rattle.std.proofs.Common.{◌≡◌, ℕ, zero, suc, Bool, true, false, length, List, ◌∷◌, Option, Some, None, IfSome, option_map, refl, sym, ◌∙◌, ap, ap₂}
use Rattle.std.proofs.lemmas.List.{length-replicate}
use Rattle.hp_syntax.specs.Matching.{match_atom}
use Rattle.hp_syntax.specs.Syntax.{Atom, Rule}
use Rattle.hp_syntax.specs.Terms.{Term}
use Rattle.hp_syntax.specs.Values.{Bindings, unbound}
use Rattle.hp_answers.specs.AnswerViews.{MeetsHead}
use Rattle.hp_nodes.specs.Compiled.{vars_of}
use Rattle.hp_code.specs.CodeViews.{CodeView, IsCode, beside, rule_nodes, rules_in, vars_at}
use Rattle.hp_code.proofs.CodeLemmas.{vars_found}
use Rattle.hp_eval.specs.GoalViews.{term_at}
use Rattle.hp_eval.specs.Slotted.{Slotted, AreBelow, Matched, bindings_of, no_bindings}
use Rattle.hp_eval.proofs.SlotLemmas.{binds_vars, match_failed, match_made}
use Rattle.hp_choice.specs.declared.starting.Conjuncts.{Conjuncts}
use Rattle.hp_choice.specs.Asking.{head_of}
use Rattle.hp_choice.specs.Starting.{IsBoundByTask}

-- free slots bind none of their variables
pub none_bound : (terms : List Term) (n : ℕ) → bindings_of terms (no_bindings n) ≡ unbound n
none_bound terms zero = refl
none_bound terms (suc n) = ap (λ os. None ∷ os) (none_bound terms n)

module _ (terms : List Term) (head : Atom) (cell vars : ℕ) (slots new : Slotted) (does : Bool)
    (free : slots ≡ no_bindings vars)
    (told : Matched does (match_atom head (term_at terms cell) (bindings_of terms slots)) terms slots new) where
  from_free : match_atom head (term_at terms cell) (unbound vars)
      ≡ match_atom head (term_at terms cell) (bindings_of terms slots)
  from_free = ap (match_atom head (term_at terms cell)) (sym (ap (bindings_of terms) free ∙ none_bound terms vars))

  -- a head that isn't matched from free slots matches under no bindings
  pub head_missed : does ≡ false → match_atom head (term_at terms cell) (unbound vars) ≡ None
  head_missed e = from_free ∙ (match_failed does _ terms slots new e told).0

  -- a head that is matched from free slots is matched under these bindings
  pub head_met : does ≡ true → match_atom head (term_at terms cell) (unbound vars) ≡ Some (bindings_of terms new)
  head_met e = from_free ∙ (match_made does _ terms slots new e told).0

  -- the slots are as many
  pub head_vars : does ≡ true → length new.values ≡ vars
  head_vars e =
      binds_vars slots new (match_made does _ terms slots new e told).1
      ∙ (ap (λ s. length s.values) free ∙ length-replicate {A = Option ℕ} vars None)

-- ---- the head of a rule

-- the names of the variables of a rule, as the code holds them, are as many as its variables
pub as_many : (c : CodeView) → IsCode c → (i : ℕ) (r : Rule) → beside i (rule_nodes c) (rules_in c) ≡ Some r
    → (vars : List (List ℕ)) → vars ≡ vars_at c i → length vars ≡ length (vars_of r)
as_many c code i r found vars named = ap length (named ∙ vars_found c code i r found)

-- what the head of a rule matches is what it matches as the code holds the head and the names of the variables
pub rule_matches : (c : CodeView) → IsCode c → (i : ℕ) (r : Rule) → beside i (rule_nodes c) (rules_in c) ≡ Some r
    → (vars : List (List ℕ)) → vars ≡ vars_at c i → (head : Atom) → head ≡ head_of r → (said told : Term) → told ≡ said
    → match_atom (head_of r) said (unbound (length (vars_of r))) ≡ match_atom head told (unbound (length vars))
rule_matches c code i r found vars named head is said told same =
    let many = as_many c code i r found vars named in
    ap (λ x. match_atom (head_of r) x (unbound (length (vars_of r)))) (sym same)
    ∙ ap₂ (λ a k. match_atom a told (unbound k)) (sym is) (sym many)

-- slots that meet a head hold the bindings under which it matches, and cells alone
head_bound : (terms : List Term) (vars : ℕ) (o : Option Slotted) (found : Option Bindings) → MeetsHead terms vars o found
    → (found ≡ option_map (bindings_of terms) o) × IfSome o (AreBelow (length terms))
head_bound terms vars None found met = (met, tt)
head_bound terms vars (Some slots) found met = (met.0, met.2)

-- where they meet the head of the rule of parts, they are bound by the task
pub bound_by_head : (c : CodeView) → IsCode c → (x : Conjuncts) (said : Term) (terms : List Term) (vars : List (List ℕ))
    → vars ≡ vars_at c x.rule → (head : Atom)
    → ((r : Rule) → beside x.rule (rule_nodes c) (rules_in c) ≡ Some r → head ≡ head_of r) → (told : Term)
    → told ≡ said → (o : Option Slotted)
    → MeetsHead terms (length vars) o (match_atom head told (unbound (length vars))) → IsBoundByTask c x said terms o
bound_by_head c code x said terms vars named head is told same o met =
    λ r found.
    let bound = head_bound terms (length vars) o (match_atom head told (unbound (length vars))) met in
    record {
      are = rule_matches c code x.rule r found vars named head (is r found) said told same ∙ bound.0;
      below = bound.1;
    }
