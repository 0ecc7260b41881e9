-- Parts as a code of rules holds them: they are the parts, lowered, and mean the same.
use Rattle.std.proofs.Common.{◌≡◌, ℕ, Bool, true, List, [], ◌∷◌, length, map, take, Option, Some, None, refl, sym, ap, ap₂, ◌∙◌}
use Rattle.std.proofs.lemmas.List.{take-map}
use Rattle.hp_choice.specs.Asking.{asked_events, events_under, head_of}
use Rattle.hp_choice.specs.FirstSatisfier.{first_sat, first_that}
use Rattle.hp_code.specs.CodeViews.{CodeView, IsCodeOf, or_empty, rules_in}
use Rattle.hp_code.specs.Lowered.{all_lowered, lowered, lowered_axiom, lowered_precondition, lowered_rules}
use Rattle.hp_code.proofs.CodeLemmas.{code_reads}
use Rattle.hp_code.proofs.LoweredLemmas.{axioms_lowered, sat_same}
use Rattle.hp_nodes.specs.Compiled.{vars_of}
use Rattle.hp_syntax.specs.Events.{State, axioms_of, finding, sat}
use Rattle.hp_syntax.specs.Matching.{match_atom}
use Rattle.hp_syntax.specs.Preconditions.{precondition_events}
use Rattle.hp_syntax.specs.Syntax as syntax
use Rattle.hp_syntax.specs.Terms.{Term}
use Rattle.hp_syntax.specs.Values.{Bindings, unbound}
use Rattle.hp_syntax.specs.Views.{as_expressions}
use Rattle.hp_unmet.specs.Conjunctions.{Conjunction, body_of, conjuncts, first_events, found, listed, matched}
use Rattle.hp_unmet.proofs.FindingLemmas.{heard_finding, heard_first}

-- ---- parts

-- parts are lowered one by one
pub parts_lowered : (ps : List syntax.Expression) → all_lowered (as_expressions ps) ≡ as_expressions (map lowered ps)
unfolding lowered all_lowered
parts_lowered [] = refl
parts_lowered (p ∷ ps) = ap (λ es. syntax.Also (lowered p) es) (parts_lowered ps)

listed_lowered : (es : syntax.Expressions) → listed (all_lowered es) ≡ map lowered (listed es)
unfolding lowered all_lowered
listed_lowered syntax.NoExpression = refl
listed_lowered (syntax.Also e es) = ap (λ xs. lowered e ∷ xs) (listed_lowered es)

conjuncts_lowered : (e : syntax.Expression) → conjuncts (lowered e) ≡ map lowered (conjuncts e)
unfolding lowered all_lowered
conjuncts_lowered (syntax.Holds s a) = refl
conjuncts_lowered (syntax.And s es) = listed_lowered es
conjuncts_lowered (syntax.Or s es) = refl
conjuncts_lowered (syntax.Not s e) = refl
conjuncts_lowered (syntax.Forall s vs y z) = refl
conjuncts_lowered (syntax.Assign s v p) = refl
conjuncts_lowered (syntax.Test s p) = refl

-- the parts of a lowered precondition are the parts, lowered
pub asked_lowered : (pre : syntax.Precondition)
    → conjuncts (body_of (lowered_precondition pre)) ≡ map lowered (conjuncts (body_of pre))
asked_lowered (syntax.Plain e) = conjuncts_lowered e
asked_lowered (syntax.First e) = conjuncts_lowered e
asked_lowered (syntax.Sorted key e) = conjuncts_lowered e

-- ---- a code of rules

module _ (others : List syntax.Rule) (code : CodeView) (of : IsCodeOf others code) where
  -- a code of rules reads back as the rules, lowered
  pub rules_there : rules_in code ≡ lowered_rules others
  rules_there = ap or_empty (code_reads others code of)

  module _ (rules : List syntax.Rule) (axioms : axioms_of others ≡ axioms_of rules)
      (nest : ℕ) (state : State) (c : Conjunction) (n : ℕ) where
    -- its axioms are those of any rules that have the same ones, lowered
    axioms_there : axioms_of (rules_in code) ≡ map lowered_axiom (axioms_of rules)
    axioms_there = ap axioms_of rules_there ∙ (axioms_lowered others ∙ ap (map lowered_axiom) axioms)

    -- so many of the first parts, together, as the code holds them
    abbrev pub first_there : syntax.Expression
    first_there = syntax.And c.span (as_expressions (take n (map lowered c.parts)))

    abbrev first_own : syntax.Expression
    first_own = syntax.And c.span (as_expressions (take n c.parts))

    first_same : first_there ≡ lowered first_own
    unfolding lowered
    first_same =
        ap (syntax.And c.span) (ap as_expressions (take-map lowered n c.parts) ∙ sym (parts_lowered (take n c.parts)))

    sat_there : (e : Bindings) → sat (axioms_of (rules_in code)) nest state first_there e
        ≡ sat (axioms_of rules) nest state first_own e
    sat_there e =
        ap₂ (λ as' E. sat as' nest state E e) axioms_there first_same
        ∙ sat_same (axioms_of rules) nest state first_own e

    -- by the code the same is found with them as of the precondition
    pub under_there : (o : Option Bindings) → finding (events_under (rules_in code) nest state first_there o)
        ≡ found rules nest state c o n
    unfolding precondition_events
    under_there None = refl
    under_there (Some e) =
        ap finding (sat_there e) ∙ sym (heard_finding (sat (axioms_of rules) nest state first_own e))

    -- by the code the first satisfier of them that passes a test is that of the precondition
    pub first_under_there : (passes : Bindings → Bool) (o : Option Bindings)
        → first_that passes (events_under (rules_in code) nest state first_there o)
        ≡ first_that passes (first_events rules nest state c o n)
    unfolding precondition_events
    first_under_there passes None = refl
    first_under_there passes (Some e) =
        ap (first_that passes) (sat_there e)
        ∙ sym (heard_first passes (sat (axioms_of rules) nest state first_own e))

    -- so it is where the head of a rule, which is that of the parts, matches a task
    pub first_sat_there : (r : syntax.Rule) (t : Term) → head_of r ≡ c.head → vars_of r ≡ c.vars
        → first_sat (asked_events (rules_in code) nest state r first_there t)
        ≡ first_sat (first_events rules nest state c (matched c t) n)
    first_sat_there r t head vars =
        ap (λ o. first_sat (events_under (rules_in code) nest state first_there o))
        (ap₂ (λ h vs. match_atom h t (unbound (length vs))) head vars)
        ∙ first_under_there (λ e. true) (matched c t)
