-- The events of a goal by axioms.
use Rattle.std.proofs.Common.{◌≡◌, ℕ, zero, suc, ◌<◌, ◌≤◌, Bool, true, false, cond, List, [], ◌∷◌, ◌++◌, length, filter, Option, Some, None, option_map, Bor, refl, sym, ◌∙◌, ap, subst, arith}
use Rattle.std.specs.Prelude.{flat_map, Contains, bytes_eq}
use Rattle.std.proofs.lemmas.List.{length-map}
use Rattle.std.proofs.lemmas.List.Elements.{All-contains}
use Rattle.hp_syntax.specs.declared.limits.TheConstants.{MOST_VARIABLES}
use Rattle.hp_syntax.specs.Syntax.{Rule, Axiom, Concludes, Does, Refines}
use Rattle.hp_syntax.specs.Terms.{Term}
use Rattle.hp_syntax.specs.Values.{Bindings, unbound}
use Rattle.hp_syntax.specs.Goals.{Goal, start_goal}
use Rattle.hp_syntax.specs.Events.{Event, State, Below, through, state_events, branch_events, concluded, started_events, axiom_events, goal_events, axioms_of}
use Rattle.hp_syntax.specs.Views.{axiom_of}
use Rattle.hp_syntax.specs.declared.domain.Axiom as public_axiom
use Rattle.hp_eval.specs.Slotted.{Slotted, no_bindings, bindings_of}
use Rattle.hp_laws.specs.RulesByName.{concluding}
use Rattle.hp_answers.specs.RuleIndexes.{axiom_at, AreFew}
use Rattle.hp_laws.proofs.JoinLemmas.{contains_first, contains_later}
use Rattle.hp_syntax.specs.Preconditions.{heard}
use Rattle.hp_answers.specs.declared.answer.Answer.{Answer}
use Rattle.hp_answers.specs.AnswerViews.{answer_event, answer_events}
use Rattle.hp_laws.specs.HeardAlike.{AreHeardAlike}
use Rattle.hp_laws.proofs.HeardAlikeLemmas.{alike_empty}

-- ---- axioms

module _ (lower : Below) (q : Goal) (e : Bindings) where
  -- an axiom of another name meets nothing
  other_axiom : (x : Axiom) → bytes_eq x.head.name q.name ≡ false → axiom_events lower x q e ≡ []
  other_axiom x h = rw h refl

  -- the events of axioms, one after another
  abbrev joined_events : List Axiom → List Event
  joined_events axioms = flat_map (λ x. axiom_events lower x q e) axioms

  -- the axioms of the goal's name
  abbrev with_name : List Axiom → List Axiom
  with_name axioms = filter (λ x. bytes_eq x.head.name q.name) axioms

  -- axioms of other names meet nothing
  named_alone : (axioms : List Axiom) → joined_events axioms ≡ joined_events (with_name axioms)
  named_alone [] = refl
  named_alone (x ∷ xs) = by (bytes_eq x.head.name q.name) refl (named_alone xs)
    where
      by : (b : Bool) → bytes_eq x.head.name q.name ≡ b → joined_events xs ≡ joined_events (with_name xs)
          → joined_events (x ∷ xs) ≡ joined_events (with_name (x ∷ xs))
      by true h rest =
          ap (λ ys. axiom_events lower x q e ++ ys) rest
          ∙ sym (ap (λ b. joined_events (cond b (x ∷ with_name xs) (with_name xs))) h)
      by false h rest =
          ap (λ ys. ys ++ joined_events xs) (other_axiom x h)
          ∙ (rest ∙ sym (ap (λ b. joined_events (cond b (x ∷ with_name xs) (with_name xs))) h))

  -- a goal meets the atoms of the state, and then the axioms of its name
  pub goal_begins : (s : State) (rules : List Rule)
      → goal_events (axioms_of rules) lower s q e ≡ state_events s q e ++ joined_events (concluding q.name rules)
  goal_begins s rules = ap (λ xs. state_events s q e ++ xs) (named_alone (axioms_of rules))

-- an axiom at a place is one of the axioms
pub axiom_among : (rules : List Rule) (place : ℕ) (x : Axiom) → axiom_at rules place ≡ Some x
    → Contains (axioms_of rules) x
axiom_among [] place x h = absurd cc
axiom_among (Concludes y ∷ rs) zero x h =
    let same : y ≡ x = cc in subst (Contains (y ∷ axioms_of rs)) same (contains_first y (axioms_of rs))
axiom_among (Does o ∷ rs) zero x h = absurd cc
axiom_among (Refines m ∷ rs) zero x h = absurd cc
axiom_among (Concludes y ∷ rs) (suc i) x h = contains_later y x (axioms_of rs) (axiom_among rs i x h)
axiom_among (Does o ∷ rs) (suc i) x h = axiom_among rs i x h
axiom_among (Refines m ∷ rs) (suc i) x h = axiom_among rs i x h

-- slots of which none is bound are bindings of which none is
pub none_bound : (terms : List Term) (n : ℕ) → bindings_of terms (no_bindings n) ≡ unbound n
none_bound terms zero = refl
none_bound terms (suc n) = ap (λ os. None ∷ os) (none_bound terms n)

-- slots that are new bind none of so many variables
pub new_bind_none : (terms : List Term) (own : Slotted) (n many : ℕ) → own ≡ no_bindings n → n ≡ many
    → bindings_of terms own ≡ unbound many
new_bind_none terms own n many is e = ap (bindings_of terms) is ∙ (none_bound terms n ∙ ap unbound e)

-- ---- branches

module _ (terms : List Term) (found : List Answer) where
  -- where there are answers, there are events
  pub some_met : (xs : List Event) → AreHeardAlike (answer_events terms found) xs → 0 < length found → 0 < length xs
  some_met (x ∷ xs) h l = omega arith
  some_met [] h l =
      let none = ap length (alike_empty (answer_events terms found) h) in
      absurd (omega (arith, l, none, length-map found (answer_event terms)))

  -- where there are no answers, there are no events
  pub none_met : (xs : List Event) → AreHeardAlike (answer_events terms found) xs → found ≡ [] → length xs ≡ 0
  none_met xs h is = ap length (alike_empty xs (sym h ∙ ap (λ zs. heard (answer_events terms zs)) is))

-- ---- axioms that start

module _ (lower : Below) (q : Goal) (e : Bindings) (x : Axiom) where
  -- an axiom whose head doesn't start meets nothing
  pub axiom_unstarted : start_goal x.head q (unbound (length x.vars)) ≡ None → axiom_events lower x q e ≡ []
  axiom_unstarted h = ap (λ o. started_events lower x o q e) h

  -- one whose head starts meets what its branches conclude
  pub axiom_started : (b : Bindings) → start_goal x.head q (unbound (length x.vars)) ≡ Some b
      → through (branch_events lower x b) (λ d. concluded x.head d q e) ≡ axiom_events lower x q e
  axiom_started b h = sym (ap (λ o. started_events lower x o q e) h)

-- the public axiom of a place is that of the definition
pub placed_axiom : (o : Option Axiom) (r : Option (Bor public_axiom.Axiom)) (a : Bor public_axiom.Axiom)
    → option_map (λ b. axiom_of b.now) r ≡ o → r ≡ Some a → o ≡ Some (axiom_of a.now)
placed_axiom o r a h is = sym h ∙ ap (option_map (λ b. axiom_of b.now)) is

-- an axiom at a place has few variables where all have
pub few_at : (rules : List Rule) (place : ℕ) (x : Axiom) → AreFew (axioms_of rules) → axiom_at rules place ≡ Some x
    → length x.vars ≤ MOST_VARIABLES
few_at rules place x few h =
    All-contains (λ y. length y.vars ≤ MOST_VARIABLES) (axioms_of rules) x few (axiom_among rules place x h)
