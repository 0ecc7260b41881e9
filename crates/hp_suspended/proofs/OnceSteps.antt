-- Nodes of expressions that give one event at most: what they meet is what the call meets that decides them.
use Rattle.std.proofs.Common.{◌≡◌, ℕ, ◌+◌, List, [], slice_get, Some, ap, sym, ◌∙◌, subst}
use Rattle.hp_syntax.specs.Syntax.{Atom, Pattern}
use Rattle.hp_syntax.specs.Terms.{Term}
use Rattle.hp_syntax.specs.Values.{Bindings, value}
use Rattle.hp_syntax.specs.Events as plain
use Rattle.hp_syntax.specs.Events.{finding, negated}
use Rattle.hp_code.specs.CodeViews.{IsCode}
use Rattle.hp_nodes.specs.Trees.{Holds, Laid, Not, Forall, Assign, Test}
use Rattle.hp_eval.specs.declared.event.Event as public_event
use Rattle.hp_eval.specs.declared.event.Event.TheVariants as events
use Rattle.hp_eval.specs.Events.{PlainEvent}
use Rattle.hp_eval.specs.Slotted.{Slotted, bindings_of}
use Rattle.hp_suspended.specs.declared.scene.Scene.{Scene}
use Rattle.hp_suspended.specs.Answering.{Gives, GivesOver}
use Rattle.hp_suspended.specs.Beginning.{GivesTerms}
use Rattle.hp_suspended.specs.Branching.{counters}
use Rattle.hp_suspended.specs.Fitting.{IsExpressionAt}
use Rattle.hp_suspended.specs.Left.{one_event}
use Rattle.hp_suspended.specs.SceneViews.{setting_of, code_in}
use Rattle.hp_suspended.specs.Settings.{Setting, atoms_at, axioms_in, node_events, state_in}
use Rattle.hp_suspended.proofs.NodeReadings.{not_met, forall_met, assign_met, test_met, holds_filled}

-- an event that is all of a list is the first of it, with none behind
one_gives : (x : public_event.Event) (b : Bindings) (xs : List PlainEvent) → xs ≡ one_event x b → Gives x b xs []
one_gives events.Sat b xs h = h
one_gives events.Cut b xs h = h
one_gives (events.Fault f) b xs h = ([], h)
one_gives events.End b xs h = h

module _ (s : Scene) (cells : List Term) (n i : ℕ) (e f : Slotted) (x : public_event.Event) where
  -- the event of the list of a node, with none behind
  abbrev pub GivesNode : Type 0
  GivesNode = GivesOver s cells f x (λ w. node_events w n i (bindings_of w.terms e)) (λ w. [])

  -- the event of a list that is the node's
  by_same : (met : Setting → List PlainEvent)
      → ((terms : List Term) → node_events (setting_of s terms) n i (bindings_of terms e) ≡ met (setting_of s terms))
      → GivesOver s cells f x met (λ w. []) → GivesNode
  by_same met same gives =
      λ terms h. subst (λ xs. Gives x (bindings_of terms f) xs []) (sym (same terms)) (gives terms h)

  -- the event that is all of the node's list
  by_terms : (met : List Term → List PlainEvent)
      → ((terms : List Term) → node_events (setting_of s terms) n i (bindings_of terms e) ≡ met terms)
      → GivesTerms cells f x met → GivesNode
  by_terms met same gives =
      λ terms h. one_gives x (bindings_of terms f) (node_events (setting_of s terms) n i (bindings_of terms e))
      (same terms ∙ gives terms h)

  module _ (code : IsCode (code_in s)) (is : IsExpressionAt (code_in s) i) (l : Laid)
      (there : slice_get (code_in s).nodes i ≡ Some l) where
    -- a negation gives what the negation of the node behind it does
    pub not_gives : l.op ≡ Not
        → GivesOver s cells f x
        (λ w. negated (finding (node_events w n (i + 1) (bindings_of w.terms e))) (bindings_of w.terms e)) (λ w. [])
        → GivesNode
    not_gives h gives =
        by_same (λ w. negated (finding (node_events w n (i + 1) (bindings_of w.terms e))) (bindings_of w.terms e))
        (λ terms. not_met (setting_of s terms) n i code is l there h (bindings_of terms e)) gives

    -- a `forall` gives what the negation of its counters does
    pub forall_gives : l.op ≡ Forall → (y : Laid) → slice_get (code_in s).nodes (i + 1) ≡ Some y
        → GivesOver s cells f x
        (λ w. negated (finding (counters w n y.to (node_events w n (i + 1) (bindings_of w.terms e))))
        (bindings_of w.terms e)) (λ w. [])
        → GivesNode
    forall_gives h y behind gives =
        by_same (λ w. negated (finding (counters w n y.to (node_events w n (i + 1) (bindings_of w.terms e))))
        (bindings_of w.terms e))
        (λ terms. (forall_met (setting_of s terms) n i code is l there h y behind).events (bindings_of terms e)) gives

    -- an assignment gives what its value does
    pub assign_gives : (v : ℕ) (p : Pattern) → l.op ≡ Assign v p
        → GivesTerms cells f x (λ terms. plain.assigned (value p (bindings_of terms e)) v (bindings_of terms e))
        → GivesNode
    assign_gives v p h gives =
        by_terms (λ terms. plain.assigned (value p (bindings_of terms e)) v (bindings_of terms e))
        (λ terms. assign_met (setting_of s terms) n i code is l there v p h (bindings_of terms e)) gives

    -- a test gives what its value does
    pub test_gives : (p : Pattern) → l.op ≡ Test p
        → GivesTerms cells f x (λ terms. plain.tested (value p (bindings_of terms e)) (bindings_of terms e))
        → GivesNode
    test_gives p h gives =
        by_terms (λ terms. plain.tested (value p (bindings_of terms e)) (bindings_of terms e))
        (λ terms. test_met (setting_of s terms) n i code is l there p h (bindings_of terms e)) gives

    -- an atom gives all that it meets
    pub holds_gives : (a : Atom) → l.op ≡ Holds a
        → GivesTerms cells f x
        (λ terms. atoms_at (axioms_in (setting_of s terms)) n (state_in (setting_of s terms)) a (bindings_of terms e))
        → GivesNode
    holds_gives a h gives =
        by_terms
        (λ terms. atoms_at (axioms_in (setting_of s terms)) n (state_in (setting_of s terms)) a (bindings_of terms e))
        (λ terms. holds_filled (setting_of s terms) n i code is l there a h (bindings_of terms e)) gives

    -- where the world holds an atom its negation gives nothing, and where it doesn't a Sat
    pub held_denied : (a : Atom) → l.op ≡ Holds a
        → GivesTerms cells e events.Sat
        (λ terms. atoms_at (axioms_in (setting_of s terms)) n (state_in (setting_of s terms)) a (bindings_of terms e))
        → GivesOver s cells e events.End
        (λ w. negated (finding (node_events w n i (bindings_of w.terms e))) (bindings_of w.terms e)) (λ w. [])
    held_denied a h gives =
        λ terms g. ap (λ xs. negated (finding xs) (bindings_of terms e))
        (holds_filled (setting_of s terms) n i code is l there a h (bindings_of terms e) ∙ gives terms g)

    pub missed_denied : (a : Atom) → l.op ≡ Holds a
        → GivesTerms cells e events.End
        (λ terms. atoms_at (axioms_in (setting_of s terms)) n (state_in (setting_of s terms)) a (bindings_of terms e))
        → GivesOver s cells e events.Sat
        (λ w. negated (finding (node_events w n i (bindings_of w.terms e))) (bindings_of w.terms e)) (λ w. [])
    missed_denied a h gives =
        λ terms g. ap (λ xs. negated (finding xs) (bindings_of terms e))
        (holds_filled (setting_of s terms) n i code is l there a h (bindings_of terms e) ∙ gives terms g)
