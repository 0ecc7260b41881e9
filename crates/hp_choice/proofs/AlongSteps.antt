-- Parts of a conjunction that are satisfied one after another: the first event of each, and the others behind it.
use Rattle.std.proofs.Common.{◌≡◌, ℕ, zero, suc, ◌+◌, ◌<◌, ◌≤◌, Bool, true, false, cond, ◌⊎◌, inl, inr, List, [], ◌∷◌, length, slice_get, Option, Some, None, is_some, arith, refl, ap, sym, ◌∙◌, subst}
use Rattle.hp_syntax.specs.declared.fault.RunFault.{RunFault}
use Rattle.hp_syntax.specs.Syntax.{Expression, Expressions, NoExpression, Also}
use Rattle.hp_syntax.specs.Terms.{Term}
use Rattle.hp_syntax.specs.Values.{Bindings}
use Rattle.hp_syntax.specs.Views.{as_expressions}
use Rattle.hp_nodes.specs.Trees.{Laid}
use Rattle.hp_code.specs.CodeViews.{IsCode}
use Rattle.hp_code.specs.Sources.{expressions_read, made_of}
use Rattle.hp_eval.specs.declared.event.Event.{Event}
use Rattle.hp_eval.specs.declared.event.Event.TheVariants as events
use Rattle.hp_eval.specs.Events.{PlainEvent}
use Rattle.hp_eval.specs.Growth.{Grows}
use Rattle.hp_eval.specs.Slotted.{Slotted, bindings_of}
use Rattle.hp_eval.proofs.GrowthLemmas.{grows_self, kept_agree}
use Rattle.hp_eval.proofs.SlotLemmas.{undone_none}
use Rattle.hp_world.specs.Stages.{AllBelow, live_atoms}
use Rattle.hp_suspended.specs.declared.scene.Scene.{Scene}
use Rattle.hp_suspended.specs.declared.suspended.Suspended.TheVariants as variants
use Rattle.hp_suspended.specs.Answering.{Gives, GivesOver}
use Rattle.hp_suspended.specs.Fitting.{AreExpressionsIn, IsExpressionAt}
use Rattle.hp_suspended.specs.Left.{left}
use Rattle.hp_suspended.specs.Nodes.{expression_at, expressions_in}
use Rattle.hp_suspended.specs.SceneViews.{IsReady, code_in, setting_of}
use Rattle.hp_suspended.specs.Settings.{Setting, axioms_in, expression_events, node_events, state_in}
use Rattle.hp_suspended.specs.Views.{Fresh, View, view}
use Rattle.hp_suspended.proofs.CellsAgree.{node_agrees, state_agrees}
use Rattle.hp_suspended.proofs.NodeRanges.{node_in, range_ends}
use Rattle.hp_suspended.proofs.RangeLemmas.{first_expression}
use Rattle.hp_suspended.proofs.Shapes.{view_fresh}
use Rattle.hp_choice.specs.Asking.{GoesBy, along, along_by, next_tree, past}
use Rattle.hp_choice.proofs.AskingSteps.{left_before}

-- ---- the first event of a part

-- events of which a satisfier is given go by it
sat_goes : (b : Bindings) (old new : List PlainEvent) → Gives events.Sat b old new → GoesBy true b old
sat_goes b old new g = λ rest. ap (λ xs. along_by xs rest) g

-- those of which something else is given go by none
fault_goes : (f : RunFault) (b : Bindings) (old new : List PlainEvent) → Gives (events.Fault f) b old new
    → GoesBy false b old
fault_goes f b old new g = λ rest. ap (λ xs. along_by xs rest) g.1

cut_goes : (b : Bindings) (old new : List PlainEvent) → Gives events.Cut b old new → GoesBy false b old
cut_goes b old new g = λ rest. ap (λ xs. along_by xs rest) g

end_goes : (b : Bindings) (old new : List PlainEvent) → Gives events.End b old new → GoesBy false b old
end_goes b old new g = λ rest. ap (λ xs. along_by xs rest) g

-- what all events of a node look like, under the bindings that stand
abbrev pub fresh_view : ℕ → ℕ → Slotted → View
fresh_view nest k e = Fresh (length e.trail) nest k

-- so looks what begins at the mark of the bindings that stand
pub fresh_is : (mark nest k : ℕ) (e : Slotted) → mark ≡ length e.trail
    → view (variants.Fresh mark nest k) ≡ fresh_view nest k e
fresh_is mark nest k e is = view_fresh mark nest k ∙ ap (λ m. Fresh m nest k) is

module _ (s : Scene) (c d : List Term) (nest k : ℕ) (e f : Slotted) (part : IsExpressionAt (code_in s) k)
    (ready : IsReady s c e) (grown : Grows c d) (v u : View) (fresh : v ≡ fresh_view nest k e) (x : Event)
    (gives : GivesOver s d f x (λ w. left w e v) (λ w. left w f u)) where
  abbrev before : List PlainEvent
  before = node_events (setting_of s c) nest k (bindings_of c e)

  abbrev after : List PlainEvent
  after = left (setting_of s d) f u

  -- over more cells all events of the node are left
  all_left : left (setting_of s d) e v ≡ before
  all_left =
      ap (left (setting_of s d) e) fresh
      ∙ sym (left_before s c d e (fresh_view nest k e) ready (refl, part) grown)
      ∙ ap (λ y. node_events (setting_of s c) nest k (bindings_of c y)) (undone_none e)

  -- an event that is given is the first of them
  given : (y : Event) → x ≡ y → Gives y (bindings_of d f) before after
  given y is =
      subst (λ xs. Gives y (bindings_of d f) xs after) all_left
      (subst (λ z. Gives z (bindings_of d f) (left (setting_of s d) e v) after) is (gives d (grows_self d)))

  -- a satisfier is gone by
  pub goes_sat : x ≡ events.Sat → GoesBy true (bindings_of d f) before
  goes_sat is = sat_goes (bindings_of d f) before after (given events.Sat is)

  -- nothing else is
  pub goes_none : (((fault : RunFault) × (x ≡ events.Fault fault)) ⊎ (x ≡ events.Cut) ⊎ (x ≡ events.End))
      → GoesBy false (bindings_of d f) before
  goes_none (inl h) = fault_goes h.0 (bindings_of d f) before after (given (events.Fault h.0) h.1)
  goes_none (inr (inl is)) = cut_goes (bindings_of d f) before after (given events.Cut is)
  goes_none (inr (inr is)) = end_goes (bindings_of d f) before after (given events.End is)

-- ---- the parts between two indices

-- the list of expressions
abbrev listed : Expressions → List Expression
listed NoExpression = []
listed (Also p ps) = p ∷ listed ps

-- that of the expressions that a list is written as is this list
listed_as : (ps : List Expression) → listed (as_expressions ps) ≡ ps
listed_as [] = refl
listed_as (p ∷ ps) = ap (λ qs. p ∷ qs) (listed_as ps)

module _ (w : Setting) (n : ℕ) where
  -- how many of the first parts are satisfied one after another, if they are there
  abbrev along_in : Option Expressions → Bindings → ℕ
  along_in None = λ e. 0
  along_in (Some ps) = along (axioms_in w) n (state_in w) (listed ps)

  -- those that are made of a first part and others go on behind a satisfier of the first
  along_made : (x : Option Expression) (y : Option Expressions) (e : Bindings) → is_some (made_of Also x y) ≡ true
      → along_in (made_of Also x y) e ≡ along_by (expression_events w n x e) (along_in y)
  along_made None y e h = absurd cc
  along_made (Some p) None e h = absurd cc
  along_made (Some p) (Some ps) e h = refl

  -- how many of the first expressions between two indices are satisfied one after another
  abbrev pub along_between : ℕ → ℕ → Bindings → ℕ
  along_between k end = along_in (expressions_in w.code k end)

  module _ (k end : ℕ) where
    -- they are as many as of the parts that the nodes read back as
    pub along_parts : (ps : List Expression) → expressions_in w.code k end ≡ Some (as_expressions ps) → (e : Bindings)
        → along_between k end e ≡ along (axioms_in w) n (state_in w) ps e
    along_parts ps is e =
        ap (λ o. along_in o e) is ∙ ap (λ qs. along (axioms_in w) n (state_in w) qs e) (listed_as ps)

    module _ (code : IsCode w.code) (range : AreExpressionsIn w.code k end) where
      -- where there is no expression none is satisfied
      pub along_ended : end ≤ k → (e : Bindings) → along_between k end e ≡ 0
      unfolding expressions_in expressions_read
      along_ended over e =
          ap (λ ts. along_in (expressions_read ts) e) (range_ends w.code.nodes k end range.whole over)

      -- otherwise it goes on behind a satisfier of the first node's expression
      pub along_first : k < end → (l : Laid) → slice_get w.code.nodes k ≡ Some l → (e : Bindings)
          → along_between k end e ≡ along_by (node_events w n k e) (along_between l.to end)
      unfolding node_events
      along_first less l there e =
          let b = first_expression w n k end code range less l there in
          let read = sym (ap is_some b.parts) ∙ range.read in
          ap (λ o. along_in o e) b.parts
          ∙ along_made (expression_at w.code k) (expressions_in w.code l.to end) e read

-- ---- the first part, whose events are told over cells that were added

module _ (s : Scene) (c d : List Term) (atoms : AllBelow (length c) (live_atoms s.world.now.places)) (grown : Grows c d)
    (code : IsCode (code_in s)) (nest k end : ℕ) (range : AreExpressionsIn (code_in s) k end) (less : k < end) where
  -- the first node between the indices is one of an expression
  pub first_part : IsExpressionAt (code_in s) k
  first_part =
      let n = node_in (code_in s).nodes k end range.within less in
      (first_expression (setting_of s c) nest k end code range less n.0 n.1).first

  module _ (l : Laid) (there : slice_get (code_in s).nodes k ≡ Some l) (b after : Bindings) (first : Bool)
      (goes : GoesBy first after (node_events (setting_of s d) nest k b)) where
    -- by its first event it goes on behind the part, or not
    part_goes : along_between (setting_of s c) nest k end b
        ≡ cond first (suc (along_between (setting_of s c) nest l.to end after)) 0
    part_goes =
        let w = setting_of s c in
        let state = state_agrees w d (length c) (kept_agree c d grown (length c) (omega arith)) atoms in
        along_first w nest k end code range less l there b
        ∙ ap (λ xs. along_by xs (along_between w nest l.to end)) (node_agrees w d state nest k b)
        ∙ goes (along_between w nest l.to end)

    -- where the part is satisfied it is one before the others
    pub part_satisfied : first ≡ true
        → along_between (setting_of s c) nest k end b ≡ 1 + along_between (setting_of s c) nest l.to end after
    part_satisfied is =
        let n = along_between (setting_of s c) nest l.to end after in
        let more : suc n ≡ 1 + n = omega arith in
        part_goes ∙ ap (λ x. cond x (suc n) 0) is ∙ more

  -- where the part isn't satisfied none is
  pub part_unsatisfied : (b after : Bindings) (first : Bool)
      → GoesBy first after (node_events (setting_of s d) nest k b) → first ≡ false
      → along_between (setting_of s c) nest k end b ≡ 0
  part_unsatisfied b after first goes is =
      let n = node_in (code_in s).nodes k end range.within less in
      part_goes n.0 n.1 b after first goes
      ∙ ap (λ x. cond x (suc (along_between (setting_of s c) nest n.0.to end after)) 0) is

-- ---- the index behind parts

-- past one tree more stands the end of the node's tree that stands past the others
pub past_one : (nodes : List Laid) (i n j : ℕ) (l : Laid) → j ≡ past nodes i n → slice_get nodes j ≡ Some l
    → l.to ≡ past nodes i (n + 1)
past_one nodes i zero j l at' there =
    sym (ap (λ o. next_tree o i) (ap (slice_get nodes) (sym at') ∙ there))
past_one nodes i (suc n) j l at' there =
    let more : suc n + 1 ≡ suc (n + 1) = omega arith in
    past_one nodes (next_tree (slice_get nodes i) i) n j l at' there ∙ sym (ap (past nodes i) more)
