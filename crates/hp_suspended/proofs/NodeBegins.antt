-- What the expression of a node begins as.
use Rattle.std.proofs.Common.{◌≡◌, is_some, ℕ, ◌+◌, ◌<◌, ◌≤◌, ◌++◌, List, [], ◌∷◌, length, slice_get, Some, Result, Ok, Err, Vec, Box, Global, arith, refl, sym, ◌∙◌, ap, ap₂, subst}
use Rattle.std.proofs.lemmas.List.{append-nil}
use Rattle.std.proofs.lemmas.Option.{same_Some}
use Rattle.hp_syntax.specs.declared.fault.RunFault.{RunFault}
use Rattle.hp_syntax.specs.declared.pattern.AtomPat.{AtomPat}
use Rattle.hp_syntax.specs.Syntax.{Atom}
use Rattle.hp_syntax.specs.Terms.{Term}
use Rattle.hp_syntax.specs.Goals as plain
use Rattle.hp_syntax.specs.Goals.{fill_goal}
use Rattle.hp_syntax.specs.Views.{atom_of}
use Rattle.hp_syntax.specs.Events.{Sat}
use Rattle.hp_code.specs.CodeViews.{CodeView, IsCode}
use Rattle.hp_nodes.specs.NodeViews.{operation_of}
use Rattle.hp_nodes.specs.Trees.{And, Holds, Laid, Operation, Or}
use Rattle.hp_nodes.specs.declared.node.Op.{Op}
use Rattle.hp_nodes.specs.declared.node.Op.TheVariants as ops
use Rattle.hp_eval.specs.declared.event.Event.TheVariants as events
use Rattle.hp_eval.specs.declared.event.EvalStop.{EvalStop}
use Rattle.hp_eval.specs.declared.event.EvalStop.TheVariants as stops
use Rattle.hp_eval.specs.declared.goals.Goal.{Goal}
use Rattle.hp_eval.specs.GoalViews.{GoalBelow, goal_of}
use Rattle.hp_eval.specs.Growth.{GivesBy, Grows}
use Rattle.hp_eval.specs.Slotted.{Slotted, AreBelow, bindings_of}
use Rattle.hp_eval.specs.SlotLaws.{undone_whole}
use Rattle.hp_eval.proofs.GrowthLemmas.{below_grows, kept_agree}
use Rattle.hp_suspended.specs.declared.scene.Scene.{Scene}
use Rattle.hp_suspended.specs.declared.suspended.Part.{Part}
use Rattle.hp_suspended.specs.declared.suspended.Suspended.{Suspended}
use Rattle.hp_suspended.specs.declared.suspended.Suspended.TheViews as made
use Rattle.hp_suspended.specs.declared.suspended.Suspended.TheVariants as variants
use Rattle.hp_suspended.specs.Beginning.{Begins, BeginsAt, BeginsFilled, DoesAt}
use Rattle.hp_suspended.specs.Branching.{IsLasting}
use Rattle.hp_suspended.specs.declared.places.AtomFilter.{AtomFilter}
use Rattle.hp_suspended.specs.Filtered.{atom_left, by_axioms, match_passing, sats_from}
use Rattle.hp_suspended.specs.Fitting.{AreExpressionsIn, IsAtomAt, IsExpressionAt}
use Rattle.hp_suspended.specs.Left.{left, stood}
use Rattle.hp_suspended.specs.Nodes.{atom_at}
use Rattle.hp_suspended.specs.SceneViews.{code_in, setting_of}
use Rattle.hp_suspended.specs.Settings.{axioms_from, node_events, places_from}
use Rattle.hp_suspended.specs.SimpleAtoms.{IsFilterOf}
use Rattle.hp_suspended.specs.Views.{View, One, Fresh, Simple, Search, Conj, Disj, Idle, Bare, view, views}
use Rattle.hp_suspended.proofs.BeginSteps.{atom_found, bindings_later}
use Rattle.hp_suspended.proofs.CountLemmas.{goal_agrees}
use Rattle.hp_suspended.proofs.NodeReadings.{IsOfExpression, and_met, and_parts, expression_within, holds_fault, holds_met, or_met, or_parts}
use Rattle.hp_suspended.proofs.RangeLemmas.{all_ended, first_expression, range_ascends}
use Rattle.hp_suspended.proofs.SimpleFillings.{filter_fills, filter_later, filter_sats, filter_within, goal_filled}
use Rattle.hp_suspended.proofs.Shapes.{view_conj, view_disj, view_fresh, view_one}

-- an operation of an expression that isn't decided at once is an atom, a conjunction or a disjunction
pub no_other : (op : Op) → IsOfExpression (operation_of op) → IsLasting (operation_of op)
    → ((x : AtomPat) → op ≡ ops.Atom x → ⊥) → (op ≡ ops.And → ⊥) → (op ≡ ops.Or → ⊥) → ⊥
no_other (ops.Atom x) is lasts atom and' or' = atom x refl
no_other ops.And is lasts atom and' or' = and' refl
no_other ops.Or is lasts atom and' or' = or' refl
no_other ops.Not is lasts atom and' or' = lasts
no_other ops.Forall is lasts atom and' or' = lasts
no_other (ops.Assign v p) is lasts atom and' or' = lasts
no_other (ops.Call p) is lasts atom and' or' = lasts
no_other _ is lasts atom and' or' = is

module _ (s : Scene) (code : IsCode (code_in s)) (m n i : ℕ) (is : IsExpressionAt (code_in s) i) (l : Laid)
    (there : slice_get (code_in s).nodes i ≡ Some l) where
  -- what began with so many bindings began with those that are here
  stood_here : (terms : List Term) (e : Slotted) → length e.trail ≡ m
      → stood (setting_of s terms) e m ≡ bindings_of terms e
  stood_here terms e long = ap (bindings_of terms) (undone_whole m e long)

  -- the node is one of the nodes
  within : i < length (code_in s).nodes
  within = expression_within (code_in s) i is

  -- ---- conjunctions

  module _ (op : l.op ≡ And) where
    -- below it stand its parts
    all_parts : AreExpressionsIn (code_in s) (i + 1) l.to
    all_parts = and_parts (setting_of s []) n i code is l there op

    -- it ends behind it
    pub all_ascends : i + 1 ≤ l.to
    all_ascends = range_ascends (code_in s) (i + 1) l.to all_parts

    -- its first part is one of the nodes
    pub first_within : i + 1 < l.to → i + 1 < length (code_in s).nodes
    first_within less = omega (arith, less, all_parts.within)

    -- one of no parts begins as a satisfier
    pub begins_empty : l.to ≤ i + 1 → BeginsAt s m n i (One m events.Sat)
    begins_empty over = λ cells e long. record {
      start = refl;
      looked = tt;
      fits = omega arith;
      same =
          λ terms grows.
          let w = setting_of s terms in
          sym (and_met w n i code is l there op (bindings_of terms e)
          ∙ (all_ended w n (i + 1) l.to code all_parts over (bindings_of terms e)
          ∙ ap (λ b. Sat b ∷ []) (sym (stood_here terms e long))));
      lighter = omega (arith, within);
    }

    -- one of parts begins with the first of them
    pub begins_all : i + 1 < l.to → (y : Laid) → slice_get (code_in s).nodes (i + 1) ≡ Some y
        → BeginsAt s m n i (Conj m n y.to l.to Bare (Fresh m n (i + 1)))
    begins_all less y at' = λ cells e long.
        let first = first_expression (setting_of s []) n (i + 1) l.to code all_parts less y at' in
        record {
          start = refl;
          looked = tt;
          fits = (first.others, refl, (refl, first.first));
          same =
              λ terms grows.
              let w = setting_of s terms in
              append-nil _
              ∙ (sym ((first_expression w n (i + 1) l.to code all_parts less y at').all (stood w e m))
              ∙ (sym (and_met w n i code is l there op (stood w e m))
              ∙ ap (node_events w n i) (stood_here terms e long)));
          lighter = omega (arith, within, first.more, first.most);
        }

  -- ---- disjunctions

  -- a disjunction begins before its first part
  pub begins_any : l.op ≡ Or → BeginsAt s m n i (Disj m n (i + 1) l.to (One m events.End))
  begins_any op = λ cells e long. record {
    start = refl;
    looked = tt;
    fits = (or_parts (setting_of s []) n i code is l there op, refl, omega arith);
    same =
        λ terms grows.
        let w = setting_of s terms in
        sym (or_met w n i code is l there op (stood w e m)) ∙ ap (node_events w n i) (stood_here terms e long);
    lighter = omega (arith, within);
  }

  -- ---- atoms

  module _ (a : Atom) (op : l.op ≡ Holds a) (old new : List Term) (g : Grows old new) (e : Slotted)
      (below : AreBelow (length old) e) (long : length e.trail ≡ m) where
    -- an atom that isn't filled begins as the fault of filling it
    begins_fault : (f : RunFault) → fill_goal a (bindings_of old e) ≡ Err f
        → Begins s new e m n i (One m (events.Fault f))
    begins_fault f unfilled = record {
      start = refl;
      looked = tt;
      fits = omega arith;
      same =
          λ terms grows.
          sym (holds_fault (setting_of s terms) n i code is l there a op (bindings_of terms e) f
          (ap (fill_goal a) (bindings_later old new terms g grows e below) ∙ unfilled));
      lighter = omega (arith, within);
    }

    -- one that is filled begins as the search of its goal
    begins_search : (q : Goal) → GoalBelow (length new) q → fill_goal a (bindings_of old e) ≡ Ok (goal_of new q)
        → Begins s new e m n i (Search m n q 0 0 Idle)
    begins_search q q_below filled = record {
      start = refl;
      looked = tt;
      fits = (omega arith, q_below, tt);
      same =
          λ terms grows.
          let w = setting_of s terms in
          let same : goal_of new q ≡ goal_of terms q =
          goal_agrees (length new) new terms (kept_agree new terms grows (length new) (omega arith)) q q_below in
          ap (λ b. places_from w 0 (goal_of terms q) b ++ axioms_from w n 0 (goal_of terms q) b)
          (stood_here terms e long)
          ∙ sym (holds_met w n i code is l there a op (bindings_of terms e) (goal_of terms q)
          (ap (fill_goal a) (bindings_later old new terms g grows e below) ∙ (filled ∙ ap Ok same)));
      lighter = omega (arith, within);
    }

    -- one that is looked for by a filter begins at the first place
    pub begins_simple : (p : AtomPat) → a ≡ atom_of p → (f : AtomFilter) → IsFilterOf new (bindings_of new e) p f
        → Begins s new e m n i (Simple (record { mark = m; nest = n; node = i; from = 0; filter = f }))
    begins_simple p is' f h = record {
      start = refl;
      looked = tt;
      fits = (omega arith, atom_there, filter_within new (bindings_of new e) p f h);
      same = simple_left p is' f h;
      lighter = omega (arith, within);
    }
      where
        atom_is : atom_at (code_in s) i ≡ Some a
        atom_is = atom_found (code_in s) i l there a op

        atom_there : IsAtomAt (code_in s) i
        atom_there = ap is_some atom_is

        simple_left : (p : AtomPat) → a ≡ atom_of p → (f : AtomFilter) → IsFilterOf new (bindings_of new e) p f
            → (terms : List Term) → Grows new terms
            → left (setting_of s terms) e (Simple (record { mark = m; nest = n; node = i; from = 0; filter = f }))
            ≡ node_events (setting_of s terms) n i (bindings_of terms e)
        simple_left p is' f h terms grows =
            let w = setting_of s terms in
            let b = bindings_of terms e in
            let k = filter_later new terms grows e (below_grows old new g e below) p f h in
            let filled : fill_goal a b ≡ Ok (goal_filled (atom_of p) b) =
            ap (λ x. fill_goal x b) is' ∙ filter_fills terms b p f k in
            ap₂ (λ o c. atom_left w n 0 f o c) atom_is (stood_here terms e long)
            ∙ (ap (λ r. sats_from w 0 (λ t. match_passing terms f a t b) ++ by_axioms w n a r b) filled
            ∙ (ap (λ x. sats_from w 0 (λ t. match_passing terms f x t b)
            ++ axioms_from w n 0 (goal_filled (atom_of p) b) b) is'
            ∙ (ap (λ xs. xs ++ axioms_from w n 0 (goal_filled (atom_of p) b) b) (filter_sats w b p f k)
            ∙ sym (holds_met w n i code is l there a op b (goal_filled (atom_of p) b) filled))))

    -- an atom that is filled to this begins so
    filled_begins : (v : View) (r : Result plain.Goal RunFault) → fill_goal a (bindings_of old e) ≡ r
        → BeginsFilled (length new) m n 0 v (goal_of new) r → Begins s new e m n i v
    filled_begins v (Ok p) h (q, is', q_below, stands) =
        subst (Begins s new e m n i) (sym is') (begins_search q q_below (h ∙ ap Ok stands))
    filled_begins v (Err f) h is' = subst (Begins s new e m n i) (sym is') (begins_fault f h)

    -- so it begins as filling it makes it begin
    pub begins_filled : (v : View) → BeginsFilled (length new) m n 0 v (goal_of new) (fill_goal a (bindings_of old e))
        → Begins s new e m n i v
    begins_filled v h = filled_begins v (fill_goal a (bindings_of old e)) refl h

-- ---- what is made

-- a node that is found in another way does the same
pub does_there : (c : CodeView) (i : ℕ) (op : Operation) → DoesAt c i op → (l : Laid) → slice_get c.nodes i ≡ Some l
    → l.op ≡ op
does_there c i op (k, at', is) l there = subst (λ (x : Laid). x.op ≡ op) (same_Some k l (sym at' ∙ there)) is

module _ (cells m n from : ℕ) (v : View) (stands : Goal → plain.Goal) (r : Result plain.Goal RunFault) where
  -- where an atom is filled the search of its goal is what it begins as
  pub search_made : (q : Goal) → v ≡ Search m n q from 0 Idle → GoalBelow cells q → r ≡ Ok (stands q)
      → BeginsFilled cells m n from v stands r
  search_made q is below filled = subst (BeginsFilled cells m n from v stands) (sym filled) (q, is, below, refl)

  -- where it isn't the fault is
  pub fault_made : (stop : EvalStop) (f : RunFault) → stop ≡ stops.Fault f → v ≡ One m (events.Fault f)
      → GivesBy stands (Err stop) r → BeginsFilled cells m n from v stands r
  fault_made stop f same is gives =
      let faulty : r ≡ Err f = subst (λ x. GivesBy stands (Err x) r) same gives in
      subst (BeginsFilled cells m n from v stands) (sym faulty) is

-- a conjunction that is made with no part below its first is seen as that
pub conj_made : (m n k e i : ℕ) (o : Vec Part Global) (h : Box Suspended Global) → o.items ≡ []
    → h.value ≡ variants.Fresh m n i → view (made.Conj m n k e o h) ≡ Conj m n k e Bare (Fresh m n i)
conj_made m n k e i o h none first =
    view_conj m n k e o h
    ∙ ap₂ (λ ps v. Conj m n k e (views ps) v) none (ap view first ∙ view_fresh m n i)

-- a disjunction that is made before its first part is seen as that
pub disj_made : (m n k e : ℕ) (h : Box Suspended Global) → h.value ≡ variants.One m events.End
    → view (made.Disj m n k e h) ≡ Disj m n k e (One m events.End)
disj_made m n k e h none = view_disj m n k e h ∙ ap (Disj m n k e) (ap view none ∙ view_one m events.End)
