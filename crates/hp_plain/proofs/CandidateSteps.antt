-- The children of a node by a candidate, step by step.
use Rattle.std.proofs.Common.{◌≡◌, ℕ, ◌<◌, ℤ, Vec, List, [], ◌∷◌, length, map, get_or, Bool, true, false, Option, option_map, Some, None, refl, sym, ◌∙◌, ap, ap₂, subst}
use Rattle.std.specs.List.{All}
use Rattle.std.specs.Option.{option_map_or}
use Rattle.std.specs.Prelude.{flat_map, slice_get}
use Rattle.std.specs.Global.{Global}
use Rattle.std.proofs.lemmas.List.Elements.{All-get_or, All-nil, All-same, All-weaker}
use Rattle.hp_syntax.specs.Applying.{Now, Guarded}
use Rattle.hp_syntax.specs.Changes as changes
use Rattle.std.proofs.lemmas.List.{length-replicate}
use Rattle.std.proofs.lemmas.Option.{get_or_from_slice_get, slice_get-get_or, slice_get-map, slice_get_within}
use Rattle.hp_syntax.specs.declared.domain.Branch as public_branch
use Rattle.hp_syntax.specs.declared.domain.Operator as public_operator
use Rattle.hp_syntax.specs.Syntax.{Atom, Branch, Method, Operator, Rule, Does, Refines}
use Rattle.hp_syntax.specs.Matching.{match_atom}
use Rattle.hp_eval.specs.Growth.{Grows}
use Rattle.hp_eval.proofs.GrowthLemmas.{bindings_stay}
use Rattle.hp_answers.specs.declared.answer.Answer.{Answer}
use Rattle.hp_answers.specs.AnswerViews.{BindsBelow, Fits, Finds, answer_events}
use Rattle.hp_eval.proofs.SlotLemmas.{binds_vars, match_failed, match_made}
use Rattle.hp_answers.proofs.AnswerLemmas.{fits_below}
use Rattle.hp_satisfiers.proofs.AxiomSteps.{none_bound}
use Rattle.hp_syntax.specs.declared.expression.Pre.{Pre}
use Rattle.hp_syntax.specs.Events.{Event, State, axioms_of}
use Rattle.hp_syntax.specs.Preconditions.{precondition_events}
use Rattle.hp_syntax.specs.Values.{Bindings, unbound}
use Rattle.hp_syntax.specs.Views.{branch_of, domain_of, operator_of, precondition_of}
use Rattle.hp_eval.specs.Slotted.{Slotted, AreBelow, Matched, no_bindings, bindings_of}
use Rattle.hp_satisfiers.specs.Scenes.{axioms_in, state_in}
use Rattle.hp_syntax.specs.Terms.{Term}
use Rattle.hp_syntax.specs.Networks.{Network, Place, finish, expand}
use Rattle.hp_syntax.specs.Walk.{Node, Child, DidChild, child_of, after_effects, method_children, operated}
use Rattle.hp_effect.specs.Puts.{IsApplied}
use Rattle.hp_world.specs.declared.store.Applied.{Applied}
use Rattle.hp_world.specs.declared.store.Applied.TheVariants.{Done, Guarded as WasGuarded}
use Rattle.hp_eval.specs.GoalViews.{term_at}
use Rattle.hp_links.specs.Linked.{Linked, focused, place_of, PartBelow}
use Rattle.hp_world.specs.Histories.{History}
use Rattle.hp_world.specs.Recorded.{Recorded}
use Rattle.hp_world.specs.Stages.{Stage, state_of, guards_of, terms_at}
use Rattle.hp_tree.specs.Children.{children_by, done_by}
use Rattle.hp_tree.proofs.ChildLemmas.{operator_met}
use Rattle.hp_tree.proofs.SearchNodeLemmas.{node_is, node_stays}
use Rattle.hp_plain.specs.declared.candidate.Candidate.{Candidate}
use Rattle.hp_plain.specs.declared.candidate.Child as made
use Rattle.hp_plain.specs.declared.candidate.Child.TheVariants.{Did}
use Rattle.hp_plain.specs.declared.candidate.Choice.{Choice}
use Rattle.hp_plain.specs.declared.search_node.SearchNode.{SearchNode}
use Rattle.hp_plain.specs.Candidates.{rules_at, nest_at, own_node, place_at, own_task, done_at, children_at, CandidateFits}
use Rattle.hp_plain.specs.Children.{Makes, FindsBelow, ChoosesBranch, Chooses}
use Rattle.hp_plain.specs.SearchNodes.{held, IsSearchNode}
use Rattle.hp_plain.proofs.CandidateLemmas.{done_stays}

-- ---- nodes

module _ (terms : List Term) (world : Recorded) (net : History Linked) (steps : Vec ℕ Global)
    (cost : ℤ) (depth : ℕ) where
  -- a search node of these parts
  abbrev pub node_by : SearchNode
  node_by = record { world = world; net = net; steps = steps; cost = cost; depth = depth }

  -- the child whose node has the parts of a node is made of it
  pub did : (n : Node) → state_of terms world.now ≡ n.state → guards_of terms world.now ≡ n.guards
      → focused terms net.now ≡ (n.network, n.focus) → terms_at terms steps.items ≡ n.steps → cost ≡ n.cost
      → depth ≡ n.depth → IsSearchNode (length terms) node_by → Makes terms (Some (Did node_by)) (DidChild n ∷ [])
  did n e1 e2 e3 e4 e5 e6 fits =
      record {
        are = ap (λ m. DidChild m ∷ []) (node_is terms (held node_by) n e1 e2 e3 e4 e5 e6);
        fits = fits;
      }

-- ---- networks that are changed

module _ (n : ℕ) (terms : List Term) (s : Candidate) (fits : CandidateFits n s) (copy new : Linked)
    (same : copy ≡ s.node.now.net.now) where
  there : place_of copy s.id ≡ Some (place_at s)
  there = ap (λ o. place_of o s.id) same ∙ fits.candidate.stands

  -- the task of a candidate is taken out of a copy of the network
  pub finish_given : ((p : Place) → place_of copy s.id ≡ Some p
      → focused terms new ≡ finish (focused terms copy).0 p)
      → focused terms new ≡ finish (focused terms s.node.now.net.now).0 (place_at s)
  finish_given h = h (place_at s) there ∙ ap (λ o. finish (focused terms o).0 (place_at s)) same

  -- subtasks stand in its place
  pub expand_given : (sub : Network) → ((p : Place) → place_of copy s.id ≡ Some p
      → focused terms new ≡ expand (focused terms copy).0 p sub)
      → focused terms new ≡ expand (focused terms s.node.now.net.now).0 (place_at s) sub
  expand_given sub h = h (place_at s) there ∙ ap (λ o. expand (focused terms o).0 (place_at s) sub) same

  -- the cells stay below a count
  pub parts_given : (All (PartBelow n) copy.parts → All (PartBelow n) new.parts)
      → All (PartBelow n) new.parts
  parts_given h = h (subst (λ o. All (PartBelow n) o.parts) (sym same) fits.node.network)

-- ---- children

-- the same child is made as equal children
pub makes_same : (terms : List Term) (child : Option made.Child) (xs ys : List Child) → xs ≡ ys → Makes terms child xs
    → Makes terms child ys
makes_same terms child xs ys e h = subst (Makes terms child) e h

-- where applying is done, it gives what stands then
pub applied_done : (terms : List Term) (stage : Stage) (a : Applied) (x : changes.Applied) → a ≡ Done
    → IsApplied a terms stage x → Now (state_of terms stage) (guards_of terms stage) ≡ x
applied_done terms stage Done (Now s g) e h = ap₂ Now h.0 h.1
applied_done terms stage Done (Guarded d) e h = absurd h
applied_done terms stage (WasGuarded d) x e h = absurd cc

-- where applying meets what is protected, there is no child
pub applied_guarded : (terms : List Term) (stage : Stage) (a : Applied) (atom : ℕ) (x : changes.Applied) (n : Node)
    (p : Place) (task : Term) (cost : ℤ) → a ≡ WasGuarded atom → IsApplied a terms stage x
    → [] ≡ operated n p task cost x
applied_guarded terms stage Done atom x n p task cost e h = absurd cc
applied_guarded terms stage (WasGuarded a) atom (Now s g) n p task cost e h = absurd h
applied_guarded terms stage (WasGuarded a) atom (Guarded d) n p task cost e h = refl

-- ---- scenes

module _ (n : ℕ) (s : Candidate) (fits : CandidateFits n s) (terms : List Term) where
  -- an operator's effects in the scene of a candidate are those by its rules in the state of its node
  pub effects_in : (o : public_operator.Operator) (slots : Slotted)
      → changes.effects (axioms_in s.scene) (nest_at s) (state_in terms s.scene) (operator_of o)
      (bindings_of terms slots)
      ≡ changes.effects (axioms_of (rules_at s)) (nest_at s) (own_node terms s).state (operator_of o)
      (bindings_of terms slots)
  effects_in o slots =
      ap₂ (λ b w. changes.effects (axioms_of (domain_of b.domain.now).rules) (nest_at s) (state_of terms w.now)
      (operator_of o) (bindings_of terms slots)) fits.book fits.world

  -- so are the events of a precondition
  precondition_in : (pre : Pre) (b : Bindings)
      → precondition_events (axioms_in s.scene) (nest_at s) (state_in terms s.scene) (precondition_of pre) b
      ≡ precondition_events (axioms_of (rules_at s)) (nest_at s) (own_node terms s).state (precondition_of pre)
      b
  precondition_in pre b =
      ap₂ (λ k w. precondition_events (axioms_of (domain_of k.domain.now).rules) (nest_at s) (state_of terms w.now)
      (precondition_of pre) b) fits.book fits.world

-- ---- heads

module _ (terms : List Term) (head : Atom) (cell vars : ℕ) (slots new : Slotted) (does : Bool)
    (free : slots ≡ no_bindings vars)
    (told : Matched does (match_atom head (term_at terms cell) (bindings_of terms slots)) terms slots new) where
  from_free : match_atom head (term_at terms cell) (unbound vars)
      ≡ match_atom head (term_at terms cell) (bindings_of terms slots)
  from_free = ap (match_atom head (term_at terms cell)) (sym (ap (bindings_of terms) free ∙ none_bound terms vars))

  -- a head that isn't matched from free slots matches under no bindings
  pub head_missed : does ≡ false → match_atom head (term_at terms cell) (unbound vars) ≡ None
  head_missed e =
      from_free ∙ (match_failed does _ terms slots new e told).0

  -- a head that is matched from free slots is matched under these bindings
  pub head_met : does ≡ true → match_atom head (term_at terms cell) (unbound vars) ≡ Some (bindings_of terms new)
  head_met e = from_free ∙ (match_made does _ terms slots new e told).0

  -- the slots are as many
  pub head_vars : does ≡ true → length new.values ≡ vars
  head_vars e =
      binds_vars slots new (match_made does _ terms slots new e told).1
      ∙ (ap (λ s. length s.values) free ∙ length-replicate {A = Option ℕ} vars None)

-- ---- answers

-- answers that fit bind to cells below the number of terms
pub finds_below : (terms : List Term) (vars : ℕ) (found : List Answer) (events others : List Event)
    → events ≡ others → Finds terms vars found events → FindsBelow terms found others
finds_below terms vars found events others e h = record {
  stand = h.stand ∙ e;
  below =
      All-weaker (Fits vars (length terms)) (BindsBelow (length terms)) (fits_below vars (length terms)) found h.fit;
}

-- an empty list of answers stands for an empty list of events
pub finds_nothing : (terms : List Term) (found : List Answer) (events : List Event) → found ≡ [] → events ≡ []
    → FindsBelow terms found events
finds_nothing terms found events is e = record {
  stand = ap (answer_events terms) is ∙ sym e;
  below = All-same (BindsBelow (length terms)) found [] is (All-nil (BindsBelow (length terms)));
}

-- ---- branches

-- the events of a branch of a method
abbrev pub branch_met : List Rule → ℕ → State → Bindings → Branch → List Event
branch_met rules nest s e b = precondition_events (axioms_of rules) nest s b.pre e

-- a branch stands at its number
pub branch_there : (branches : List public_branch.Branch) (i : ℕ) (b : public_branch.Branch) → i < length branches
    → b ≡ get_or branches i b → slice_get (map branch_of branches) i ≡ Some (branch_of b)
branch_there branches i b l is =
    slice_get-map branch_of branches i
    ∙ ap (option_map branch_of) (slice_get-get_or branches i b l ∙ ap Some (sym is))

-- the events of a precondition in the scene of a candidate stay those in the state of its node where terms are added
pub precondition_stays : (s : Candidate) (old mid : List Term) (g : Grows old mid)
    → CandidateFits (length old) s → (pre : Pre) (slots : Slotted) → AreBelow (length old) slots
    → precondition_events (axioms_in s.scene) (nest_at s) (state_in mid s.scene) (precondition_of pre)
    (bindings_of mid slots)
    ≡ precondition_events (axioms_of (rules_at s)) (nest_at s) (own_node old s).state (precondition_of pre)
    (bindings_of old slots)
precondition_stays s old mid g fits pre slots below =
    precondition_in (length old) s fits mid pre (bindings_of mid slots)
    ∙ ap₂ (λ n b. precondition_events (axioms_of (rules_at s)) (nest_at s) n.state (precondition_of pre) b)
    (node_stays old mid g (held s.node.now) fits.node) (bindings_stay old mid g slots below)

-- ---- rules

-- a satisfier gives the children that it gives by the rule that stands at the number
pub done_there : (terms : List Term) (s : Candidate) (rule branch : ℕ) (e : Bindings) (o : Option Rule)
    → slice_get (rules_at s) rule ≡ o
    → done_by (rules_at s) (nest_at s) (own_node terms s) (place_at s) (own_task terms s) o branch e
    ≡ done_at terms s rule branch e
done_there terms s rule branch e o h =
    ap (λ r. done_by (rules_at s) (nest_at s) (own_node terms s) (place_at s) (own_task terms s) r branch e) (sym h)

-- a fact of all is one of the element of a number
pub holds_there : {X : Type 0} (P : X → Type 0) (xs : List X) (i : ℕ) (x : X) → All P xs → slice_get xs i ≡ Some x → P x
holds_there P xs i x h e =
    subst P (get_or_from_slice_get xs i x x e) (All-get_or P xs i x (slice_get_within xs i x e) h)

module _ (old new : List Term) (g : Grows old new) (s : Candidate) (fits : CandidateFits (length old) s)
    (rule : ℕ) where
  -- the events of a choice give the same children where terms are added
  chosen_stays : (c : Choice) (xs : List Child)
      → flat_map (child_of (done_at old s rule c.branch)) (answer_events new c.found.items) ≡ xs
      → flat_map (child_of (done_at new s rule c.branch)) (answer_events new c.found.items) ≡ xs
  chosen_stays c xs h =
      ap (λ f. flat_map (child_of f) (answer_events new c.found.items)) (done_stays old new g s fits rule c.branch) ∙ h

  -- the events of an operator's precondition are its choice
  pub chooses_operator : (o : Operator) (c : Choice) → slice_get (rules_at s) rule ≡ Some (Does o)
      → FindsBelow new c.found.items
      (option_map_or (precondition_events (axioms_of (rules_at s)) (nest_at s) (own_node old s).state o.pre)
      (match_atom o.head (own_task old s) (unbound (length o.vars))) [])
      → Chooses new s rule c (children_at old s rule)
  chooses_operator o c e h = record {
    stand =
        chosen_stays c (children_at old s rule)
        (ap (λ r. flat_map (child_of (done_by (rules_at s) (nest_at s) (own_node old s) (place_at s) (own_task old s)
        r c.branch)) (answer_events new c.found.items)) e
        ∙ (ap (flat_map (child_of (λ b. after_effects (own_node old s) (place_at s) (own_task old s)
        (changes.effects (axioms_of (rules_at s)) (nest_at s) (own_node old s).state o b)))) h.stand
        ∙ (operator_met (rules_at s) (nest_at s) (own_node old s) (place_at s) (own_task old s) o
        (match_atom o.head (own_task old s) (unbound (length o.vars)))
        ∙ sym (ap (children_by (rules_at s) (nest_at s) (own_node old s) (place_at s) (own_task old s)) e))));
    below = h.below;
  }

  -- the events of a method's chosen branch are its choice
  pub chooses_method : (m : Method) (c : Choice) → slice_get (rules_at s) rule ≡ Some (Refines m)
      → ChoosesBranch new (own_node old s) (place_at s) m.branches c
      (method_children (rules_at s) (nest_at s) (own_node old s) (place_at s) m
      (match_atom m.head (own_task old s) (unbound (length m.vars))))
      → Chooses new s rule c (children_at old s rule)
  chooses_method m c e h = record {
    stand =
        chosen_stays c (children_at old s rule)
        (ap (λ r. flat_map (child_of (done_by (rules_at s) (nest_at s) (own_node old s) (place_at s) (own_task old s)
        r c.branch)) (answer_events new c.found.items)) e
        ∙ (h.stand
        ∙ sym (ap (children_by (rules_at s) (nest_at s) (own_node old s) (place_at s) (own_task old s)) e)));
    below = h.below;
  }

-- where there are no children no events are the choice
pub chooses_nothing : (terms : List Term) (s : Candidate) (rule : ℕ) (c : Choice) → c.found.items ≡ []
    → children_at terms s rule ≡ [] → Chooses terms s rule c (children_at terms s rule)
chooses_nothing terms s rule c is e = record {
  stand =
      ap (λ found. flat_map (child_of (done_at terms s rule c.branch)) (answer_events terms found)) is ∙ sym e;
  below = All-same (BindsBelow (length terms)) c.found.items [] is (All-nil (BindsBelow (length terms)));
}
