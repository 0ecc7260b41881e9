-- The children of a queue by the rules that are left for the first candidate.
use Rattle.std.proofs.Common.{◌≡◌, ◌==◌, ℕ, zero, suc, ◌+◌, ◌<◌, ◌≤◌, Bool, true, false, cond, eq-eqb, inl, inr, take, List, [], ◌∷◌, ◌++◌, length, map, drop, get_or, Option, Some, None, IfSome, refl, sym, ◌∙◌, ap, ap₂, subst, append_assoc, arith}
use Rattle.std.specs.List.{All}
use Rattle.std.specs.Prelude.{Box, flat_map, is_some}
use Rattle.std.proofs.lemmas.Bool.{cases_lt, ne_eqb}
use Rattle.std.proofs.lemmas.List.{append-nil, drop-append-le, drop_all, get_or_default, length-drop, length-map, length-take-le, take-append-drop, take_all}
use Rattle.std.proofs.lemmas.List.Elements.{All-nil, All-cons, All-take}
use Rattle.std.specs.Global.{Global}
use Rattle.hp_syntax.specs.Networks.{Network, Empty, Task, Ordered, Unordered, Place, candidates, part_at}
use Rattle.hp_syntax.specs.Syntax.{Rule}
use Rattle.hp_syntax.specs.Terms.{Term}
use Rattle.hp_syntax.specs.Walk.{Child, Node, children, rule_children}
use Rattle.hp_code.specs.CodeViews.{CodeView, rules_in}
use Rattle.hp_eval.proofs.Loops.{left_more}
use Rattle.hp_laws.specs.RulesByName.{relevant, task_name}
use Rattle.hp_laws.proofs.RuleNameLemmas.{relevant_few}
use Rattle.hp_links.specs.Linked.{Linked, NamesTask, place_of}
use Rattle.hp_links.specs.Placed.{candidates_in}
use Rattle.hp_precondition.specs.Picks.{picked_kept}
use Rattle.hp_suspended.specs.declared.scene.Scene.{Scene}
use Rattle.hp_tree.specs.Children.{IsCandidate, by_candidates, children_by, place_in, relevant_by}
use Rattle.hp_tree.proofs.ChildLemmas.{by_all, candidates_are}
use Rattle.hp_tree.specs.SearchNodes.{HeldNode, node_of}
use Rattle.hp_choice.specs.declared.choice.Choice.{Choice}
use Rattle.hp_choice.specs.Choices.{IsChoice, children_if, choice_children}
use Rattle.hp_agenda.specs.declared.queue.Queue.{Queue}
use Rattle.hp_agenda.specs.Queues.{IsQueue, IsRuleIn, MaybeOpen, by_queue, by_rules, candidates_left, if_open, rule_of, unlisted}

-- ---- rules

-- the rules of some nodes give a task what these rules give it
rules_give : (rules : List Rule) (nest : ℕ) (n : Node) (p : Place) (t : Term) (f : ℕ → Option Rule) (is : List ℕ)
    (rs : List Rule) → map f is ≡ map Some rs
    → flat_map (λ i. children_by rules nest n p t (f i)) is ≡ flat_map (rule_children rules nest n p t) rs
rules_give rules nest n p t f [] [] e = refl
rules_give rules nest n p t f [] (r ∷ rs) e = absurd cc
rules_give rules nest n p t f (i ∷ is) [] e = absurd cc
rules_give rules nest n p t f (i ∷ is) (r ∷ rs) e =
    let first : f i ≡ Some r = cc in
    let others : map f is ≡ map Some rs = cc in
    ap₂ ◌++◌ (ap (children_by rules nest n p t) first) (rules_give rules nest n p t f is rs others)

-- where the rules of some nodes are there, each node is a rule's
pub rules_there : (c : CodeView) (is : List ℕ) (rs : List Rule) → map (rule_of c) is ≡ map Some rs
    → All (IsRuleIn c) is
rules_there c [] rs e = All-nil (IsRuleIn c)
rules_there c (i ∷ is) [] e = absurd cc
rules_there c (i ∷ is) (r ∷ rs) e =
    let first : rule_of c i ≡ Some r = cc in
    let others : map (rule_of c) is ≡ map Some rs = cc in
    All-cons (IsRuleIn c) i is (ap is_some first) (rules_there c is rs others)

-- there are no more nodes of rules that are relevant to a task than rules
pub rules_few : (c : CodeView) (is : List ℕ) (t : Term)
    → map (rule_of c) is ≡ map Some (relevant (task_name t) (rules_in c)) → length is ≤ length (rules_in c)
rules_few c is t e =
    let rs = relevant (task_name t) (rules_in c) in
    let many : length is ≡ length rs = sym (length-map is (rule_of c)) ∙ (ap length e ∙ length-map rs Some) in
    omega (arith, many, relevant_few (Some (Task t true)) (rules_in c))

-- a node of a rule has one
pub rule_found : (c : CodeView) (i : ℕ) → IsRuleIn c i → (r : Rule) × (rule_of c i ≡ Some r)
rule_found c i h = by (rule_of c i) refl h
  where
    by : (o : Option Rule) → rule_of c i ≡ o → is_some o ≡ true → (r : Rule) × (rule_of c i ≡ Some r)
    by None e g = absurd cc
    by (Some r) e g = (r, e)

-- without rules there are no children
rules_end : (c : CodeView) (nest : ℕ) (n : Node) (p : Place) (part : Option Network) → by_rules c nest n p part [] ≡ []
rules_end c nest n p None = refl
rules_end c nest n p (Some Empty) = refl
rules_end c nest n p (Some (Task t i)) = refl
rules_end c nest n p (Some (Ordered ns)) = refl
rules_end c nest n p (Some (Unordered ns)) = refl

-- ---- the candidates that are left

-- behind all that are listed, where there are no others, nothing is left
pub nothing_left : (net : Linked) (q : Queue) → length q.candidates.items ≤ q.at → q.more ≡ false
    → candidates_left net q ≡ []
nothing_left net q l none =
    ap₂ (λ ks b. ks ++ unlisted b (length q.candidates.items) net) (drop_all q.at q.candidates.items l) none

-- where a queue has others, one of those that are listed is left; so behind these nothing is
pub queue_ends : (c : CodeView) (h : HeldNode) (q : Queue) → IsQueue c h q → length q.candidates.items ≤ q.at
    → candidates_left h.network q ≡ []
queue_ends c h q is l = by q.more refl
  where
    by : (b : Bool) → q.more ≡ b → candidates_left h.network q ≡ []
    by true e = absurd (let there = is.more e in omega (arith, there, l))
    by false e = nothing_left h.network q l e

-- where one of those that are listed is left, it is the first
pub first_left : (net : Linked) (q : Queue) (k : ℕ) → q.at < length q.candidates.items
    → k ≡ get_or q.candidates.items q.at k
    → candidates_left net q
    ≡ k ∷ (drop (q.at + 1) q.candidates.items ++ unlisted q.more (length q.candidates.items) net)
first_left net q k within is =
    ap (λ ks. ks ++ unlisted q.more (length q.candidates.items) net) (left_more q.candidates.items q.at k within is)

-- behind it the others are left
pub others_left : (net : Linked) (q : Queue) → q.at < length q.candidates.items
    → drop (q.at + 1) q.candidates.items ++ unlisted q.more (length q.candidates.items) net
    ≡ drop 1 (candidates_left net q)
others_left net q within =
    let k = get_or q.candidates.items q.at 0 in
    ap (drop 1) (sym (first_left net q k within (get_or_default q.candidates.items q.at 0 k within)))

-- they are fewer
pub fewer_left : (net : Linked) (q : Queue) → q.at < length q.candidates.items
    → length (drop 1 (candidates_left net q)) < length (candidates_left net q)
fewer_left net q within =
    let k = get_or q.candidates.items q.at 0 in
    let e = ap length (first_left net q k within (get_or_default q.candidates.items q.at 0 k within)) in
    omega (arith, length-drop 1 (candidates_left net q), e)

-- the first ones of a list, so many, and where there are as many those behind them, are all
pub listed_all : (ks : List ℕ) (limit at : ℕ) → at ≤ limit
    → drop at (take limit ks) ++ cond (length (take limit ks) == limit) (drop (length (take limit ks)) ks) []
    ≡ drop at ks
listed_all ks limit at within = elim (cases_lt (length ks) limit) [
  | inl few ↦
      let all = take_all limit ks (omega (arith, few)) in
      let test : (length ks == limit) ≡ false = ne_eqb (length ks) limit (λ e. omega (arith, e, few)) in
      ap (λ (js : List ℕ). drop at js ++ cond (length js == limit) (drop (length js) ks) []) all
      ∙ (ap (λ b. drop at ks ++ cond b (drop (length ks) ks) []) test ∙ append-nil (drop at ks))
  | inr many ↦
      let some : length (take limit ks) ≡ limit = length-take-le limit ks many in
      let test : (length (take limit ks) == limit) ≡ true = eq-eqb (length (take limit ks)) limit some in
      ap₂ (λ b n. drop at (take limit ks) ++ cond b (drop n ks) []) test some
      ∙ (sym (drop-append-le at (take limit ks) (drop limit ks) (omega (arith, some, within)))
      ∙ ap (drop at) (take-append-drop limit ks))
]

-- where four are listed, there is one
pub some_listed : (n : ℕ) → (n == 4) ≡ true → 0 < n
some_listed zero e = absurd cc
some_listed (suc n) e = omega arith

module _ (net : Linked) where
  -- where there may be others only if one of those that are listed is left, there are none behind these
  pub none_unlisted : (q : Queue) (n : ℕ) → (q.more ≡ true → q.at < length q.candidates.items)
      → length q.candidates.items ≤ q.at → unlisted q.more n net ≡ []
  none_unlisted q n more l = by q.more refl
    where
      by : (b : Bool) → q.more ≡ b → unlisted b n net ≡ []
      by true e = absurd (let there = more e in omega (arith, there, l))
      by false e = refl

  -- where fewer are listed than were asked for, there are no others
  pub few_unlisted : (limit many n : ℕ) → many < limit → unlisted (many == limit) n net ≡ []
  few_unlisted limit many n l = ap (λ b. unlisted b n net) (ne_eqb many limit (λ e. omega (arith, e, l)))

  -- the first ones of the candidates, so many, are candidates
  pub listed_are : (limit : ℕ) (ps : List Place) → All (NamesTask net) (candidates_in net)
      → map (place_of net) (candidates_in net) ≡ map Some ps → All (IsCandidate net) (take limit (candidates_in net))
  listed_are limit ps names places =
      All-take (IsCandidate net) limit (candidates_in net) (candidates_are net (candidates_in net) ps names places)

  -- where all that are listed are done, more of them leave the same ones
  pub listed_more : (q : Queue) (limit many : ℕ) (xs : List ℕ) → q.more ≡ true → q.at ≡ length q.candidates.items
      → q.at ≤ limit → xs ≡ take limit (candidates_in net) → many ≡ length xs
      → drop q.at xs ++ unlisted (many == limit) (length xs) net ≡ candidates_left net q
  listed_more q limit many xs more at within is as_many =
      ap (λ n. drop q.at xs ++ unlisted (n == limit) (length xs) net) as_many
      ∙ ap (λ (js : List ℕ). drop q.at js ++ unlisted (length js == limit) (length js) net) is
      ∙ (listed_all (candidates_in net) limit q.at within
      ∙ (ap (λ n. drop n (candidates_in net)) at
      ∙ sym (ap₂ (λ ks b. ks ++ unlisted b (length q.candidates.items) net)
      (drop_all q.at q.candidates.items (omega (arith, at))) more)))

  -- the children by the first ones and those behind them are all of the node
  pub listed_children : (c : CodeView) (nest : ℕ) (n : Node) (limit many : ℕ) (rules xs : List ℕ)
      → xs ≡ take limit (candidates_in net) → many ≡ length xs
      → map (place_of net) (candidates_in net) ≡ map Some (candidates n.network n.focus)
      → by_queue c nest n net rules (drop 0 xs ++ unlisted (many == limit) (length xs) net)
      ≡ by_candidates (rules_in c) nest n net (drop 0 xs ++ unlisted (many == limit) (length xs) net) 0
      → by_queue c nest n net rules (drop 0 xs ++ unlisted (many == limit) (length xs) net)
      ≡ children (rules_in c) nest n
  listed_children c nest n limit many rules xs is as_many places e =
      e
      ∙ (ap (λ k. by_candidates (rules_in c) nest n net (drop 0 xs ++ unlisted (k == limit) (length xs) net) 0) as_many
      ∙ ap (λ (js : List ℕ). by_candidates (rules_in c) nest n net
      (drop 0 js ++ unlisted (length js == limit) (length js) net) 0) is
      ∙ (ap (λ ks. by_candidates (rules_in c) nest n net ks 0)
      (listed_all (candidates_in net) limit 0 (omega arith))
      ∙ by_all (rules_in c) nest n net (candidates_in net) places))

-- ---- the first candidate

module _ (c : CodeView) (nest : ℕ) (n : Node) (net : Linked) (k : ℕ) (js : List ℕ) where
  -- where no rule is left, the children by the other candidates are
  candidate_left : by_queue c nest n net [] (k ∷ js) ≡ by_candidates (rules_in c) nest n net js 0
  candidate_left =
      ap (λ xs. xs ++ by_candidates (rules_in c) nest n net js 0)
      (rules_end c nest n (place_in net k) (part_at n.network (place_in net k)))

  module _ (t : Term) (immediate : Bool) (part : part_at n.network (place_in net k) ≡ Some (Task t immediate)) where
    -- the rules that are relevant to the task give all its children
    pub all_rules : (rules : List ℕ) → map (rule_of c) rules ≡ map Some (relevant (task_name t) (rules_in c))
        → by_queue c nest n net rules (k ∷ js) ≡ by_candidates (rules_in c) nest n net (k ∷ js) 0
    all_rules rules e =
        let p = place_in net k in
        let rest = by_candidates (rules_in c) nest n net js 0 in
        ap (λ o. by_rules c nest n p o rules ++ rest) part
        ∙ (ap (λ xs. xs ++ rest)
        (rules_give (rules_in c) nest n p t (rule_of c) rules (relevant (task_name t) (rules_in c)) e)
        ∙ ap (λ o. relevant_by (rules_in c) nest n p o 0 ++ rest) (sym part))

    -- the children by the next rule are first
    pub rule_next : (i : ℕ) (others : List ℕ) (r : Rule) (first : List Child) → rule_of c i ≡ Some r
        → first ≡ rule_children (rules_in c) nest n (place_in net k) t r
        → by_queue c nest n net (i ∷ others) (k ∷ js) ≡ first ++ by_queue c nest n net others (k ∷ js)
    rule_next i others r first own e =
        let p = place_in net k in
        let rest = by_candidates (rules_in c) nest n net js 0 in
        ap (λ o. by_rules c nest n p o (i ∷ others) ++ rest) part
        ∙ (append_assoc (children_by (rules_in c) nest n p t (rule_of c i))
        (by_rules c nest n p (Some (Task t immediate)) others) rest
        ∙ ap₂ (λ xs o. xs ++ (by_rules c nest n p o others ++ rest))
        (ap (children_by (rules_in c) nest n p t) own ∙ sym e) (sym part))

-- a queue without rules has the children by the other candidates
pub rules_done : (c : CodeView) (nest : ℕ) (n : Node) (net : Linked) (q : Queue) → q.at < length q.candidates.items
    → by_queue c nest n net [] (candidates_left net q)
    ≡ by_candidates (rules_in c) nest n net (drop 1 (candidates_left net q)) 0
rules_done c nest n net q within =
    let k = get_or q.candidates.items q.at 0 in
    let js = drop (q.at + 1) q.candidates.items ++ unlisted q.more (length q.candidates.items) net in
    ap (by_queue c nest n net []) (first_left net q k within (get_or_default q.candidates.items q.at 0 k within))
    ∙ (candidate_left c nest n net k js
    ∙ ap (λ ks. by_candidates (rules_in c) nest n net ks 0) (others_left net q within))

-- ---- the choice that is opened

module _ (s : Scene) (nest : ℕ) (new : List Term) (h : HeldNode) (id task : ℕ) where
  -- a choice of a candidate gives the search node the children that it gives the node
  pub opened_children : (n : Node) (o : Option (Box Choice Global)) → node_of new h ≡ n
      → IfSome o (λ c. (c.value.id ≡ id) × (c.value.task ≡ task))
      → if_open s nest new h o ≡ children_if s nest new h.stage n (place_in h.network id) o
  opened_children n None e names = refl
  opened_children n (Some c) e names =
      ap₂ (λ m i. choice_children s nest new h.stage m (place_in h.network i) c.value) e names.0

  -- it is open
  pub opened_is : (base : ℕ) (o : Option (Box Choice Global))
      → IfSome o (λ c. IsChoice s new (length new) h.stage c.value)
      → IfSome o (λ c. (c.value.id ≡ id) × (c.value.task ≡ task)) → IfSome o (λ c. base ≤ picked_kept c.value.sats)
      → IsCandidate h.network id → 0 < h.depth → MaybeOpen s new base (length new) h o
  opened_is base None is names kept candidate deep = tt
  opened_is base (Some c) is names kept candidate deep = record {
    choice = is;
    candidate = subst (IsCandidate h.network) (sym names.0) candidate;
    kept = kept;
    deep = deep;
  }
