-- Items and pairs that are formed one after another, and the file that they make.
use Rattle.std.proofs.Common.{◌≡◌, ◌∙◌, ap, refl, arith, ℕ, ◌+◌, ◌<◌, ◌≤◌, List, [], ◌∷◌, ◌++◌, ◌-◌, Bool, subst, Result, Ok, length, true, false, codes, append-nil}
use Rattle.hp_syntax.specs.declared.form.What.TheVariants as wants
use Rattle.hp_syntax.specs.declared.pattern.Span.{Span}
use Rattle.hp_syntax.specs.Forest.{Node, Forest, Bare, Grow, Group, Spells, span_of}
use Rattle.hp_syntax.specs.Grammar as grammar
use Rattle.hp_syntax.specs.Grammar.{InProblem, pairs, pair_tasks, domain_form, problem_form, domain_list, problem_list, list}
use Rattle.hp_syntax.specs.Refusal.{IsClear}
use Rattle.hp_syntax.specs.Steps.{Names, Parse, and_then, closing, each, is_word, pure, value_in}
use Rattle.hp_syntax.specs.Syntax as syntax
use Rattle.hp_syntax.specs.Text.{Kind, Opening, Closing, IsGap}
use Rattle.hp_syntax.specs.TextForms.{Form, IsRead}
use Rattle.hp_text.specs.Stepping.{PassesBracket, PassesNode}
use Rattle.hp_text.proofs.Stepped.{list_passed, node_before, span_between}
use Rattle.hp_terms.specs.FormReads.{Reads}
use Rattle.hp_terms.specs.declared.refusal.FormRefusal.{FormRefusal}
use Rattle.hp_terms.proofs.Turns.{prepend, prepend-nil, prepend_more}
use Rattle.hp_forms.specs.Stepwise.{PassesAs, HasForm, PassesPair}
use Rattle.hp_forms.proofs.FileSteps.{file-alone, list_named, alone_value}

-- the items up to a place are read, and whatever forest is spelled from there on goes on with them
pub record ItemsSoFar {A : Type 0} (item : Node → Parse A) (text : List ℕ) (from to : ℕ) (before after : Names)
    (xs : List A) : Type 0 where
  pub order : from ≤ to
  pub parts : Forest → Forest
  pub spelled : (end : ℕ) (g : Forest) → Spells text to end g → Spells text from end (parts g)
  pub read : (g : Forest) → each item (parts g) before ≡ prepend xs (each item g after)

module _ {A : Type 0} (item : Node → Parse A) (text : List ℕ) where
  -- where nothing was read yet there are no items
  pub no_items : (from : ℕ) (names : Names) → ItemsSoFar item text from from names names []
  no_items from names = record {
    order = omega arith;
    parts = λ g. g;
    spelled = λ end g s. s;
    read = λ g. prepend-nil (each item g names);
  }

  -- a node that is read is one item more
  pub item_more : (from at' to : ℕ) (before between after : Names) (xs : List A) (x : A)
      → ItemsSoFar item text from at' before between xs → PassesAs item text at' to between after x
      → ItemsSoFar item text from to before after (xs ++ x ∷ [])
  item_more from at' to before between after xs x so_far p =
      let order : from ≤ at' = so_far.order in
      let grows : at' < to = p.passes.grows in
      record {
        order = omega arith;
        parts = λ g. so_far.parts (Grow p.node g);
        spelled =
            λ end g s. so_far.spelled end (Grow p.node g) (node_before text at' to end p.node g p.passes s);
        read =
            λ g. so_far.read (Grow p.node g)
            ∙ ap (λ r. prepend xs (and_then r (λ y later. and_then (each item g later) (λ ys. pure (y ∷ ys))))) p.read
            ∙ prepend_more xs x (each item g after);
      }

  -- the items so far are all, where a gap follows
  pub items_read : (from to : ℕ) (before after : Names) (xs : List A)
      → ItemsSoFar item text from to before after xs → HasForm (each item) text from to before after xs
  items_read from to before after xs so_far = record {
    order = so_far.order;
    parts = so_far.parts Bare;
    spelled = λ end gap. so_far.spelled end Bare gap;
    read = so_far.read Bare ∙ ap (λ ys. Ok (ys, after)) (append-nil xs);
  }

-- two nodes that are read as a pair go to the front of the pairs behind them
pair_first : (end : Span) (is_first : Bool) (a b : Node) (g : Forest) (before between after : Names) (pair : syntax.Pair)
    → grammar.atoms InProblem a before ≡ Ok (pair.state, between)
    → grammar.tasks InProblem b between ≡ Ok (pair.tasks, after)
    → pairs end is_first (Grow a (Grow b g)) before
    ≡ and_then (pairs end false g after) (λ others. pure (pair ∷ others))
unfolding pairs pair_tasks
pair_first end is_first a b g before between after pair state tasks =
    ap (λ r. and_then r (λ s later. pair_tasks end s (Grow b g) later)) state
    ∙ ap (λ r. and_then r (λ ts later. and_then (pairs end false g later)
    (λ others. pure (grammar.make_pair pair.state ts ∷ others)))) tasks

-- a pair takes some of the text
pub pair_takes : (text : List ℕ) (from to : ℕ) (before after : Names) (pair : syntax.Pair)
    → PassesPair text from to before after pair → from < to
pair_takes text from to before after pair p =
    let first : from < p.place = p.state.passes.grows in
    let second : p.place < to = p.tasks.passes.grows in
    omega arith

-- the pairs up to a place are read, and whatever pairs follow go on with them
pub record PairsSoFar (text : List ℕ) (from to : ℕ) (before after : Names) (ps : List syntax.Pair) : Type 0 where
  pub order : from ≤ to
  pub parts : Forest → Forest
  pub spelled : (end : ℕ) (g : Forest) → Spells text to end g → Spells text from end (parts g)
  pub read : (end : Span) (n : Node) (g : Forest)
      → pairs end true (parts (Grow n g)) before ≡ prepend ps (pairs end true (Grow n g) after)

module _ (text : List ℕ) where
  -- where nothing was read yet there are no pairs
  pub no_pairs : (from : ℕ) (names : Names) → PairsSoFar text from from names names []
  no_pairs from names = record {
    order = omega arith;
    parts = λ g. g;
    spelled = λ end g s. s;
    read = λ end n g. prepend-nil (pairs end true (Grow n g) names);
  }

  module _ (from at' to : ℕ) (before between after : Names) (ps : List syntax.Pair) (pair : syntax.Pair)
      (so_far : PairsSoFar text from at' before between ps) (p : PassesPair text at' to between after pair) where
    with_pair : Forest → Forest
    with_pair g = so_far.parts (Grow p.state.node (Grow p.tasks.node g))

    pair_order : from ≤ to
    pair_order =
        let order : from ≤ at' = so_far.order in
        let grows : at' < to = pair_takes text at' to between after pair p in
        omega arith

    pair_spelled : (end : ℕ) (g : Forest) → Spells text to end g → Spells text from end (with_pair g)
    unfolding with_pair
    pair_spelled end g s =
        let behind : Forest = Grow p.tasks.node g in
        so_far.spelled end (Grow p.state.node behind)
        (node_before text at' p.place end p.state.node behind p.state.passes
        (node_before text p.place to end p.tasks.node g p.tasks.passes s))

    pair_read : (end : Span) (g : Forest)
        → pairs end true (with_pair g) before ≡ prepend (ps ++ pair ∷ []) (pairs end false g after)
    unfolding with_pair
    pair_read end g =
        so_far.read end p.state.node (Grow p.tasks.node g)
        ∙ ap (prepend ps) (pair_first end true p.state.node p.tasks.node g between p.names after pair p.state.read
        p.tasks.read)
        ∙ prepend_more ps pair (pairs end false g after)

    -- a pair that is read is one more
    pub pair_more : PairsSoFar text from to before after (ps ++ pair ∷ [])
    unfolding pairs
    pair_more = record {
      order = pair_order;
      parts = with_pair;
      spelled = pair_spelled;
      read = λ end n g. pair_read end (Grow n g);
    }

    -- with it the pairs are all, where a gap follows
    pub pairs_read : (end : Span) → HasForm (pairs end true) text from to before after (ps ++ pair ∷ [])
    unfolding pairs
    pairs_read end = record {
      order = pair_order;
      parts = with_pair Bare;
      spelled = λ last gap. pair_spelled last Bare gap;
      read = pair_read end Bare ∙ ap (λ ys. Ok (ys, after)) (append-nil (ps ++ pair ∷ []));
    }

-- a state between its brackets is a list of atoms
pub state_read : (text : List ℕ) (from a b to : ℕ) (before after : Names) (xs : List syntax.Atom)
    → PassesBracket Opening text from a → HasForm (each (grammar.atom InProblem)) text a b before after xs
    → PassesBracket Closing text b to → PassesAs (grammar.atoms InProblem) text from to before after xs
unfolding grammar.atoms list
state_read text from a b to before after xs opens form closes = record {
  node = Group (span_between a to) form.parts;
  passes = list_passed text from a b to form.parts opens form.order form.spelled closes;
  read = form.read;
}

-- a name and a list of rules are a domain
domain_listed : (s t : Span) (n : Node) (parts : Forest) (name : List ℕ) (rules : List syntax.Rule)
    → grammar.name n [] ≡ Ok (name, []) → each grammar.rule parts [] ≡ Ok (rules, [])
    → domain_list s (Grow n (Grow (Group t parts) Bare)) [] ≡ Ok (record { name = name; rules = rules }, [])
unfolding domain_list list
domain_listed s t n parts name rules named ruled = rw (named, ruled) refl

-- two names and pairs are a problem
problem_listed : (s : Span) (n m : Node) (parts : Forest) (own domain : List ℕ) (ps : List syntax.Pair) (vars : Names)
    → grammar.name n [] ≡ Ok (own, []) → grammar.name m [] ≡ Ok (domain, [])
    → pairs (closing s) true parts [] ≡ Ok (ps, vars)
    → problem_list s (Grow n (Grow m parts)) []
    ≡ Ok (record { name = own; domain = domain; domain_span = span_of m; vars = vars; pairs = ps }, vars)
unfolding problem_list
problem_listed s n m parts own domain ps vars named of paired = rw (named, of, paired) refl

-- a value that was formed is what the grammar reads
pub read_of : {X Y : Type 0} (view : X → Y) (r : Result X FormRefusal) (step : Parse Y) (before after : Names) (x : X)
    → r ≡ Ok x → Reads view r step before after → step before ≡ Ok (view x, after)
read_of view r step before after x formed reads = subst (λ q. Reads view q step before after) formed reads

-- a bracket that is passed in one text is passed in the same text
pub bracket_in : (kind : Kind) (text other : List ℕ) (from to : ℕ) → other ≡ text → PassesBracket kind other from to
    → PassesBracket kind text from to
bracket_in kind text other from to same passes = rw (← same) passes

-- as is a node,
pub node_in : (text other : List ℕ) (from to : ℕ) (n : Node) → other ≡ text → PassesNode other from to n
    → PassesNode text from to n
node_in text other from to n same passes = rw (← same) passes

-- and a node with its reading,
pub read_in : {A : Type 0} (item : Node → Parse A) (text other : List ℕ) (from to : ℕ) (before after : Names) (x : A)
    → other ≡ text → PassesAs item other from to before after x → PassesAs item text from to before after x
read_in item text other from to before after x same passes = rw (← same) passes

-- a forest with its reading,
pub form_in : {A : Type 0} (step : Forest → Parse A) (text other : List ℕ) (from to : ℕ) (before after : Names) (x : A)
    → other ≡ text → HasForm step other from to before after x → HasForm step text from to before after x
form_in step text other from to before after x same form = rw (← same) form

-- and the gap up to the end
pub gap_in : (text other : List ℕ) (from : ℕ) → other ≡ text → IsGap other from (length other)
    → IsGap text from (length text)
gap_in text other from same gap = rw (← same) gap

-- a node that is passed and read is read as what it is
pub node_read : {A : Type 0} (item : Node → Parse A) (text other : List ℕ) (from to : ℕ) (before after : Names) (x : A)
    (n : Node) → other ≡ text → PassesNode other from to n → item n before ≡ Ok (x, after)
    → PassesAs item text from to before after x
node_read item text other from to before after x n same passes read =
    record { node = n; passes = rw (← same) passes; read = read }

-- what is left to read is less behind a place further on
pub less_left : (text now before' : List ℕ) (from to : ℕ) → now ≡ text → before' ≡ text → from < to → to ≤ length now
    → length now - to < length before' - from
less_left text now before' from to same then' grows within =
    let a : length now ≡ length text = ap length same in
    let b : length before' ≡ length text = ap length then' in
    omega arith

-- the only node of a file, between the file's ends, is its forest
whole : {A : Type 0} (form : Form A) (text : List ℕ) (to : ℕ) (n : Node) (x : A) → IsClear text (length text + 1)
    → PassesNode text 0 to n → IsGap text to (length text) → form (length text) (Grow n Bare) ≡ Ok x
    → IsRead form text x
whole form text to n x clear passes gap formed = record {
  forest = Grow n Bare;
  spelled = record { spelled = node_before text 0 to (length text) n Bare passes gap; clear = clear };
  form_is = formed;
}

module _ (text : List ℕ) (clear : IsClear text (length text + 1)) (a b c d e : ℕ)
    (opens : PassesBracket Opening text 0 a) where
  -- a domain's word, its name and its rules between their brackets are a domain
  pub domain_read : (f g : ℕ) (word : Node) (name : List ℕ) (rules : List syntax.Rule) → PassesNode text a b word
      → is_word (codes "defdomain") word ≡ true → PassesAs grammar.name text b c [] [] name
      → PassesBracket Opening text c d → HasForm (each grammar.rule) text d e [] [] rules
      → PassesBracket Closing text e f → PassesBracket Closing text f g → IsGap text g (length text)
      → IsRead domain_form text (record { name = name; rules = rules })
  domain_read f g word name rules worded is_domain named enters form leaves closes gap =
      let inner : Node = Group (span_between d f) form.parts in
      let ruled : PassesNode text c f inner =
      list_passed text c d e f form.parts enters form.order form.spelled leaves in
      let parts : Forest = Grow word (Grow named.node (Grow inner Bare)) in
      let first : a < b = worded.grows in
      let second : b < c = named.passes.grows in
      let third : c < f = ruled.grows in
      let outer : PassesNode text 0 g (Group (span_between a g) parts) =
      list_passed text 0 a f g parts opens (omega arith)
      (λ end last. node_before text a b end word (Grow named.node (Grow inner Bare)) worded
      (node_before text b c end named.node (Grow inner Bare) named.passes
      (node_before text c f end inner Bare ruled last))) closes in
      let s : Span = span_between a g in
      let value : syntax.Domain = record { name = name; rules = rules } in
      whole domain_form text g (Group s parts) value clear outer gap
      (file-alone wants.Domain _ (length text) (Grow (Group s parts) Bare) (Group s parts) Bare refl
      ∙ alone_value _ value Bare [] (ap value_in (list_named wants.Domain (codes "defdomain") domain_list s [] word
      (Grow named.node (Grow inner Bare)) is_domain
      ∙ domain_listed s (span_between d f) named.node form.parts name rules named.read form.read)) refl)

  -- a problem's word, its two names and its pairs are a problem
  pub problem_read : (f : ℕ) (word : Node) (own domain : List ℕ) (ps : List syntax.Pair) (vars : Names)
      → PassesNode text a b word → is_word (codes "defproblem") word ≡ true
      → PassesAs grammar.name text b c [] [] own → (of : PassesAs grammar.name text c d [] [] domain)
      → ((end : Span) → HasForm (pairs end true) text d e [] vars ps) → PassesBracket Closing text e f
      → IsGap text f (length text)
      → IsRead problem_form text
      (record { name = own; domain = domain; domain_span = span_of of.node; vars = vars; pairs = ps })
  problem_read f word own domain ps vars worded is_problem named of forms closes gap =
      let s : Span = span_between a f in
      let form : HasForm (pairs (closing s) true) text d e [] vars ps = forms (closing s) in
      let rest : Forest = Grow named.node (Grow of.node form.parts) in
      let parts : Forest = Grow word rest in
      let first : a < b = worded.grows in
      let second : b < c = named.passes.grows in
      let third : c < d = of.passes.grows in
      let fourth : d ≤ e = form.order in
      let outer : PassesNode text 0 f (Group s parts) =
      list_passed text 0 a e f parts opens (omega arith)
      (λ end last. node_before text a b end word rest worded
      (node_before text b c end named.node (Grow of.node form.parts) named.passes
      (node_before text c d end of.node form.parts of.passes (form.spelled end last)))) closes in
      let value : syntax.Problem =
      record { name = own; domain = domain; domain_span = span_of of.node; vars = vars; pairs = ps } in
      whole problem_form text f (Group s parts) value clear outer gap
      (file-alone wants.Problem _ (length text) (Grow (Group s parts) Bare) (Group s parts) Bare refl
      ∙ alone_value _ value Bare [] (ap value_in (list_named wants.Problem (codes "defproblem") problem_list s [] word
      rest is_problem
      ∙ problem_listed s named.node of.node form.parts own domain ps vars named.read of.read form.read)) refl)
