-- Reading the terms and the steps of a plan one by one: those so far, and what is read from here on.
use Rattle.std.proofs.Common.{◌≡◌, ◌∙◌, sym, ap, refl, subst, arith, ℕ, ◌+◌, ◌<◌, ◌≤◌, Bool, true, false, cond, List, [], ◌∷◌, ◌++◌, length, get_or, drop, Option, Some, None, is_some, option_map, Result, Ok, Err, codes, append_assoc, append-nil, map}
use Rattle.std.proofs.lemmas.List.{drop_more, drop_all, map-append}
use Rattle.hp_syntax.specs.declared.pattern.Span.{Span}
use Rattle.std.specs.Prelude.{Vec}
use Rattle.std.specs.Global.{Global}
use Rattle.hp_syntax.specs.declared.name.Name.{Name}
use Rattle.hp_syntax.specs.declared.pattern.Ground.{Ground}
use Rattle.hp_syntax.specs.declared.pattern.Ground.TheVariants as grounds
use Rattle.hp_syntax.specs.declared.form.What.TheVariants as wants
use Rattle.hp_syntax.specs.Forest.{Node, Forest, Bare, Grow}
use Rattle.hp_syntax.specs.GroundViews.{as_terms, ground_of, grounds_of, ground_of-list, ground_of-sym}
use Rattle.hp_syntax.specs.Steps.{Misform, Expected, closing, is_word}
use Rattle.hp_syntax.specs.Terms.{Term, Terms, Listed, NoTerm, More}
use Rattle.hp_text.specs.declared.forest.Node as public
use Rattle.hp_text.specs.Nodes.{node_of, nodes_of}
use Rattle.hp_terms.specs.FormReads.{Refuses, Gives}
use Rattle.hp_terms.specs.Words.{behind}
use Rattle.hp_terms.specs.declared.refusal.FormRefusal.{FormRefusal}
use Rattle.hp_terms.specs.declared.refusal.FormRefusal.TheVariants as refusals
use Rattle.hp_terms.proofs.Turns.{refused_same}
use Rattle.hp_forms.specs.PlanForms.{and_then, term, list_term, items, dotted, list_tail, headed, step, plan_form}
use Rattle.hp_forms.specs.PlanReads.{Adds}

-- a refusal of a step is one of what goes on from it
pub refused_next : {A B : Type 0} (e : FormRefusal) (r : Result A Misform) (f : A → Result B Misform)
    → Refuses e r → Refuses e (and_then r f)
refused_next (refusals.Expected what span) r f h = ap (λ x. and_then x f) h
refused_next refusals.NoMemory r f h = h

-- ---- terms

abbrev all_before : List Term → Terms → Terms
all_before [] rest = rest
all_before (t ∷ ts) rest = More t (all_before ts rest)

-- the terms read so far, before those that are read from here on
abbrev pub put_before : List Term → Result Terms Misform → Result Terms Misform
put_before prefix (Ok rest) = Ok (all_before prefix rest)
put_before prefix (Err e) = Err e

put_before-nil : (r : Result Terms Misform) → r ≡ put_before [] r
put_before-nil (Ok rest) = refl
put_before-nil (Err e) = refl

all_before-append : (a b : List Term) (rest : Terms) → all_before a (all_before b rest) ≡ all_before (a ++ b) rest
all_before-append [] b rest = refl
all_before-append (t ∷ ts) b rest = ap (More t) (all_before-append ts b rest)

all_before-parts : (a b : List Term) → all_before a (as_terms b) ≡ as_terms (a ++ b)
all_before-parts [] b = refl
all_before-parts (t ∷ ts) b = ap (More t) (all_before-parts ts b)

all_before-none : (ts : List Term) → all_before ts NoTerm ≡ as_terms ts
all_before-none [] = refl
all_before-none (t ∷ ts) = ap (More t) (all_before-none ts)

abbrev behind_first : Term → Terms → Result Terms Misform
behind_first t rest = Ok (More t rest)

put_before_more : (prefix : List Term) (t : Term) (r : Result Terms Misform)
    → put_before prefix (and_then r (behind_first t)) ≡ put_before (prefix ++ t ∷ []) r
put_before_more prefix t (Ok rest) = ap Ok (all_before-append prefix (t ∷ []) rest)
put_before_more prefix t (Err e) = refl

refused_below : (e : FormRefusal) (prefix : List Term) (r : Result Terms Misform)
    → Refuses e r → Refuses e (put_before prefix r)
refused_below (refusals.Expected what span) prefix r h = ap (put_before prefix) h
refused_below refusals.NoMemory prefix r h = h

-- terms were added to a list, and what is read from here on goes behind them
pub record SoFar (all next : Result Terms Misform) (old new : List Ground) : Type 0 where
  pub more : List Ground
  pub parts : new ≡ old ++ more
  pub read : all ≡ put_before (map ground_of more) next

-- before anything is read
pub at_start : (all : Result Terms Misform) (old : List Ground) → SoFar all all old old
at_start all old = record { more = []; parts = sym (append-nil old); read = put_before-nil all }

-- one term more
pub one_more : (all next rest : Result Terms Misform) (one : Result Term Misform) (old new : List Ground) (x : Ground)
    → next ≡ and_then one (λ t. and_then rest (behind_first t)) → SoFar all next old new → one ≡ Ok (ground_of x)
    → SoFar all rest old (new ++ x ∷ [])
one_more all next rest one old new x is_next so_far r = record {
  more = so_far.more ++ x ∷ [];
  parts = ap (λ ps. ps ++ x ∷ []) so_far.parts ∙ append_assoc old so_far.more (x ∷ []);
  read =
      so_far.read ∙ ap (put_before (map ground_of so_far.more)) is_next
      ∙ ap (λ o. put_before (map ground_of so_far.more) (and_then o (λ t. and_then rest (behind_first t)))) r
      ∙ put_before_more (map ground_of so_far.more) (ground_of x) rest
      ∙ ap (λ ps. put_before ps rest) (sym (map-append ground_of so_far.more (x ∷ [])));
}

-- what is refused from here on refuses all
pub refused : (all next : Result Terms Misform) (old new : List Ground) (e : FormRefusal)
    → SoFar all next old new → Refuses e next → Refuses e all
refused all next old new e so_far h =
    refused_same e all _ so_far.read (refused_below e (map ground_of so_far.more) next h)

-- the terms that are added from here on go behind those that were added before
pub added : (r : Result (Unit {0}) FormRefusal) (all next : Result Terms Misform) (old mid new : List Ground)
    → SoFar all next old mid → Adds r next mid new → Adds r all old new
added (Ok done) all next old mid new so_far h = (
  so_far.more ++ h.0,
  h.1 ∙ ap (λ ps. ps ++ h.0) so_far.parts ∙ append_assoc old so_far.more h.0,
  so_far.read ∙ ap (put_before (map ground_of so_far.more)) h.2
      ∙ ap Ok
      (all_before-parts (map ground_of so_far.more) (map ground_of h.0)
      ∙ ap as_terms (sym (map-append ground_of so_far.more h.0))),
)
added (Err e) all next old mid new so_far h = refused all next old mid e so_far h

-- terms begin with one that is no dot
pub items-term : (end : Span) (n : Node) (rest : Forest) → is_word (codes ".") n ≡ false
    → items end (Grow n rest) ≡ and_then (term n) (λ t. and_then (items end rest) (behind_first t))
unfolding items
items-term end n rest h = rw h

-- behind a dot stands a tail
pub items-dot : (end : Span) (n : Node) (rest : Forest) → is_word (codes ".") n ≡ true
    → items end (Grow n rest) ≡ dotted end rest
unfolding items
items-dot end n rest h = rw h

module _ (end : Span) (all : Result Terms Misform) (old : List Ground) (rest others : List public.Node)
    (first : public.Node) (split : rest ≡ first ∷ others) where
  module _ (new : List Ground) (dotless : is_word (codes ".") (node_of first) ≡ false)
      (so_far : SoFar all (items end (nodes_of rest)) old new) where
    is_next : items end (nodes_of rest)
        ≡ and_then (term (node_of first)) (λ t. and_then (items end (nodes_of others)) (behind_first t))
    is_next = ap (λ ns. items end (nodes_of ns)) split ∙ items-term end (node_of first) (nodes_of others) dotless

    -- a term was read, and is added to the parts
    pub item_read : (newer : List Ground) (x : Ground) → term (node_of first) ≡ Ok (ground_of x)
        → newer ≡ new ++ x ∷ [] → SoFar all (items end (nodes_of others)) old newer
    item_read newer x r pushed =
        subst (λ ps. SoFar all (items end (nodes_of others)) old ps) (sym pushed)
        (one_more all (items end (nodes_of rest)) (items end (nodes_of others)) (term (node_of first)) old new x is_next
        so_far r)

    -- a term was refused, and so all is
    pub item_refused : (e : FormRefusal) → Refuses e (term (node_of first)) → Refuses e all
    item_refused e r =
        refused all (items end (nodes_of rest)) old new e so_far
        (refused_same e _ _ is_next (refused_next e (term (node_of first)) _ r))

  -- the parts of a dot and a tail go behind those that were added before
  pub tail_added : (r : Result (Unit {0}) FormRefusal) (mid new : List Ground)
      → is_word (codes ".") (node_of first) ≡ true → SoFar all (items end (nodes_of rest)) old mid
      → Adds r (dotted end (nodes_of others)) mid new → Adds r all old new
  tail_added r mid new dot so_far h =
      let is_dotted = ap (λ ns. items end (nodes_of ns)) split
      ∙ items-dot end (node_of first) (nodes_of others) dot in
      let at_dot : SoFar all (dotted end (nodes_of others)) old mid = record {
        more = so_far.more;
        parts = so_far.parts;
        read = so_far.read ∙ ap (put_before (map ground_of so_far.more)) is_dotted;
      } in
      added r all (dotted end (nodes_of others)) old mid new at_dot h

-- where no node is left, nothing more is added
pub none_added : (end : Span) (all : Result Terms Misform) (old new : List Ground) (rest : List public.Node)
    → length rest ≡ 0 → SoFar all (items end (nodes_of rest)) old new → Adds (Ok tt) all old new
unfolding items
none_added end all old new [] none so_far = (
  so_far.more,
  so_far.parts,
  so_far.read ∙ ap Ok (all_before-none (map ground_of so_far.more)),
)
none_added end all old new (n ∷ ns) none so_far = absurd (omega arith)

-- where nothing is read, no term is added
pub nothing_added : (r : Result (Unit {0}) FormRefusal) (given : Result Terms Misform) (parts : List Ground)
    → Gives (λ _. NoTerm) r given → Adds r given parts parts
nothing_added (Ok done) given parts h = ([], sym (append-nil parts), h)
nothing_added (Err e) given parts h = h

-- a list that begins with `call` is no term
pub list-call : (s : Span) (f : Forest) → is_some (behind (codes "call") f) ≡ true
    → list_term s f ≡ Err (Expected wants.Ground s)
unfolding list_term
list-call s Bare h = cc
list-call s (Grow n rest) h = either (is_word (codes "call") n) h
  where
    either : (b : Bool) → is_some (cond b (Some rest) None) ≡ true
        → cond b (Err (Expected wants.Ground s)) (and_then (term n) (λ first.
        and_then (items (closing s) rest) (λ others. Ok (Listed (More first others)))))
        ≡ Err (Expected wants.Ground s)
    either true b-call = refl
    either false b-call = cc

-- another list is one of the parts that it would have behind a dot
pub list-parts : (s : Span) (f : Forest) → is_some (behind (codes "call") f) ≡ false
    → list_term s f ≡ and_then (list_tail s f) (λ ts. Ok (Listed ts))
unfolding list_term list_tail
list-parts s Bare h = refl
list-parts s (Grow n rest) h = either (is_word (codes "call") n) h
  where
    regroup : (one : Result Term Misform) (others : Result Terms Misform)
        → and_then one (λ first. and_then others (λ ts. Ok (Listed (More first ts))))
        ≡ and_then (and_then one (λ first. and_then others (λ ts. Ok (More first ts)))) (λ ts. Ok (Listed ts))
    regroup (Ok t) (Ok ts) = refl
    regroup (Ok t) (Err e) = refl
    regroup (Err e) others = refl

    either : (b : Bool) → is_some (cond b (Some rest) None) ≡ false
        → cond b (Err (Expected wants.Ground s)) (and_then (term n) (λ first.
        and_then (items (closing s) rest) (λ others. Ok (Listed (More first others)))))
        ≡ and_then (cond b (Err (Expected wants.Tail s)) (and_then (term n) (λ first.
        and_then (items (closing s) rest) (λ others. Ok (More first others))))) (λ ts. Ok (Listed ts))
    either true b-call = cc
    either false b-call = regroup (term n) (items (closing s) rest)

-- a list's word is found in memory where it is found in what the list stands for
pub is_some-seen : {A B : Type 0} (f : A → B) (o : Option A) → is_some (option_map f o) ≡ is_some o
is_some-seen f None = refl
is_some-seen f (Some x) = refl

-- ---- steps of a plan

-- a name and terms that were added behind it are the list of both
pub list-headed : (name : Name) (parts : Vec Ground Global) (old more : List Ground)
    → old ≡ grounds.Sym name ∷ [] → parts.items ≡ old ++ more
    → ground_of (grounds.List parts) ≡ headed name (grounds_of more)
list-headed name parts old more begun all =
    ground_of-list parts ∙ ap (λ gs. Listed (grounds_of gs)) (all ∙ ap (λ gs. gs ++ more) begun)
    ∙ ap (λ t. Listed (More t (grounds_of more))) (ground_of-sym name)

-- the steps so far, before those that are read from here on
abbrev pub prepend : List Term → Result (List Term) Misform → Result (List Term) Misform
prepend prefix (Ok ts) = Ok (prefix ++ ts)
prepend prefix (Err e) = Err e

-- before anything was read, what is read from here on is all
pub prepend-nil : (r : Result (List Term) Misform) → r ≡ prepend [] r
prepend-nil (Ok ts) = refl
prepend-nil (Err e) = refl

prepend_more : (prefix : List Term) (t : Term) (r : Result (List Term) Misform)
    → prepend prefix (and_then r (λ ts. Ok (t ∷ ts))) ≡ prepend (prefix ++ t ∷ []) r
prepend_more prefix t (Ok ts) = ap Ok (sym (append_assoc prefix (t ∷ []) ts))
prepend_more prefix t (Err e) = refl

refused_behind : (e : FormRefusal) (prefix : List Term) (r : Result (List Term) Misform)
    → Refuses e r → Refuses e (prepend prefix r)
refused_behind (refusals.Expected what span) prefix r h = ap (prepend prefix) h
refused_behind refusals.NoMemory prefix r h = h

module _ (nodes : List public.Node) (i : ℕ) (prefix : List Ground) (all : Result (List Term) Misform)
    (so_far : all ≡ prepend (map ground_of prefix) (plan_form (nodes_of (drop i nodes)))) where
  module _ (n : public.Node) (more : i < length nodes) (at : n ≡ get_or nodes i n) where
    here_first : plan_form (nodes_of (drop i nodes))
        ≡ and_then (step (node_of n)) (λ t. and_then (plan_form (nodes_of (drop (i + 1) nodes))) (λ ts. Ok (t ∷ ts)))
    unfolding plan_form
    here_first =
        ap (λ ns. plan_form (nodes_of ns)) (drop_more nodes i n more)
        ∙ ap (λ m. and_then (step (node_of m)) (λ t. and_then (plan_form (nodes_of (drop (i + 1) nodes)))
        (λ ts. Ok (t ∷ ts)))) (sym at)

    -- one more step is read
    pub step_read : (x : Ground) → step (node_of n) ≡ Ok (ground_of x)
        → all ≡ prepend (map ground_of (prefix ++ x ∷ [])) (plan_form (nodes_of (drop (i + 1) nodes)))
    step_read x r =
        let rest = plan_form (nodes_of (drop (i + 1) nodes)) in
        so_far ∙ ap (prepend (map ground_of prefix)) here_first
        ∙ ap (λ o. prepend (map ground_of prefix) (and_then o (λ t. and_then rest (λ ts. Ok (t ∷ ts))))) r
        ∙ prepend_more (map ground_of prefix) (ground_of x) rest
        ∙ ap (λ ts. prepend ts rest) (sym (map-append ground_of prefix (x ∷ [])))

    -- a step that is refused refuses all
    pub step_refused : (e : FormRefusal) → Refuses e (step (node_of n)) → Refuses e all
    step_refused e r =
        refused_same e all _ (so_far ∙ ap (prepend (map ground_of prefix)) here_first)
        (refused_behind e (map ground_of prefix) _ (refused_next e (step (node_of n)) _ r))

  -- at the end, what was read so far is all
  pub all_read : length nodes ≤ i → all ≡ Ok (map ground_of prefix)
  unfolding plan_form
  all_read none =
      so_far ∙ ap (λ ns. prepend (map ground_of prefix) (plan_form (nodes_of ns))) (drop_all i nodes none)
      ∙ ap Ok (append-nil (map ground_of prefix))
