-- Reading the items of a list one by one: the items so far, and the result of a step for the rest.
use Rattle.std.proofs.Common.{◌≡◌, ◌∙◌, sym, ap, refl, ℕ, ◌+◌, ◌<◌, ◌≤◌, List, [], ◌∷◌, ◌++◌, Result, Ok, Err, length, get_or, drop, map, append_assoc, append-nil}
use Rattle.std.proofs.lemmas.List.{drop_more, drop_all, map-append, nil_from_length}
use Rattle.std.proofs.lemmas.Option.{MatchOption-at_some, MatchOption-at_none}
use Rattle.std.specs.Vec.Iter.{into_iter_items, into_iter_steps}
use Rattle.std.specs.declared.option.Option.{Option}
use Rattle.std.specs.declared.option.Option.TheVariants.{Some, None}
use Rattle.std.specs.declared.vec.IntoIter.{IntoIter}
use Rattle.hp_syntax.specs.Forest as plain
use Rattle.hp_syntax.specs.Steps.{Misform, Names, Parse, each, and_then, pure}
use Rattle.hp_text.specs.declared.forest.Node.{Node}
use Rattle.hp_text.specs.Nodes.{node_of, nodes_of}
use Rattle.hp_terms.specs.FormReads.{Refuses}
use Rattle.hp_terms.specs.declared.refusal.FormRefusal.{FormRefusal}
use Rattle.hp_terms.specs.declared.refusal.FormRefusal.TheVariants as refusals

-- the items so far, before those that are read from here on
abbrev pub prepend : {A : Type 0} → List A → Result (List A × Names) Misform → Result (List A × Names) Misform
prepend prefix (Ok p) = Ok (prefix ++ p.0, p.1)
prepend prefix (Err e) = Err e

-- before anything was read, what is read from here on is all
pub prepend-nil : {A : Type 0} (r : Result (List A × Names) Misform) → r ≡ prepend [] r
prepend-nil (Ok p) = refl
prepend-nil (Err e) = refl

-- an item that is read goes from the front of the rest to the end of the items so far
pub prepend_more : {A : Type 0} (prefix : List A) (x : A) (r : Result (List A × Names) Misform)
    → prepend prefix (and_then r (λ xs. pure (x ∷ xs))) ≡ prepend (prefix ++ x ∷ []) r
prepend_more prefix x (Ok p) = ap (λ xs. Ok (xs, p.1)) (sym (append_assoc prefix (x ∷ []) p.0))
prepend_more prefix x (Err e) = refl

-- a refusal of the next step is one of all
pub refused_next : {A B : Type 0} (e : FormRefusal) (r : Result (A × Names) Misform) (f : A → Parse B)
    → Refuses e r → Refuses e (and_then r f)
refused_next (refusals.Expected what span) r f h = ap (λ x. and_then x f) h
refused_next refusals.NoMemory r f h = h

refused_behind : {A : Type 0} (e : FormRefusal) (prefix : List A) (r : Result (List A × Names) Misform)
    → Refuses e r → Refuses e (prepend prefix r)
refused_behind (refusals.Expected what span) prefix r h = ap (prepend prefix) h
refused_behind refusals.NoMemory prefix r h = h

-- a refusal of a result is one of an equal result
pub refused_same : {A : Type 0} (e : FormRefusal) (r s : Result A Misform) → r ≡ s → Refuses e s → Refuses e r
refused_same (refusals.Expected what span) r s same h = same ∙ h
refused_same refusals.NoMemory r s same h = h

-- each item, from one on
abbrev pub from_here : {A : Type 0} → (plain.Node → Parse A) → List Node → ℕ → Names → Result (List A × Names) Misform
from_here item nodes i names = each item (nodes_of (drop i nodes)) names

module _ {A : Type 0} (item : plain.Node → Parse A) (nodes : List Node) where
  -- each item from one on: that one, and then the others
  here_first : (i : ℕ) (d : Node) (names : Names) → i < length nodes
      → from_here item nodes i names
      ≡ and_then (item (node_of (get_or nodes i d)) names)
      (λ x later. and_then (from_here item nodes (i + 1) later) (λ xs. pure (x ∷ xs)))
  here_first i d names h = ap (λ ns. each item (nodes_of ns) names) (drop_more nodes i d h)

  -- behind the last item nothing more is read
  pub none_left : (i : ℕ) (names : Names) → length nodes ≤ i → from_here item nodes i names ≡ Ok ([], names)
  none_left i names h = ap (λ ns. each item (nodes_of ns) names) (drop_all i nodes h)

  -- at the end, what was read so far is all
  pub all_read : (i : ℕ) (prefix : List A) (names : Names) (all : Result (List A × Names) Misform)
      → length nodes ≤ i → all ≡ prepend prefix (from_here item nodes i names) → all ≡ Ok (prefix, names)
  all_read i prefix names all h e =
      e ∙ ap (prepend prefix) (none_left i names h) ∙ ap (λ xs. Ok (xs, names)) (append-nil prefix)

  -- one more item is read
  pub one_read : (i : ℕ) (d : Node) (prefix : List A) (x : A) (before after : Names)
      (all : Result (List A × Names) Misform) → i < length nodes
      → all ≡ prepend prefix (from_here item nodes i before)
      → item (node_of (get_or nodes i d)) before ≡ Ok (x, after)
      → all ≡ prepend (prefix ++ x ∷ []) (from_here item nodes (i + 1) after)
  one_read i d prefix x before after all h e r =
      e ∙ ap (prepend prefix) (here_first i d before h)
      ∙ ap (λ o. prepend prefix (and_then o (λ y later. and_then (from_here item nodes (i + 1) later)
      (λ xs. pure (y ∷ xs))))) r
      ∙ prepend_more prefix x (from_here item nodes (i + 1) after)

  -- an item that is refused refuses all
  pub one_refused : (i : ℕ) (d : Node) (prefix : List A) (why : FormRefusal) (names : Names)
      (all : Result (List A × Names) Misform) → i < length nodes
      → all ≡ prepend prefix (from_here item nodes i names)
      → Refuses why (item (node_of (get_or nodes i d)) names) → Refuses why all
  one_refused i d prefix why names all h e r =
      refused_same why all _ (e ∙ ap (prepend prefix) (here_first i d names h))
      (refused_behind why prefix _ (refused_next why _ _ r))

-- the same where what is read is seen through a view
pub one_viewed : {X A : Type 0} (view : X → A) (item : plain.Node → Parse A) (nodes : List Node) (i : ℕ) (d : Node)
    (prefix : List X) (x : X) (before after : Names) (all : Result (List A × Names) Misform) → i < length nodes
    → all ≡ prepend (map view prefix) (from_here item nodes i before)
    → item (node_of (get_or nodes i d)) before ≡ Ok (view x, after)
    → all ≡ prepend (map view (prefix ++ x ∷ [])) (from_here item nodes (i + 1) after)
one_viewed view item nodes i d prefix x before after all h e r =
    one_read item nodes i d (map view prefix) (view x) before after all h e r
    ∙ ap (λ xs. prepend xs (from_here item nodes (i + 1) after)) (sym (map-append view prefix (x ∷ [])))

-- the node that an iterator takes is the first of those that are left
pub first_taken : {Z : Type 0} (old new : IntoIter Node Z) (r : Option Node) (n : Node)
    → r ≡ Some n → into_iter_steps old r new → into_iter_items old ≡ n ∷ into_iter_items new
first_taken old new r n is h = (MatchOption-at_some _ _ n is h).0

-- where an iterator over nodes takes none, none is left
pub none_taken : {Z : Type 0} (old new : IntoIter Node Z) (r : Option Node)
    → r ≡ None → into_iter_steps old r new → into_iter_items old ≡ []
none_taken old new r is h =
    nil_from_length (into_iter_items old) (sym old.rest.ok.0 ∙ (MatchOption-at_none _ _ is h).0)

module _ {X A : Type 0} (view : X → A) (item : plain.Node → Parse A) (prefix : List X) (left : List Node)
    (names : Names) (all : Result (List A × Names) Misform)
    (so_far : all ≡ prepend (map view prefix) (each item (nodes_of left) names)) where
  -- the first of the items that are left is read
  pub first_read : (n : Node) (others : List Node) (x : X) (after : Names) → left ≡ n ∷ others
      → item (node_of n) names ≡ Ok (view x, after)
      → all ≡ prepend (map view (prefix ++ x ∷ [])) (each item (nodes_of others) after)
  first_read n others x after at r =
      so_far ∙ ap (λ ns. prepend (map view prefix) (each item (nodes_of ns) names)) at
      ∙ ap (λ o. prepend (map view prefix) (and_then o (λ y later. and_then (each item (nodes_of others) later)
      (λ xs. pure (y ∷ xs))))) r
      ∙ prepend_more (map view prefix) (view x) (each item (nodes_of others) after)
      ∙ ap (λ xs. prepend xs (each item (nodes_of others) after)) (sym (map-append view prefix (x ∷ [])))

  -- where the first of the items that are left is refused, all are
  pub first_refused : (n : Node) (others : List Node) (why : FormRefusal) → left ≡ n ∷ others
      → Refuses why (item (node_of n) names) → Refuses why all
  first_refused n others why at r =
      refused_same why all _ (so_far ∙ ap (λ ns. prepend (map view prefix) (each item (nodes_of ns) names)) at)
      (refused_behind why (map view prefix) _ (refused_next why _ _ r))

  -- where no item is left, what was read so far is all
  pub none_is_left : left ≡ [] → all ≡ Ok (map view prefix, names)
  none_is_left at =
      so_far ∙ ap (λ ns. prepend (map view prefix) (each item (nodes_of ns) names)) at
      ∙ ap (λ xs. Ok (xs, names)) (append-nil (map view prefix))

-- steps one after the other may be grouped either way
pub bind-assoc : {A B C : Type 0} (r : Result (A × Names) Misform) (f : A → Parse B) (g : B → Parse C)
    → and_then (and_then r f) g ≡ and_then r (λ x later. and_then (f x later) g)
bind-assoc (Ok p) f g = refl
bind-assoc (Err e) f g = refl

-- steps that go on alike give the same
pub bind_same : {A B : Type 0} (r : Result (A × Names) Misform) (f g : A → Parse B)
    → ((x : A) (later : Names) → f x later ≡ g x later) → and_then r f ≡ and_then r g
bind_same (Ok p) f g h = h p.0 p.1
bind_same (Err e) f g h = refl
