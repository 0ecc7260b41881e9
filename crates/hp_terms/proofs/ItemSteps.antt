-- Reading terms one by one: the terms so far, and the result of a step for the rest.
use Rattle.std.proofs.Common.{◌≡◌, ◌∙◌, sym, ap, refl, true, false, List, [], ◌∷◌, ◌++◌, Option, None, Result, Ok, Err, codes, append_assoc, append-nil, subst, ℕ, ◌<◌, ◌≤◌, length, get_or, arith}
use Rattle.std.proofs.lemmas.List.{map-append}
use Rattle.std.specs.Prelude.{map}
use Rattle.hp_syntax.specs.declared.pattern.Span.{Span}
use Rattle.hp_syntax.specs.declared.pattern.Pat.{Pat}
use Rattle.hp_syntax.specs.declared.pattern.Tail.{Tail}
use Rattle.hp_syntax.specs.Forest.{Node, Forest, Bare, Grow}
use Rattle.hp_syntax.specs.Syntax.{Pattern, Patterns, NoPattern, Before}
use Rattle.hp_syntax.specs.Steps.{Misform, Names, Parse, each, and_then, pure, is_word}
use Rattle.hp_syntax.specs.Views.{as_patterns, pattern_of, patterns_of}
use Rattle.hp_syntax.specs.Grammar.{Setting, InRule, term, terms, items, dotted}
use Rattle.hp_terms.specs.FormReads.{Refuses, Adds}
use Rattle.hp_terms.proofs.Turns.{refused_next, refused_same, prepend, from_here, all_read, one_refused}
use Rattle.hp_text.specs.declared.forest.Node as public
use Rattle.hp_text.specs.Nodes.{node_of, nodes_of}
use Rattle.hp_terms.specs.declared.refusal.FormRefusal.{FormRefusal}
use Rattle.hp_terms.specs.declared.refusal.FormRefusal.TheVariants as refusals

abbrev pub Read : Type 0
Read = Result ((Patterns × Option Tail) × Names) Misform

abbrev pub all_before : List Pattern → Patterns → Patterns
all_before [] rest = rest
all_before (p ∷ ps) rest = Before p (all_before ps rest)

-- the terms read so far, before those that are read from here on
abbrev pub put_before : List Pattern → Read → Read
put_before prefix (Ok p) = Ok ((all_before prefix p.0.0, p.0.1), p.1)
put_before prefix (Err e) = Err e

put_before-nil : (r : Read) → r ≡ put_before [] r
put_before-nil (Ok p) = refl
put_before-nil (Err e) = refl

all_before-append : (a b : List Pattern) (rest : Patterns) → all_before a (all_before b rest) ≡ all_before (a ++ b) rest
all_before-append [] b rest = refl
all_before-append (p ∷ ps) b rest = ap (Before p) (all_before-append ps b rest)

all_before-none : (ps : List Pattern) → all_before ps NoPattern ≡ as_patterns ps
all_before-none [] = refl
all_before-none (p ∷ ps) = ap (Before p) (all_before-none ps)

all_before-parts : (ps qs : List Pattern) → all_before ps (as_patterns qs) ≡ as_patterns (ps ++ qs)
all_before-parts [] qs = refl
all_before-parts (p ∷ ps) qs = ap (Before p) (all_before-parts ps qs)

abbrev behind_first : Pattern → Patterns × Option Tail → Parse (Patterns × Option Tail)
behind_first x xs = pure (Before x xs.0, xs.1)

put_before_more : (prefix : List Pattern) (x : Pattern) (r : Read)
    → put_before prefix (and_then r (behind_first x)) ≡ put_before (prefix ++ x ∷ []) r
put_before_more prefix x (Ok p) = ap (λ ps. Ok ((ps, p.0.1), p.1)) (all_before-append prefix (x ∷ []) p.0.0)
put_before_more prefix x (Err e) = refl

refused_below : (e : FormRefusal) (prefix : List Pattern) (r : Read) → Refuses e r → Refuses e (put_before prefix r)
refused_below (refusals.Expected what span) prefix r h = ap (put_before prefix) h
refused_below refusals.NoMemory prefix r h = h

-- Parts were added to a list, and are the result of a step but for that of another step from here on.
pub record SoFar (all next : Parse (Patterns × Option Tail)) (old new : List Pat) (start names : Names) : Type 0 where
  pub more : List Pat
  pub parts : new ≡ old ++ more
  pub read : all start ≡ put_before (map pattern_of more) (next names)

-- before anything is read
pub at_start : (all : Parse (Patterns × Option Tail)) (old : List Pat) (names : Names)
    → SoFar all all old old names names
at_start all old names = record { more = []; parts = sym (append-nil old); read = put_before-nil (all names) }

-- one part more, where the step is one term and then another step
pub one_more : (all next rest : Parse (Patterns × Option Tail)) (one : Parse Pattern) (old new : List Pat)
    (start before after : Names) (x : Pat)
    → next before ≡ and_then (one before) (λ p later. and_then (rest later) (behind_first p))
    → SoFar all next old new start before → one before ≡ Ok (pattern_of x, after)
    → SoFar all rest old (new ++ x ∷ []) start after
one_more all next rest one old new start before after x is_next so_far r = record {
  more = so_far.more ++ x ∷ [];
  parts = ap (λ ps. ps ++ x ∷ []) so_far.parts ∙ append_assoc old so_far.more (x ∷ []);
  read =
      so_far.read ∙ ap (put_before (map pattern_of so_far.more)) is_next
      ∙ ap (λ o. put_before (map pattern_of so_far.more) (and_then o
      (λ p later. and_then (rest later) (behind_first p)))) r
      ∙ put_before_more (map pattern_of so_far.more) (pattern_of x) (rest after)
      ∙ ap (λ ps. put_before ps (rest after)) (sym (map-append pattern_of so_far.more (x ∷ [])));
}

-- a step that is refused refuses all
pub refused : (all next : Parse (Patterns × Option Tail)) (old new : List Pat) (start before : Names) (e : FormRefusal)
    → SoFar all next old new start before → Refuses e (next before) → Refuses e (all start)
refused all next old new start before e so_far h =
    refused_same e (all start) _ so_far.read (refused_below e (map pattern_of so_far.more) (next before) h)

-- the parts of the step from here on go behind those that were added before
pub added : (r : Result (Option Tail) FormRefusal) (all next : Parse (Patterns × Option Tail)) (old mid new : List Pat)
    (start before after : Names) → SoFar all next old mid start before → Adds r next mid new before after
    → Adds r all old new start after
added (Ok tail) all next old mid new start before after so_far h = (
  so_far.more ++ h.0,
  h.1 ∙ ap (λ ps. ps ++ h.0) so_far.parts ∙ append_assoc old so_far.more h.0,
  so_far.read ∙ ap (put_before (map pattern_of so_far.more)) h.2
      ∙ ap (λ ps. Ok ((ps, tail), after))
      (all_before-parts (map pattern_of so_far.more) (map pattern_of h.0)
      ∙ ap as_patterns (sym (map-append pattern_of so_far.more h.0))),
)
added (Err e) all next old mid new start before after so_far h = refused all next old mid start before e so_far h

-- terms begin with one that is no dot
pub items-term : (setting : Setting) (end : Span) (n : Node) (rest : Forest) (names : Names)
    → is_word (codes ".") n ≡ false
    → items setting end (Grow n rest) names
    ≡ and_then (term setting n names) (λ p later. and_then (items setting end rest later) (behind_first p))
unfolding items
items-term setting end n rest names h = rw h

-- behind a dot stands a tail
pub items-dot : (setting : Setting) (end : Span) (n : Node) (rest : Forest) (names : Names)
    → is_word (codes ".") n ≡ true → items setting end (Grow n rest) names ≡ dotted setting end rest names
unfolding items
items-dot setting end n rest names h = rw h

-- a term was read, and is added to the parts
pub item_read : (setting : Setting) (end : Span) (all : Parse (Patterns × Option Tail)) (old new newer : List Pat)
    (start before after : Names) (rest others : List public.Node) (first : public.Node) (x : Pat)
    → rest ≡ first ∷ others → is_word (codes ".") (node_of first) ≡ false
    → SoFar all (items setting end (nodes_of rest)) old new start before
    → term setting (node_of first) before ≡ Ok (pattern_of x, after) → newer ≡ new ++ x ∷ []
    → SoFar all (items setting end (nodes_of others)) old newer start after
item_read setting end all old new newer start before after rest others first x split dotless so_far r pushed =
    let next = items setting end (nodes_of rest) in
    let more = items setting end (nodes_of others) in
    let one = term setting (node_of first) in
    let is_next = ap (λ ns. items setting end (nodes_of ns) before) split
    ∙ items-term setting end (node_of first) (nodes_of others) before dotless in
    subst (λ ps. SoFar all more old ps start after) (sym pushed)
    (one_more all next more one old new start before after x is_next so_far r)

-- a term was refused, and so all is
pub item_refused : (setting : Setting) (end : Span) (all : Parse (Patterns × Option Tail)) (old new : List Pat)
    (start before : Names) (rest others : List public.Node) (first : public.Node) (e : FormRefusal)
    → rest ≡ first ∷ others → is_word (codes ".") (node_of first) ≡ false
    → SoFar all (items setting end (nodes_of rest)) old new start before
    → Refuses e (term setting (node_of first) before) → Refuses e (all start)
item_refused setting end all old new start before rest others first e split dotless so_far r =
    let is_next = ap (λ ns. items setting end (nodes_of ns) before) split
    ∙ items-term setting end (node_of first) (nodes_of others) before dotless in
    refused all (items setting end (nodes_of rest)) old new start before e so_far
    (refused_same e _ _ is_next (refused_next e (term setting (node_of first) before) _ r))

-- the parts of a dot and a tail go behind those that were added before
pub tail_added : (setting : Setting) (end : Span) (all : Parse (Patterns × Option Tail))
    (r : Result (Option Tail) FormRefusal)
    (old mid new : List Pat) (start before after : Names) (rest others : List public.Node) (first : public.Node)
    → rest ≡ first ∷ others → is_word (codes ".") (node_of first) ≡ true
    → SoFar all (items setting end (nodes_of rest)) old mid start before
    → Adds r (dotted setting end (nodes_of others)) mid new before after → Adds r all old new start after
tail_added setting end all r old mid new start before after rest others first split dot so_far h =
    let is_next = ap (λ ns. items setting end (nodes_of ns) before) split
    ∙ items-dot setting end (node_of first) (nodes_of others) before dot in
    let at_dot : SoFar all (dotted setting end (nodes_of others)) old mid start before = record {
      more = so_far.more;
      parts = so_far.parts;
      read = so_far.read ∙ ap (put_before (map pattern_of so_far.more)) is_next;
    } in
    added r all (dotted setting end (nodes_of others)) old mid new start before after at_dot h

-- where no node is left, nothing more is added
pub none_added : (setting : Setting) (end : Span) (all : Parse (Patterns × Option Tail)) (old new : List Pat)
    (start names : Names) (rest : List public.Node)
    → length rest ≡ 0 → SoFar all (items setting end (nodes_of rest)) old new start names
    → Adds (Ok None) all old new start names
unfolding items
none_added setting end all old new start names [] none so_far = (
  so_far.more,
  so_far.parts,
  so_far.read ∙ ap (λ ps. Ok ((ps, None), names)) (all_before-none (map pattern_of so_far.more)),
)
none_added setting end all old new start names (n ∷ ns) none so_far = absurd (omega arith)

-- the arguments of a call are terms of a rule, each in turn
pub terms-each : (f : Forest) (names : Names)
    → terms f names ≡ and_then (each (term InRule) f names) (λ ps. pure (as_patterns ps))
unfolding terms
terms-each Bare names = refl
terms-each (Grow n f) names = elim (term InRule n names) as (λ r. and_then r
    (λ first later. and_then (terms f later) (λ others. pure (Before first others)))
    ≡ and_then (and_then r (λ first later. and_then (each (term InRule) f later) (λ ps. pure (first ∷ ps))))
    (λ ps. pure (as_patterns ps))) [
      | Ok p ↦ rw (terms-each f p.1) (elim (each (term InRule) f p.1) as
          (λ r. and_then (and_then r (λ ps. pure (as_patterns ps))) (λ others. pure (Before p.0 others))
          ≡ and_then (and_then r (λ ps. pure (p.0 ∷ ps))) (λ ps. pure (as_patterns ps))) [ Ok q ↦ refl | Err e ↦ refl ])
      | Err e ↦ refl
    ]

-- arguments that were read are the terms of a call
pub terms_read : (nodes : List public.Node) (i : ℕ) (prefix : List Pat) (start names : Names) → length nodes ≤ i
    → each (term InRule) (nodes_of nodes) start
    ≡ prepend (map pattern_of prefix) (from_here (term InRule) nodes i names)
    → terms (nodes_of nodes) start ≡ Ok (patterns_of prefix, names)
terms_read nodes i prefix start names h e =
    terms-each (nodes_of nodes) start
    ∙ ap (λ r. and_then r (λ ps. pure (as_patterns ps)))
    (all_read (term InRule) nodes i (map pattern_of prefix) names (each (term InRule) (nodes_of nodes) start) h e)

-- an argument that is refused refuses the terms of a call
pub terms_refused : (nodes : List public.Node) (i : ℕ) (d : public.Node) (prefix : List Pat) (why : FormRefusal)
    (start names : Names) → i < length nodes
    → each (term InRule) (nodes_of nodes) start
    ≡ prepend (map pattern_of prefix) (from_here (term InRule) nodes i names)
    → d ≡ get_or nodes i d → Refuses why (term InRule (node_of d) names) → Refuses why (terms (nodes_of nodes) start)
terms_refused nodes i d prefix why start names h e at r =
    refused_same why _ _ (terms-each (nodes_of nodes) start)
    (refused_next why (each (term InRule) (nodes_of nodes) start) _
    (one_refused (term InRule) nodes i d (map pattern_of prefix) why names (each (term InRule) (nodes_of nodes) start) h
    e
    (subst (λ n. Refuses why (term InRule (node_of n) names)) at r)))
