-- Patterns that say terms, and atoms that do.
use Rattle.std.proofs.Common.{◌≡◌, ℕ, ◌+◌, ◌-◌, ◌<◌, ◌≤◌, ℤ, List, [], ◌∷◌, ◌++◌, drop, get_or, length, map, take, Option, Some, None, refl, sym, ap, ap₂, ◌∙◌, subst, arith}
use Rattle.std.specs.List.{All}
use Rattle.std.proofs.lemmas.Grind.{common_steps}
use Rattle.std.proofs.lemmas.List.{map-append, map_more}
use Rattle.std.proofs.lemmas.List.Elements.{All-nil, All-head, All-tail, All-push}
use Rattle.hp_syntax.specs.declared.pattern.AtomPat.{AtomPat}
use Rattle.hp_syntax.specs.declared.pattern.Ground.{Ground}
use Rattle.hp_syntax.specs.declared.pattern.Pat.{Pat}
use Rattle.hp_syntax.specs.declared.pattern.Span.{Span}
use Rattle.hp_syntax.specs.GroundPatterns.{AreGroundPatterns, IsGroundPattern, term_said, terms_said}
use Rattle.hp_syntax.specs.GroundViews.{as_terms, ground_of, grounds_of}
use Rattle.hp_syntax.specs.Syntax as syntax
use Rattle.hp_syntax.specs.Terms.{Term, Terms, Symbol, Number, Listed, More}
use Rattle.hp_syntax.specs.Views.{as_patterns, atom_of, pattern_of}
use Rattle.hp_unmet.specs.Said.{AllSay, Says, SaysAtom, SaysIfAtom}

-- a pattern says what an equal one says
pub says_as : (p q : syntax.Pattern) (t : Term) → p ≡ q → Says q t → Says p t
says_as p q t e h = subst (λ x. Says x t) (sym e) h

-- a pattern that says a term says an equal one
pub says_term : (p : syntax.Pattern) (t u : Term) → Says p t → t ≡ u → Says p u
says_term p t u h e = subst (λ x. Says p x) e h

pub symbol_says : (s : Span) (name : List ℕ) → Says (syntax.Symbol s name) (Symbol name)
unfolding term_said terms_said
symbol_says s name = record { is_ground = tt; term = refl }

pub number_says : (s : Span) (n : ℤ) → Says (syntax.Number s n) (Number n)
unfolding term_said terms_said
number_says s n = record { is_ground = tt; term = refl }

-- ---- lists

all_ground : (ps : List syntax.Pattern) → All IsGroundPattern ps → AreGroundPatterns (as_patterns ps)
all_ground [] a = tt
all_ground (p ∷ ps) a = (All-head IsGroundPattern p ps a, all_ground ps (All-tail IsGroundPattern p ps a))

all_said : (ps : List syntax.Pattern) → terms_said (as_patterns ps) ≡ as_terms (map term_said ps)
unfolding term_said terms_said
all_said [] = refl
all_said (p ∷ ps) = ap (λ ts. More (term_said p) ts) (all_said ps)

terms_are : (ps : List syntax.Pattern) (ts : List Term) → AllSay ps ts → terms_said (as_patterns ps) ≡ as_terms ts
terms_are ps ts a = all_said ps ∙ ap as_terms a.terms

-- a list of patterns says the list of their terms
pub list_says : (s : Span) (ps : List syntax.Pattern) (ts : List Term) → AllSay ps ts
    → Says (syntax.Listing s (as_patterns ps) None) (Listed (as_terms ts))
unfolding term_said terms_said
list_says s ps ts a =
    record { is_ground = (all_ground ps a.are_ground, refl); term = ap (λ us. Listed us) (terms_are ps ts a) }

-- no pattern says no term
pub none_say : AllSay [] []
none_say = record { are_ground = All-nil IsGroundPattern; terms = refl }

-- one pattern more says one term more
pub say_more : (ps : List syntax.Pattern) (ts : List Term) (p : syntax.Pattern) (t : Term) → AllSay ps ts → Says p t
    → AllSay (ps ++ p ∷ []) (ts ++ t ∷ [])
say_more ps ts p t a h = record {
  are_ground = All-push IsGroundPattern ps p a.are_ground h.is_ground;
  terms = map-append term_said ps (p ∷ []) ∙ ap₂ (λ us u. us ++ u ∷ []) a.terms h.term;
}

-- equal patterns say equal terms
say_as : (ps qs : List syntax.Pattern) (ts us : List Term) → ps ≡ qs → ts ≡ us → AllSay ps ts → AllSay qs us
say_as ps qs ts us e f a = subst (λ xs. AllSay xs us) e (subst (λ ys. AllSay ps ys) f a)

-- the terms of the first so many and one more
one_more : (gs : List Ground) (i : ℕ) (g : Ground) → i < length gs → g ≡ get_or gs i g
    → map ground_of (take (i + 1) gs) ≡ map ground_of (take i gs) ++ ground_of g ∷ []
one_more gs i g below at =
    map_more ground_of gs i g below ∙ ap (λ x. map ground_of (take i gs) ++ ground_of x ∷ []) (sym at)

-- a pattern that is put behind others says one term more
pub say_pushed : (old new : List Pat) (p : Pat) (gs : List Ground) (i : ℕ) (g : Ground) → i < length gs
    → g ≡ get_or gs i g → new ≡ old ++ p ∷ [] → AllSay (map pattern_of old) (map ground_of (take i gs))
    → Says (pattern_of p) (ground_of g) → AllSay (map pattern_of new) (map ground_of (take (i + 1) gs))
say_pushed old new p gs i g below at put a h =
    say_as _ _ _ _ (sym (ap (map pattern_of) put ∙ map-append pattern_of old (p ∷ []))) (sym (one_more gs i g below at))
    (say_more (map pattern_of old) (map ground_of (take i gs)) (pattern_of p) (ground_of g) a h)

-- a list is its first term before the others
pub grounds_split : (gs : List Ground) (g : Ground) → 1 ≤ length gs → g ≡ get_or gs 0 g
    → grounds_of gs ≡ More (ground_of g) (grounds_of (take (length gs - 1) (drop 1 gs)))
grounds_split [] g l at = absurd (omega arith)
grounds_split (x ∷ gs) g l at =
    let rest : take (length (x ∷ gs) - 1) (drop 1 (x ∷ gs)) ≡ gs = grind (arith, common_steps) in
    ap₂ (λ y ys. More (ground_of y) (grounds_of ys)) (sym at) (sym rest)

-- ---- atoms

-- an atom of patterns says the list of its name and their terms
pub atom_says : (s : Span) (own name : List ℕ) (ps : List syntax.Pattern) (ts : List Term) → own ≡ name
    → AllSay ps ts
    → SaysAtom (record { span = s; name = own; args = as_patterns ps; tail = None })
    (Listed (More (Symbol name) (as_terms ts)))
atom_says s own name ps ts e a = record {
  is_ground = record { args = all_ground ps a.are_ground; tail = refl };
  term = ap₂ (λ n us. Listed (More (Symbol n) us)) e (terms_are ps ts a);
}

-- an atom that says a list with a symbol in front
pub headed : (a : AtomPat) (first : Term) (name : List ℕ) (ts : Terms) → first ≡ Symbol name
    → SaysAtom (atom_of a) (Listed (More (Symbol name) ts)) → SaysIfAtom (Some a) (Listed (More first ts))
headed a first name ts e h = subst (λ x. SaysIfAtom (Some a) (Listed (More x ts))) (sym e) (refl, h)

-- there is an atom for an equal term
pub says_if_same : (o : Option AtomPat) (t u : Term) → t ≡ u → SaysIfAtom o t → SaysIfAtom o u
says_if_same o t u e h = subst (λ x. SaysIfAtom o x) e h
