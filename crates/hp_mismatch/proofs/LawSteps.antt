-- What is reported of a head, and whether it matches.
use Rattle.std.proofs.Common.{◌≡◌, ◌⊎◌, inl, inr, ℕ, ◌+◌, true, false, cond, Option, Some, None, refl, sym, ap, ◌∙◌, arith}
use Rattle.std.specs.Option.{option_and_then}
use Rattle.std.proofs.lemmas.Bool.Decides.{nat_tests}
use Rattle.std.proofs.lemmas.Option.{none-some, same_Some}
use Rattle.std.proofs.lemmas.Slice.Eq.{bytes_eq-Decides}
use Rattle.hp_syntax.specs.declared.pattern.Tail.{Tail}
use Rattle.hp_syntax.specs.Matching.{match_atom, match_parts, match_pattern, match_tail}
use Rattle.hp_syntax.specs.Syntax.{Atom, Pattern, Patterns, NoPattern, Before}
use Rattle.hp_syntax.specs.Terms.{Term, Terms, Symbol, Listed, NoTerm, More}
use Rattle.hp_syntax.specs.Values.{Bindings}
use Rattle.hp_mismatch.specs.declared.misfit.Misfit.{Misfit}
use Rattle.hp_mismatch.specs.declared.misfit.Misfit.TheVariants as misfits
use Rattle.hp_mismatch.specs.FirstMisfit.{IsFirstArgument, IsTailFirst}
use Rattle.hp_mismatch.specs.Mismatch.{mismatch, misfit_of, or_here, pattern_count, takes, term_count}

-- ---- numbers of arguments

-- one argument more is taken for one pattern more
takes_more : (tail : Option Tail) (n m : ℕ) → takes tail (n + 1) (m + 1) ≡ takes tail n m
takes_more None n m = grind (arith, nat_tests)
takes_more (Some tl) n m = grind (arith, nat_tests)

-- no argument is too few for a pattern
none_too_few : (tail : Option Tail) (n : ℕ) → takes tail (n + 1) 0 ≡ false
none_too_few None n = grind (arith, nat_tests)
none_too_few (Some tl) n = grind (arith, nat_tests)

-- ---- where patterns don't match

-- they don't take so many terms, or something is reported
abbrev pub IsReported : Patterns → Option Tail → Terms → Bindings → Type 0
IsReported ps tail ts e =
    (takes tail (pattern_count ps) (term_count ts) ≡ false) ⊎ ((m : Misfit) × (mismatch ps tail ts e ≡ Some m))

-- a tail that doesn't match is reported, and without one too many terms are left
none_left : (tail : Option Tail) (ts : Terms) (e : Bindings) → match_tail tail ts e ≡ None
    → IsReported NoPattern tail ts e
none_left None NoTerm e h = absurd (none-some e (sym h))
none_left None (More t ts) e h = inl (grind (arith, nat_tests))
none_left (Some tl) ts e h = inr (misfits.Variable tl.span, ap (or_here (misfits.Variable tl.span) (λ f. None)) h)

-- so it is of a pattern more
one_more : (p : Pattern) (ps : Patterns) (tail : Option Tail) (t : Term) (ts : Terms) (e : Bindings)
    (o : Option Bindings) → match_pattern p t e ≡ o
    → ((f : Bindings) → match_parts ps tail ts f ≡ None → IsReported ps tail ts f)
    → option_and_then (match_parts ps tail ts) o ≡ None → IsReported (Before p ps) tail (More t ts) e
one_more p ps tail t ts e None is later h = inr (misfit_of p, ap (or_here (misfit_of p) (mismatch ps tail ts)) is)
one_more p ps tail t ts e (Some f) is later h =
    elim (later f h) [
      | inl few ↦ inl (takes_more tail (pattern_count ps) (term_count ts) ∙ few)
      | inr m ↦ inr (m.0, ap (or_here (misfit_of p) (mismatch ps tail ts)) is ∙ m.1)
    ]

-- of patterns that don't match it is reported why
pub reported : (ps : Patterns) (tail : Option Tail) (ts : Terms) (e : Bindings) → match_parts ps tail ts e ≡ None
    → IsReported ps tail ts e
unfolding match_parts match_pattern
reported NoPattern tail ts e h = none_left tail ts e h
reported (Before p ps) tail NoTerm e h = inl (none_too_few tail (pattern_count ps))
reported (Before p ps) tail (More t ts) e h =
    one_more p ps tail t ts e (match_pattern p t e) refl (λ f k. reported ps tail ts f k) h

-- ---- where they match

-- they take so many terms, and nothing is reported
abbrev pub IsClear : Patterns → Option Tail → Terms → Bindings → Type 0
IsClear ps tail ts e =
    (takes tail (pattern_count ps) (term_count ts) ≡ true) × (mismatch ps tail ts e ≡ None)

-- a tail that matches takes all terms that are left, and without one none may be left
all_left : (tail : Option Tail) (ts : Terms) (e b : Bindings) → match_tail tail ts e ≡ Some b
    → IsClear NoPattern tail ts e
all_left None NoTerm e b h = (refl, refl)
all_left None (More t ts) e b h = absurd (none-some b h)
all_left (Some tl) ts e b h = (grind (arith, nat_tests), ap (or_here (misfits.Variable tl.span) (λ f. None)) h)

-- so it is with a pattern more
one_clear : (p : Pattern) (ps : Patterns) (tail : Option Tail) (t : Term) (ts : Terms) (e b : Bindings)
    (o : Option Bindings) → match_pattern p t e ≡ o
    → ((f : Bindings) → match_parts ps tail ts f ≡ Some b → IsClear ps tail ts f)
    → option_and_then (match_parts ps tail ts) o ≡ Some b → IsClear (Before p ps) tail (More t ts) e
one_clear p ps tail t ts e b None is later h = absurd (none-some b h)
one_clear p ps tail t ts e b (Some f) is later h =
    let clear = later f h in (
      takes_more tail (pattern_count ps) (term_count ts) ∙ clear.0,
      ap (or_here (misfit_of p) (mismatch ps tail ts)) is ∙ clear.1,
    )

-- of patterns that match nothing is reported
pub nothing_reported : (ps : Patterns) (tail : Option Tail) (ts : Terms) (e b : Bindings)
    → match_parts ps tail ts e ≡ Some b → IsClear ps tail ts e
unfolding match_parts match_pattern
nothing_reported NoPattern tail ts e b h = all_left tail ts e b h
nothing_reported (Before p ps) tail NoTerm e b h = absurd (none-some b h)
nothing_reported (Before p ps) tail (More t ts) e b h =
    one_clear p ps tail t ts e b (match_pattern p t e) refl (λ f k. nothing_reported ps tail ts f b k) h

-- ---- heads

-- a head is matched with a task of its name by its arguments
pub by_arguments : (a : Atom) (ts : Terms) (e : Bindings)
    → match_parts a.args a.tail ts e ≡ match_atom a (Listed (More (Symbol a.name) ts)) e
by_arguments a ts e =
    sym (ap (λ b. cond b (match_parts a.args a.tail ts e) None) ((bytes_eq-Decides a.name a.name).1 refl))

-- ---- the first

-- what is reported is the first argument that doesn't match, or the tail
abbrev pub IsFirst : Patterns → Option Tail → Terms → Bindings → Misfit → Type 0
IsFirst ps tail ts e m = IsFirstArgument ps ts e m ⊎ IsTailFirst ps tail ts e m

-- a tail that is reported doesn't match what is left
tail_first : (last : Tail) (ts : Terms) (e : Bindings) (m : Misfit) (o : Option Bindings)
    → match_tail (Some last) ts e ≡ o → or_here (misfits.Variable last.span) (λ f. None) o ≡ Some m
    → IsFirst NoPattern (Some last) ts e m
unfolding match_parts
tail_first last ts e m None is h = inr (record {
  last = last;
  terms_before = NoTerm;
  terms_left = ts;
  given = e;
  there = refl;
  terms = refl;
  matches = refl;
  differs = is;
  is = sym (same_Some (misfits.Variable last.span) m h);
})
tail_first last ts e m (Some f) is h = absurd (none-some m h)

-- what is the first after a pattern that matches is the first with that pattern before
after_one : (p : Pattern) (ps : Patterns) (tail : Option Tail) (t : Term) (ts : Terms) (e f : Bindings) (m : Misfit)
    → match_pattern p t e ≡ Some f → IsFirst ps tail ts f m → IsFirst (Before p ps) tail (More t ts) e m
unfolding match_parts match_pattern
after_one p ps tail t ts e f m is later =
    elim later [
      | inl x ↦ inl (record {
        before = Before p x.before;
        first = x.first;
        others = x.others;
        terms_before = More t x.terms_before;
        term = x.term;
        terms_left = x.terms_left;
        given = x.given;
        args = ap (Before p) x.args;
        terms = ap (More t) x.terms;
        matches = ap (option_and_then (match_parts x.before None x.terms_before)) is ∙ x.matches;
        differs = x.differs;
        is = x.is;
      })
      | inr x ↦ inr (record {
        last = x.last;
        terms_before = More t x.terms_before;
        terms_left = x.terms_left;
        given = x.given;
        there = x.there;
        terms = ap (More t) x.terms;
        matches = ap (option_and_then (match_parts ps None x.terms_before)) is ∙ x.matches;
        differs = x.differs;
        is = x.is;
      })
    ]

-- so it is with the first pattern, whether it matches or not
first_or_later : (p : Pattern) (ps : Patterns) (tail : Option Tail) (t : Term) (ts : Terms) (e : Bindings) (m : Misfit)
    (o : Option Bindings) → match_pattern p t e ≡ o
    → ((f : Bindings) → mismatch ps tail ts f ≡ Some m → IsFirst ps tail ts f m)
    → or_here (misfit_of p) (mismatch ps tail ts) o ≡ Some m → IsFirst (Before p ps) tail (More t ts) e m
unfolding match_parts
first_or_later p ps tail t ts e m None is later h = inl (record {
  before = NoPattern;
  first = p;
  others = ps;
  terms_before = NoTerm;
  term = t;
  terms_left = ts;
  given = e;
  args = refl;
  terms = refl;
  matches = refl;
  differs = is;
  is = sym (same_Some (misfit_of p) m h);
})
first_or_later p ps tail t ts e m (Some f) is later h = after_one p ps tail t ts e f m is (later f h)

-- what is reported is the first that doesn't match
pub first_reported : (ps : Patterns) (tail : Option Tail) (ts : Terms) (e : Bindings) (m : Misfit)
    → mismatch ps tail ts e ≡ Some m → IsFirst ps tail ts e m
first_reported NoPattern None ts e m h = absurd (none-some m h)
first_reported NoPattern (Some last) ts e m h = tail_first last ts e m (match_tail (Some last) ts e) refl h
first_reported (Before p ps) tail NoTerm e m h = absurd (none-some m h)
first_reported (Before p ps) tail (More t ts) e m h =
    first_or_later p ps tail t ts e m (match_pattern p t e) refl (λ f k. first_reported ps tail ts f m k) h
