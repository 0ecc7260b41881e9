-- Matching finds the least bindings that keep those before and under which a pattern reads as a term.
use Rattle.std.proofs.Common.{◌≡◌, ℕ, ◌<◌, Bool, true, false, cond, List, length, Option, Some, None, refl, sym, ◌∙◌, ap, subst}
use Rattle.std.specs.Prelude.{slice_get, slice_set, bytes_eq, option_map}
use Rattle.std.specs.Bool.{Decides}
use Rattle.std.specs.Option.{option_and_then}
use Rattle.std.specs.Ordering.{int_eq}
use Rattle.std.proofs.lemmas.Bool.{false≢true, cond-true}
use Rattle.std.proofs.lemmas.Option.{none-some, same_Some, cond_some, slice_get_within}
use Rattle.std.proofs.lemmas.Slice.Eq.{bytes_eq-Decides}
use Rattle.hp_syntax.specs.declared.pattern.Tail.{Tail}
use Rattle.hp_syntax.specs.Syntax.{Pattern, Patterns, Variable, Listing, Call, NoPattern, Before, Atom}
use Rattle.hp_syntax.specs.Syntax as syntax
use Rattle.hp_syntax.specs.Terms.{Term, Terms, Symbol, Number, Listed, NoTerm, More, same_term}
use Rattle.hp_syntax.specs.Values.{Bindings, bound, flat_option, Extends}
use Rattle.hp_syntax.specs.Matching.{met, meet, match_tail, match_pattern, match_parts, match_atom}
use Rattle.hp_laws.specs.Readings.{parts_if_list, tail_read, reading, readings, atom_reading}
use Rattle.hp_syntax.proofs.TermEquality.{same_term-Decides, same_sound}
use Rattle.hp_laws.proofs.ResultLemmas.{and_then_some, and_then_from, map_some}
use Rattle.hp_laws.proofs.BindingLemmas.{slice_get_some, bound_within, bound-set_same, extends_through, extends_equal, extends_set, set_extends}

-- equal lists have equal parts
pub more_parts : (x y : Term) (xs ys : Terms) → More x xs ≡ More y ys → (x ≡ y) × (xs ≡ ys)
more_parts x y xs ys h = (cc, cc)

-- a term with parts is the list of them
pub parts_some : (t : Term) (ts : Terms) → parts_if_list t ≡ Some ts → t ≡ Listed ts
parts_some (Listed xs) ts h = ap Listed (same_Some xs ts h)
parts_some (Symbol name) ts h = absurd (none-some ts h)
parts_some (Number n) ts h = absurd (none-some ts h)

-- a tail that is read as some parts stands for their list
pub tail_some : (t : Tail) (ts : Terms) (e : Bindings) → tail_read (Some t) e ≡ Some ts
    → bound e t.var ≡ Some (Listed ts)
tail_some t ts e h =
    let a = and_then_some parts_if_list (bound e t.var) ts h in a.1 ∙ ap Some (parts_some a.0 ts a.2)

-- a pattern that reads as a term reads so under later bindings
mutual
  unfolding reading readings

  pub reading_grows : (p : Pattern) (t : Term) (e b : Bindings) → Extends e b → reading p e ≡ Some t
      → reading p b ≡ Some t
  reading_grows (Variable s v) t e b g h = g.keeps v t h
  reading_grows (syntax.Symbol s name) t e b g h = h
  reading_grows (syntax.Number s n) t e b g h = h
  reading_grows (Listing s ps tail) t e b g h =
      let a = map_some Listed (readings ps tail e) t h in
      ap (option_map Listed) (readings_grow ps tail a.0 e b g a.1) ∙ ap Some a.2
  reading_grows (Call s name args) t e b g h = absurd (none-some t h)

  -- the parts of a list that read as terms read so under later bindings
  pub readings_grow : (ps : Patterns) (tail : Option Tail) (ts : Terms) (e b : Bindings) → Extends e b
      → readings ps tail e ≡ Some ts → readings ps tail b ≡ Some ts
  readings_grow NoPattern None ts e b g h = h
  readings_grow NoPattern (Some t) ts e b g h =
      ap (option_and_then parts_if_list) (g.keeps t.var (Listed ts) (tail_some t ts e h))
  readings_grow (Before p ps) tail ts e b g h =
      let a = and_then_some (λ t. option_map (More t) (readings ps tail e)) (reading p e) ts h in
      let c = map_some (More a.0) (readings ps tail e) ts a.2 in
      and_then_from (λ t. option_map (More t) (readings ps tail b)) (reading p b) a.0 ts
      (reading_grows p a.0 e b g a.1)
      (ap (option_map (More a.0)) (readings_grow ps tail c.0 e b g c.1) ∙ ap Some c.2)

-- the least bindings that keep others and under which something reads as a value, if there are any
pub record IsLeast {A : Type 0} (read : Bindings → Option A) (x : A) (e : Bindings) (found : Option Bindings)
    : Type 0 where
  pub sound : (b : Bindings) → found ≡ Some b → Extends e b × (read b ≡ Some x)
  pub least : (d : Bindings) → Extends e d → read d ≡ Some x → (b : Bindings) × (found ≡ Some b) × Extends b d

-- there are none where later bindings never read as the value
pub none_least : {A : Type 0} (read : Bindings → Option A) (x : A) (e : Bindings)
    → ((d : Bindings) → Extends e d → read d ≡ Some x → ⊥) → IsLeast read x e None
none_least read x e n =
    record { sound = λ b h. absurd (none-some b h); least = λ d g h. absurd (n d g h) }

-- a test finds the least bindings under which what reads as one value reads as another
pub test_least : {A : Type 0} (x y : A) (test : Bool) (e : Bindings) → Decides test (x ≡ y)
    → IsLeast (λ d. Some x) y e (cond test (Some e) None)
test_least x y test e i = record {
  sound = λ b h. let p = cond_some test e b h in (extends_equal e b p.1, ap Some (i.0 p.0));
  least = λ d g h. (e, cond-true test (Some e) None (i.1 (same_Some x y h)), g);
}

-- the least bindings are the same for what reads as a value exactly where another reads as another
pub alike_least : {A B : Type 0} (r : Bindings → Option A) (s : Bindings → Option B) (x : A) (y : B) (e : Bindings)
    (o : Option Bindings) → ((d : Bindings) → r d ≡ Some x → s d ≡ Some y)
    → ((d : Bindings) → s d ≡ Some y → r d ≡ Some x) → IsLeast r x e o → IsLeast s y e o
alike_least r s x y e o there back l = record {
  sound = λ b h. let a = l.sound b h in (a.0, there b a.1);
  least = λ d g h. l.least d g (back d h);
}

-- meeting a variable finds the least bindings under which it stands for the term
pub meet_least : (v : ℕ) (t : Term) (e : Bindings) → IsLeast (λ d. bound d v) t e (meet v t e)
meet_least v t e = of_place (slice_get e v) refl
  where
    beyond : slice_get e v ≡ None → (d : Bindings) → Extends e d → bound d v ≡ Some t → ⊥
    beyond q d g h =
        let l : v < length e = subst (λ n. v < n) g.as_many (bound_within d v t h) in
        let a = slice_get_some e v l in none-some a.0 (sym q ∙ a.1)

    fresh : slice_get e v ≡ Some None → (b : Bindings) → Some (slice_set e v (Some t)) ≡ Some b
        → Extends e b × (bound b v ≡ Some t)
    fresh q b h =
        subst (λ d. Extends e d × (bound d v ≡ Some t)) (same_Some (slice_set e v (Some t)) b h)
        (extends_set e v t (ap flat_option q), bound-set_same e v t (slice_get_within e v None q))

    of_place : (o : Option (Option Term)) → slice_get e v ≡ o → IsLeast (λ d. bound d v) t e (met o v t e)
    of_place None q = none_least (λ d. bound d v) t e (beyond q)
    of_place (Some None) q = record {
      sound = fresh q;
      least = λ d g h. (slice_set e v (Some t), refl, set_extends e d v t g h);
    }
    of_place (Some (Some old)) q = record {
      sound =
          λ b h. let p = cond_some (same_term old t) e b h in
          (extends_equal e b p.1, ap (λ d. bound d v) (sym p.1) ∙ (ap flat_option q ∙ ap Some (same_sound old t p.0)));
      least =
          λ d g h. let p = sym (g.keeps v old (ap flat_option q)) ∙ h in
          (e, cond-true (same_term old t) (Some e) None ((same_term-Decides old t).1 (same_Some old t p)), g);
    }

-- matching a tail finds the least bindings under which it reads as the parts
pub tail_least : (tail : Option Tail) (ts : Terms) (e : Bindings)
    → IsLeast (tail_read tail) ts e (match_tail tail ts e)
tail_least (Some t) ts e =
    alike_least (λ d. bound d t.var) (tail_read (Some t)) (Listed ts) ts e (meet t.var (Listed ts) e)
    (λ d h. ap (option_and_then parts_if_list) h) (λ d h. tail_some t ts d h) (meet_least t.var (Listed ts) e)
tail_least None NoTerm e = test_least NoTerm NoTerm true e (λ h. refl, λ h. refl)
tail_least None (More t ts) e = none_least (tail_read None) (More t ts) e (λ d g h. cc)

-- matching a first part and then the rest finds the least bindings of both
pub both_least : (p : Pattern) (ps : Patterns) (tail : Option Tail) (t : Term) (ts : Terms) (e : Bindings)
    → IsLeast (reading p) t e (match_pattern p t e)
    → ((b : Bindings) → IsLeast (readings ps tail) ts b (match_parts ps tail ts b))
    → IsLeast (readings (Before p ps) tail) (More t ts) e (match_parts (Before p ps) tail (More t ts) e)
unfolding readings match_parts
both_least p ps tail t ts e l m = record { sound = sound_both; least = least_both }
  where
    sound_both : (b : Bindings) → option_and_then (match_parts ps tail ts) (match_pattern p t e) ≡ Some b
        → Extends e b × (readings (Before p ps) tail b ≡ Some (More t ts))
    sound_both b h =
        let a = and_then_some (match_parts ps tail ts) (match_pattern p t e) b h in
        let x = l.sound a.0 a.1 in
        let y = (m a.0).sound b a.2 in (
          extends_through e a.0 b x.0 y.0,
          and_then_from (λ t. option_map (More t) (readings ps tail b)) (reading p b) t (More t ts)
              (reading_grows p t a.0 b y.0 x.1) (ap (option_map (More t)) y.1),
        )

    least_both : (d : Bindings) → Extends e d → readings (Before p ps) tail d ≡ Some (More t ts)
        → (b : Bindings) × (option_and_then (match_parts ps tail ts) (match_pattern p t e) ≡ Some b) × Extends b d
    least_both d g h =
        let a = and_then_some (λ t. option_map (More t) (readings ps tail d)) (reading p d) (More t ts) h in
        let c = map_some (More a.0) (readings ps tail d) (More t ts) a.2 in
        let q = more_parts a.0 t c.0 ts c.2 in
        let x = l.least d g (a.1 ∙ ap Some q.0) in
        let y = (m x.0).least d x.2 (c.1 ∙ ap Some q.1) in
        (y.0, and_then_from (match_parts ps tail ts) (match_pattern p t e) x.0 y.0 x.1 y.1, y.2)

-- parts of which there is a first never read as no parts
no_parts : (p : Pattern) (ps : Patterns) (tail : Option Tail) (d : Bindings)
    → readings (Before p ps) tail d ≡ Some NoTerm → ⊥
unfolding readings
no_parts p ps tail d h =
    let a = and_then_some (λ t. option_map (More t) (readings ps tail d)) (reading p d) NoTerm h in
    let c = map_some (More a.0) (readings ps tail d) NoTerm a.2 in
    let q : More a.0 c.0 ≡ NoTerm = c.2 in
    cc

-- a term that reads as a list of parts is a list
listed_only : (o : Option Terms) (t : Term) → option_map Listed o ≡ Some t → (ts : Terms) × (t ≡ Listed ts)
listed_only o t h = let a = map_some Listed o t h in (a.0, sym a.2)

-- matching a pattern finds the least bindings under which it reads as the term
mutual
  unfolding reading readings match_pattern match_parts

  pub pattern_least : (p : Pattern) (t : Term) (e : Bindings) → IsLeast (reading p) t e (match_pattern p t e)
  pattern_least (Variable s v) t e = meet_least v t e
  pattern_least (syntax.Symbol s name) (Symbol b) e =
      test_least (Symbol name) (Symbol b) (bytes_eq name b) e (same_term-Decides (Symbol name) (Symbol b))
  pattern_least (syntax.Number s n) (Number m) e =
      test_least (Number n) (Number m) (int_eq n m) e (same_term-Decides (Number n) (Number m))
  pattern_least (Listing s ps tail) (Listed ts) e =
      alike_least (readings ps tail) (reading (Listing s ps tail)) ts (Listed ts) e (match_parts ps tail ts e)
      (λ d h. ap (option_map Listed) h)
      (λ d h. let a = map_some Listed (readings ps tail d) (Listed ts) h in a.1 ∙ ap Some cc)
      (parts_least ps tail ts e)
  pattern_least (Listing s ps tail) (Symbol b) e =
      none_least (reading (Listing s ps tail)) (Symbol b) e
      (λ d g h. let a = listed_only (readings ps tail d) (Symbol b) h in let q = a.1 in cc)
  pattern_least (Listing s ps tail) (Number m) e =
      none_least (reading (Listing s ps tail)) (Number m) e
      (λ d g h. let a = listed_only (readings ps tail d) (Number m) h in let q = a.1 in cc)
  pattern_least p t e = none_least (reading p) t e (λ d g h. cc)

  -- matching the parts of a list finds the least bindings under which they read as the terms
  pub parts_least : (ps : Patterns) (tail : Option Tail) (ts : Terms) (e : Bindings)
      → IsLeast (readings ps tail) ts e (match_parts ps tail ts e)
  parts_least NoPattern tail ts e = tail_least tail ts e
  parts_least (Before p ps) tail NoTerm e =
      none_least (readings (Before p ps) tail) NoTerm e (λ d g h. no_parts p ps tail d h)
  parts_least (Before p ps) tail (More t ts) e =
      both_least p ps tail t ts e (pattern_least p t e) (λ b. parts_least ps tail ts b)

-- an atom is read as a list that begins with its name
atom_only : (a : Atom) (t : Term) (e : Bindings) → atom_reading a e ≡ Some t
    → (ts : Terms) × (readings a.args a.tail e ≡ Some ts) × (t ≡ Listed (More (Symbol a.name) ts))
atom_only a t e h =
    let m = map_some (λ ts. Listed (More (Symbol a.name) ts)) (readings a.args a.tail e) t h in
    (m.0, m.1, sym m.2)

-- matching an atom with a list that begins with a name finds the least bindings
named_least : (a : Atom) (name : List ℕ) (ts : Terms) (e : Bindings) (test : Bool) → bytes_eq a.name name ≡ test
    → IsLeast (atom_reading a) (Listed (More (Symbol name) ts)) e (cond test (match_parts a.args a.tail ts e) None)
named_least a name ts e true h =
    let n : a.name ≡ name = (bytes_eq-Decides a.name name).0 h in
    alike_least (readings a.args a.tail) (atom_reading a) ts (Listed (More (Symbol name) ts)) e
    (match_parts a.args a.tail ts e)
    (λ d k. ap (option_map (λ xs. Listed (More (Symbol a.name) xs))) k ∙ ap (λ m. Some (Listed (More (Symbol m) ts))) n)
    (λ d k. let m = atom_only a (Listed (More (Symbol name) ts)) d k in let q = m.2 in m.1 ∙ ap Some cc)
    (parts_least a.args a.tail ts e)
named_least a name ts e false h =
    none_least (atom_reading a) (Listed (More (Symbol name) ts)) e
    (λ d g k. let m = atom_only a (Listed (More (Symbol name) ts)) d k in
    let q = m.2 in
    let n : a.name ≡ name = cc in
    false≢true (sym h ∙ (bytes_eq-Decides a.name name).1 n))

-- matching an atom finds the least bindings under which it reads as the term
pub atom_least : (a : Atom) (t : Term) (e : Bindings) → IsLeast (atom_reading a) t e (match_atom a t e)
atom_least a (Listed (More (Symbol name) ts)) e = named_least a name ts e (bytes_eq a.name name) refl
atom_least a t e =
    none_least (atom_reading a) t e (λ d g h. let m = atom_only a t d h in let q = m.2 in cc)
