-- Atoms of variables, symbols and numbers: what they are filled to, which is matched as they are.
use Rattle.std.proofs.Common.{◌≡◌, ℕ, zero, suc, ◌<◌, List, [], ◌∷◌, length, slice_get, Bool, true, false, Option, Some, None, Ok, inl, inr, refl, sym, ap, ap₂, ◌∙◌, arith}
use Rattle.std.specs.Prelude.{IfSome, bytes_eq, cond, is_none, option_map}
use Rattle.std.specs.Option.{option_and_then}
use Rattle.std.proofs.Math.Path.{fun_ext}
use Rattle.std.proofs.lemmas.Bool.{and_from, and_parts, false≢true, or_cases}
use Rattle.std.proofs.lemmas.Option.{none-some, same_Some, option_and_then_some, slice_get_within}
use Rattle.hp_syntax.specs.declared.pattern.AtomPat.{AtomPat}
use Rattle.hp_syntax.specs.declared.pattern.Pat.{Pat}
use Rattle.hp_syntax.specs.Syntax.{Atom, Pattern, Patterns, Variable, Listing, Call, NoPattern, Before}
use Rattle.hp_syntax.specs.Syntax as syntax
use Rattle.hp_syntax.specs.Terms.{Term, Terms, Symbol, Number, Listed, NoTerm, More, same_term}
use Rattle.hp_syntax.specs.Values.{Bindings, Extends, bound, flat_option, on_ok}
use Rattle.hp_syntax.specs.Goals as plain
use Rattle.hp_syntax.specs.Goals.{Filled, Fillings, Goal, Known, Free, Partly, NoFilling, Then, fill, fill_goal, fill_parts, fill_variable, goal_of, ground_parts, match_filled, match_fillings, match_free_tail, match_goal}
use Rattle.hp_syntax.specs.Matching.{match_atom, match_parts, match_pattern, match_tail, meet, met}
use Rattle.hp_syntax.specs.Views.{atom_of, pattern_of, patterns_of}
use Rattle.hp_syntax.proofs.TermEquality.{same_sound}
use Rattle.hp_laws.proofs.BindingLemmas.{extends_self, extends_through}
use Rattle.hp_laws.proofs.MatchLemmas.{pattern_least}
use Rattle.hp_eval.specs.GoalViews.{term_at}
use Rattle.hp_eval.specs.Growth.{Grows}
use Rattle.hp_eval.specs.Slotted.{Slotted, AreBelow, bindings_of}
use Rattle.hp_eval.proofs.CellViews.{at_named}
use Rattle.hp_eval.proofs.GrowthLemmas.{bindings_stay, still_names}
use Rattle.hp_world.specs.Parts.{part_of, part_of_list}
use Rattle.hp_suspended.specs.declared.places.AtomFilter.{AtomFilter}
use Rattle.hp_suspended.specs.declared.places.KnownPart.{KnownPart}
use Rattle.hp_suspended.specs.Filtered.{FilterBelow, has_known, is_same_part, match_passing, passes, sats_from}
use Rattle.hp_suspended.specs.Settings.{Setting, places_from}
use Rattle.hp_suspended.specs.SimpleAtoms.{IsFilterOf, IsKnownAmong, are_simple, is_free, is_simple, part_filled, some_free}
use Rattle.hp_suspended.proofs.FilterLemmas.{part_same}
use Rattle.hp_suspended.proofs.MatchedLemmas.{extended_passed, goal_matches}

-- ---- filling

-- what variables, symbols and numbers are filled to
abbrev pub parts_filled : Patterns → Bindings → Fillings
parts_filled NoPattern e = NoFilling
parts_filled (Before p ps) e = Then (part_filled p e) (parts_filled ps e)

-- a variable, a symbol or a number is filled to that
fill_one : (p : Pattern) (e : Bindings) → is_simple p ≡ true → fill p e ≡ Ok (part_filled p e)
unfolding fill
fill_one (Variable s v) e h = refl
fill_one (syntax.Symbol s name) e h = refl
fill_one (syntax.Number s n) e h = refl
fill_one (Listing s ps tail) e h = absurd (false≢true h)
fill_one (Call s name args) e h = absurd (false≢true h)

-- so are several
pub fill_all : (ps : Patterns) (e : Bindings) → are_simple ps ≡ true
    → fill_parts ps None e ≡ Ok (parts_filled ps e, None)
unfolding fill_parts
fill_all NoPattern e h = refl
fill_all (Before p ps) e h =
    let b = and_parts (is_simple p) (are_simple ps) h in
    ap₂ (λ x r. on_ok x (λ y. on_ok r (λ (f : plain.Filling). Ok (Then y f.0, f.1)))) (fill_one p e b.0)
    (fill_all ps e b.1)

-- a part before others that aren't ground isn't ground with them
before_unground : (x : Filled) (fs : Fillings) → ground_parts fs None ≡ None → ground_parts (Then x fs) None ≡ None
before_unground (Known t) fs h = ap (option_map (More t)) h
before_unground (Free v) fs h = refl
before_unground (Partly ps t) fs h = refl

-- a variable that stands for nothing isn't ground
free_unground : (p : Pattern) (e : Bindings) (fs : Fillings) → is_free p e ≡ true
    → ground_parts (Then (part_filled p e) fs) None ≡ None
free_unground (Variable s v) e fs h = by (bound e v) h
  where
    by : (o : Option Term) → is_none o ≡ true → ground_parts (Then (fill_variable v o) fs) None ≡ None
    by None k = refl
    by (Some t) k = absurd (false≢true k)
free_unground (syntax.Symbol s name) e fs h = absurd (false≢true h)
free_unground (syntax.Number s n) e fs h = absurd (false≢true h)
free_unground (Listing s ps tail) e fs h = refl
free_unground (Call s name args) e fs h = refl

-- patterns of which one stands for nothing aren't ground
some_unground : (ps : Patterns) (e : Bindings) → some_free ps e ≡ true → ground_parts (parts_filled ps e) None ≡ None
some_unground NoPattern e h = absurd (false≢true h)
some_unground (Before p ps) e h = elim (or_cases (is_free p e) (some_free ps e) h) [
  | inl here ↦ free_unground p e (parts_filled ps e) here
  | inr later ↦ before_unground (part_filled p e) (parts_filled ps e) (some_unground ps e later)
]

-- the goal that an atom of variables, symbols and numbers is filled to
abbrev pub goal_filled : Atom → Bindings → Goal
goal_filled a e = record { name = a.name; parts = parts_filled a.args e; tail = None }

-- an atom without a tail, of variables, symbols and numbers, of which one stands for nothing, is filled to that
pub fills : (a : Atom) (e : Bindings) → a.tail ≡ None → are_simple a.args ≡ true → some_free a.args e ≡ true
    → fill_goal a e ≡ Ok (goal_filled a e)
fills a e untailed simple free =
    ap (λ t. on_ok (fill_parts a.args t e) (λ f. goal_of a f (ground_parts f.0 f.1))) untailed
    ∙ (ap (λ r. on_ok r (λ f. goal_of a f (ground_parts f.0 f.1))) (fill_all a.args e simple)
    ∙ ap (goal_of a (parts_filled a.args e, None)) (some_unground a.args e free))

-- ---- matching

-- a variable that stands for a term has a place
placed : (o : Option (Option Term)) (x : Term) → flat_option o ≡ Some x → o ≡ Some (Some x)
placed None x h = absurd (none-some x h)
placed (Some o) x h = ap Some h

-- under bindings that extend others, what a variable is filled to under these is matched as the variable
variable_match : (v : ℕ) (e d : Bindings) (t : Term) → Extends e d
    → match_filled (fill_variable v (bound e v)) t d ≡ meet v t d
unfolding match_filled
variable_match v e d t extends = by (bound e v) refl
  where
    by : (o : Option Term) → bound e v ≡ o → match_filled (fill_variable v o) t d ≡ meet v t d
    by None h = refl
    by (Some x) h = sym (ap (λ o. met o v t d) (placed (slice_get d v) x (extends.keeps v x h)))

-- so is a variable, a symbol or a number
part_match : (p : Pattern) (e d : Bindings) (t : Term) → is_simple p ≡ true → Extends e d
    → match_filled (part_filled p e) t d ≡ match_pattern p t d
unfolding match_filled match_pattern
part_match (Variable s v) e d t h extends = variable_match v e d t extends
part_match (syntax.Symbol s name) e d (Symbol b) h extends = refl
part_match (syntax.Symbol s name) e d (Number m) h extends = refl
part_match (syntax.Symbol s name) e d (Listed ts) h extends = refl
part_match (syntax.Number s n) e d (Symbol b) h extends = refl
part_match (syntax.Number s n) e d (Number m) h extends = refl
part_match (syntax.Number s n) e d (Listed ts) h extends = refl
part_match (Listing s ps tail) e d t h extends = absurd (false≢true h)
part_match (Call s name args) e d t h extends = absurd (false≢true h)

-- behind the last part nothing may follow
end_match : (ts : Terms) (d : Bindings) → match_free_tail None ts d ≡ match_tail None ts d
end_match NoTerm d = refl
end_match (More t ts) d = refl

-- and so are several
parts_match : (ps : Patterns) (e d : Bindings) (ts : Terms) → are_simple ps ≡ true → Extends e d
    → match_fillings (parts_filled ps e) None ts d ≡ match_parts ps None ts d
unfolding match_fillings match_parts
parts_match NoPattern e d ts h extends = end_match ts d
parts_match (Before p ps) e d NoTerm h extends = refl
parts_match (Before p ps) e d (More t ts) h extends =
    let b = and_parts (is_simple p) (are_simple ps) h in
    ap (option_and_then (match_fillings (parts_filled ps e) None ts)) (part_match p e d t b.0 extends)
    ∙ by (match_pattern p t d) (λ c k.
    parts_match ps e c ts b.1 (extends_through e d c extends ((pattern_least p t d).sound c k).0))
  where
    by : (o : Option Bindings)
        → ((c : Bindings) → o ≡ Some c
        → match_fillings (parts_filled ps e) None ts c ≡ match_parts ps None ts c)
        → option_and_then (match_fillings (parts_filled ps e) None ts) o
        ≡ option_and_then (match_parts ps None ts) o
    by None k = refl
    by (Some c) k = k c refl

-- the goal that an atom is filled to under bindings is matched under them as the atom
goal_match : (a : Atom) (e : Bindings) (t : Term) → a.tail ≡ None → are_simple a.args ≡ true
    → match_goal (goal_filled a e) t e ≡ match_atom a t e
goal_match a e (Symbol name) untailed simple = refl
goal_match a e (Number n) untailed simple = refl
goal_match a e (Listed NoTerm) untailed simple = refl
goal_match a e (Listed (More (Number n) ts)) untailed simple = refl
goal_match a e (Listed (More (Listed us) ts)) untailed simple = refl
goal_match a e (Listed (More (Symbol name) ts)) untailed simple =
    ap (λ o. cond (bytes_eq a.name name) o None)
    (parts_match a.args e e ts simple (extends_self e)
    ∙ ap (λ o. match_parts a.args o ts e) (sym untailed))

-- ---- filters

-- what an argument is filled to is the argument of the lists that are matched
argument_matched : (ps : List Pat) (e d b : Bindings) (ts : Terms) (k : ℕ) (p : Pat) (x : Term)
    → slice_get ps k ≡ Some p → part_filled (pattern_of p) e ≡ Known x
    → match_fillings (parts_filled (patterns_of ps) e) None ts d ≡ Some b → part_of_list k ts ≡ Some x
unfolding match_fillings match_filled
argument_matched [] e d b ts k p x there known h = absurd (none-some p there)
argument_matched (q ∷ ps) e d b NoTerm k p x there known h = absurd (none-some b h)
argument_matched (q ∷ ps) e d b (More t ts) zero p x there known h =
    option_and_then_some (match_fillings (parts_filled (patterns_of ps) e) None ts)
    (match_filled (part_filled (pattern_of q) e) t d) b h
    (λ c is rest.
    let one : match_filled (Known x) t d ≡ Some c =
    ap (λ f. match_filled f t d) (sym (ap (λ r. part_filled (pattern_of r) e) (same_Some q p there) ∙ known)) ∙ is in
    ap Some (sym (same_sound x t (extended_passed (same_term x t) d c one))))
argument_matched (q ∷ ps) e d b (More t ts) (suc k) p x there known h =
    option_and_then_some (match_fillings (parts_filled (patterns_of ps) e) None ts)
    (match_filled (part_filled (pattern_of q) e) t d) b h
    (λ c is rest. argument_matched ps e c b ts k p x there known rest)

module _ (terms : List Term) (e : Bindings) (a : AtomPat) (f : AtomFilter) (h : IsFilterOf terms e a f) where
  abbrev goal_here : Goal
  goal_here = goal_filled (atom_of a) e

  -- an atom that the goal matches passes the filter
  matched_passes : (t : Term) (b : Bindings) → match_goal goal_here t e ≡ Some b → passes terms f t ≡ true
  matched_passes t b m =
      let parts = goal_matches goal_here t e b m in
      let named : part_of 0 t ≡ Some (term_at terms f.name) =
      ap (part_of 0) parts.whole ∙ ap Some (sym (at_named terms f.name (Symbol a.name) h.name)) in
      and_from (is_same_part (part_of 0 t) (term_at terms f.name)) (has_known terms f.known t)
      (part_same (part_of 0 t) (term_at terms f.name) named)
      (by parts.parts parts.whole parts.matches f.known h.known)
    where
      by : (us : Terms) → t ≡ Listed (More (Symbol a.name) us)
          → match_fillings (parts_filled (patterns_of a.args.items) e) None us e ≡ Some b
          → (o : Option KnownPart) → IfSome o (IsKnownAmong terms e a.args.items) → has_known terms o t ≡ true
      by us whole m None k = refl
      by us whole m (Some p) k =
          let x = k.known.0 in
          let behind : p.number ≡ suc k.argument = omega (arith, k.number) in
          let is : part_of p.number t ≡ Some x =
          ap (λ n. part_of n t) behind ∙ (ap (part_of (suc k.argument)) whole
          ∙ argument_matched a.args.items e e b us k.argument k.pattern x k.stands k.known.2 m) in
          part_same (part_of p.number t) (term_at terms p.cell)
          (is ∙ ap Some (sym (at_named terms p.cell x k.known.1)))

  -- so the goal is matched as the atom is with those that pass
  passing_match : (t : Term) → match_passing terms f (atom_of a) t e ≡ match_goal goal_here t e
  passing_match t = by (match_goal goal_here t e) refl
    where
      same : match_goal goal_here t e ≡ match_atom (atom_of a) t e
      same = goal_match (atom_of a) e t h.untailed h.simple

      none : (p : Bool) (o : Option Bindings) → o ≡ None → cond p o None ≡ None
      none true o h = h
      none false o h = refl

      by : (o : Option Bindings) → match_goal goal_here t e ≡ o → match_passing terms f (atom_of a) t e ≡ o
      by None is =
          none (passes terms f t) (match_atom (atom_of a) t e) (sym same ∙ is)
      by (Some b) is =
          ap (λ p. cond p (match_atom (atom_of a) t e) None) (matched_passes t b is) ∙ (sym same ∙ is)

  -- its filling is that goal
  pub filter_fills : fill_goal (atom_of a) e ≡ Ok goal_here
  filter_fills = fills (atom_of a) e h.untailed h.simple h.free

-- the cells of the filter are cells
pub filter_within : (terms : List Term) (e : Bindings) (a : AtomPat) (f : AtomFilter) → IsFilterOf terms e a f
    → FilterBelow (length terms) f
filter_within terms e a f h =
    (slice_get_within terms f.name (Symbol a.name) h.name, by f.known h.known)
  where
    by : (o : Option KnownPart) → IfSome o (IsKnownAmong terms e a.args.items) → IfSome o (λ p. p.cell < length terms)
    by None k = tt
    by (Some p) k = slice_get_within terms p.cell k.known.0 k.known.1

-- where terms are added it is the atom's filter still
pub filter_later : (old new : List Term) → Grows old new → (s : Slotted) → AreBelow (length old) s → (a : AtomPat)
    (f : AtomFilter) → IsFilterOf old (bindings_of old s) a f → IsFilterOf new (bindings_of new s) a f
filter_later old new g s below a f h = record {
  untailed = h.untailed;
  simple = h.simple;
  free = ap (some_free (patterns_of a.args.items)) same ∙ h.free;
  name = still_names old new g f.name (Symbol a.name) h.name;
  known = by f.known h.known;
}
  where
    same : bindings_of new s ≡ bindings_of old s
    same = bindings_stay old new g s below

    by : (o : Option KnownPart) → IfSome o (IsKnownAmong old (bindings_of old s) a.args.items)
        → IfSome o (IsKnownAmong new (bindings_of new s) a.args.items)
    by None k = tt
    by (Some p) k = record {
      argument = k.argument;
      pattern = k.pattern;
      number = k.number;
      stands = k.stands;
      known = (
        k.known.0,
        still_names old new g p.cell k.known.0 k.known.1,
        ap (part_filled (pattern_of k.pattern)) same ∙ k.known.2,
      );
    }

-- and the satisfiers by places are the same
pub filter_sats : (w : Setting) (e : Bindings) (a : AtomPat) (f : AtomFilter) → IsFilterOf w.terms e a f
    → sats_from w 0 (λ t. match_passing w.terms f (atom_of a) t e) ≡ places_from w 0 (goal_filled (atom_of a) e) e
unfolding sats_from places_from
filter_sats w e a f h = ap (sats_from w 0) (fun_ext (passing_match w.terms e a f h))
