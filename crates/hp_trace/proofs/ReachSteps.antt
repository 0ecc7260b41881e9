-- A walk to the next visit at or below a path.
use Rattle.std.proofs.Common.{append_assoc, ◌≡◌, ℕ, Bool, true, false, ◌==◌, cond, List, [], ◌∷◌, ◌++◌, Option, Some, None, refl, sym, ap, ◌∙◌, subst}
use Rattle.std.specs.Prelude.{option_map}
use Rattle.std.specs.List.{starts_with}
use Rattle.hp_dead_ends.specs.Arriving.{is_small}
use Rattle.hp_net.specs.Standings.{Standing, left_after}
use Rattle.hp_passes.specs.Passing.{Passes, AtEnd, GoesOn, LeavesOut, Ends, at_end, at_visit, sight_of}
use Rattle.hp_passes.specs.declared.passing.Turn.{Turn}
use Rattle.hp_passes.specs.declared.passing.Turn.TheVariants as turns
use Rattle.hp_syntax.specs.Walk.{Sight, Visit, begins, is_fault_here, skip, told}
use Rattle.hp_trace.specs.declared.reaching.Reaching.{Reaching}
use Rattle.hp_trace.specs.Reaching.{ComesNext, IsEnding, MeetsAt, MeetsReaching}
use Rattle.hp_trace.specs.Traces.{turn_by, visits_from}
use Rattle.hp_trace.proofs.TraceSteps.{below_told, from_last, from_on, from_past, turn_fault, turn_faultless}

-- ---- one visit

module _ (s : Reaching) (c d : Unit {0}) (v : Visit) (x : Turn) (u : Reaching) (w : List ℕ) (b : Bool)
    (told_so : w ≡ told v.path) (is : b ≡ starts_with ◌==◌ w s.from.now) where
  here : is_small s.from.now ≡ true → begins s.from.now v.path ≡ b
  here small =
      sym (is ∙ (ap (λ l. starts_with ◌==◌ l s.from.now) told_so ∙ below_told s.from.now v.path small))

  pub meets_below : b ≡ true → MeetsAt true s v x u → MeetsReaching s c v x u d
  meets_below e m = λ small. subst (λ y. MeetsAt y s v x u) (sym (here small ∙ e)) m

  pub meets_beside : b ≡ false → u ≡ s
      → (is_small s.from.now ≡ true → begins s.from.now v.path ≡ false → x ≡ turn_by s.from.now v.path v.sight)
      → MeetsReaching s c v x u d
  meets_beside e same turn = λ small.
      subst (λ y. MeetsAt y s v x u) (sym (here small ∙ e)) (same, turn small (here small ∙ e))

-- ---- the end of a list

pub whole_ending : (vs : List Visit) → IsEnding vs vs
whole_ending vs = record { before = []; whole = refl }

pub longer_ending : (v : Visit) (ws vs : List Visit) → IsEnding ws vs → IsEnding ws (v ∷ vs)
longer_ending v ws vs h = record { before = v ∷ h.before; whole = ap (λ l. v ∷ l) h.whole }

pub ending_of_ending : (us ws vs : List Visit) → IsEnding us ws → IsEnding ws vs → IsEnding us vs
ending_of_ending us ws vs h k = record {
  before = k.before ++ h.before;
  whole = k.whole ∙ (ap (λ l. k.before ++ l) h.whole ∙ sym (append_assoc k.before h.before us));
}

-- what is left without the visits below a path is an end of a list
pub skip_ending : (p : List ℕ) (vs : List Visit) → IsEnding (skip p vs) vs
skip_ending p [] = whole_ending []
skip_ending p (v ∷ vs) = by (begins p v.path) (skip_ending p vs)
  where
    by : (b : Bool) → IsEnding (skip p vs) vs → IsEnding (cond b (skip p vs) (v ∷ vs)) (v ∷ vs)
    by true h = longer_ending v (skip p vs) vs h
    by false h = whole_ending (v ∷ vs)

-- ---- the whole walk

-- what comes next of an end of some visits comes next of all, where none before it counts
later : (p : List ℕ) (vs ws : List Visit) (o : Option Sight) (s : Standing) → IsEnding ws vs
    → visits_from p vs ≡ visits_from p ws → ComesNext p ws o s → ComesNext p vs o s
later p vs ws None s e same h = same ∙ h
later p vs ws (Some x) s e same h = record {
  visit = h.visit;
  rest = h.rest;
  sight = h.sight;
  here = h.here;
  stands = h.stands;
  ending = ending_of_ending (h.visit ∷ h.rest) ws vs h.ending e;
  first = same ∙ h.first;
}

-- a visit at or below the path is the first of those from there on
pub first_here : (p : List ℕ) (v : Visit) (vs : List Visit) → begins p v.path ≡ true
    → visits_from p (v ∷ vs) ≡ v ∷ visits_from p (left_after v vs)
first_here p v vs e = by (is_fault_here v.sight) refl
  where
    by : (f : Bool) → is_fault_here v.sight ≡ f → visits_from p (v ∷ vs) ≡ v ∷ visits_from p (cond f [] vs)
    by true f =
        from_last p v vs (turn_fault p v.path v.sight f) ∙ ap (λ b. cond b (v ∷ []) []) e
    by false f =
        from_on p v vs (turn_faultless p v.path v.sight e f)
        ∙ ap (λ b. cond b (v ∷ visits_from p vs) (visits_from p vs)) e

-- so does a walk stand there
pub stands_there : (p : List ℕ) (v : Visit) (vs : List Visit) (o : Option Sight) → begins p v.path ≡ true
    → o ≡ Some v.sight → ComesNext p (v ∷ vs) o (at_visit v vs)
stands_there p v vs o e is =
    subst (λ x. ComesNext p (v ∷ vs) x (at_visit v vs)) (sym is) (record {
      visit = v;
      rest = vs;
      sight = refl;
      here = e;
      stands = refl;
      ending = whole_ending (v ∷ vs);
      first = first_here p v vs e;
    })

abbrev found_of : Reaching → Option Sight
found_of s = option_map sight_of s.found

none_comes : (p : List ℕ) (vs : List Visit) (o : Option Sight) (s : Standing) → o ≡ None → visits_from p vs ≡ []
    → ComesNext p vs o s
none_comes p vs o s e h = subst (λ x. ComesNext p vs x s) (sym e) h

module _ (p : List ℕ) (small : is_small p ≡ true) where
  by_place : (s u : Reaching) (c e : Unit {0}) (v : Visit) (x : Turn) → s.from.now ≡ p
      → MeetsReaching s c v x u e → (b : Bool) → begins p v.path ≡ b → MeetsAt b s v x u
  by_place s u c e v x same m b is =
      subst (λ y. MeetsAt y s v x u) (ap (λ q. begins q v.path) same ∙ is) (m (ap is_small same ∙ small))

  turn_is : (s : Reaching) (v : Visit) (x : Turn) → s.from.now ≡ p → x ≡ turn_by s.from.now v.path v.sight
      → x ≡ turn_by p v.path v.sight
  turn_is s v x same e = e ∙ ap (λ q. turn_by q v.path v.sight) same

  next_on : (s r u : Reaching) (v : Visit) (vs : List Visit) (there : Standing) → s.from.now ≡ p → found_of s ≡ None
      → (b : Bool) → begins p v.path ≡ b → MeetsAt b s v turns.On r
      → (r.from.now ≡ p → found_of r ≡ None → ComesNext p vs (found_of u) there)
      → ComesNext p (v ∷ vs) (found_of u) there
  next_on s r u v vs there same none true is m rest = let k = m.0 in absurd (cc)
  next_on s r u v vs there same none false is m rest =
      later p (v ∷ vs) vs (found_of u) there (longer_ending v vs vs (whole_ending vs))
      (from_on p v vs (turn_is s v turns.On same m.1)
      ∙ ap (λ b. cond b (v ∷ visits_from p vs) (visits_from p vs)) is)
      (rest (ap (λ z. z.from.now) m.0 ∙ same) (ap found_of m.0 ∙ none))

  next_past : (s r u : Reaching) (v : Visit) (vs : List Visit) (there : Standing) → s.from.now ≡ p → found_of s ≡ None
      → (b : Bool) → begins p v.path ≡ b → MeetsAt b s v turns.Past r
      → (r.from.now ≡ p → found_of r ≡ None → ComesNext p (skip v.path vs) (found_of u) there)
      → ComesNext p (v ∷ vs) (found_of u) there
  next_past s r u v vs there same none true is m rest = let k = m.0 in absurd (cc)
  next_past s r u v vs there same none false is m rest =
      let ws = skip v.path vs in
      later p (v ∷ vs) ws (found_of u) there (longer_ending v ws vs (skip_ending v.path vs))
      (from_past p v vs (turn_is s v turns.Past same m.1)
      ∙ ap (λ b. cond b (v ∷ visits_from p ws) (visits_from p ws)) is)
      (rest (ap (λ z. z.from.now) m.0 ∙ same) (ap found_of m.0 ∙ none))

  next_last : (s u : Reaching) (v : Visit) (vs : List Visit) → s.from.now ≡ p → found_of s ≡ None
      → (b : Bool) → begins p v.path ≡ b → MeetsAt b s v turns.Last u
      → ComesNext p (v ∷ vs) (found_of u) (at_visit v vs)
  next_last s u v vs same none true is m = stands_there p v vs (found_of u) is m.2
  next_last s u v vs same none false is m =
      none_comes p (v ∷ vs) (found_of u) (at_visit v vs) (ap found_of m.0 ∙ none)
      (from_last p v vs (turn_is s v turns.Last same m.1) ∙ ap (λ b. cond b (v ∷ []) []) is)

  pub comes_next : (s u : Reaching) (c e : Unit {0}) (vs : List Visit) (there : Standing)
      → s.from.now ≡ p → found_of s ≡ None → Passes MeetsReaching s c vs u e there
      → ComesNext p vs (found_of u) there
  comes_next _ _ _ _ _ _ same none (AtEnd s c) = none_comes p [] (found_of s) at_end none refl
  comes_next _ _ _ _ _ _ same none (GoesOn s r u c a e v vs there m rest) =
      next_on s r u v vs there same none (begins p v.path) refl
      (by_place s r c a v turns.On same m (begins p v.path) refl)
      (λ f g. comes_next r u a e vs there f g rest)
  comes_next _ _ _ _ _ _ same none (LeavesOut s r u c a e v vs there m rest) =
      next_past s r u v vs there same none (begins p v.path) refl
      (by_place s r c a v turns.Past same m (begins p v.path) refl)
      (λ f g. comes_next r u a e (skip v.path vs) there f g rest)
  comes_next _ _ _ _ _ _ same none (Ends s r c a v vs m) =
      next_last s r v vs same none (begins p v.path) refl
      (by_place s r c a v turns.Last same m (begins p v.path) refl)
