-- Values, pattern by pattern.
use Rattle.std.proofs.Common.{◌≡◌, ℕ, ◌<◌, List, [], ◌∷◌, ◌++◌, length, map, Option, Some, None, option_map, slice_get, Result, Ok, Err, ℤ, Vec, refl, ap, ap₂, sym, ◌∙◌, subst}
use Rattle.std.specs.Global.{Global}
use Rattle.std.specs.List.{All}
use Rattle.std.proofs.lemmas.List.{map_push}
use Rattle.std.proofs.lemmas.List.Elements.{All-push, All-same}
use Rattle.std.proofs.lemmas.Option.{slice_get-map, slice_get_within}
use Rattle.hp_syntax.specs.declared.name.Name.{Name}
use Rattle.hp_syntax.specs.declared.pattern.Span.{Span}
use Rattle.hp_syntax.specs.declared.pattern.Tail.{Tail}
use Rattle.hp_syntax.specs.declared.pattern.Pat.{Pat}
use Rattle.hp_syntax.specs.declared.pattern.PatKind.TheVariants as pats
use Rattle.hp_syntax.specs.declared.fault.RunFault.{RunFault}
use Rattle.hp_syntax.specs.Syntax.{Patterns}
use Rattle.hp_syntax.specs.Terms.{Term, Terms, Symbol, Number, NoTerm, More}
use Rattle.hp_syntax.specs.Calls.{call}
use Rattle.hp_syntax.specs.Values.{Bindings, bound, flat_option, on_ok, value_of_variable, list_of, tail_value, value, values}
use Rattle.hp_syntax.specs.Views.{pattern_of, patterns_of}
use Rattle.hp_syntax.specs.ViewLaws.{pattern_of-var, pattern_of-sym, pattern_of-num, pattern_of-list, pattern_of-call}
use Rattle.hp_eval.specs.declared.event.EvalStop.{EvalStop}
use Rattle.hp_eval.specs.declared.event.EvalStop.TheVariants as stops
use Rattle.hp_eval.specs.Growth.{Grows}
use Rattle.hp_eval.specs.PartValues.{GivesParts}
use Rattle.hp_eval.specs.GoalViews.{term_at, row_of}
use Rattle.hp_eval.specs.Slotted.{Slotted, AreBelow, flat, named, bindings_of}
use Rattle.hp_eval.specs.Steps.{cell_or_fault, onto, GivesCell}
use Rattle.hp_eval.proofs.CellViews.{named_at, at_named}
use Rattle.hp_eval.proofs.GrowthLemmas.{terms_stay, all_below}
use Rattle.hp_eval.proofs.Stops.{StopsAt}

-- ---- the parts of a list

-- the values of parts are that of the first and those of the others
pub values_step : (tail : Option Tail) (e : Bindings) (p : Pat) (ps : List Pat)
    → values (patterns_of (p ∷ ps)) tail e
    ≡ on_ok (value (pattern_of p) e) (λ t. on_ok (values (patterns_of ps) tail e) (λ ts. Ok (More t ts)))
unfolding value values
values_step tail e p ps = refl

-- no part leaves what the tail stands for
pub values_none : (tail : Option Tail) (e : Bindings) → values (patterns_of []) tail e ≡ tail_value tail e
unfolding value values
values_none tail e = refl

-- terms in front of no part are a row
pub onto_none : (ts : List Term) → onto ts NoTerm ≡ row_of ts
onto_none [] = refl
onto_none (t ∷ ts) = ap (More t) (onto_none ts)

module _ {A : Type 0} (ps : Patterns) (tail : Option Tail) (e later : Bindings) (ts : List Term) (same : later ≡ e)
    (parts : values ps tail e ≡ on_ok (tail_value tail e) (λ us. Ok (onto ts us))) (f : Terms → Result A RunFault) where
  -- where parts have values, the fault of the tail is that of the list
  pub tail_faults : (x : RunFault) → tail_value tail later ≡ Err x → on_ok (values ps tail e) f ≡ Err x
  tail_faults x h =
      ap (λ r. on_ok r f) (parts ∙ ap (λ r. on_ok r (λ us. Ok (onto ts us))) (ap (tail_value tail) (sym same) ∙ h))

  -- where parts and tail have values, the list is of these
  pub tail_gives : (us : Terms) → tail_value tail later ≡ Ok us → f (onto ts us) ≡ on_ok (values ps tail e) f
  tail_gives us h =
      sym
      (ap (λ r. on_ok r f)
      (parts ∙ ap (λ r. on_ok r (λ vs. Ok (onto ts vs))) (ap (tail_value tail) (sym same) ∙ h)))

-- parts without a tail are a row
pub parts_give : {A : Type 0} (ps : Patterns) (e : Bindings) (ts : List Term) (f : Terms → Result A RunFault)
    → values ps None e ≡ on_ok (tail_value None e) (λ us. Ok (onto ts us)) → f (row_of ts) ≡ on_ok (values ps None e) f
parts_give ps e ts f parts = sym (ap (λ r. on_ok r f) (parts ∙ ap Ok (onto_none ts)))

-- ---- variables

-- a variable is bound to the term that its cell names
pub bound_named : (terms : List Term) (s : Slotted) (v : ℕ)
    → bound (bindings_of terms s) v ≡ named terms (flat (slice_get s.values v))
bound_named terms s v =
    ap flat_option (slice_get-map (named terms) s.values v) ∙ by_case (slice_get s.values v)
  where
    by_case : (o : Option (Option ℕ)) → flat_option (option_map (named terms) o) ≡ named terms (flat o)
    by_case None = refl
    by_case (Some c) = refl

-- the value of a variable is what its cell names, or the fault of one without
pub variable_gives : (terms : List Term) (s : Slotted) (v : ℕ) (span : Span) → AreBelow (length terms) s
    → GivesCell (cell_or_fault span (flat (slice_get s.values v)))
    (value_of_variable span (bound (bindings_of terms s) v)) terms
variable_gives terms s v span below =
    subst (λ o. GivesCell (cell_or_fault span (flat (slice_get s.values v))) (value_of_variable span o) terms)
    (sym (bound_named terms s v)) (by_case (slice_get s.values v) refl)
  where
    by_case : (o : Option (Option ℕ)) → slice_get s.values v ≡ o
        → GivesCell (cell_or_fault span (flat o)) (value_of_variable span (named terms (flat o))) terms
    by_case None h = refl
    by_case (Some None) h = refl
    by_case (Some (Some cell)) h =
        let names = named_at terms cell (below v cell h) in
        (term_at terms cell, ap (value_of_variable span) names, names)

-- ---- patterns

module _ (p : Pat) (e : Bindings) where
  -- the value of a pattern that is a variable is what it stands for
  pub value_of-var : (v : ℕ) → p.kind ≡ pats.Var v → value (pattern_of p) e ≡ value_of_variable p.span (bound e v)
  unfolding value values
  value_of-var v h = ap (λ q. value q e) (pattern_of-var p v h)

  -- that of one that is a symbol is the symbol
  pub value_of-sym : (name : Name) → p.kind ≡ pats.Sym name → value (pattern_of p) e ≡ Ok (Symbol name)
  unfolding value values
  value_of-sym name h = ap (λ q. value q e) (pattern_of-sym p name h)

  -- that of one that is a number is the number
  pub value_of-num : (n : ℤ) → p.kind ≡ pats.Num n → value (pattern_of p) e ≡ Ok (Number n)
  unfolding value values
  value_of-num n h = ap (λ q. value q e) (pattern_of-num p n h)

  -- that of a list is the list of its parts' values
  pub value_of-list : (parts : Vec Pat Global) (tail : Option Tail) → p.kind ≡ pats.List parts tail
      → value (pattern_of p) e ≡ on_ok (values (patterns_of parts.items) tail e) (list_of p.span)
  unfolding value values
  value_of-list parts tail h = ap (λ q. value q e) (pattern_of-list p parts tail h)

  -- that of a call is the call's of its arguments' values
  pub value_of-call : (name : Name) (args : Vec Pat Global) → p.kind ≡ pats.Call name args
      → value (pattern_of p) e ≡ on_ok (values (patterns_of args.items) None e) (λ ts. call name ts p.span)
  unfolding value values
  value_of-call name args h = ap (λ q. value q e) (pattern_of-call p name args h)

-- ---- parts, one by one

-- parts stop where one of them does
pub part_stops : (stop : EvalStop) (one : Result Term RunFault) (ps : Patterns) (e : Bindings) (terms : List Term)
    → StopsAt stop one → ((f : RunFault) → one ≡ Err f → (tail : Option Tail) → values ps tail e ≡ Err f)
    → GivesParts (Err stop) ps e terms
part_stops (stops.Fault f) one ps e terms h g = g f h
part_stops stops.NoMemory one ps e terms h g = h

-- cells to which one more was added name the terms before and one more
pub terms_pushed : (old new : List Term) → Grows old new → (found pushed : List ℕ) (cell : ℕ) (t : Term)
    → All (λ c. c < length old) found → pushed ≡ found ++ cell ∷ [] → slice_get new cell ≡ Some t
    → map (term_at new) pushed ≡ map (term_at old) found ++ t ∷ []
terms_pushed old new g found pushed cell t below is names =
    ap (map (term_at new)) is
    ∙ (map_push (term_at new) found cell
    ∙ ap₂ (λ xs x. xs ++ x ∷ []) (terms_stay old new g found below) (at_named new cell t names))

-- cells to which one more was added are below the number of terms
pub below_pushed : (old new : List Term) → Grows old new → (found pushed : List ℕ) (cell : ℕ) (t : Term)
    → All (λ c. c < length old) found → pushed ≡ found ++ cell ∷ [] → slice_get new cell ≡ Some t
    → All (λ c. c < length new) pushed
below_pushed old new g found pushed cell t below is names =
    All-same (λ c. c < length new) pushed (found ++ cell ∷ []) is
    (All-push (λ c. c < length new) found cell (all_below old new g found below) (slice_get_within new cell t names))
