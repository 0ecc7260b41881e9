-- Atoms of variables, symbols and numbers: what they are filled to, and turns at places that match them as they are.
use Rattle.std.specs.Prelude.{◌≡◌, ℕ, ◌+◌, ◌≤◌, Bool, true, false, ◌&&◌, ◌||◌, is_none, List, Option, Some, None, IfSome, length, slice_get}
use Rattle.hp_syntax.specs.declared.pattern.AtomPat.{AtomPat}
use Rattle.hp_syntax.specs.declared.pattern.Pat.{Pat}
use Rattle.hp_syntax.specs.Syntax.{Atom, Pattern, Patterns, Variable, Listing, Call, NoPattern, Before}
use Rattle.hp_syntax.specs.Syntax as syntax
use Rattle.hp_syntax.specs.Terms.{Term, Symbol, Number}
use Rattle.hp_syntax.specs.Values.{Bindings, bound}
use Rattle.hp_syntax.specs.Goals.{Filled, Known, Free, fill_goal, fill_variable}
use Rattle.hp_syntax.specs.Views.{pattern_of, patterns_of}
use Rattle.hp_eval.specs.declared.event.Event as public_event
use Rattle.hp_eval.specs.GoalViews.{term_at}
use Rattle.hp_eval.specs.Growth.{Grows}
use Rattle.hp_eval.specs.Slotted.{Slotted, bindings_of}
use Rattle.hp_suspended.specs.declared.places.AtomFilter.{AtomFilter}
use Rattle.hp_suspended.specs.declared.places.KnownPart.{KnownPart}
use Rattle.hp_suspended.specs.declared.scene.Scene.{Scene}
use Rattle.hp_suspended.specs.Answering.{IsBegun}
use Rattle.hp_suspended.specs.Filtered.{by_axioms, match_passing, passes, sats_from}
use Rattle.hp_suspended.specs.Fitting.{Fits, base_of, level_weight, weight}
use Rattle.hp_suspended.specs.Left.{left}
use Rattle.hp_suspended.specs.PlaceSteps.{BeginsWith}
use Rattle.hp_suspended.specs.SceneViews.{code_in, setting_of}
use Rattle.hp_suspended.specs.Settings.{Setting}
use Rattle.hp_suspended.specs.Views.{View}

-- a pattern is a variable, a symbol or a number
abbrev pub is_simple : Pattern → Bool
is_simple (Variable s v) = true
is_simple (syntax.Symbol s name) = true
is_simple (syntax.Number s n) = true
is_simple (Listing s ps tail) = false
is_simple (Call s name args) = false

abbrev pub are_simple : Patterns → Bool
are_simple NoPattern = true
are_simple (Before p ps) = is_simple p && are_simple ps

-- a pattern is a variable that stands for nothing
abbrev pub is_free : Pattern → Bindings → Bool
is_free (Variable s v) e = is_none (bound e v)
is_free (syntax.Symbol s name) e = false
is_free (syntax.Number s n) e = false
is_free (Listing s ps tail) e = false
is_free (Call s name args) e = false

abbrev pub some_free : Patterns → Bindings → Bool
some_free NoPattern e = false
some_free (Before p ps) e = is_free p e || some_free ps e

-- what a variable, a symbol or a number is filled to
abbrev pub part_filled : Pattern → Bindings → Filled
part_filled (Variable s v) e = fill_variable v (bound e v)
part_filled (syntax.Symbol s name) e = Known (Symbol name)
part_filled (syntax.Number s n) e = Known (Number n)
part_filled (Listing s ps tail) e = Free 0
part_filled (Call s name args) e = Free 0

-- ---- filters

-- a cell names what a pattern is filled to
abbrev pub IsCellOf : List Term → Bindings → Pattern → ℕ → Type 0
IsCellOf terms e p cell = (t : Term) × (slice_get terms cell ≡ Some t) × (part_filled p e ≡ Known t)

-- a part is an argument that is filled to what its cell names
pub record IsKnownAmong (terms : List Term) (e : Bindings) (args : List Pat) (part : KnownPart) : Type 0 where
  pub argument : ℕ
  pub pattern : Pat
  pub number : part.number ≡ argument + 1
  pub stands : slice_get args argument ≡ Some pattern
  pub known : IsCellOf terms e (pattern_of pattern) part.cell

-- an atom of variables, symbols and numbers, of which one stands for nothing, has its name and a part as a filter has
pub record IsFilterOf (terms : List Term) (e : Bindings) (a : AtomPat) (f : AtomFilter) : Type 0 where
  pub untailed : a.tail ≡ None
  pub simple : are_simple (patterns_of a.args.items) ≡ true
  pub free : some_free (patterns_of a.args.items) e ≡ true
  pub name : slice_get terms f.name ≡ Some (Symbol a.name)
  pub known : IfSome f.known (IsKnownAmong terms e a.args.items)

-- ---- places

-- at the place stands an atom that passes a filter
pub record PassesAt (terms : List Term) (f : AtomFilter) (places : List (Option ℕ)) (i : ℕ) : Type 0 where
  pub atom : ℕ
  pub stands : slice_get places i ≡ Some (Some atom)
  pub passes : passes terms f (term_at terms atom) ≡ true

-- a turn at places with atoms that pass a filter goes on from one to another
abbrev pub TurnsPassing : Option public_event.Event → Setting → Atom → AtomFilter → ℕ → ℕ → Slotted → Slotted → Type 0
TurnsPassing result w a f from behind old new =
    let found = λ (t : Term). match_passing w.terms f a t (bindings_of w.terms old) in
    BeginsWith result (sats_from w from found) (bindings_of w.terms new) (sats_from w behind found)

-- behind the places what is left of an atom is begun: its events by axioms
pub record IsBehindPlaces (s : Scene) (cells : List Term) (e : Slotted) (m n : ℕ) (a : Atom) (v : View) : Type 0 where
  pub start : base_of v ≡ m
  pub begun : IsBegun v
  pub fits : Fits (code_in s) (length cells) m v
  pub same : (terms : List Term) → Grows cells terms
      → left (setting_of s terms) e v
      ≡ by_axioms (setting_of s terms) n a (fill_goal a (bindings_of terms e)) (bindings_of terms e)
  pub lighter : weight (length (code_in s).nodes) v ≤ 2 + level_weight (length (code_in s).nodes) n
