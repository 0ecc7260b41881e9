-- The cells of lists of terms that patterns stand for.
use Rattle.std.proofs.Common.{◌≡◌, ℕ, ◌+◌, ◌<◌, List, length, drop, get_or, slice_get, Option, Some, None, arith, sym, ap, subst, ◌∙◌}
use Rattle.std.specs.Prelude.{true, false, IfSome, MatchOption, is_some}
use Rattle.std.proofs.lemmas.List.{drop_all, drop_more}
use Rattle.std.proofs.lemmas.Option.{get_or_from_slice_get, slice_get-get_or}
use Rattle.hp_cells.specs.Cells.{AreCells, IsAbsent, LooksUp, NamesList}
use Rattle.hp_syntax.specs.declared.pattern.Pat.{Pat}
use Rattle.hp_syntax.specs.Syntax.{Before}
use Rattle.hp_syntax.specs.Terms.{Term, Terms, Listed, NoTerm, More}
use Rattle.hp_syntax.specs.Values.{Bindings}
use Rattle.hp_syntax.specs.Views.{pattern_of, patterns_of}
use Rattle.hp_world.specs.Indexed as places
use Rattle.hp_suspended.specs.HeldAtoms.{IsHeld, IsListOf, IsShallowCellOf}

module _ (terms : List Term) where
  -- a list whose others no cell names is named by none
  pub longer_absent : AreCells terms → (t : Term) (ts : Terms) → IsAbsent terms (Listed ts)
      → IsAbsent terms (Listed (More t ts))
  longer_absent cells t ts absent = λ i is. let before = cells.parts i t ts is in absent before.1.0 before.1.2

  -- the cell that a look-up answers names a list
  pub found_list : (ts : Terms) (o : Option ℕ) → LooksUp (Listed ts) terms o → IfSome o (NamesList terms)
  found_list ts None h = tt
  found_list ts (Some cell) h = (ts, h)

  -- a look-up of a list finds it as what is found of it
  pub found_there : (ts : Terms) (o : Option ℕ) (cell : ℕ) → o ≡ Some cell → LooksUp (Listed ts) terms o
      → slice_get terms cell ≡ Some (Listed ts)
  found_there ts o cell is h = subst (LooksUp (Listed ts) terms) is h

  pub found_nowhere : (ts : Terms) (o : Option ℕ) → o ≡ None → LooksUp (Listed ts) terms o → IsAbsent terms (Listed ts)
  found_nowhere ts o is h = subst (LooksUp (Listed ts) terms) is h

  -- ---- parts from a place on

  module _ (e : Bindings) (ps : List Pat) where
    -- no patterns stand for no terms
    pub list_none : (cell : ℕ) → slice_get terms cell ≡ Some (Listed NoTerm)
        → IsListOf terms e (patterns_of (drop (length ps) ps)) (Some cell)
    list_none cell h =
        subst (λ qs. IsListOf terms e (patterns_of qs) (Some cell)) (sym (drop_all (length ps) ps (omega arith)))
        (record { parts = NoTerm; stand = tt; shallow = omega arith; names = h })

    -- a further pattern before others stands for a further term
    pub list_more : (i : ℕ) (p : Pat) (cell : ℕ) (list longer : Option ℕ) → i < length ps → p ≡ get_or ps i p
        → IsShallowCellOf terms e (pattern_of p) cell
        → (behind : IsListOf terms e (patterns_of (drop (i + 1) ps)) list)
        → ((t : Term) (ts : Terms) → slice_get terms cell ≡ Some t → LooksUp (Listed ts) terms list
        → LooksUp (Listed (More t ts)) terms longer)
        → IsListOf terms e (patterns_of (drop i ps)) longer
    list_more i p cell list longer l is one behind looks =
        subst (λ qs. IsListOf terms e qs longer) (sym from)
        (record {
          parts = More one.term behind.parts;
          stand = (one.filled, behind.stand);
          shallow = let a = one.shallow in let b = behind.shallow in omega arith;
          names = looks one.term behind.parts one.names behind.names;
        })
      where
        from : patterns_of (drop i ps) ≡ Before (pattern_of p) (patterns_of (drop (i + 1) ps))
        from =
            ap patterns_of (drop_more ps i p l)
            ∙ ap (λ q. Before (pattern_of q) (patterns_of (drop (i + 1) ps))) (sym is)

-- ---- places

-- an atom that no place has, by its cell, is held nowhere
pub absent_held : (terms : List Term) → AreCells terms → (ps : List (Option ℕ)) (t : Term) (atom : ℕ)
    → slice_get terms atom ≡ Some t → places.IsAbsent atom ps → IsHeld false terms ps t
absent_held terms cells ps t atom names absent = λ i h.
    absent i (get_or_from_slice_get ps i (Some atom) None (h.1
    ∙ ap (λ a. Some (Some a)) (cells.distinct h.0 atom t h.2 names)))

-- where no cell names it, it is held nowhere either
pub unnamed_held : (terms : List Term) (ps : List (Option ℕ)) (t : Term) → IsAbsent terms t → IsHeld false terms ps t
unnamed_held terms ps t absent = λ i h. absent h.0 h.2

-- an atom that one place alone has is held
pub only_held : (terms : List Term) → AreCells terms → (ps : List (Option ℕ)) (t : Term) (atom i : ℕ)
    → slice_get terms atom ≡ Some t → places.IsOnlyAt atom ps i → IsHeld true terms ps t
only_held terms cells ps t atom i names at' = (
  i,
  (atom, slice_get-get_or ps i None at'.within ∙ ap Some at'.stands, names),
  λ j h. at'.only j (get_or_from_slice_get ps j (Some atom) None (h.1
      ∙ ap (λ a. Some (Some a)) (cells.distinct h.0 atom t h.2 names))),
)

-- so it is by what a look-up of its place answers
pub placed_held : (terms : List Term) → AreCells terms → (ps : List (Option ℕ)) (t : Term) (atom : ℕ)
    → slice_get terms atom ≡ Some t → (o : Option ℕ)
    → MatchOption o (places.IsAbsent atom ps) (places.IsOnlyAt atom ps) → IsHeld (is_some o) terms ps t
placed_held terms cells ps t atom names None h = absent_held terms cells ps t atom names h
placed_held terms cells ps t atom names (Some i) h = only_held terms cells ps t atom i names h
