-- Terms of cells, in memory of their own.
use Rattle.std.proofs.Common.{◌≡◌, ℕ, ℤ, ◌<◌, List, [], ◌∷◌, ◌++◌, Some, Vec, length, map, slice_get, refl, sym, ap, ◌∙◌}
use Rattle.std.specs.Global.{Global}
use Rattle.std.proofs.lemmas.List.{map-append}
use Rattle.hp_cells.specs.Cells.{NamesList, IsCons}
use Rattle.hp_cells.specs.Keys.{parts_of}
use Rattle.hp_cells.specs.Shows.{Shows}
use Rattle.hp_cells.specs.declared.keys.View.{View}
use Rattle.hp_cells.specs.declared.keys.View.TheVariants.{Nil, Sym, Num, Cons}
use Rattle.hp_eval.proofs.AttemptLemmas.{list_within}
use Rattle.hp_eval.proofs.CellViews.{at_named, named_at}
use Rattle.hp_eval.proofs.Loops.{in_front_push}
use Rattle.hp_eval.specs.GoalViews.{term_at}
use Rattle.hp_eval.specs.Steps.{onto}
use Rattle.hp_syntax.specs.declared.pattern.Ground.{Ground}
use Rattle.hp_syntax.specs.declared.pattern.Ground.TheVariants as grounds
use Rattle.hp_syntax.specs.GroundViews.{as_terms, ground_of, grounds_of, ground_of-sym, ground_of-num, ground_of-list}
use Rattle.hp_syntax.specs.Terms.{Term, Terms, Symbol, Number, Listed, NoTerm, More}

-- the view of the term that a cell names
abbrev pub IsShown : List Term → ℕ → View → Type 0
IsShown terms cell v = (t : Term) → slice_get terms cell ≡ Some t → Shows terms v t

pub shown_at : (terms : List Term) (cell : ℕ) (v : View) → cell < length terms → IsShown terms cell v
    → Shows terms v (term_at terms cell)
shown_at terms cell v h s = s (term_at terms cell) (named_at terms cell h)

-- the parts of a list, where it has some
pub cons_shown : (terms : List Term) (cell head tail : ℕ) → NamesList terms cell → IsShown terms cell (Cons head tail)
    → IsCons terms head tail (term_at terms cell)
cons_shown terms cell head tail n s = shown_at terms cell (Cons head tail) (list_within terms cell n) s

module _ (terms : List Term) (cell head tail : ℕ) (c : IsCons terms head tail (term_at terms cell)) where
  pub tail_list : NamesList terms tail
  tail_list = (c.rest, c.tail_names)

  -- the parts of a list are its first and those of the others
  pub cons_parts : parts_of (term_at terms cell) ≡ More (term_at terms head) (parts_of (term_at terms tail))
  cons_parts =
      rw (at_named terms head c.first c.head_names, at_named terms tail (Listed c.rest) c.tail_names, c.whole) refl

  -- a list is that of its parts
  pub cons_whole : Listed (parts_of (term_at terms cell)) ≡ term_at terms cell
  cons_whole = rw c.whole refl

  -- a cell of a list names one
  pub cons_list : cell < length terms → NamesList terms cell
  cons_list h = (More c.first c.rest, named_at terms cell h ∙ ap Some c.whole)

-- where the cell of a list names no more parts, there are none
pub end_parts : (terms : List Term) (cell : ℕ) (v : View) → NamesList terms cell → IsShown terms cell v
    → ((head tail : ℕ) → v ≡ Cons head tail → ⊥) → parts_of (term_at terms cell) ≡ NoTerm
end_parts terms cell v n s other = by v s other
  where
    at : (ts : Terms) → Listed n.0 ≡ Listed ts → parts_of (term_at terms cell) ≡ ts
    at ts e = ap parts_of (at_named terms cell (Listed n.0) n.1 ∙ e)

    by : (v : View) → IsShown terms cell v → ((head tail : ℕ) → v ≡ Cons head tail → ⊥)
        → parts_of (term_at terms cell) ≡ NoTerm
    by Nil s other = at NoTerm (s (Listed n.0) n.1)
    by (Sym name) s other = let e : Listed n.0 ≡ Symbol name.now = s (Listed n.0) n.1 in absurd (cc)
    by (Num m) s other = let e : Listed n.0 ≡ Number m = s (Listed n.0) n.1 in absurd (cc)
    by (Cons head tail) s other = absurd (other head tail refl)

-- ---- the parts of a list

-- terms in front of none are these
as_in_front : (ts : List Term) → as_terms ts ≡ onto ts NoTerm
as_in_front [] = refl
as_in_front (t ∷ ts) = ap (More t) (as_in_front ts)

-- the terms that were made, in front of the parts that are left
abbrev pub with_left : List Ground → List Term → ℕ → Terms
with_left made terms rest = onto (map ground_of made) (parts_of (term_at terms rest))

-- one more part is made
pub part_made : (made pushed : List Ground) (g : Ground) (terms : List Term) (rest head tail : ℕ)
    → pushed ≡ made ++ g ∷ [] → ground_of g ≡ term_at terms head → IsCons terms head tail (term_at terms rest)
    → with_left pushed terms tail ≡ with_left made terms rest
part_made made pushed g terms rest head tail is got c =
    let left = parts_of (term_at terms tail) in
    ap (λ gs. onto (map ground_of gs) left) is
    ∙ (ap (λ ts. onto ts left) (map-append ground_of made (g ∷ []))
    ∙ (in_front_push More (map ground_of made) (ground_of g) left
    ∙ (ap (λ t. onto (map ground_of made) (More t left)) got
    ∙ ap (onto (map ground_of made)) (sym (cons_parts terms rest head tail c)))))

-- all parts are made
pub parts_made : (made : List Ground) (terms : List Term) (rest : ℕ) (v : View) → NamesList terms rest
    → IsShown terms rest v → ((head tail : ℕ) → v ≡ Cons head tail → ⊥) → grounds_of made ≡ with_left made terms rest
parts_made made terms rest v n s other =
    as_in_front (map ground_of made) ∙ ap (onto (map ground_of made)) (sym (end_parts terms rest v n s other))

-- ---- one term

-- a list without parts is the empty one
pub nil_made : (parts : Vec Ground Global) (t : Term) → parts.items ≡ [] → t ≡ Listed NoTerm
    → ground_of (grounds.List parts) ≡ t
nil_made parts t e h = ground_of-list parts ∙ (ap (λ gs. Listed (grounds_of gs)) e ∙ sym h)

pub symbol_made : (own name : List ℕ) (t : Term) → own ≡ name → t ≡ Symbol name → ground_of (grounds.Sym own) ≡ t
symbol_made own name t e h = ground_of-sym own ∙ (ap Symbol e ∙ sym h)

pub number_made : (n : ℤ) (t : Term) → t ≡ Number n → ground_of (grounds.Num n) ≡ t
number_made n t h = ground_of-num n ∙ sym h

pub list_made : (parts : Vec Ground Global) (terms : List Term) (cell head tail : ℕ)
    → grounds_of parts.items ≡ parts_of (term_at terms cell) → IsCons terms head tail (term_at terms cell)
    → ground_of (grounds.List parts) ≡ term_at terms cell
list_made parts terms cell head tail e c =
    ground_of-list parts ∙ (ap Listed e ∙ cons_whole terms cell head tail c)
