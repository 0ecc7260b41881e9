-- A list to which first parts are added.
use Rattle.std.proofs.Common.{◌≡◌, ℕ, ◌<◌, Bool, true, false, cond, List, [], ◌∷◌, ◌++◌, length, map, slice_get, Some, Result, Ok, Err, ap, ap₂, sym, ◌∙◌, subst}
use Rattle.std.specs.List.{All}
use Rattle.std.specs.Result.{IfOk, OnErr}
use Rattle.std.proofs.lemmas.List.{map_push}
use Rattle.std.proofs.lemmas.List.Elements.{All-pop}
use Rattle.hp_cells.specs.Cells.{Interns}
use Rattle.hp_syntax.specs.Terms.{Term, Terms, Symbol, Listed, More, member}
use Rattle.hp_eval.specs.GoalViews.{term_at}
use Rattle.hp_eval.specs.Growth.{Grows}
use Rattle.hp_eval.specs.Steps.{onto}
use Rattle.hp_eval.proofs.Loops.{in_front_push}
use Rattle.hp_eval.proofs.CellViews.{named_at}
use Rattle.hp_eval.proofs.GrowthLemmas.{grows_self, grows_same, grows_behind, grows_on, terms_stay, still_names}

-- a term that is interned leaves the terms before
pub interns_grows : (t : Term) (cell : ℕ) (old new : List Term) → Interns t cell old new → Grows old new
interns_grows t cell old new i = subst (Grows old) (sym i.only) (by_case (member t old))
  where
    by_case : (b : Bool) → Grows old (cond b old (old ++ t ∷ []))
    by_case true = grows_self old
    by_case false = grows_behind old (t ∷ [])

-- terms grow where a term is interned, and stay where the memory doesn't suffice
pub intern_grows : {E : Type 0} (t : Term) (old new : List Term) (r : Result ℕ E)
    → IfOk r (λ cell. Interns t cell old new) → OnErr r (new ≡ old) → Grows old new
intern_grows t old new (Ok cell) ok err = interns_grows t cell old new ok
intern_grows t old new (Err e) ok err = grows_same old new err

-- the last of the cells, put in front of the list
module _ (old new : List Term) (before after : List ℕ) (part list cell : ℕ) (us : Terms)
    (items : before ≡ after ++ part ∷ []) (below : All (λ c. c < length old) before)
    (names : slice_get old list ≡ Some (Listed us))
    (consed : (x : Term) (xs : Terms) → slice_get old part ≡ Some x → slice_get old list ≡ Some (Listed xs)
    → Interns (Listed (More x xs)) cell old new) where
  -- the cells behind which it stood are below the number of terms, and so was it
  pub kept_below : All (λ c. c < length old) after × (part < length old)
  kept_below = All-pop (λ c. c < length old) before after (Some part) items below

  -- the cell names the longer list
  pub interned_list : Interns (Listed (More (term_at old part) us)) cell old new
  interned_list = consed (term_at old part) us (named_at old part kept_below.1) names

  -- the terms before stay
  pub list_grows : Grows old new
  list_grows = interns_grows (Listed (More (term_at old part) us)) cell old new interned_list

  -- the cells that are left in front of the longer list are those in front of the list
  pub onto_same : (vs : Terms) → slice_get new cell ≡ Some (Listed vs)
      → onto (map (term_at new) after) vs ≡ onto (map (term_at old) before) us
  onto_same vs h =
      let e : Some (Listed vs) ≡ Some (Listed (More (term_at old part) us)) = sym h ∙ interned_list.names in
      let longer : vs ≡ More (term_at old part) us = cc in
      ap₂ onto (terms_stay old new list_grows after kept_below.0) longer
      ∙ (sym (in_front_push More (map (term_at old) after) (term_at old part) us)
      ∙ (ap (λ ts. onto ts us) (sym (map_push (term_at old) after part))
      ∙ ap (λ cs. onto (map (term_at old) cs) us) (sym items)))

-- a name that is interned, put in front of a list
module _ (old middle new : List Term) (first list parts : ℕ) (name : List ℕ) (ts : Terms)
    (interned : Interns (Symbol name) first old middle)
    (consed : (x : Term) (xs : Terms) → slice_get middle first ≡ Some x → slice_get middle parts ≡ Some (Listed xs)
    → Interns (Listed (More x xs)) list middle new) (names : slice_get old parts ≡ Some (Listed ts)) where
  whole_list : Interns (Listed (More (Symbol name) ts)) list middle new
  whole_list =
      let grows = interns_grows (Symbol name) first old middle interned in
      consed (Symbol name) ts interned.names (still_names old middle grows parts (Listed ts) names)

  -- the cell names the list of the name and the parts
  pub names_named : slice_get new list ≡ Some (Listed (More (Symbol name) ts))
  names_named = whole_list.names

  -- the terms before stay
  pub named_grows : Grows old new
  named_grows =
      grows_on old middle new (interns_grows (Symbol name) first old middle interned)
      (interns_grows (Listed (More (Symbol name) ts)) list middle new whole_list)
