-- Terms of cells, and attempts one after the other.
use Rattle.std.proofs.Common.{◌≡◌, ◌⊎◌, inl, inr, ℕ, ◌<◌, ◌≤◌, Bool, true, false, List, length, Option, Some, None, Result, Ok, Err, sym, ◌∙◌, ap, ap₂, subst, ℤ, Bor}
use Rattle.std.specs.Prelude.{slice_get}
use Rattle.std.specs.Option.{option_and_then}
use Rattle.std.specs.Result.{IsErr}
use Rattle.std.proofs.lemmas.List.{length-map}
use Rattle.std.proofs.lemmas.Option.{none-some, slice_get_within, slice_get_past}
use Rattle.hp_syntax.specs.Terms.{Term, Symbol, Number, Listed, NoTerm, More, same_term}
use Rattle.hp_syntax.specs.Values.{Bindings}
use Rattle.hp_syntax.specs.Matching.{met, meet}
use Rattle.hp_laws.proofs.BindingLemmas.{slice_get_some}
use Rattle.hp_syntax.specs.declared.name.Name.{Name}
use Rattle.hp_cells.specs.Cells.{NamesList, IsCons}
use Rattle.hp_cells.specs.Shows.{Shows}
use Rattle.hp_cells.specs.declared.keys.View.{View}
use Rattle.hp_cells.specs.declared.keys.View.TheVariants.{Nil, Sym, Num, Cons}
use Rattle.hp_eval.specs.Slotted.{Slotted, with_bound, Binds, AreBelow, Matched, flat, bindings_of, undone}
use Rattle.hp_eval.specs.GoalViews.{term_at}
use Rattle.hp_eval.specs.Attempts.{extended, Tries, Leaves, Starts, HasFirst}
use Rattle.hp_eval.specs.FillSteps.{parts_at}
use Rattle.hp_cells.specs.Keys.{parts_of}
use Rattle.hp_eval.specs.Steps.{is_list}
use Rattle.hp_eval.proofs.CellViews.{named_at, at_named}
use Rattle.hp_eval.proofs.SlotLemmas.{binds_self, binds_through, binds_bound, bindings_free, bindings_some, bindings_bound, below_bound}

-- ---- terms of cells

-- a cell that names a list is below the count
pub list_within : (terms : List Term) (cell : ℕ) → NamesList terms cell → cell < length terms
list_within terms cell (ts, h) = slice_get_within terms cell (Listed ts) h

-- a cell that names a list names that of its terms
pub list_named : (terms : List Term) (cell : ℕ) → NamesList terms cell
    → term_at terms cell ≡ Listed (parts_at terms cell)
list_named terms cell (ts, h) =
    let e = at_named terms cell (Listed ts) h in e ∙ ap (λ t. Listed (parts_of t)) (sym e)

-- a comparison of the term that a cell names is one of the term at the cell
pub compared_at : (terms : List Term) (cell : ℕ) (t : Term) (does : Bool) (test : Term → Bool)
    → slice_get terms cell ≡ Some t → ((u : Term) → slice_get terms cell ≡ Some u → does ≡ test u)
    → does ≡ test (term_at terms cell)
compared_at terms cell t does test names h =
    h (term_at terms cell) (names ∙ ap Some (sym (at_named terms cell t names)))

-- a cell below the count names a list where its term is one
pub names_list : (terms : List Term) (cell : ℕ) → cell < length terms → is_list (term_at terms cell) ≡ true
    → NamesList terms cell
names_list terms cell l h = by (term_at terms cell) (named_at terms cell l) h
  where
    by : (t : Term) → slice_get terms cell ≡ Some t → is_list t ≡ true → NamesList terms cell
    by (Symbol name) k b = absurd cc
    by (Number n) k b = absurd cc
    by (Listed ts) k b = (ts, k)

-- a list by the cells of its parts is the list of what they name
pub whole_at : (terms : List Term) (list first others : ℕ) → IsCons terms first others (term_at terms list)
    → term_at terms list ≡ Listed (More (term_at terms first) (parts_at terms others))
whole_at terms list first others h =
    h.whole
    ∙ ap Listed (ap₂ More (sym (at_named terms first h.first h.head_names))
    (sym (ap parts_of (at_named terms others (Listed h.rest) h.tail_names))))

-- the cells of a list's first part and of the others split it
pub has_first : (terms : List Term) (list first others : ℕ) → IsCons terms first others (term_at terms list)
    → HasFirst terms list first others
has_first terms list first others h = record {
  parts = ap parts_of (whole_at terms list first others h);
  first_named = slice_get_within terms first h.first h.head_names;
  others_named = (h.rest, h.tail_names);
}

-- where the view is that of the empty list, the cell names it
pub view_nil : (terms : List Term) (view : View) (t : Term) → Shows terms view t → view ≡ Nil → t ≡ Listed NoTerm
view_nil terms view t h e = subst (λ v. Shows terms v t) e h

-- where the view is that of a symbol, the cell names it
pub view_symbol : (terms : List Term) (view : View) (t : Term) (name : Bor Name) → Shows terms view t → view ≡ Sym name
    → t ≡ Symbol name.now
view_symbol terms view t name h e = subst (λ v. Shows terms v t) e h

-- where the view is that of a number, the cell names it
pub view_number : (terms : List Term) (view : View) (t : Term) (n : ℤ) → Shows terms view t → view ≡ Num n
    → t ≡ Number n
view_number terms view t n h e = subst (λ v. Shows terms v t) e h

-- where the view is that of a list by its parts, the cell names it
pub view_cons : (terms : List Term) (view : View) (t : Term) (first others : ℕ) → Shows terms view t
    → view ≡ Cons first others → IsCons terms first others t
view_cons terms view t first others h e = subst (λ v. Shows terms v t) e h

-- a fact of the empty list, of symbols and of numbers is one of each term whose view has no first part
pub without_first : (P : Term → Type 0) (terms : List Term) (view : View) (t : Term) → Shows terms view t
    → (view ≡ Nil) ⊎ (((name : Bor Name) × (view ≡ Sym name)) ⊎ ((n : ℤ) × (view ≡ Num n)))
    → P (Listed NoTerm) → ((name : List ℕ) → P (Symbol name)) → ((n : ℤ) → P (Number n)) → P t
without_first P terms view t h is nil symbol number =
    elim is [
      | inl e ↦ subst P (sym (view_nil terms view t h e)) nil
      | inr s ↦ elim s [
        | inl p ↦ subst P (sym (view_symbol terms view t p.0 h p.1)) (symbol p.0.now)
        | inr p ↦ subst P (sym (view_number terms view t p.0 h p.1)) (number p.0)
      ]
    ]

-- a cell of which the view is that of a list by its parts names it
pub cons_at : (terms : List Term) (cell : ℕ) (view : View) (first others : ℕ)
    → ((t : Term) → slice_get terms cell ≡ Some t → Shows terms view t) → cell < length terms
    → view ≡ Cons first others → IsCons terms first others (term_at terms cell)
cons_at terms cell view first others shows l e =
    view_cons terms view (term_at terms cell) first others (shows (term_at terms cell) (named_at terms cell l)) e

-- ---- attempts

-- an attempt that answers what is to be found may leave the slots as they are
pub tries_here : (does : Bool) (found : Option Bindings) (terms : List Term) (s : Slotted) → AreBelow (length terms) s
    → found ≡ extended does (bindings_of terms s) → Tries does found terms s s
tries_here does found terms s b h = record { answers = h; binds = binds_self s; below = b }

-- an attempt is the same where the same is to be found
pub tries_as : {does : Bool} {found : Option Bindings} {terms : List Term} {old new : Slotted} (other : Option Bindings)
    → other ≡ found → Tries does found terms old new → Tries does other terms old new
tries_as other q t = record { answers = q ∙ t.answers; binds = t.binds; below = t.below }

-- an attempt above bindings is one above those below them
pub tries_above : {does : Bool} {found : Option Bindings} {terms : List Term} {old mid new : Slotted} → Binds old mid
    → Tries does found terms mid new → Tries does found terms old new
tries_above {old = old} {mid = mid} {new = new} b t =
    record { answers = t.answers; binds = binds_through old mid new b t.binds; below = t.below }

-- an attempt for which the memory may not suffice is the same where the same is to be found
pub starts_same : {E : Type 0} (r : Result Bool E) {found : Option Bindings} (other : Option Bindings)
    (terms : List Term) (old new : Slotted) → other ≡ found → Starts r found terms old new
    → Starts r other terms old new
starts_same r other terms old new q h = subst (λ o. Starts r o terms old new) (sym q) h

-- an attempt above bindings for which the memory may not suffice is one above those below them
pub starts_above : {E : Type 0} (r : Result Bool E) (found : Option Bindings) (terms : List Term)
    (old mid new : Slotted) → Binds old mid → Starts r found terms mid new → Starts r found terms old new
starts_above (Ok does) found terms old mid new b h = tries_above b h
starts_above (Err e) found terms old mid new b h =
    record { binds = binds_through old mid new b h.binds; below = h.below }

-- where the first of two attempts fails, both fail
pub then_fails : {does : Bool} {found : Option Bindings} {terms : List Term} {old mid new : Slotted}
    (go_on : Bindings → Option Bindings) (whole : Option Bindings) → whole ≡ option_and_then go_on found → does ≡ false
    → Binds old mid → Tries does found terms mid new → Tries false whole terms old new
then_fails {terms = terms} {old = old} {mid = mid} {new = new} go_on whole h q b t = record {
  answers = h ∙ ap (option_and_then go_on) (t.answers ∙ ap (λ does. extended does (bindings_of terms new)) q);
  binds = binds_through old mid new b t.binds;
  below = t.below;
}

-- where the first of two attempts ends well, the second goes on with its bindings
pub then_goes_on : {does : Bool} {found : Option Bindings} {terms : List Term} {mid new : Slotted}
    (go_on : Bindings → Option Bindings) (whole : Option Bindings) → whole ≡ option_and_then go_on found → does ≡ true
    → Tries does found terms mid new → go_on (bindings_of terms new) ≡ whole
then_goes_on {terms = terms} {new = new} go_on whole h q t =
    sym (h ∙ ap (option_and_then go_on) (t.answers ∙ ap (λ does. extended does (bindings_of terms new)) q))

-- an attempt for which the memory didn't suffice leaves further bindings
pub starts_failed : {E : Type 0} (r : Result Bool E) (found : Option Bindings) (terms : List Term)
    (old mid new : Slotted) → IsErr r → Binds old mid → Leaves terms mid new → Starts r found terms old new
starts_failed (Ok does) found terms old mid new h b l = absurd cc
starts_failed (Err e) found terms old mid new h b l =
    record { binds = binds_through old mid new b l.binds; below = l.below }

-- an attempt leaves further bindings, however it ends
pub starts_leaves : {E : Type 0} (r : Result Bool E) (found : Option Bindings) (terms : List Term) (old new : Slotted)
    → Starts r found terms old new → Leaves terms old new
starts_leaves (Ok does) found terms old new h = record { binds = h.binds; below = h.below }
starts_leaves (Err e) found terms old new h = h

-- ---- meeting a variable

-- beyond the variables there is none to meet
pub meet_beyond : (v : ℕ) (t : Term) (terms : List Term) (s : Slotted) → length s.values ≤ v
    → meet v t (bindings_of terms s) ≡ None
meet_beyond v t terms s l =
    let beyond : length (bindings_of terms s) ≤ v = rw length-map l in
    ap (λ o. met o v t (bindings_of terms s)) (slice_get_past (bindings_of terms s) v beyond)

-- a place within that stands for nothing is that of a variable that isn't bound
pub place_free : (s : Slotted) (v : ℕ) → v < length s.values → flat (slice_get s.values v) ≡ None
    → slice_get s.values v ≡ Some None
place_free s v l h = let a = slice_get_some s.values v l in a.1 ∙ ap Some (sym (ap flat a.1) ∙ h)

-- a variable that stands for a cell has a place
pub place_bound : (s : Slotted) (v cell : ℕ) → flat (slice_get s.values v) ≡ Some cell
    → slice_get s.values v ≡ Some (Some cell)
place_bound s v cell h = of_place (slice_get s.values v) h
  where
    of_place : (o : Option (Option ℕ)) → flat o ≡ Some cell → o ≡ Some (Some cell)
    of_place None k = absurd (none-some cell k)
    of_place (Some x) k = ap Some k

-- a variable that isn't bound is bound to what it meets
pub meet_free : (v cell : ℕ) (terms : List Term) (s : Slotted) → AreBelow (length terms) s → cell < length terms
    → slice_get s.values v ≡ Some None
    → Tries true (meet v (term_at terms cell) (bindings_of terms s)) terms s (with_bound v cell s)
meet_free v cell terms s b l h = record {
  answers =
      ap (λ o. met o v (term_at terms cell) (bindings_of terms s)) (bindings_free terms s v h)
      ∙ ap Some (sym (bindings_bound terms s v cell (term_at terms cell) (named_at terms cell l)));
  binds = binds_bound s v cell h;
  below = below_bound (length terms) s v cell b l;
}

-- a variable that is bound meets a term equal to the one that it stands for
pub meet_bound : (v cell old : ℕ) (terms : List Term) (s : Slotted) → AreBelow (length terms) s
    → slice_get s.values v ≡ Some (Some old)
    → meet v (term_at terms cell) (bindings_of terms s)
    ≡ extended (same_term (term_at terms old) (term_at terms cell)) (bindings_of terms s)
meet_bound v cell old terms s b h =
    ap (λ o. met o v (term_at terms cell) (bindings_of terms s))
    (bindings_some terms s v old (term_at terms old) h (named_at terms old (b v old h)))

-- ---- the outermost attempt

-- an attempt that ends well matches
pub matched_true : (found : Option Bindings) (terms : List Term) (old new : Slotted) → Tries true found terms old new
    → Matched true found terms old new
matched_true found terms old new t = (t.answers, t.binds)

-- an attempt that doesn't end well leaves no bindings once they are undone
pub matched_false : (found : Option Bindings) (terms : List Term) (old new : Slotted) → Tries false found terms old new
    → Matched false found terms old (undone (length old.trail) new)
matched_false found terms old new t = (t.answers, t.binds.undoes)
