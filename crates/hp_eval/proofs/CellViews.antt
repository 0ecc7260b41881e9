-- Views of cells' terms.
use Rattle.std.proofs.Common.{◌≡◌, ℕ, zero, suc, ◌<◌, Bool, true, false, ◌==◌, ◌||◌, List, [], ◌∷◌, length, Some, slice_get, Result, Ok, Err, ℤ, refl, ap, sym, ◌∙◌, arith}
use Rattle.std.proofs.lemmas.Bool.Decides.{same_from_decides, Decides-eqb}
use Rattle.hp_cells.specs.declared.keys.View.{View}
use Rattle.hp_cells.specs.declared.keys.View.TheVariants.{Nil, Sym, Num, Cons}
use Rattle.hp_cells.specs.Cells.{AreCells, IsCons, NamesList}
use Rattle.hp_cells.specs.Keys.{parts_of}
use Rattle.hp_cells.specs.Shows.{Shows}
use Rattle.hp_syntax.proofs.TermEquality.{same_term-Decides}
use Rattle.hp_syntax.specs.declared.pattern.Span.{Span}
use Rattle.hp_syntax.specs.declared.fault.RunFault.{RunFault}
use Rattle.hp_syntax.specs.declared.fault.FaultKind.TheVariants.{NotNumber}
use Rattle.hp_syntax.specs.Calls.{fault_at}
use Rattle.hp_syntax.specs.Terms.{Term, Terms, Listed, NoTerm, More, same_term, is_part}
use Rattle.hp_eval.specs.GoalViews.{term_or_nil, term_at}
use Rattle.hp_eval.specs.CallRows.{number_of}
use Rattle.hp_eval.specs.FillSteps.{parts_at}
use Rattle.hp_eval.specs.Steps.{is_list}

-- a cell names the term at it
pub named_at : (terms : List Term) (cell : ℕ) → cell < length terms → slice_get terms cell ≡ Some (term_at terms cell)
named_at [] cell h = absurd (omega arith)
named_at (t ∷ ts) zero h = refl
named_at (t ∷ ts) (suc cell) h = named_at ts cell (omega arith)

-- the term that a cell names is the one at it
pub at_named : (terms : List Term) (cell : ℕ) (t : Term) → slice_get terms cell ≡ Some t → term_at terms cell ≡ t
at_named terms cell t h = ap term_or_nil h

-- a cell that names a list names its parts
pub names_parts : (terms : List Term) (cell : ℕ) → NamesList terms cell
    → slice_get terms cell ≡ Some (Listed (parts_at terms cell))
names_parts terms cell (ts, h) = h ∙ ap (λ t. Some (Listed (parts_of t))) (sym (at_named terms cell (Listed ts) h))

-- a view is that of a list
abbrev pub list_seen : View → Bool
list_seen Nil = true
list_seen (Sym name) = false
list_seen (Num n) = false
list_seen (Cons head tail) = true

-- a term that is shown as a list is one
pub list_shown : (terms : List Term) (v : View) (t : Term) → Shows terms v t → list_seen v ≡ is_list t
list_shown terms Nil t h = sym (ap is_list h)
list_shown terms (Sym name) t h = sym (ap is_list h)
list_shown terms (Num n) t h = sym (ap is_list h)
list_shown terms (Cons head tail) t h = sym (ap is_list h.whole)

-- the number that a view has, or the fault of one without
abbrev pub number_seen : Span → View → Result ℤ RunFault
number_seen s Nil = Err (fault_at NotNumber s)
number_seen s (Sym name) = Err (fault_at NotNumber s)
number_seen s (Num n) = Ok n
number_seen s (Cons head tail) = Err (fault_at NotNumber s)

-- a term that is shown as a number is that number
pub number_shown : (s : Span) (terms : List Term) (v : View) (t : Term) → Shows terms v t
    → number_seen s v ≡ number_of s t
number_shown s terms Nil t h = sym (ap (number_of s) h)
number_shown s terms (Sym name) t h = sym (ap (number_of s) h)
number_shown s terms (Num n) t h = sym (ap (number_of s) h)
number_shown s terms (Cons head tail) t h = sym (ap (number_of s) h.whole)

-- two cells are the same number exactly where their terms are equal
pub cells_tell : (terms : List Term) (x y : ℕ) → AreCells terms → x < length terms → y < length terms
    → (x == y) ≡ same_term (term_at terms x) (term_at terms y)
cells_tell terms x y a in-x in-y =
    same_from_decides (x == y) (same_term (term_at terms x) (term_at terms y)) (Decides-eqb x y) (
      λ h. same ((same_term-Decides (term_at terms x) (term_at terms y)).0 h),
      λ e. (same_term-Decides (term_at terms x) (term_at terms y)).1 (ap (term_at terms) e),
    )
  where
    same : term_at terms x ≡ term_at terms y → x ≡ y
    same e = a.distinct x y (term_at terms x) (named_at terms x in-x) (named_at terms y in-y ∙ ap Some (sym e))

-- ---- parts of a list

module _ (terms : List Term) (head tail : ℕ) (item t : Term) (xs : Terms)
    (k : IsCons terms head tail t) (is : t ≡ Listed xs) where
  parts : xs ≡ More k.first k.rest
  parts = let e : Listed xs ≡ Listed (More k.first k.rest) = sym is ∙ k.whole in cc

  -- a term is a part of a list where it is the first part or one of the others
  first_or_other : is_part item xs ≡ (same_term item (term_at terms head) || is_part item k.rest)
  first_or_other =
      ap (is_part item) parts
      ∙ ap (λ x. same_term item x || is_part item k.rest) (sym (at_named terms head k.first k.head_names))

  -- a term that is the first part is a part
  pub part_found : same_term item (term_at terms head) ≡ true → true ≡ is_part item xs
  part_found h = sym (first_or_other ∙ ap (λ b. b || is_part item k.rest) h)

  -- a term that isn't the first part is a part where it is one of the others
  pub part_left : same_term item (term_at terms head) ≡ false
      → (zs : Terms) × (term_at terms tail ≡ Listed zs) × (is_part item zs ≡ is_part item xs)
  part_left h = (
    k.rest,
    at_named terms tail (Listed k.rest) k.tail_names,
    sym (first_or_other ∙ ap (λ b. b || is_part item k.rest) h),
  )

-- a list that shows no first part has no part
pub no_part : (terms : List Term) (v : View) (item t : Term) (xs : Terms)
    → ((head tail : ℕ) → v ≡ Cons head tail → ⊥) → Shows terms v t → t ≡ Listed xs → false ≡ is_part item xs
no_part terms Nil item t xs not h is = let e : xs ≡ NoTerm = cc in sym (ap (is_part item) e)
no_part terms (Sym name) item t xs not h is = absurd (cc)
no_part terms (Num n) item t xs not h is = absurd (cc)
no_part terms (Cons head tail) item t xs not h is = absurd (not head tail refl)
