-- The texts of terms that cells name.
use Rattle.std.proofs.Common.{◌≡◌, ℕ, ℤ, ◌<◌, List, [], ◌∷◌, ◌++◌, Option, Some, None, length, codes, get_or, slice_get, refl, ap, sym, ◌∙◌, append_assoc, append-nil}
use Rattle.std.specs.Prelude.{◌/◌, ◌%◌, cond, pos, int_lt, unsigned_abs}
use Rattle.std.specs.Fmt.{decimal}
use Rattle.std.proofs.lemmas.List.{map-append}
use Rattle.std.proofs.lemmas.List.Concat.{flat_map-append}
use Rattle.std.proofs.lemmas.Option.{slice_get_within, get_or_from_slice_get}
use Rattle.hp_cells.specs.Cells.{NamesList, IsCons}
use Rattle.hp_cells.specs.Keys.{parts_of}
use Rattle.hp_cells.specs.Shows.{Shows}
use Rattle.hp_cells.specs.declared.keys.View.{View}
use Rattle.hp_cells.specs.declared.keys.View.TheVariants.{Nil, Sym, Num, Cons}
use Rattle.hp_eval.proofs.AttemptLemmas.{list_within}
use Rattle.hp_eval.proofs.CellViews.{at_named, named_at}
use Rattle.hp_eval.specs.GoalViews.{term_at}
use Rattle.hp_out.proofs.PageSteps.{Joins}
use Rattle.hp_syntax.specs.Report.{lines_text}
use Rattle.hp_syntax.specs.Terms.{Term, Terms, Symbol, Number, Listed, NoTerm}
use Rattle.hp_syntax.specs.TermTexts.{decimals_text, num_text, term_text, terms_text}
use Rattle.hp_world.specs.Stages.{live_atoms, terms_at}
use Rattle.hp_world.proofs.StageLemmas.{live_joined}

-- ---- terms

-- the view of the term that a cell names
abbrev pub IsShown : List Term → ℕ → View → Type 0
IsShown terms cell v = (t : Term) → slice_get terms cell ≡ Some t → Shows terms v t

pub shown_at : (terms : List Term) (cell : ℕ) (v : View) → cell < length terms → IsShown terms cell v
    → Shows terms v (term_at terms cell)
shown_at terms cell v h s = s (term_at terms cell) (named_at terms cell h)

-- the parts of a list, where it has some
pub cons_shown : (terms : List Term) (cell head tail : ℕ) → NamesList terms cell → IsShown terms cell (Cons head tail)
    → IsCons terms head tail (term_at terms cell)
cons_shown terms cell head tail n s = shown_at terms cell (Cons head tail) (list_within terms cell n) s

-- the rest of the text of the list that a cell names
abbrev pub rest_at : List Term → ℕ → List ℕ
rest_at terms cell = terms_text (parts_of (term_at terms cell))

module _ (terms : List Term) (cell head tail : ℕ) (c : IsCons terms head tail (term_at terms cell)) where
  pub head_within : head < length terms
  head_within = slice_get_within terms head c.first c.head_names

  pub tail_list : NamesList terms tail
  tail_list = (c.rest, c.tail_names)

  -- a list has the text of its first part and then that of the others
  pub cons_text : codes "(" ++ (term_text (term_at terms head) ++ rest_at terms tail)
      ≡ term_text (term_at terms cell)
  cons_text =
      rw (at_named terms head c.first c.head_names, at_named terms tail (Listed c.rest) c.tail_names, c.whole) refl

  -- the rest of a list's text is the text of its first part and then that of the others
  pub parts_text : codes " " ++ (term_text (term_at terms head) ++ rest_at terms tail) ≡ rest_at terms cell
  parts_text =
      rw (at_named terms head c.first c.head_names, at_named terms tail (Listed c.rest) c.tail_names, c.whole) refl

-- a symbol has its name as its text
pub symbol_text : (name : List ℕ) (t : Term) → t ≡ Symbol name → name ≡ term_text t
symbol_text name t e = sym (ap term_text e)

-- three texts one behind the other, before a fourth
joined : (x y z rest : List ℕ) → x ++ (y ++ (z ++ rest)) ≡ x ++ y ++ z ++ rest
joined x y z rest = sym (append_assoc (x ++ y) z rest ∙ append_assoc x y (z ++ rest))

-- a sign, digits and decimals are the text of a number
pub number_words : (n : ℤ) (a b c rest : List ℕ) → a ≡ cond (int_lt n (pos 0)) (codes "-") []
    → b ≡ decimal (unsigned_abs n / 1000) → c ≡ decimals_text (unsigned_abs n % 1000)
    → a ++ (b ++ (c ++ rest)) ≡ num_text n ++ rest
number_words n a b c rest p q r =
    rw (p, q, r)
    (joined (cond (int_lt n (pos 0)) (codes "-") []) (decimal (unsigned_abs n / 1000))
    (decimals_text (unsigned_abs n % 1000)) rest)

-- a number has the text of a number
pub number_text : (n : ℤ) (t : Term) → t ≡ Number n → num_text n ≡ term_text t
number_text n t e = sym (ap term_text e)

-- where the cell of a list names no more parts, the closing bracket follows
pub end_text : (terms : List Term) (cell : ℕ) (v : View) → NamesList terms cell → IsShown terms cell v
    → ((head tail : ℕ) → v ≡ Cons head tail → ⊥) → codes ")" ≡ rest_at terms cell
end_text terms cell v n s other = by v s other
  where
    at : (ts : Terms) → Listed n.0 ≡ Listed ts → terms_text ts ≡ rest_at terms cell
    at ts e = ap (λ t. terms_text (parts_of t)) (sym e ∙ sym (at_named terms cell (Listed n.0) n.1))

    by : (v : View) → IsShown terms cell v → ((head tail : ℕ) → v ≡ Cons head tail → ⊥)
        → codes ")" ≡ rest_at terms cell
    by Nil s other = at NoTerm (s (Listed n.0) n.1)
    by (Sym name) s other = let e : Listed n.0 ≡ Symbol name.now = s (Listed n.0) n.1 in absurd (cc)
    by (Num m) s other = let e : Listed n.0 ≡ Number m = s (Listed n.0) n.1 in absurd (cc)
    by (Cons head tail) s other = absurd (other head tail refl)

-- ---- lines

-- a line for each of the terms that these cells name
abbrev pub cells_text : List Term → List ℕ → List ℕ
cells_text terms cells = lines_text (terms_at terms cells)

-- a line for each atom at these places
abbrev pub places_text : List Term → List (Option ℕ) → List ℕ
places_text terms places = cells_text terms (live_atoms places)

-- the line of a term
abbrev pub line_at : List Term → ℕ → List ℕ
line_at terms cell = term_text (term_at terms cell) ++ codes "\n"

pub lines_joined : (terms : List Term) → Joins (cells_text terms)
lines_joined terms xs ys =
    ap lines_text (map-append (term_at terms) xs ys)
    ∙ flat_map-append (λ t. term_text t ++ codes "\n") (terms_at terms xs) (terms_at terms ys)

pub places_joined : (terms : List Term) → Joins (places_text terms)
places_joined terms ps qs =
    ap (cells_text terms) (live_joined ps qs) ∙ lines_joined terms (live_atoms ps) (live_atoms qs)

-- the line of one cell among others
pub one_line : (terms : List Term) (cells : List ℕ) (i cell : ℕ) → cell ≡ get_or cells i cell
    → cells_text terms (get_or cells i cell ∷ []) ≡ line_at terms cell
one_line terms cells i cell e =
    ap (λ c. cells_text terms (c ∷ [])) (sym e) ∙ append-nil (line_at terms cell)

-- the text of one place among others
pub one_place : (terms : List Term) (places : List (Option ℕ)) (i : ℕ) (place : Option ℕ)
    → slice_get places i ≡ Some place → places_text terms (get_or places i place ∷ []) ≡ places_text terms (place ∷ [])
one_place terms places i place e =
    ap (λ q. places_text terms (q ∷ [])) (get_or_from_slice_get places i place place e)

-- a place with an atom has its line
pub place_line : (terms : List Term) (place : Option ℕ) (atom : ℕ) → place ≡ Some atom
    → line_at terms atom ≡ places_text terms (place ∷ [])
place_line terms place atom e = rw e (sym (append-nil (line_at terms atom)))

-- an empty place has no line
pub no_line : (terms : List Term) (place : Option ℕ) → place ≡ None → [] ≡ places_text terms (place ∷ [])
no_line terms place e = rw e refl
