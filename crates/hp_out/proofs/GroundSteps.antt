-- The texts of terms that have memory of their own, and the sizes by which their recursion ends.
use Rattle.std.proofs.Common.{◌≡◌, ℕ, ℤ, ◌+◌, ◌-◌, ◌<◌, ◌≤◌, List, [], ◌∷◌, ◌++◌, Vec, length, map, take, drop, get_or, codes, refl, ap, sym, ◌∙◌, arith, append-nil}
use Rattle.std.specs.Global.{Global}
use Rattle.std.proofs.lemmas.Grind.{common_steps}
use Rattle.std.proofs.lemmas.List.{at_drop_all, drop_more, map-append}
use Rattle.std.proofs.lemmas.List.Concat.{flat_map-append}
use Rattle.hp_out.proofs.PageSteps.{Joins}
use Rattle.hp_syntax.proofs.ListLemmas.{element-smaller}
use Rattle.hp_syntax.specs.declared.name.Name.{Name}
use Rattle.hp_syntax.specs.declared.pattern.Ground.{Ground}
use Rattle.hp_syntax.specs.declared.pattern.Ground.TheVariants as grounds
use Rattle.hp_syntax.specs.GroundViews.{ground_of, grounds_of, ground_of-sym, ground_of-num, ground_of-list}
use Rattle.hp_syntax.specs.Report.{lines_text}
use Rattle.hp_syntax.specs.Terms as plain
use Rattle.hp_syntax.specs.Terms.{Term, Terms, Listed, NoTerm, More}
use Rattle.hp_syntax.specs.TermTexts.{num_text, term_text, terms_text}

-- ---- sizes

-- a call goes to something smaller where it goes to what equals something smaller than its measure
pub call-smaller : {a b m t : ℕ} → a ≡ b → b < m → m ≡ t → (a < t) × Unit {0}
call-smaller e h k = (omega arith, tt)

-- the size of a term counts it and all terms in it
abbrev mutual
  pub term_size : Term → ℕ
  term_size (plain.Symbol name) = 1
  term_size (plain.Number n) = 1
  term_size (Listed ts) = terms_size ts + 1

  pub terms_size : Terms → ℕ
  terms_size NoTerm = 0
  terms_size (More t ts) = term_size t + terms_size ts + 1

-- each term of a list is smaller than the list
pub ground-smaller : (gs : List Ground) (i : ℕ) (g : Ground) → i < length gs → g ≡ get_or gs i g
    → term_size (ground_of g) < terms_size (grounds_of gs)
ground-smaller =
    element-smaller (λ g. term_size (ground_of g)) (λ gs. terms_size (grounds_of gs)) (λ g gs. refl)

-- the terms of a list are smaller than the list as one term
pub ground_parts-smaller : (g : Ground) (parts : Vec Ground Global) → g ≡ grounds.List parts
    → terms_size (grounds_of parts.items) < term_size (ground_of g)
ground_parts-smaller g parts h = rw (h, ground_of-list parts) (omega arith)

-- ---- a term

-- a symbol has its name as its text
pub symbol_text : (g : Ground) (name : Name) → g ≡ grounds.Sym name → name ≡ term_text (ground_of g)
symbol_text g name h = sym (ap (λ x. term_text (ground_of x)) h ∙ ap term_text (ground_of-sym name))

-- a number has the text of a number
pub number_text : (g : Ground) (n : ℤ) → g ≡ grounds.Num n → num_text n ≡ term_text (ground_of g)
number_text g n h = sym (ap (λ x. term_text (ground_of x)) h ∙ ap term_text (ground_of-num n))

-- a list has the text of its parts
pub list_text : (g : Ground) (parts : Vec Ground Global) (own : List Ground) → g ≡ grounds.List parts
    → own ≡ parts.items → term_text (Listed (grounds_of own)) ≡ term_text (ground_of g)
list_text g parts own h e =
    ap (λ gs. term_text (Listed (grounds_of gs))) e
    ∙ sym (ap (λ x. term_text (ground_of x)) h ∙ ap term_text (ground_of-list parts))

-- ---- the parts of a list

-- the text of what is left of a list, from this part on
abbrev pub rest_from : List Ground → ℕ → List ℕ
rest_from parts i = terms_text (grounds_of (drop i parts))

-- the first part and then the others
pub first_and_others : (parts : List Ground) (first : Ground) → 1 ≤ length parts → first ≡ get_or parts 0 first
    → codes "(" ++ (term_text (ground_of first) ++ terms_text (grounds_of (take (length parts - 1) (drop 1 parts))))
    ≡ term_text (Listed (grounds_of parts))
first_and_others [] first h e = absurd (omega arith)
first_and_others (g ∷ gs) first h e =
    let same : take (length (g ∷ gs) - 1) (drop 1 (g ∷ gs)) ≡ gs = grind (arith, common_steps) in
    ap (λ others. codes "(" ++ (term_text (ground_of first) ++ terms_text (grounds_of others))) same
    ∙ ap (λ x. codes "(" ++ (term_text (ground_of x) ++ terms_text (grounds_of gs))) e

-- a space, a part and then the others
pub part_and_others : (parts : List Ground) (i : ℕ) (part : Ground) → i < length parts → part ≡ get_or parts i part
    → codes " " ++ (term_text (ground_of part) ++ rest_from parts (i + 1)) ≡ rest_from parts i
part_and_others parts i part h e =
    let behind = drop (i + 1) parts in
    let here : drop i parts ≡ part ∷ behind = drop_more parts i part h ∙ ap (λ g. g ∷ behind) (sym e) in
    sym (ap (λ gs. terms_text (grounds_of gs)) here)

-- where no part is left, the closing bracket follows
pub bracket_left : (parts : List Ground) (i : ℕ) → length parts ≤ i → codes ")" ≡ rest_from parts i
bracket_left parts i h = sym (at_drop_all (λ gs. terms_text (grounds_of gs)) parts i h)

-- ---- lines

-- a line for each term
abbrev pub grounds_text : List Ground → List ℕ
grounds_text gs = lines_text (map ground_of gs)

-- the line of a term
abbrev pub ground_line : Ground → List ℕ
ground_line g = term_text (ground_of g) ++ codes "\n"

pub grounds_joined : Joins grounds_text
grounds_joined xs ys =
    ap lines_text (map-append ground_of xs ys)
    ∙ flat_map-append (λ t. term_text t ++ codes "\n") (map ground_of xs) (map ground_of ys)

-- the line of one term among others
pub one_ground : (terms : List Ground) (i : ℕ) (term : Ground) → term ≡ get_or terms i term
    → grounds_text (get_or terms i term ∷ []) ≡ ground_line term
one_ground terms i term e = ap (λ g. grounds_text (g ∷ [])) (sym e) ∙ append-nil (ground_line term)
