-- The lines of steps lay out nodes that stand for the steps.
use Rattle.std.proofs.Common.{◌≡◌, ℕ, ◌+◌, ◌<◌, ◌≤◌, ◌^◌, true, max, pos, negsuc, List, [], ◌∷◌, ◌++◌, length, refl, sym, ◌∙◌, ap, ap₂, arith, subst}
use Rattle.std.specs.Prelude.{codes, drop, ℤ, ◌-◌, int_le}
use Rattle.std.specs.List.{All}
use Rattle.std.proofs.lemmas.Bool.{and_parts, leb-true}
use Rattle.std.proofs.lemmas.List.{append-nil, append_assoc, length-drop}
use Rattle.std.proofs.lemmas.List.Elements.{All-head, All-tail}
use Rattle.hp_syntax.specs.declared.limits.TheConstants.{LARGEST_TEXT, DEEPEST_NESTING}
use Rattle.hp_syntax.specs.Calls.{fits}
use Rattle.hp_syntax.specs.Forest.{Node, Numeral, Forest, Bare, Grow, Spells, IsForest, nesting, nesting_of_node}
use Rattle.hp_syntax.specs.Report.{lines_text}
use Rattle.hp_syntax.specs.Terms.{Term, Terms, Symbol, Number, Listed, NoTerm, More, term_nesting, deepest}
use Rattle.hp_syntax.specs.TermTexts.{term_text, terms_text}
use Rattle.hp_syntax.specs.Unplaced as unplaced
use Rattle.hp_syntax.specs.Written.{nowhere, word, group, node_text, rest_text, lines}
use Rattle.hp_syntax.proofs.LimitLemmas.{limits_clear}
use Rattle.hp_print.proofs.CanSpell.{CanSpell, CanSpellAll}
use Rattle.hp_print.proofs.NumberTexts.{number_can_spell}
use Rattle.hp_print.proofs.TextLayout.{ForestPlace, Stands, lines_placed}
use Rattle.hp_print.proofs.WrittenLayouts.{nesting-unplaced}
use Rattle.hp_replay.specs.Writable.{IsSpelled, AreSpelled, IsWritable}
use lib.Signed.{mag}

-- the node that a term is written as
abbrev mutual
  pub written : Term → Node
  written (Symbol name) = word name
  written (Number n) = Numeral nowhere n
  written (Listed ts) = group (all_written ts)

  -- the nodes that terms are written as
  pub all_written : Terms → Forest
  all_written NoTerm = Bare
  all_written (More t ts) = Grow (written t) (all_written ts)

-- the nodes of steps
abbrev pub steps_written : List Term → Forest
steps_written [] = Bare
steps_written (t ∷ ts) = Grow (written t) (steps_written ts)

-- the text of a term is that of its node
mutual
  unfolding node_text rest_text

  term_as_node : (t : Term) → term_text t ≡ node_text (written t)
  term_as_node (Symbol name) = refl
  term_as_node (Number n) = refl
  term_as_node (Listed NoTerm) = refl
  term_as_node (Listed (More t ts)) =
      ap (λ (xs : List ℕ). 40 ∷ xs)
      (ap₂ (λ (xs ys : List ℕ). xs ++ ys) (term_as_node t) (terms_as_nodes ts)
      ∙ sym (append_assoc (node_text (written t)) (rest_text (all_written ts)) (codes ")")))

  -- the text behind the first term of a list is that of its nodes, and the closing bracket
  terms_as_nodes : (ts : Terms) → terms_text ts ≡ rest_text (all_written ts) ++ codes ")"
  terms_as_nodes NoTerm = refl
  terms_as_nodes (More t ts) =
      ap (λ (xs : List ℕ). 32 ∷ xs)
      (ap₂ (λ (xs ys : List ℕ). xs ++ ys) (term_as_node t) (terms_as_nodes ts)
      ∙ sym (append_assoc (node_text (written t)) (rest_text (all_written ts)) (codes ")")))

-- the lines of steps are those of their nodes
lines_as_nodes : (ts : List Term) → lines_text ts ≡ lines (steps_written ts)
lines_as_nodes [] = refl
lines_as_nodes (t ∷ ts) = ap₂ (λ (xs ys : List ℕ). xs ++ codes "\n" ++ ys) (term_as_node t) (lines_as_nodes ts)

-- a number that fits is one of the language
fits_in_range : (n : ℤ) → fits n ≡ true → mag n < 2 ^ 63
fits_in_range (pos n) h =
    let e = and_parts (int_le (negsuc (2 ^ 63 - 1)) (pos n)) (int_le (pos n) (pos (2 ^ 63 - 1))) h in
    let l = leb-true n (2 ^ 63 - 1) e.1 in
    omega arith
fits_in_range (negsuc n) h =
    let e = and_parts (int_le (negsuc (2 ^ 63 - 1)) (negsuc n)) (int_le (negsuc n) (pos (2 ^ 63 - 1))) h in
    let l = leb-true n (2 ^ 63 - 1) e.0 in
    omega arith

-- what is spelled can be spelled
mutual
  can_spell : (t : Term) → IsSpelled t → CanSpell (written t)
  can_spell (Symbol name) h = record {
    bytes = h.token.bytes;
    some = h.token.some;
    short = h.token.short;
    spells = h.token.spells;
  }
  can_spell (Number n) h = number_can_spell n (fits_in_range n h)
  can_spell (Listed ts) h = can_spell_all ts h

  -- terms that are spelled can be spelled as nodes
  can_spell_all : (ts : Terms) → AreSpelled ts → CanSpellAll (all_written ts)
  can_spell_all NoTerm h = tt
  can_spell_all (More t ts) h = (can_spell t h.0, can_spell_all ts h.1)

-- writable steps can be spelled as nodes
steps_can_spell : (ts : List Term) → All IsWritable ts → CanSpellAll (steps_written ts)
steps_can_spell [] h = tt
steps_can_spell (t ∷ ts) h =
    (can_spell t (All-head IsWritable t ts h).step.spelled, steps_can_spell ts (All-tail IsWritable t ts h))

-- a node nests as deep as its term
mutual
  nesting_written : (t : Term) → nesting_of_node (written t) ≡ term_nesting t
  nesting_written (Symbol name) = refl
  nesting_written (Number n) = refl
  nesting_written (Listed ts) = ap (λ k. 1 + k) (nesting_all_written ts)

  -- nodes nest as deep as their terms
  nesting_all_written : (ts : Terms) → nesting (all_written ts) ≡ deepest ts
  nesting_all_written NoTerm = refl
  nesting_all_written (More t ts) = ap₂ max (nesting_written t) (nesting_all_written ts)

-- writable steps nest no deeper than a text may
steps_shallow : (ts : List Term) → All IsWritable ts → nesting (steps_written ts) ≤ DEEPEST_NESTING
steps_shallow [] h = omega arith
steps_shallow (t ∷ ts) h =
    let first = (All-head IsWritable t ts h).step.shallow in
    let others = steps_shallow ts (All-tail IsWritable t ts h) in
    let same = nesting_written t in
    omega arith

-- the lines of nodes that can be spelled lay them out
laid_out : (f : Forest) → CanSpellAll f → ForestPlace (lines f) 0 f []
laid_out f c =
    let stands : Stands (lines f) 0 (lines f ++ []) = record {
      within = omega arith;
      rest = sym (append-nil (lines f));
      quiet = refl;
    } in
    lines_placed (lines f) f [] 0 c (λ i e. absurd (omega arith)) stands

-- a text spells these nodes, apart from their places
abbrev pub SpellsLike : Forest → List ℕ → Type 0
SpellsLike g text = (f : Forest) × IsForest text f × (unplaced.forest f ≡ unplaced.forest g)

-- a text in which shallow nodes are laid out spells them, if it keeps the limit of a text
whole_spelled : (text : List ℕ) (g : Forest) → length text ≤ LARGEST_TEXT → nesting g ≤ DEEPEST_NESTING
    → ForestPlace text 0 g [] → SpellsLike g text
whole_spelled text g l n p =
    let u = p.after.within in
    let m = length-drop p.to text in
    let r : length (drop p.to text) ≡ 0 = ap length p.after.rest in
    let e : p.to ≡ length text = omega arith in
    let same = sym (nesting-unplaced p.forest) ∙ ap nesting p.same ∙ nesting-unplaced g in
    let s = subst (λ j. Spells text 0 j p.forest) e p.spells in
    (p.forest, limits_clear text l p.forest s p.short (omega arith), p.same)

-- the lines of writable steps spell the nodes of the steps
pub steps_spelled : (ts : List Term) → All IsWritable ts → length (lines_text ts) ≤ LARGEST_TEXT
    → SpellsLike (steps_written ts) (lines_text ts)
steps_spelled ts w l =
    let same = lines_as_nodes ts in
    let short = subst (λ (text : List ℕ). length text ≤ LARGEST_TEXT) same l in
    subst (SpellsLike (steps_written ts)) (sym same)
    (whole_spelled (lines (steps_written ts)) (steps_written ts) short (steps_shallow ts w)
    (laid_out (steps_written ts) (steps_can_spell ts w)))
