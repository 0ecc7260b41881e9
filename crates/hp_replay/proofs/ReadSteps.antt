-- A forest is read as the steps that it stands for.
use Rattle.std.proofs.Common.{◌≡◌, ℕ, Bool, true, false, ◌||◌, List, [], ◌∷◌, Ok, refl, sym, ◌∙◌, ap, ap₂}
use Rattle.std.specs.Prelude.{bytes_eq, codes}
use Rattle.std.specs.List.{All}
use Rattle.std.proofs.lemmas.List.Elements.{All-head, All-tail}
use Rattle.hp_syntax.specs.declared.pattern.Span.{Span}
use Rattle.hp_syntax.specs.Forest.{Node, Word, Numeral, Group, Forest, Bare, Grow}
use Rattle.hp_syntax.specs.Names.{is_variable}
use Rattle.hp_syntax.specs.Steps.{closing, is_word}
use Rattle.hp_syntax.specs.Terms.{Term, Terms, Symbol, Number, Listed, NoTerm, More}
use Rattle.hp_syntax.specs.Unplaced as unplaced
use Rattle.hp_forms.specs.PlanForms.{word_term, term, list_term, items, named_step, step, plan_form}
use Rattle.hp_replay.specs.Writable.{is_no_symbol, IsSpelled, AreSpelled, begins_call, holds_call, hold_call, IsWritable}
use Rattle.hp_replay.proofs.WrittenSteps.{written, all_written, steps_written}

-- the term that a node stands for
abbrev mutual
  term_of : Node → Term
  term_of (Word s name) = Symbol name
  term_of (Numeral s n) = Number n
  term_of (Group s parts) = Listed (terms_of parts)

  -- a list of terms stands for each node of a forest
  terms_of : Forest → Terms
  terms_of Bare = NoTerm
  terms_of (Grow n f) = More (term_of n) (terms_of f)

-- the steps that a forest stands for
abbrev steps_of : Forest → List Term
steps_of Bare = []
steps_of (Grow n f) = term_of n ∷ steps_of f

-- places don't change what a node stands for
mutual
  unfolding unplaced.node unplaced.forest

  term_of-unplaced : (n : Node) → term_of (unplaced.node n) ≡ term_of n
  term_of-unplaced (Word s name) = refl
  term_of-unplaced (Numeral s n) = refl
  term_of-unplaced (Group s parts) = ap Listed (terms_of-unplaced parts)

  -- nor what a forest stands for
  terms_of-unplaced : (f : Forest) → terms_of (unplaced.forest f) ≡ terms_of f
  terms_of-unplaced Bare = refl
  terms_of-unplaced (Grow n f) = ap₂ More (term_of-unplaced n) (terms_of-unplaced f)

-- nor the steps that it stands for
steps_of-unplaced : (f : Forest) → steps_of (unplaced.forest f) ≡ steps_of f
unfolding unplaced.forest
steps_of-unplaced Bare = refl
steps_of-unplaced (Grow n f) = ap₂ (λ (t : Term) (ts : List Term). t ∷ ts) (term_of-unplaced n) (steps_of-unplaced f)

-- a written node stands for its term
mutual
  term_of-written : (t : Term) → term_of (written t) ≡ t
  term_of-written (Symbol name) = refl
  term_of-written (Number n) = refl
  term_of-written (Listed ts) = ap Listed (terms_of-written ts)

  -- written nodes stand for their terms
  terms_of-written : (ts : Terms) → terms_of (all_written ts) ≡ ts
  terms_of-written NoTerm = refl
  terms_of-written (More t ts) = ap₂ More (term_of-written t) (terms_of-written ts)

-- the written nodes of steps stand for the steps
steps_of-written : (ts : List Term) → steps_of (steps_written ts) ≡ ts
steps_of-written [] = refl
steps_of-written (t ∷ ts) = ap₂ (λ (t : Term) (ts : List Term). t ∷ ts) (term_of-written t) (steps_of-written ts)

-- where neither of two tests holds, neither the first nor the second does
neither : (a b : Bool) → a || b ≡ false → (a ≡ false) × (b ≡ false)
neither true b h = absurd cc
neither false b h = (refl, h)

-- a symbol is no dot
no_dot : (n : Node) → IsSpelled (term_of n) → is_word (codes ".") n ≡ false
no_dot (Word s name) h =
    let a = neither (bytes_eq name (codes ".") || bytes_eq name (codes "nil")) (is_variable name) h.symbol in
    (neither (bytes_eq name (codes ".")) (bytes_eq name (codes "nil")) a.0).0
no_dot (Numeral s n) h = refl
no_dot (Group s parts) h = refl

-- the first of the parts of a list is the word `call` where its term is
first_call : (n : Node) (f : Forest) → begins_call (terms_of (Grow n f)) ≡ is_word (codes "call") n
first_call (Word s name) f = refl
first_call (Numeral s n) f = refl
first_call (Group s parts) f = refl

-- a symbol is read as itself
symbol_read : (s : Span) (name : List ℕ) → is_no_symbol name ≡ false → word_term s name ≡ Ok (Symbol name)
unfolding word_term
symbol_read s name h =
    let a = neither (bytes_eq name (codes ".") || bytes_eq name (codes "nil")) (is_variable name) h in
    let b = neither (bytes_eq name (codes ".")) (bytes_eq name (codes "nil")) a.0 in
    rw (b.0, b.1, a.1) refl

mutual
  unfolding term list_term items

  -- a node is read as the term that it stands for
  term_read : (n : Node) → IsSpelled (term_of n) → holds_call (term_of n) ≡ false → term n ≡ Ok (term_of n)
  term_read (Word s name) h c = symbol_read s name h.symbol
  term_read (Numeral s n) h c = refl
  term_read (Group s Bare) h c = refl
  term_read (Group s (Grow n rest)) h c =
      let a = neither (begins_call (terms_of (Grow n rest))) (hold_call (terms_of (Grow n rest))) c in
      let b = neither (holds_call (term_of n)) (hold_call (terms_of rest)) a.1 in
      rw (sym (first_call n rest) ∙ a.0, term_read n h.0 b.0, items_read (closing s) rest h.1 b.1) refl

  -- nodes are read as the terms that they stand for
  items_read : (end : Span) (f : Forest) → AreSpelled (terms_of f) → hold_call (terms_of f) ≡ false
      → items end f ≡ Ok (terms_of f)
  items_read end Bare h c = refl
  items_read end (Grow n rest) h c =
      let b = neither (holds_call (term_of n)) (hold_call (terms_of rest)) c in
      rw (no_dot n h.0, term_read n h.0 b.0, items_read end rest h.1 b.1) refl

-- a node that stands for a writable step is read as the step
step_read : (n : Node) → IsWritable (term_of n) → step n ≡ Ok (term_of n)
unfolding step named_step
step_read (Word s name) w = let h = w.step.named in absurd cc
step_read (Numeral s n) w = let h = w.step.named in absurd cc
step_read (Group s Bare) w = let h = w.step.named in absurd cc
step_read (Group s (Grow (Word t name) rest)) w =
    let parts = terms_of (Grow (Word t name) rest) in
    let a = neither (begins_call parts) (hold_call parts) w.free in
    rw (w.step.named, items_read (closing s) rest w.step.spelled.1 a.1) refl
step_read (Group s (Grow (Numeral t n) rest)) w = let h = w.step.named in absurd cc
step_read (Group s (Grow (Group t parts) rest)) w = let h = w.step.named in absurd cc

-- a forest that stands for writable steps is read as the steps
steps_read : (f : Forest) → All IsWritable (steps_of f) → plan_form f ≡ Ok (steps_of f)
unfolding plan_form
steps_read Bare w = refl
steps_read (Grow n rest) w =
    let first = step_read n (All-head IsWritable (term_of n) (steps_of rest) w) in
    let others = steps_read rest (All-tail IsWritable (term_of n) (steps_of rest) w) in
    rw (first, others) refl

-- a forest that is that of writable steps without places is read as the steps
pub plan_read : (ts : List Term) (f : Forest) → All IsWritable ts
    → unplaced.forest f ≡ unplaced.forest (steps_written ts) → plan_form f ≡ Ok ts
plan_read ts f w e =
    let same : steps_of f ≡ ts = sym (steps_of-unplaced f) ∙ ap steps_of e ∙ steps_of-unplaced (steps_written ts)
    ∙ steps_of-written ts in
    steps_read f (rw same w) ∙ ap Ok same
