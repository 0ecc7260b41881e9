-- A text that spells a forest is clear exactly where the limits are kept.
use Rattle.std.proofs.Common.{◌≡◌, ℕ, ◌+◌, ◌-◌, ◌<◌, ◌≤◌, Bool, true, false, cond, List, length, None, refl, sym, ◌∙◌, ap, arith, subst, ⊎_elim}
use Rattle.std.specs.Prelude.{slice_range}
use Rattle.std.proofs.lemmas.Bool.{cases_lt, cases_eq, lt-ltb, le-ltb}
use Rattle.hp_syntax.specs.declared.pattern.Span.{Span}
use Rattle.hp_syntax.specs.declared.limits.TheConstants.{LARGEST_TEXT, LONGEST_TOKEN, DEEPEST_NESTING}
use Rattle.hp_syntax.specs.Text.{Kind, Blank, Opening, Closing, NameByte, End, kind_at, IsToken, IsGap, Spelling, spelling_of}
use Rattle.hp_syntax.specs.Refusal.{open_before, numeral_refusal, token_refusal, kind_refusal, is_name, refusal_at, IsClear}
use Rattle.hp_syntax.specs.Forest as forest
use Rattle.hp_syntax.proofs.TextLemmas.{kind_within, kind_at-end, token_start-run, open_in_list, level_over_gap, level_over_token, level_over_list, nothing_refused, refusal_at-within, refusal_at-end, clear_within}
use Rattle.hp_syntax.proofs.RefusalLemmas.{clear_token_short}

-- over what is spelled the brackets that are open stay
mutual
  level_over_node : (text : List ℕ) (n : forest.Node) → forest.SpellsNode text n
      → open_before text (forest.span_of n).to ≡ open_before text (forest.span_of n).from
  level_over_node text (forest.Word s name) h = level_over_token text s.from s.to h.0.token
  level_over_node text (forest.Numeral s n) h = level_over_token text s.from s.to h.token
  level_over_node text (forest.Group s parts) h =
      let l = h.1 in
      ap (open_before text) (let e : s.to ≡ s.to - 1 + 1 = omega arith in e)
      ∙ level_over_list text s.from (s.to - 1) h.0 h.2 (level_over_forest text (s.from + 1) (s.to - 1) parts h.3)

  level_over_forest : (text : List ℕ) (a e : ℕ) (f : forest.Forest) → forest.Spells text a e f
      → open_before text e ≡ open_before text a
  level_over_forest text a e forest.Bare h = level_over_gap text a e h
  level_over_forest text a e (forest.Grow n f) h =
      level_over_forest text (forest.span_of n).to e f h.2
      ∙ (level_over_node text n h.1 ∙ level_over_gap text a (forest.span_of n).from h.0)

-- nothing is refused from an offset up to another
Passes : List ℕ → ℕ → ℕ → Type 0
Passes text a b = (i : ℕ) → a ≤ i → i < b → refusal_at text i ≡ None

-- where nothing is refused in two parts nothing is in both
passes_both : (text : List ℕ) (a b c : ℕ) → Passes text a b → Passes text b c → Passes text a c
unfolding Passes
passes_both text a b c p q = λ i l m. ⊎_elim (λ u. p i l u) (λ u. q i u m) (cases_lt i b)

module _ (text : List ℕ) (fits : length text ≤ LARGEST_TEXT) where
  -- where what stands there is no reason for a refusal nothing is refused
  passes : (i : ℕ) (k : Kind) → kind_at text i ≡ k → (k ≡ End → ⊥)
      → kind_refusal text i k (open_before text i) ≡ None → refusal_at text i ≡ None
  passes i k e h r =
      let l = kind_within text i (λ q. h (sym e ∙ q)) in
      refusal_at-within text i (omega arith) ∙ (ap (λ x. kind_refusal text i x (open_before text i)) e ∙ r)

  -- nothing is refused within a gap
  gap_passes : (a b : ℕ) → IsGap text a b → Passes text a b
  unfolding Passes
  gap_passes a b g = λ i l m. passes i Blank (g.blank i l m) (λ e. absurd cc) refl

  -- no byte of a short token is refused if what it spells isn't refused
  token_byte_passes : (a b i : ℕ) → IsToken text a b → b ≤ a + LONGEST_TOKEN
      → numeral_refusal (spelling_of (slice_range text a b)) a ≡ None → a ≤ i → i < b → token_refusal text a i ≡ None
  token_byte_passes a b i t s h l m =
      rw (lt-ltb i (a + LONGEST_TOKEN) (omega arith))
      (⊎_elim (λ n. rw (t.run (i + 1) (omega arith) n) refl)
      (λ n. last (is_name (kind_at text (i + 1))) (i + 1) (omega arith))
      (cases_lt (i + 1) b))
    where
      last : (x : Bool) (e : ℕ) → e ≡ b → cond x None (numeral_refusal (spelling_of (slice_range text a e)) a) ≡ None
      last true e q = refl
      last false e q = ap (λ j. numeral_refusal (spelling_of (slice_range text a j)) a) q ∙ h

  -- nothing is refused within a short token that spells a name or a number
  token_passes : (s : Span) (x : Spelling) → forest.IsSpelled text s x → s.to - s.from ≤ LONGEST_TOKEN
      → numeral_refusal x s.from ≡ None → Passes text s.from s.to
  unfolding Passes
  token_passes s x h l r = λ i u v.
      (let m : s.from < s.to = h.token.some in
      let o = token_start-run text s.from i u h.token.begins (λ j y z. h.token.run j y (omega arith)) in
      let n = ap (λ y. numeral_refusal y s.from) h.spells ∙ r in
      passes i NameByte (h.token.run i u v) (λ e. absurd cc)
      (ap (λ a. token_refusal text a i) o ∙ token_byte_passes s.from s.to i h.token (omega arith) n u v))

  -- nothing is refused of a list that isn't too deep, if nothing is in it
  list_passes : (a c : ℕ) → kind_at text a ≡ Opening → kind_at text c ≡ Closing
      → length (open_before text a) < DEEPEST_NESTING → open_before text c ≡ open_before text (a + 1)
      → Passes text (a + 1) c → Passes text a (c + 1)
  unfolding Passes
  list_passes a c k l d o p =
      λ i u v. ⊎_elim (λ e. opening i e)
      (λ n. ⊎_elim (λ e. closing i e) (λ m. p i (omega arith) (omega arith)) (cases_eq c i))
      (cases_eq a i)
    where
      opening : (i : ℕ) → a ≡ i → refusal_at text i ≡ None
      opening i e =
          subst (λ j. refusal_at text j ≡ None) e
          (passes a Opening k (λ q. absurd cc) (rw (lt-ltb (length (open_before text a)) DEEPEST_NESTING d) refl))

      closing : (i : ℕ) → c ≡ i → refusal_at text i ≡ None
      closing i e =
          subst (λ j. refusal_at text j ≡ None) e
          (passes c Closing l (λ q. absurd cc) (ap (kind_refusal text c Closing) (o ∙ open_in_list text a k)))

  -- nothing is refused of what is spelled within the limits
  mutual
    node_passes : (n : forest.Node) → forest.SpellsNode text n → forest.longest_token_of_node n ≤ LONGEST_TOKEN
        → forest.nesting_of_node n + length (open_before text (forest.span_of n).from) ≤ DEEPEST_NESTING
        → Passes text (forest.span_of n).from (forest.span_of n).to
    node_passes (forest.Word s name) h l d = token_passes s _ h.0 l refl
    node_passes (forest.Numeral s n) h l d = token_passes s _ h l refl
    node_passes (forest.Group s parts) h l d =
        let m = h.1 in
        let o = ap length (open_in_list text s.from h.0) in
        subst (Passes text s.from) (let e : s.to - 1 + 1 ≡ s.to = omega arith in e)
        (list_passes s.from (s.to - 1) h.0 h.2 (omega arith) (level_over_forest text (s.from + 1) (s.to - 1) parts h.3)
        (forest_passes (s.from + 1) (s.to - 1) parts h.3 l (omega arith)))

    forest_passes : (a e : ℕ) (f : forest.Forest) → forest.Spells text a e f → forest.longest_token f ≤ LONGEST_TOKEN
        → forest.nesting f + length (open_before text a) ≤ DEEPEST_NESTING → Passes text a e
    forest_passes a e forest.Bare h l d = gap_passes a e h
    forest_passes a e (forest.Grow n f) h l d =
        let p = ap length (level_over_gap text a (forest.span_of n).from h.0) in
        let q = ap length (level_over_node text n h.1) in
        let x = node_passes n h.1 (omega arith) (omega arith) in
        let y = forest_passes (forest.span_of n).to e f h.2 (omega arith) (omega arith) in
        passes_both text a (forest.span_of n).from e (gap_passes a (forest.span_of n).from h.0)
        (passes_both text (forest.span_of n).from (forest.span_of n).to e x y)

  -- a forest that a text spells within the limits is its forest
  pub limits_clear : (f : forest.Forest) → forest.Spells text 0 (length text) f → forest.longest_token f ≤ LONGEST_TOKEN
      → forest.nesting f ≤ DEEPEST_NESTING → forest.IsForest text f
  unfolding Passes open_before
  limits_clear f h l d = record {
    spelled = h;
    clear =
        λ i m. ⊎_elim (λ n. forest_passes 0 (length text) f h l (omega arith) i (omega arith) n)
        (λ n. at_end i (omega arith))
        (cases_lt i (length text));
  }
    where
      at_end : (i : ℕ) → i ≡ length text → refusal_at text i ≡ None
      at_end i e =
          refusal_at-end text i (omega arith)
          ∙ (ap (λ k. kind_refusal text i k (open_before text i)) (kind_at-end text i (omega arith))
          ∙ ap (kind_refusal text i End) (ap (open_before text) e ∙ level_over_forest text 0 (length text) f h))

module _ (text : List ℕ) (clear : IsClear text (length text + 1)) where
  -- a token in a clear text isn't too long
  token_keeps : (s : Span) → IsToken text s.from s.to → s.to - s.from ≤ LONGEST_TOKEN
  token_keeps s t =
      let m : s.from < s.to = t.some in
      let w = kind_within text (s.to - 1) (λ e. let k = t.run (s.to - 1) (omega arith) (omega arith) in absurd cc) in
      let l = clear_token_short text s.from s.to t (λ i u. clear i (omega arith)) in
      omega arith

  -- an opening bracket in a clear text isn't too deep
  bracket_keeps : (a : ℕ) → kind_at text a ≡ Opening → length (open_before text a) < DEEPEST_NESTING
  bracket_keeps a k = ⊎_elim (λ l. l) (λ l. absurd (deep l)) (cases_lt (length (open_before text a)) DEEPEST_NESTING)
    where
      deep : DEEPEST_NESTING ≤ length (open_before text a) → ⊥
      deep l =
          let w = kind_within text a (λ e. absurd cc) in
          let m = le-ltb (length (open_before text a)) DEEPEST_NESTING l in
          let q = rw (k, m) at (nothing_refused text a (clear a (omega arith))) in
          cc

  -- the forest of a clear text keeps the limits
  mutual
    node_keeps : (n : forest.Node) → forest.SpellsNode text n → length
        (open_before text (forest.span_of n).from) ≤ DEEPEST_NESTING
        → (forest.longest_token_of_node n ≤ LONGEST_TOKEN)
        × (forest.nesting_of_node n + length (open_before text (forest.span_of n).from) ≤ DEEPEST_NESTING)
    node_keeps (forest.Word s name) h d = (token_keeps s h.0.token, omega arith)
    node_keeps (forest.Numeral s n) h d = (token_keeps s h.token, omega arith)
    node_keeps (forest.Group s parts) h d =
        let o = ap length (open_in_list text s.from h.0) in
        let l = bracket_keeps s.from h.0 in
        let r = forest_keeps (s.from + 1) (s.to - 1) parts h.3 (omega arith) in
        let m = r.1 in
        (r.0, omega arith)

    forest_keeps : (a e : ℕ) (f : forest.Forest) → forest.Spells text a e f
        → length (open_before text a) ≤ DEEPEST_NESTING
        → (forest.longest_token f ≤ LONGEST_TOKEN) × (forest.nesting f + length (open_before text a) ≤ DEEPEST_NESTING)
    forest_keeps a e forest.Bare h d = (omega arith, omega arith)
    forest_keeps a e (forest.Grow n f) h d =
        let p = ap length (level_over_gap text a (forest.span_of n).from h.0) in
        let q = ap length (level_over_node text n h.1) in
        let x = node_keeps n h.1 (omega arith) in
        let y = forest_keeps (forest.span_of n).to e f h.2 (omega arith) in
        let x0 = x.0 in
        let x1 = x.1 in
        let y0 = y.0 in
        let y1 = y.1 in
        (omega arith, omega arith)

-- the forest of a text keeps the limits
pub forest_keeps_limits : (text : List ℕ) (f : forest.Forest) → forest.IsForest text f
    → (length text ≤ LARGEST_TEXT) × (forest.longest_token f ≤ LONGEST_TOKEN) × (forest.nesting f ≤ DEEPEST_NESTING)
unfolding open_before
forest_keeps_limits text f h =
    let k = forest_keeps text h.clear 0 (length text) f h.spelled (omega arith) in
    let d = k.1 in
    (clear_within text (length text) (λ i l. h.clear i (omega arith)) (omega arith), k.0, omega arith)
