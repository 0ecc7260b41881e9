-- Texts that are alike up to an offset spell forests that are alike up to it.
use Rattle.std.proofs.Common.{◌≡◌, ℕ, ◌+◌, ◌-◌, ◌<◌, ◌≤◌, true, false, List, length, take, Some, refl, sym, ◌∙◌, ap, subst, arith, ⊎_elim}
use Rattle.std.specs.Prelude.{slice_range}
use Rattle.std.proofs.lemmas.Bool.{cases_lt}
use Rattle.std.proofs.lemmas.List.{length-take, take_all}
use Rattle.hp_syntax.specs.declared.pattern.Span.{Span}
use Rattle.hp_syntax.specs.Text.{Opening, kind_at, IsToken, IsGap, Spelling, spelling_of}
use Rattle.hp_syntax.specs.Forest.{Node, Word, Numeral, Group, Forest, Bare, Grow, span_of, IsSpelled, Spells, SpellsNode, IsForest}
use Rattle.hp_syntax.proofs.TextLemmas.{kind_at-end}
use Rattle.hp_syntax.proofs.ForestLemmas.{begins_node, one_gap, node_begins, token_no_list, same_node}
use Rattle.hp_syntax.proofs.PrefixRefusals.{kind_prefix, part_prefix}
use Rattle.hp_syntax.proofs.PrefixSteps.{NodeBeyond, Beyond, AlikeUpTo, PastPrefix, SameNode, OpenList, OpenNode}

-- a node that is spelled is not empty
node_order : (text : List ℕ) (n : Node) → SpellsNode text n → (span_of n).from < (span_of n).to
node_order text (Word s name) h = h.0.token.some
node_order text (Numeral s n) h = h.token.some
node_order text (Group s p) h = let l = h.1 in omega arith

-- a forest is spelled from one offset up to a later one
spelled_order : (text : List ℕ) (a b : ℕ) (f : Forest) → Spells text a b f → a ≤ b
spelled_order text a b Bare h = h.order
spelled_order text a b (Grow n f) h =
    let o = h.0.order in
    let m = node_order text n h.1 in
    let l = spelled_order text (span_of n).to b f h.2 in
    omega arith

-- nodes that are spelled from the offset on are beyond it
mutual
  node_beyond : (at : ℕ) (text : List ℕ) (n : Node) → SpellsNode text n → at ≤ (span_of n).from → NodeBeyond at n
  node_beyond at text (Word s name) h l = let o = h.0.token.some in omega arith
  node_beyond at text (Numeral s n) h l = let o = h.token.some in omega arith
  node_beyond at text (Group s p) h l =
      let o = h.1 in
      (omega arith, forest_beyond at text (s.from + 1) (s.to - 1) p h.3 (omega arith))

  forest_beyond : (at : ℕ) (text : List ℕ) (a b : ℕ) (f : Forest) → Spells text a b f → at ≤ a → Beyond at f
  forest_beyond at text a b Bare h l = tt
  forest_beyond at text a b (Grow n f) h l =
      let o = h.0.order in
      let m = node_order text n h.1 in
      (node_beyond at text n h.1 (omega arith), forest_beyond at text (span_of n).to b f h.2 (omega arith))

module _ (at : ℕ) (text other : List ℕ) (kinds : (i : ℕ) → i ≤ at → kind_at text i ≡ kind_at other i)
    (parts : (a b : ℕ) → b ≤ at → slice_range text a b ≡ slice_range other a b) where
  -- a gap up to the offset is one in the other text
  moved_gap : (a b : ℕ) → b ≤ at → IsGap text a b → IsGap other a b
  moved_gap a b l h = record { order = h.order; blank = λ i u v. sym (kinds i (omega arith)) ∙ h.blank i u v }

  -- so is a token
  moved_token : (a b : ℕ) → b ≤ at → IsToken text a b → IsToken other a b
  moved_token a b l h =
      let o = h.some in
      record {
        some = h.some;
        run = λ i u v. sym (kinds i (omega arith)) ∙ h.run i u v;
        begins = λ i e k. h.begins i e (kinds i (omega arith) ∙ k);
        ends = λ k. h.ends (kinds b l ∙ k);
      }

  moved_spelling : (s : Span) (x : Spelling) → s.to ≤ at → IsSpelled text s x → IsSpelled other s x
  moved_spelling s x l h = record {
    token = moved_token s.from s.to l h.token;
    spells = sym (ap spelling_of (parts s.from s.to l)) ∙ h.spells;
  }

  -- so is a node and a forest
  mutual
    moved_node : (n : Node) → (span_of n).to ≤ at → SpellsNode text n → SpellsNode other n
    moved_node (Word s name) l h = (moved_spelling s _ l h.0, h.1 ∙ parts s.from s.to l)
    moved_node (Numeral s n) l h = moved_spelling s _ l h
    moved_node (Group s p) l h =
        let o = h.1 in (
          sym (kinds s.from (omega arith)) ∙ h.0,
          h.1,
          sym (kinds (s.to - 1) (omega arith)) ∙ h.2,
          moved_forest (s.from + 1) (s.to - 1) p (omega arith) h.3,
        )

    moved_forest : (a b : ℕ) (f : Forest) → b ≤ at → Spells text a b f → Spells other a b f
    moved_forest a b Bare l h = moved_gap a b l h
    moved_forest a b (Grow n f) l h =
        let o = spelled_order text (span_of n).to b f h.2 in
        let m = node_order text n h.1 in (
          moved_gap a (span_of n).from (omega arith) h.0,
          moved_node n (omega arith) h.1,
          moved_forest
              (span_of n).to b f l h.2,
        )

  -- where a node stands within the prefix, a forest of the other text has the same
  first_node : (n : Node) (a c : ℕ) (g : Forest) → IsGap other a (span_of n).from
      → begins_node (kind_at other (span_of n).from) ≡ Some true
      → Spells other a c g → begins_node (kind_at other c) ≡ Some false
      → (m : Node) × (r : Forest) × (g ≡ Grow m r)
      × ((span_of n).from ≡ (span_of m).from) × SpellsNode other m × Spells other (span_of m).to c r
  first_node n a c Bare h x k y =
      let e = one_gap other a a (span_of n).from c true false refl h k x y in
      absurd cc
  first_node n a c (Grow m r) h x k y = (
    m,
    r,
    refl,
    one_gap other a a (span_of n).from (span_of m).from true true refl h k.0 x
        (node_begins other m k.1),
    k.1,
    k.2,
  )

  -- a list that goes on behind the offset has its parts up to there in the other text too
  cut_list : (s : Span) (p f : Forest) (m : Node) (r : Forest) → kind_at other s.from ≡ Opening
      → s.from ≡ (span_of m).from → SpellsNode other m → at < s.to
      → ((c : ℕ) (q : Forest) → Spells other (s.from + 1) c q → begins_node (kind_at other c) ≡ Some false
      → AlikeUpTo at p q) → Beyond at f → AlikeUpTo at (Grow (Group s p) f) (Grow m r)
  cut_list s p f (Word t name) r o e h l k b = absurd (token_no_list other t.from t.to s.from h.0.token o (sym e))
  cut_list s p f (Numeral t n) r o e h l k b = absurd (token_no_list other t.from t.to s.from h.token o (sym e))
  cut_list s p f (Group t q) r o e h l k b =
      OpenList
      (OpenNode l
      (k (t.to - 1) q (subst (λ i. Spells other (i + 1) (t.to - 1) q) (sym e) h.3) (ap begins_node h.2))) b

  -- a node that ends within the prefix stands in the other text too
  cut_within : (n : Node) (f g : Forest) (a c : ℕ) → (span_of n).to ≤ at → SpellsNode text n
      → IsGap text a (span_of n).from
      → Spells other a c g → begins_node (kind_at other c) ≡ Some false
      → ((r : Forest) → Spells other (span_of n).to c r → AlikeUpTo at f r) → AlikeUpTo at (Grow n f) g
  cut_within n f g a c l h v k y rest =
      let o = node_order text n h in
      let h' = moved_node n l h in
      let w = first_node n a c g (moved_gap a (span_of n).from (omega arith) v) (node_begins other n h') k y in
      let q = same_node other n w.0 h' w.4 w.3 in
      subst (AlikeUpTo at (Grow n f)) (sym w.2)
      (subst (λ z. AlikeUpTo at (Grow n f) (Grow z w.1)) q
      (SameNode (rest w.1 (subst (λ (z : Node). Spells other (span_of z).to c w.1) (sym q) w.5))))

  -- a list that begins within the prefix and ends behind it begins in the other text too
  cut_inside : (s : Span) (p f g : Forest) (a c : ℕ) → s.from < at → at < s.to → SpellsNode text (Group s p)
      → IsGap text a s.from
      → Spells other a c g → begins_node (kind_at other c) ≡ Some false
      → ((d : ℕ) (q : Forest) → Spells other (s.from + 1) d q → begins_node (kind_at other d) ≡ Some false
      → AlikeUpTo at p q)
      → Beyond at f → AlikeUpTo at (Grow (Group s p) f) g
  cut_inside s p f g a c u l h v k y inner b =
      let o = sym (kinds s.from (omega arith)) ∙ h.0 in
      let w = first_node (Group s p) a c g (moved_gap a s.from (omega arith) v) (ap begins_node o) k y in
      subst (AlikeUpTo at (Grow (Group s p) f)) (sym w.2) (cut_list s p f w.0 w.1 o w.3 w.4 l inner b)

  -- two forests are alike up to the offset if the first goes on behind it
  pub cut_forest : (f g : Forest) (a b c : ℕ) → Spells text a b f → Spells other a c g → at ≤ b
      → begins_node (kind_at other c) ≡ Some false → AlikeUpTo at f g
  cut_forest Bare g a b c h k l y = PastPrefix tt
  cut_forest (Grow (Word s name) f) g a b c h k l y =
      ⊎_elim (λ u. PastPrefix (u, forest_beyond at text s.to b f h.2 (omega arith)))
      (λ u. cut_within (Word s name) f g a c u h.1 h.0 k y (λ r z. cut_forest f r s.to b c h.2 z l y))
      (cases_lt at s.to)
  cut_forest (Grow (Numeral s n) f) g a b c h k l y =
      ⊎_elim (λ u. PastPrefix (u, forest_beyond at text s.to b f h.2 (omega arith)))
      (λ u. cut_within (Numeral s n) f g a c u h.1 h.0 k y (λ r z. cut_forest f r s.to b c h.2 z l y))
      (cases_lt at s.to)
  cut_forest (Grow (Group s p) f) g a b c h k l y =
      ⊎_elim
      (λ u. ⊎_elim
      (λ v. cut_inside s p f g a c v u h.1 h.0 k y
      (λ d q z x. cut_forest p q (s.from + 1) (s.to - 1) d h.1.3 z (omega arith) x)
      (forest_beyond at text s.to b f h.2 (omega arith)))
      (λ v. PastPrefix (node_beyond at text (Group s p) h.1 v, forest_beyond at text s.to b f h.2 (omega arith)))
      (cases_lt s.from at))
      (λ u. cut_within (Group s p) f g a c u h.1 h.0 k y (λ r z. cut_forest f r s.to b c h.2 z l y))
      (cases_lt at s.to)

-- texts with the same prefix spell forests that are alike up to its last byte
pub cut_texts : (at : ℕ) (text other : List ℕ) (f g : Forest) → IsForest text f → IsForest other g
    → take (at + 1) text ≡ take (at + 1) other → at < length text → AlikeUpTo at f g
cut_texts at text other f g h k e l =
    cut_forest at text other kinds parts f g 0 (length text) (length other) h.spelled k.spelled (omega arith)
    (ap begins_node (kind_at-end other (length other) (omega arith)))
  where
    kinds : (i : ℕ) → i ≤ at → kind_at text i ≡ kind_at other i
    kinds i m =
        sym (kind_prefix (at + 1) text i (omega arith))
        ∙ (ap (λ t. kind_at t i) e ∙ kind_prefix (at + 1) other i (omega arith))

    parts : (a b : ℕ) → b ≤ at → slice_range text a b ≡ slice_range other a b
    parts a b m =
        sym (part_prefix (at + 1) text a b (omega arith))
        ∙ (ap (λ t. slice_range t a b) e ∙ part_prefix (at + 1) other a b (omega arith))

-- a prefix that reaches behind the text is the whole text, and the other one too
pub whole_texts : (at : ℕ) (text other : List ℕ) → take (at + 1) text ≡ take (at + 1) other → length text ≤ at
    → text ≡ other
whole_texts at text other e l =
    let p = length-take (at + 1) text in
    let q = length-take (at + 1) other in
    let m = ap length e in
    sym (take_all (at + 1) text (omega arith)) ∙ (e ∙ take_all (at + 1) other (omega arith))
