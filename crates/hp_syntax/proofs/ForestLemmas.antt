-- A text spells at most one forest.
use Rattle.std.proofs.Common.{◌≡◌, ℕ, ◌+◌, ◌-◌, ◌<◌, ◌≤◌, Bool, true, false, List, length, Option, Some, None, refl, sym, ap, ap₂, arith, ⊎_elim}
use Rattle.std.specs.Prelude.{slice_range}
use Rattle.std.proofs.lemmas.Bool.{cases_order}
use Rattle.hp_syntax.specs.declared.pattern.Span.{Span}
use Rattle.hp_syntax.specs.Text.{Kind, Blank, Opening, Closing, NameByte, Bad, End, kind_at, IsToken, IsGap, Spelling, spelling_of}
use Rattle.hp_syntax.specs.Forest.{Node, Word, Numeral, Group, Forest, Bare, Grow, span_of, IsSpelled, Spells, SpellsNode, IsForest}
use Rattle.hp_syntax.proofs.TextLemmas.{kind_at-end}

-- a node begins with a name byte or an opening bracket, and a forest ends before a closing bracket or with the text
abbrev pub begins_node : Kind → Option Bool
begins_node NameByte = Some true
begins_node Opening = Some true
begins_node Closing = Some false
begins_node End = Some false
begins_node Blank = None
begins_node Bad = None

-- a gap up to a node, or up to the end of a forest, ends at one offset
pub one_gap : (text : List ℕ) (a b p q : ℕ) (x y : Bool) → a ≡ b → IsGap text a p → IsGap text b q
    → begins_node (kind_at text p) ≡ Some x → begins_node (kind_at text q) ≡ Some y → p ≡ q
one_gap text a b p q x y e g h u v =
    let l : a ≤ p = g.order in
    let m : b ≤ q = h.order in
    ⊎_elim (λ z. z)
    (⊎_elim (λ z. absurd (let k = ap begins_node (h.blank p (omega arith) z) in cc))
    (λ z. absurd (let k = ap begins_node (g.blank q (omega arith) z) in cc)))
    (cases_order p q)

-- tokens that begin at one offset end at one offset
one_token : (text : List ℕ) (a b p q : ℕ) → a ≡ b → IsToken text a p → IsToken text b q → p ≡ q
one_token text a b p q e t u =
    let l : a < p = t.some in
    let m : b < q = u.some in
    ⊎_elim (λ z. z)
    (⊎_elim (λ z. absurd (t.ends (u.run p (omega arith) z))) (λ z. absurd (u.ends (t.run q (omega arith) z))))
    (cases_order p q)

-- spans with the same ends are the same
same_span : (s t : Span) → s.from ≡ t.from → s.to ≡ t.to → s ≡ t
same_span s t p q = λ i. record { from = p i; to = q i }

-- tokens that begin at one offset spell the same
same_token : (text : List ℕ) (s t : Span) (x y : Spelling) → IsSpelled text s x → IsSpelled text t y
    → s.from ≡ t.from → (s ≡ t) × (x ≡ y)
same_token text s t x y h k q =
    let p : s ≡ t = same_span s t q (one_token text s.from t.from s.to t.to q h.token k.token) in
    let e = ap (λ (u : Span). spelling_of (slice_range text u.from u.to)) p in
    let a = h.spells in
    let b = k.spells in
    (p, cc)

-- a token begins with a name byte
token_begins : (text : List ℕ) (a b : ℕ) → IsToken text a b → kind_at text a ≡ NameByte
token_begins text a b t = t.run a (omega arith) t.some

-- a node begins where a node may begin
pub node_begins : (text : List ℕ) (n : Node) → SpellsNode text n
    → begins_node (kind_at text (span_of n).from) ≡ Some true
node_begins text (Word s name) h = ap begins_node (token_begins text s.from s.to h.0.token)
node_begins text (Numeral s n) h = ap begins_node (token_begins text s.from s.to h.token)
node_begins text (Group s parts) h = ap begins_node h.0

-- where a token begins there is no list
pub token_no_list : (text : List ℕ) (a b c : ℕ) → IsToken text a b → kind_at text c ≡ Opening → a ≡ c → ⊥
token_no_list text a b c t o q = let e = token_begins text a b t in absurd cc

-- words with one span are the same
same_word : (text : List ℕ) (s t : Span) (x y : List ℕ) → SpellsNode text (Word s x) → SpellsNode text (Word t y)
    → s ≡ t → Word s x ≡ Word t y
same_word text s t x y h k p =
    let e = ap (λ (u : Span). slice_range text u.from u.to) p in
    let a = h.1 in
    let b = k.1 in
    cc

-- lists that begin at one offset are the same if their parts are and end at one offset
same_list : (s t : Span) (f g : Forest) → s.from ≡ t.from → s.from + 2 ≤ s.to → t.from + 2 ≤ t.to
    → (s.to - 1 ≡ t.to - 1) × (f ≡ g) → Group s f ≡ Group t g
same_list s t f g q l m h = let e = h.0 in ap₂ Group (same_span s t q (omega arith)) h.1

-- nodes that begin at one offset are the same
mutual
  pub same_node : (text : List ℕ) (n m : Node) → SpellsNode text n → SpellsNode text m
      → (span_of n).from ≡ (span_of m).from → n ≡ m
  same_node text (Word s x) (Word t y) h k q = same_word text s t x y h k (same_token text s t _ _ h.0 k.0 q).0
  same_node text (Word s x) (Numeral t y) h k q = absurd (let e = (same_token text s t _ _ h.0 k q).1 in cc)
  same_node text (Word s x) (Group t g) h k q = absurd (token_no_list text s.from s.to t.from h.0.token k.0 q)
  same_node text (Numeral s x) (Word t y) h k q = absurd (let e = (same_token text s t _ _ h k.0 q).1 in cc)
  same_node text (Numeral s x) (Numeral t y) h k q =
      let e = same_token text s t _ _ h k q in
      let p = e.0 in
      let r = e.1 in
      cc
  same_node text (Numeral s x) (Group t g) h k q = absurd (token_no_list text s.from s.to t.from h.token k.0 q)
  same_node text (Group s f) (Word t y) h k q = absurd (token_no_list text t.from t.to s.from k.0.token h.0 (sym q))
  same_node text (Group s f) (Numeral t y) h k q = absurd (token_no_list text t.from t.to s.from k.token h.0 (sym q))
  same_node text (Group s f) (Group t g) h k q =
      let e = ap (λ i. i + 1) q in
      let x = ap begins_node h.2 in
      let y = ap begins_node k.2 in
      same_list s t f g q h.1 k.1
      (same_forest text (s.from + 1) (t.from + 1) (s.to - 1) (t.to - 1) f g e h.3 k.3 x y)

  -- forests that begin at one offset, each up to an end, end at one offset and are the same
  same_forest : (text : List ℕ) (a b d e : ℕ) (f g : Forest) → a ≡ b → Spells text a d f → Spells text b e g
      → begins_node (kind_at text d) ≡ Some false → begins_node (kind_at text e) ≡ Some false → (d ≡ e) × (f ≡ g)
  same_forest text a b d e Bare Bare q h k x y = (one_gap text a b d e false false q h k x y, refl)
  same_forest text a b d e Bare (Grow m g) q h k x y =
      let z = node_begins text m k.1 in
      let p = one_gap text a b d (span_of m).from false true q h k.0 x z in
      absurd cc
  same_forest text a b d e (Grow n f) Bare q h k x y =
      let z = node_begins text n h.1 in
      let p = one_gap text a b (span_of n).from e true false q h.0 k z y in
      absurd cc
  same_forest text a b d e (Grow n f) (Grow m g) q h k x y =
      let z = node_begins text n h.1 in
      let w = node_begins text m k.1 in
      let p = same_node text n m h.1 k.1 (one_gap text a b (span_of n).from (span_of m).from true true q h.0 k.0 z w) in
      let r = same_forest text (span_of n).to (span_of m).to d e f g (ap (λ z. (span_of z).to) p) h.2 k.2 x y in
      (r.0, ap₂ Grow p r.1)

-- a text spells one forest at most
pub one_forest : (text : List ℕ) (f g : Forest) → IsForest text f → IsForest text g → f ≡ g
one_forest text f g h k =
    let e = ap begins_node (kind_at-end text (length text) (omega arith)) in
    (same_forest text 0 0 (length text) (length text) f g refl h.spelled k.spelled e e).1
