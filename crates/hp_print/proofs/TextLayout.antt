-- Bytes without comments spell the nodes that are laid out in them.
use Rattle.std.proofs.Common.{◌≡◌, ℕ, ◌+◌, ◌-◌, ◌<◌, ◌≤◌, true, false, List, [], ◌∷◌, ◌++◌, length, refl, sym, ◌∙◌, ap, ap₂, arith, subst, ⊎_elim}
use Rattle.std.specs.Prelude.{slice_index, slice_range, drop, take, ◌==◌, not, ℤ}
use Rattle.std.specs.List.{list_all}
use Rattle.std.proofs.lemmas.Bool.{and_parts, and_right, ne_eqb, cases_eq, false≢true}
use Rattle.std.proofs.lemmas.List.{append_assoc, drop_more, length-drop, take_at}
use Rattle.hp_syntax.specs.declared.limits.TheConstants.{LONGEST_TOKEN}
use Rattle.hp_syntax.specs.declared.pattern.Span.{Span}
use Rattle.hp_syntax.specs.Text.{Blank, Opening, NameByte, is_name_byte, byte_kind, comment_after, in_comment, kind_at, IsOutside, IsToken, IsGap, Spelling, AName, ANumber, spelling_of}
use Rattle.hp_syntax.specs.TermTexts.{num_text}
use Rattle.hp_syntax.specs.Forest.{Node, Word, Numeral, Group, Forest, Bare, Grow, span_of, IsSpelled, SpellsNode, Spells, longest_token, longest_token_of_node}
use Rattle.hp_syntax.specs.Unplaced as unplaced
use Rattle.hp_syntax.specs.Written.{nowhere, node_text, rest_text, lines}
use Rattle.hp_syntax.proofs.TextLemmas.{in_comment-next, kind_at-byte, kind_at-end, name_kind, name_byte_only, outside_behind}
use Rattle.hp_print.proofs.CanSpell.{IsName, IsNumber, CanSpell, CanSpellAll}

-- the rest of a text from an offset on, before which no comment is open
pub record Stands (text : List ℕ) (a : ℕ) (xs : List ℕ) : Type 0 where
  pub within : a ≤ length text
  pub rest : drop a text ≡ xs
  pub quiet : in_comment text a ≡ false

-- the bytes end or go on with what is no name byte
abbrev pub Breaks : List ℕ → Type 0
Breaks [] = Unit {0}
Breaks (b ∷ bs) = is_name_byte b ≡ false

-- a node that the text spells from an offset on, where the rest stands behind it
pub record NodePlace (text : List ℕ) (a : ℕ) (n : Node) (rest : List ℕ) : Type 0 where
  pub node : Node
  pub spells : SpellsNode text node
  pub from : (span_of node).from ≡ a
  pub order : a ≤ (span_of node).to
  pub same : unplaced.node node ≡ unplaced.node n
  pub short : longest_token_of_node node ≤ LONGEST_TOKEN
  pub after : Stands text (span_of node).to rest

-- a forest that the text spells from an offset on, where the rest stands behind it
pub record ForestPlace (text : List ℕ) (a : ℕ) (f : Forest) (rest : List ℕ) : Type 0 where
  pub forest : Forest
  pub to : ℕ
  pub spells : Spells text a to forest
  pub order : a ≤ to
  pub same : unplaced.forest forest ≡ unplaced.forest f
  pub short : longest_token forest ≤ LONGEST_TOKEN
  pub after : Stands text to rest

-- a name byte is no semicolon
name_no_semicolon : (b : ℕ) → is_name_byte b ≡ true → b == 59 ≡ false
name_no_semicolon b h = ne_eqb b 59 (λ e. false≢true (ap is_name_byte (sym e) ∙ h))

module _ (text : List ℕ) where
  -- a byte that is no semicolon is what it is alone, and the rest stands behind it
  pub byte_stands : (a b : ℕ) (bs : List ℕ) → Stands text a (b ∷ bs) → b == 59 ≡ false
      → (kind_at text a ≡ byte_kind b) × Stands text (a + 1) bs
  byte_stands a b bs s h =
      let w = s.within in
      let m = length-drop a text in
      let n : length (drop a text) ≡ length (b ∷ bs) = ap length s.rest in
      let l : a < length text = omega arith in
      let d = sym (drop_more text a 0 l) ∙ s.rest in
      let e : slice_index text a ≡ b = cc in
      let c = ap₂ comment_after s.quiet e ∙ and_right (not (b == 10)) (b == 59) h in (
        kind_at-byte text a l c ∙ ap byte_kind e,
        record { within = omega arith; rest = cc; quiet = in_comment-next text a ∙ c },
      )

  -- what breaks begins with no name byte
  break_ends : (a : ℕ) (rest : List ℕ) → Stands text a rest → Breaks rest → kind_at text a ≡ NameByte → ⊥
  break_ends a [] s b h =
      let m = length-drop a text in
      let n : length (drop a text) ≡ 0 = ap length s.rest in
      let e = kind_at-end text a (omega arith) in
      absurd cc
  break_ends a (c ∷ cs) s b h =
      let w = s.within in
      let m = length-drop a text in
      let n : length (drop a text) ≡ length (c ∷ cs) = ap length s.rest in
      let d = sym (drop_more text a 0 (omega arith)) ∙ s.rest in
      let e : slice_index text a ≡ c = cc in
      false≢true (sym b ∙ (ap is_name_byte (sym e) ∙ name_byte_only text a h))

  -- name bytes that stand at an offset are a run of them
  name_run : (xs rest : List ℕ) (a : ℕ) → list_all is_name_byte xs ≡ true → Stands text a (xs ++ rest)
      → ((i : ℕ) → a ≤ i → i < a + length xs → kind_at text i ≡ NameByte) × Stands text (a + length xs) rest
  name_run [] rest a h s =
      (λ i l m. absurd (omega arith), subst (λ j. Stands text j rest) (let e : a ≡ a + 0 = omega arith in e) s)
  name_run (x ∷ xs) rest a h s =
      let p = and_parts (is_name_byte x) (list_all is_name_byte xs) h in
      let t = byte_stands a x (xs ++ rest) s (name_no_semicolon x p.0) in
      let r = name_run xs rest (a + 1) p.1 t.1 in (
        λ i l m. ⊎_elim (λ e. ap (kind_at text) (sym e) ∙ (t.0 ∙ name_kind x p.0))
            (λ n. r.0 i (omega arith) (omega arith))
            (cases_eq a i),
        subst (λ j. Stands text j rest) (let e : a + 1 + length xs ≡ a + length (x ∷ xs) = omega arith in e) r.1,
      )

  -- name bytes that begin and end a token are one
  token_placed : (xs rest : List ℕ) (a : ℕ) → list_all is_name_byte xs ≡ true → 0 < length xs → IsOutside text a
      → Stands text a (xs ++ rest) → Breaks rest
      → IsToken text a (a + length xs) × (slice_range text a (a + length xs) ≡ xs)
  token_placed xs rest a h l o s b =
      let r = name_run xs rest a h s in
      let n : a + length xs - a ≡ length xs = omega arith in (
        record { some = omega arith; run = r.0; begins = o; ends = break_ends (a + length xs) rest r.1 b },
        ap₂ take n s.rest ∙ take_at xs rest (length xs) refl,
      )

  -- the spelling of a token that stands at an offset is that of its span
  spelled_placed : (xs rest : List ℕ) (a : ℕ) (x : Spelling) → list_all is_name_byte xs ≡ true → 0 < length xs
      → spelling_of xs ≡ x → IsOutside text a → Stands text a (xs ++ rest) → Breaks rest
      → IsSpelled text (record { from = a; to = a + length xs }) x
  spelled_placed xs rest a x h l e o s b =
      let t = token_placed xs rest a h l o s b in record { token = t.0; spells = ap spelling_of t.1 ∙ e }

  -- nothing is laid out where the rest stands at once
  pub nothing_placed : (a : ℕ) (rest : List ℕ) → Stands text a rest → ForestPlace text a Bare rest
  nothing_placed a rest s = record {
    forest = Bare;
    to = a;
    spells = record { order = omega arith; blank = λ i l m. absurd (omega arith) };
    order = omega arith;
    same = refl;
    short = omega arith;
    after = s;
  }

  -- a gap goes on to the left over one more blank
  wider_gap : (a b : ℕ) → kind_at text a ≡ Blank → IsGap text (a + 1) b → IsGap text a b
  wider_gap a b k g =
      let o : a + 1 ≤ b = g.order in
      record {
        order = omega arith;
        blank =
            λ i l m. ⊎_elim (λ e. ap (kind_at text) (sym e) ∙ k) (λ n. g.blank i (omega arith) m) (cases_eq a i);
      }

  -- a forest that is spelled from behind a blank on is spelled from the blank on
  wider : (a e : ℕ) (f : Forest) → kind_at text a ≡ Blank → Spells text (a + 1) e f → Spells text a e f
  wider a e Bare k h = wider_gap a e k h
  wider a e (Grow n f) k h = (wider_gap a (span_of n).from k h.0, h.1, h.2)

  -- a blank may stand before what is laid out
  pub blank_placed : (a : ℕ) (f : Forest) (rest : List ℕ) → kind_at text a ≡ Blank → ForestPlace text (a + 1) f rest
      → ForestPlace text a f rest
  blank_placed a f rest k p =
      let o : a + 1 ≤ p.to = p.order in
      record {
        forest = p.forest;
        to = p.to;
        spells = wider a p.to p.forest k p.spells;
        order = omega arith;
        same = p.same;
        short = p.short;
        after = p.after;
      }

  -- a node and what is laid out behind it make a forest
  pub grown : (a : ℕ) (n : Node) (f : Forest) (more rest : List ℕ) → (p : NodePlace text a n more)
      → ForestPlace text (span_of p.node).to f rest → ForestPlace text a (Grow n f) rest
  unfolding unplaced.forest
  grown a n f more rest p q =
      let from : (span_of p.node).from ≡ a = p.from in
      let o : a ≤ (span_of p.node).to = p.order in
      let u : (span_of p.node).to ≤ q.to = q.order in
      let x : longest_token_of_node p.node ≤ LONGEST_TOKEN = p.short in
      let y : longest_token q.forest ≤ LONGEST_TOKEN = q.short in
      let gap : IsGap text a (span_of p.node).from =
      record { order = omega arith; blank = λ i l m. absurd (omega arith) } in
      record {
        forest = Grow p.node q.forest;
        to = q.to;
        spells = (gap, p.spells, q.spells);
        order = omega arith;
        same = ap₂ Grow p.same q.same;
        short = omega arith;
        after = q.after;
      }

  -- brackets round what is laid out make a list
  pub list_placed : (a : ℕ) (s : Span) (f : Forest) (rest : List ℕ) → kind_at text a ≡ Opening
      → ForestPlace text (a + 1) f (41 ∷ rest) → NodePlace text a (Group s f) rest
  unfolding unplaced.node
  list_placed a s f rest k p =
      let o : a + 1 ≤ p.to = p.order in
      let c = byte_stands p.to 41 rest p.after refl in
      let e : p.to ≡ p.to + 1 - 1 = omega arith in
      record {
        node = Group (record { from = a; to = p.to + 1 }) p.forest;
        spells = (
          k,
          omega arith,
          ap (kind_at text) (sym e) ∙ c.0,
          subst (λ j. Spells text (a + 1) j p.forest) e p.spells,
        );
        from = refl;
        order = omega arith;
        same = ap (Group nowhere) p.same;
        short = p.short;
        after = c.1;
      }

  -- the bytes of a word lay it out
  pub word_placed : (s : Span) (xs rest : List ℕ) (a : ℕ) → IsName xs → IsOutside text a → Stands text a (xs ++ rest)
      → Breaks rest → NodePlace text a (Word s xs) rest
  unfolding unplaced.node
  word_placed s xs rest a h o t b =
      let l : length xs ≤ LONGEST_TOKEN = h.short in
      let p = spelled_placed xs rest a AName h.bytes h.some h.spells o t b in
      record {
        node = Word (record { from = a; to = a + length xs }) xs;
        spells = (p, sym (token_placed xs rest a h.bytes h.some o t b).1);
        from = refl;
        order = omega arith;
        same = refl;
        short = omega arith;
        after = (name_run xs rest a h.bytes t).1;
      }

  -- the text of a number lays it out
  numeral_placed : (s : Span) (n : ℤ) (rest : List ℕ) (a : ℕ) → IsNumber n → IsOutside text a
      → Stands text a (num_text n ++ rest) → Breaks rest → NodePlace text a (Numeral s n) rest
  unfolding unplaced.node
  numeral_placed s n rest a h o t b =
      let xs = num_text n in
      let l : length xs ≤ LONGEST_TOKEN = h.short in
      record {
        node = Numeral (record { from = a; to = a + length xs }) n;
        spells = spelled_placed xs rest a (ANumber n) h.bytes h.some h.spells o t b;
        from = refl;
        order = omega arith;
        same = refl;
        short = omega arith;
        after = (name_run xs rest a h.bytes t).1;
      }

  -- behind a byte other than a name byte and a semicolon a token may begin
  pub outside_after : (a b : ℕ) (bs : List ℕ) → Stands text a (b ∷ bs) → is_name_byte b ≡ false → IsOutside text (a + 1)
  outside_after a b bs s h = outside_behind text a (break_ends a (b ∷ bs) s h)

  -- the parts of a list but its first break what stands before them
  rest_breaks : (f : Forest) (xs : List ℕ) → Breaks xs → Breaks (rest_text f ++ xs)
  unfolding rest_text
  rest_breaks Bare xs b = b
  rest_breaks (Grow n f) xs b = refl

  -- the text of a node lays it out, and that of the parts of a list lays them out with a space before each
  mutual
    unfolding node_text rest_text

    node_placed : (n : Node) (rest : List ℕ) (a : ℕ) → CanSpell n → IsOutside text a
        → Stands text a (node_text n ++ rest) → Breaks rest → NodePlace text a n rest
    node_placed (Word s xs) rest a c o t b = word_placed s xs rest a c o t b
    node_placed (Numeral s n) rest a c o t b = numeral_placed s n rest a c o t b
    node_placed (Group s Bare) rest a c o t b =
        let p = byte_stands a 40 (41 ∷ rest) t refl in
        list_placed a s Bare rest p.0 (nothing_placed (a + 1) (41 ∷ rest) p.1)
    node_placed (Group s (Grow n f)) rest a c o t b =
        let more = rest_text f ++ (41 ∷ rest) in
        let e = append_assoc (node_text n ++ rest_text f) (41 ∷ []) rest
        ∙ append_assoc (node_text n) (rest_text f) (41 ∷ rest) in
        let u = subst (λ xs. Stands text a (40 ∷ xs)) e t in
        let p = byte_stands a 40 (node_text n ++ more) u refl in
        let q = node_placed n more (a + 1) c.0 (outside_after a 40 (node_text n ++ more) u refl) p.1
        (rest_breaks f (41 ∷ rest) refl) in
        list_placed a s (Grow n f) rest p.0
        (grown (a + 1) n f more (41 ∷ rest) q
        (rest_placed f (41 ∷ rest) (span_of q.node).to c.1 q.after refl))

    rest_placed : (f : Forest) (rest : List ℕ) (a : ℕ) → CanSpellAll f → Stands text a (rest_text f ++ rest)
        → Breaks rest → ForestPlace text a f rest
    rest_placed Bare rest a c t b = nothing_placed a rest t
    rest_placed (Grow n f) rest a c t b =
        let more = rest_text f ++ rest in
        let u = subst (λ xs. Stands text a (32 ∷ xs)) (append_assoc (node_text n) (rest_text f) rest) t in
        let p = byte_stands a 32 (node_text n ++ more) u refl in
        let q = node_placed n more (a + 1) c.0 (outside_after a 32 (node_text n ++ more) u refl) p.1
        (rest_breaks f rest b) in
        blank_placed a (Grow n f) rest p.0
        (grown (a + 1) n f more rest q (rest_placed f rest (span_of q.node).to c.1 q.after b))

  -- the lines of a forest lay it out
  pub lines_placed : (f : Forest) (rest : List ℕ) (a : ℕ) → CanSpellAll f → IsOutside text a
      → Stands text a (lines f ++ rest) → ForestPlace text a f rest
  lines_placed Bare rest a c o t = nothing_placed a rest t
  lines_placed (Grow n f) rest a c o t =
      let more = lines f ++ rest in
      let e = append_assoc (node_text n ++ (10 ∷ [])) (lines f) rest ∙ append_assoc (node_text n) (10 ∷ []) more in
      let u = subst (Stands text a) e t in
      let q = node_placed n (10 ∷ more) a c.0 o u refl in
      let p = byte_stands (span_of q.node).to 10 more q.after refl in
      let w = outside_after (span_of q.node).to 10 more q.after refl in
      grown a n f (10 ∷ more) rest q
      (blank_placed (span_of q.node).to f rest p.0 (lines_placed f rest ((span_of q.node).to + 1) c.1 w p.1))
