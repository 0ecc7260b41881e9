-- A reader that stepped over a bracket.
use Rattle.std.proofs.Common.{◌≡◌, ℕ, ◌+◌, ◌-◌, ◌<◌, ◌≤◌, List, length, slice_index, ap, refl, sym, ◌∙◌, arith, ⊎_elim, ◌⊎◌, inl, inr}
use Rattle.std.proofs.lemmas.Bool.{cases_lt}
use Rattle.hp_syntax.proofs.TextLemmas.{kind_within}
use Rattle.hp_syntax.specs.Text.{Kind, Blank, NameByte, Opening, Closing, End, byte_kind, kind_at, IsGap}
use Rattle.hp_syntax.specs.declared.pattern.Span.{Span}
use Rattle.hp_syntax.specs.Forest.{Node, Forest, Word, Numeral, Group, Grow, span_of, SpellsNode, Spells}
use Rattle.hp_text.specs.Places.{IsBetween, IsStop}
use Rattle.hp_text.specs.Stepping.{PassesBracket, PassesNode}
use Rattle.hp_text.proofs.ByteLemmas.{unblank_byte}
use Rattle.hp_text.proofs.PlaceLemmas.{between_brackets}
use Rattle.hp_text.proofs.NodeLemmas.{opening_no_name, opening_no_blank}

module _ (text : List ℕ) (i : ℕ) (within : i < length text) (stop : IsStop text i) where
  -- where a gap stops at the byte of an opening bracket, one stands there
  pub opens_here : slice_index text i ≡ 40 → kind_at text i ≡ Opening
  opens_here e = unblank_byte text i within stop.stops ∙ ap byte_kind e

  -- where a gap stops at the byte of a closing bracket, one stands there
  pub closes_here : slice_index text i ≡ 41 → kind_at text i ≡ Closing
  closes_here e = unblank_byte text i within stop.stops ∙ ap byte_kind e

  -- behind an opening bracket no token and no comment goes on
  pub between_behind_opening : slice_index text i ≡ 40 → IsBetween text (i + 1)
  between_behind_opening e =
      between_brackets text i within (opening_no_name text i (opens_here e)) (opening_no_blank text i (opens_here e))

  -- nor behind a closing one
  pub between_behind_closing : slice_index text i ≡ 41 → IsBetween text (i + 1)
  between_behind_closing e =
      let k = closes_here e in
      between_brackets text i within (λ n. let x : Closing ≡ NameByte = sym k ∙ n in cc)
      (λ b. let x : Closing ≡ Blank = sym k ∙ b in cc)

-- a gap and the bracket behind it are passed
pub bracket_passed : (kind : Kind) (text : List ℕ) (from i : ℕ) → IsGap text from i → kind_at text i ≡ kind
    → PassesBracket kind text from (i + 1)
bracket_passed kind text from i gap k =
    let order : from ≤ i = gap.order in
    let last : i + 1 - 1 ≡ i = omega arith in
    record { grows = omega arith; gap = rw last gap; bracket = rw last k }

-- the span from a bracket, behind which the first place is, to the second place
abbrev pub span_between : ℕ → ℕ → Span
span_between from to = record { from = from - 1; to = to }

-- an opening bracket, a forest and a closing bracket that are passed are a list
pub list_passed : (text : List ℕ) (from a b to : ℕ) (parts : Forest) → PassesBracket Opening text from a → a ≤ b
    → ((end : ℕ) → IsGap text b end → Spells text a end parts) → PassesBracket Closing text b to
    → PassesNode text from to (Group (span_between a to) parts)
list_passed text from a b to parts opens order spelled closes =
    let first : from < a = opens.grows in
    let last : b < to = closes.grows in
    let inner : a - 1 + 1 ≡ a = omega arith in
    record {
      grows = omega arith;
      gap = opens.gap;
      spelled =
          (opens.bracket, omega arith, closes.bracket, rw inner (spelled (to - 1) closes.gap));
      ends = refl;
    }

-- a node that is passed, and a forest behind it, are one forest
pub node_before : (text : List ℕ) (from to end : ℕ) (n : Node) (f : Forest) → PassesNode text from to n
    → Spells text to end f → Spells text from end (Grow n f)
node_before text from to end n f passes spelled = (passes.gap, passes.spelled, rw passes.ends spelled)

-- two gaps from one place that end where none goes on are one
gap_ends : (text : List ℕ) (from i j : ℕ) → IsGap text from i → (kind_at text i ≡ Blank → ⊥) → IsGap text from j
    → (kind_at text j ≡ Blank → ⊥) → i ≡ j
gap_ends text from i j g stops h ends =
    ⊎_elim (λ below. absurd (stops (h.blank i g.order below)))
    (λ above. ⊎_elim (λ b. absurd (ends (g.blank j h.order b))) (λ e. omega arith) (cases_lt j i)) (cases_lt i j)

-- where a bracket can be passed, it stands where the gap before it stops
pub bracket_comes : (kind : Kind) (text : List ℕ) (from i to : ℕ) → (kind ≡ Blank → ⊥) → IsGap text from i
    → IsStop text i → PassesBracket kind text from to → kind_at text i ≡ kind
bracket_comes kind text from i to solid gap stop passes =
    let same : i ≡ to - 1 =
    gap_ends text from i (to - 1) gap stop.stops passes.gap (λ b. solid (sym passes.bracket ∙ b)) in
    rw same passes.bracket

-- a node begins with a byte of a token or an opening bracket
node_begins : (text : List ℕ) (n : Node) → SpellsNode text n
    → (kind_at text (span_of n).from ≡ NameByte) ⊎ (kind_at text (span_of n).from ≡ Opening)
node_begins text (Word s name) spelled =
    inl (spelled.0.token.run s.from (omega arith) spelled.0.token.some)
node_begins text (Numeral s z) spelled = inl (spelled.token.run s.from (omega arith) spelled.token.some)
node_begins text (Group s parts) spelled = inr spelled.0

-- where a node can be passed, a gap stops before the end and at no closing bracket
pub node_comes : (text : List ℕ) (from i to : ℕ) (n : Node) → IsGap text from i → IsStop text i
    → PassesNode text from to n → (i < length text) × (kind_at text i ≡ Closing → ⊥)
node_comes text from i to n gap stop passes =
    ⊎_elim (λ name. at NameByte (λ e. cc) (λ e. cc) (λ e. cc) name) (λ opens. at Opening (λ e. cc) (λ e. cc) (λ e. cc) opens)
    (node_begins text n passes.spelled)
  where
    at : (kind : Kind) → (kind ≡ Blank → ⊥) → (kind ≡ Closing → ⊥) → (kind ≡ End → ⊥)
        → kind_at text (span_of n).from ≡ kind → (i < length text) × (kind_at text i ≡ Closing → ⊥)
    at kind blank closing end here =
        let same : i ≡ (span_of n).from =
        gap_ends text from i _ gap stop.stops passes.gap (λ b. blank (sym here ∙ b)) in (
          kind_within text i (λ e. end (sym here ∙ (sym (ap (kind_at text) same) ∙ e))),
          λ c. closing (sym here ∙ (sym (ap (kind_at text) same) ∙ c)),
        )
