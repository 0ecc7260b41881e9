-- The nodes that the reader makes are nodes of the text.
use Rattle.std.proofs.Common.{◌≡◌, ℕ, ◌+◌, ◌-◌, ◌<◌, ◌≤◌, List, length, map, Vec, ℤ, slice_range, [], ◌∷◌, ◌++◌, sym, refl, ◌∙◌, arith}
use Rattle.std.specs.Global.{Global}
use Rattle.std.proofs.lemmas.List.{map-append}
use Rattle.hp_syntax.specs.Text.{Opening, Closing, NameByte, Blank, kind_at, IsGap, IsToken, AName, ANumber, spelling_of}
use Rattle.hp_syntax.specs.Refusal.{open_before}
use Rattle.hp_syntax.specs.Forest as plain
use Rattle.hp_syntax.specs.Forest.{span_of}
use Rattle.hp_syntax.proofs.TextLemmas.{level_over_token, level_over_list}
use Rattle.hp_syntax.specs.declared.name.Name.{Name}
use Rattle.hp_text.specs.declared.forest.Node.{Node}
use Rattle.hp_text.specs.declared.forest.NodeKind.TheVariants as kinds
use Rattle.hp_text.specs.Nodes.{node_of, nodes_of}
use Rattle.hp_text.specs.NodeLaws.{node_of-name, node_of-number, node_of-list}
use Rattle.hp_text.specs.Places.{IsBetween, IsNodeAt, AreRead}
use Rattle.hp_text.proofs.PlaceLemmas.{between_brackets}
use Rattle.hp_text.proofs.ReadSteps.{read_more, read_spelled}

-- an opening bracket is no name byte
pub opening_no_name : (text : List ℕ) (i : ℕ) → kind_at text i ≡ Opening → kind_at text i ≡ NameByte → ⊥
opening_no_name text i e k = let x : Opening ≡ NameByte = sym e ∙ k in cc

-- an opening bracket is no blank
pub opening_no_blank : (text : List ℕ) (i : ℕ) → kind_at text i ≡ Opening → kind_at text i ≡ Blank → ⊥
opening_no_blank text i e k = let x : Opening ≡ Blank = sym e ∙ k in cc

-- a name with the span of its token
pub name_at : (text : List ℕ) (from to : ℕ) (n : Node) (name : Name) → n.span.from ≡ from → n.span.to ≡ to
    → n.kind ≡ kinds.Name name → IsToken text from to → IsBetween text to → name ≡ slice_range text from to
    → spelling_of (slice_range text from to) ≡ AName → IsNodeAt text from n
name_at text from to n name begins ends kind token place same spells =
    let e : node_of n ≡ plain.Word n.span name = node_of-name n name kind in
    let grown : from < to = token.some in
    record {
      span = rw e refl;
      begins = begins;
      grows = omega arith;
      spelled = rw (e, begins, ends) (record { token = token; spells = spells }, same);
      brackets = rw ends (level_over_token text from to token);
      place = rw ends place;
    }

-- a number with the span of its token
pub number_at : (text : List ℕ) (from to : ℕ) (n : Node) (z : ℤ) → n.span.from ≡ from → n.span.to ≡ to
    → n.kind ≡ kinds.Num z → IsToken text from to → IsBetween text to
    → spelling_of (slice_range text from to) ≡ ANumber z → IsNodeAt text from n
number_at text from to n z begins ends kind token place spells =
    let e : node_of n ≡ plain.Numeral n.span z = node_of-number n z kind in
    let grown : from < to = token.some in
    record {
      span = rw e refl;
      begins = begins;
      grows = omega arith;
      spelled = rw (e, begins, ends) (record { token = token; spells = spells });
      brackets = rw ends (level_over_token text from to token);
      place = rw ends place;
    }

-- a list with the span of its brackets
pub list_at : (text : List ℕ) (from end : ℕ) (n : Node) (nodes : Vec Node Global) → n.span.from ≡ from
    → n.span.to ≡ end + 1 → n.kind ≡ kinds.List nodes → end < length text → kind_at text from ≡ Opening
    → kind_at text end ≡ Closing → AreRead text (from + 1) end (map node_of nodes.items) → IsNodeAt text from n
list_at text from end n nodes begins ends kind within opens closes r =
    let e : node_of n ≡ plain.Group n.span (nodes_of nodes.items) = node_of-list n nodes kind in
    let order : from + 1 ≤ end = r.order in
    let last : n.span.to - 1 ≡ end = omega arith in
    record {
      span = rw e refl;
      begins = begins;
      grows = omega arith;
      spelled =
          rw (e, last, begins)
          (opens, omega arith, closes, read_spelled text (from + 1) end (map node_of nodes.items) r);
      brackets = rw ends (level_over_list text from end opens closes r.brackets);
      place =
          rw ends
          (between_brackets text end within (λ k. let x : Closing ≡ NameByte = sym closes ∙ k in cc)
          (λ k. let x : Closing ≡ Blank = sym closes ∙ k in cc));
    }

-- a node that is pushed, and the gap behind it
pub read_pushed : (text : List ℕ) (from at' to : ℕ) (ns more : List Node) (n : Node) → more ≡ ns ++ n ∷ []
    → AreRead text from at' (map node_of ns) → IsNodeAt text at' n → IsGap text n.span.to to
    → AreRead text from to (map node_of more)
read_pushed text from at' to ns more n e r h gap =
    let s : span_of (node_of n) ≡ n.span = sym h.span in
    let begins : (span_of (node_of n)).from ≡ at' = rw s h.begins in
    let grown : at' < n.span.to = h.grows in
    let ends : at' ≤ (span_of (node_of n)).to = rw s (omega arith) in
    let same : open_before text (span_of (node_of n)).to ≡ open_before text at' = rw s h.brackets in
    let last : IsGap text (span_of (node_of n)).to to = rw s gap in
    rw (e, map-append) (read_more text from at' to (map node_of ns) (node_of n) r begins ends h.spelled same last)
