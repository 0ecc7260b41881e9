-- Each node that a text spells can be spelled.
use Rattle.std.proofs.Common.{◌≡◌, ℕ, ◌+◌, ◌-◌, ◌<◌, ◌≤◌, true, List, length, get_or, sym, ◌∙◌, ap, arith, subst}
use Rattle.std.specs.Prelude.{slice_range, drop}
use Rattle.std.specs.List.{list_all}
use Rattle.std.proofs.lemmas.List.{get_or-take, get_or-drop, length-take, length-drop}
use Rattle.std.proofs.lemmas.List.Sums.{list_all-from_AllPass}
use Rattle.std.proofs.lemmas.List.{get_or_default}
use Rattle.hp_syntax.specs.declared.limits.TheConstants.{LONGEST_TOKEN}
use Rattle.hp_syntax.specs.Text.{is_name_byte, IsToken}
use Rattle.hp_syntax.specs.Forest.{Node, Word, Numeral, Group, Forest, Bare, Grow, span_of, SpellsNode, Spells, IsForest, longest_token, longest_token_of_node}
use Rattle.hp_syntax.proofs.TextLemmas.{kind_within, name_byte_only}
use Rattle.hp_syntax.proofs.LimitLemmas.{forest_keeps_limits}
use Rattle.hp_print.proofs.CanSpell.{IsName, CanSpell, CanSpellAll}
use Rattle.hp_print.proofs.NumberTexts.{number_can_spell, spelled_in_range}

-- a token ends within the text
token_within : (text : List ℕ) (a b : ℕ) → IsToken text a b → b ≤ length text
token_within text a b t =
    let s : a < b = t.some in
    let w = kind_within text (b - 1) (λ e. (let k = t.run (b - 1) (omega arith) (omega arith) in absurd cc)) in
    omega arith

-- a token has as many bytes as its span
token_length : (text : List ℕ) (a b : ℕ) → IsToken text a b → length (slice_range text a b) ≡ b - a
token_length text a b t = let w = token_within text a b t in simp (length-take, length-drop) (omega arith)

-- the bytes of a token are name bytes
token_bytes : (text : List ℕ) (a b : ℕ) → IsToken text a b → list_all is_name_byte (slice_range text a b) ≡ true
token_bytes text a b t = list_all-from_AllPass is_name_byte (slice_range text a b) each
  where
    each : (i d : ℕ) → i < length (slice_range text a b) → is_name_byte (get_or (slice_range text a b) i d) ≡ true
    each i d l =
        let m = token_length text a b t in
        let e = get_or_default (slice_range text a b) i d 0 l
        ∙ (get_or-take (b - a) (drop a text) i 0 (omega arith) ∙ get_or-drop a text i 0) in
        ap is_name_byte e ∙ name_byte_only text (a + i) (t.run (a + i) (omega arith) (omega arith))

-- a forest that a text spells without long tokens can be spelled
mutual
  node_can_spell : (text : List ℕ) (n : Node) → SpellsNode text n → longest_token_of_node n ≤ LONGEST_TOKEN → CanSpell n
  node_can_spell text (Word s name) h l =
      let m = token_length text s.from s.to h.0.token in
      let o : s.from < s.to = h.0.token.some in
      subst IsName (sym h.1) (record {
        bytes = token_bytes text s.from s.to h.0.token;
        some = omega arith;
        short = omega arith;
        spells = h.0.spells;
      })
  node_can_spell text (Numeral s n) h l =
      number_can_spell n (spelled_in_range (slice_range text s.from s.to) n h.spells)
  node_can_spell text (Group s parts) h l = forest_can_spell text (s.from + 1) (s.to - 1) parts h.3 l

  forest_can_spell : (text : List ℕ) (a e : ℕ) (f : Forest) → Spells text a e f → longest_token f ≤ LONGEST_TOKEN
      → CanSpellAll f
  forest_can_spell text a e Bare h l = tt
  forest_can_spell text a e (Grow n f) h l =
      (node_can_spell text n h.1 (omega arith), forest_can_spell text (span_of n).to e f h.2 (omega arith))

-- each token of the forest of a text can be spelled
pub can_spell : (text : List ℕ) (f : Forest) → IsForest text f → CanSpellAll f
can_spell text f h =
    forest_can_spell text 0 (length text) f h.spelled (forest_keeps_limits text f h).1
