-- How nodes that were read one after the other join.
use Rattle.std.proofs.Common.{◌≡◌, ℕ, ◌+◌, ◌≤◌, List, [], ◌∷◌, ◌++◌, length, ap, ◌∙◌, sym, refl, arith}
use Rattle.hp_syntax.specs.Text.{IsGap}
use Rattle.hp_syntax.specs.Refusal.{open_before, IsClear}
use Rattle.hp_syntax.specs.Forest.{Node, Forest, Bare, Grow, span_of, Spells, SpellsNode, IsForest}
use Rattle.hp_syntax.proofs.TextLemmas.{level_over_gap}
use Rattle.hp_text.specs.Nodes.{grown}
use Rattle.hp_text.specs.Places.{AreRead, joined}
use Rattle.hp_text.proofs.PlaceLemmas.{gap_none, gap_gap}

-- a gap before a forest is part of what spells it
gap_then : (text : List ℕ) (a b to : ℕ) (g : Forest) → IsGap text a b → Spells text b to g → Spells text a to g
gap_then text a b to Bare h s = gap_gap text a b to h s
gap_then text a b to (Grow n f) h (s, t, u) = (gap_gap text a b (span_of n).from h s, t, u)

-- a node behind others comes before what follows
joined_last : (ns : List Node) (n : Node) (g : Forest) → joined (ns ++ n ∷ []) g ≡ joined ns (Grow n g)
joined_last [] n g = refl
joined_last (m ∷ ns) n g = ap (Grow m) (joined_last ns n g)

-- with nothing behind them the nodes are their forest
joined_bare : (ns : List Node) → joined ns Bare ≡ grown ns
joined_bare [] = refl
joined_bare (m ∷ ns) = ap (Grow m) (joined_bare ns)

-- nothing is read over a gap
pub read_none : (text : List ℕ) (from to : ℕ) → IsGap text from to → AreRead text from to []
read_none text from to g = record {
  order = g.order;
  spelled = λ end f s. gap_then text from to end f g s;
  brackets = level_over_gap text from to g;
}

-- one more node is read, and the gap behind it
pub read_more : (text : List ℕ) (from at' to : ℕ) (ns : List Node) (n : Node) → AreRead text from at' ns
    → (span_of n).from ≡ at' → at' ≤ (span_of n).to → SpellsNode text n
    → open_before text (span_of n).to ≡ open_before text at' → IsGap text (span_of n).to to
    → AreRead text from to (ns ++ n ∷ [])
read_more text from at' to ns n r begins ends spelled same gap = record {
  order = let o : from ≤ at' = r.order in let q : (span_of n).to ≤ to = gap.order in omega arith;
  spelled =
      λ end g s. rw joined_last
      (r.spelled end (Grow n g)
      (gap_none text at' (span_of n).from (sym begins), spelled, gap_then text (span_of n).to to end g gap s));
  brackets = level_over_gap text (span_of n).to to gap ∙ same ∙ r.brackets;
}

-- the nodes that were read are spelled up to there
pub read_spelled : (text : List ℕ) (from to : ℕ) (ns : List Node) → AreRead text from to ns
    → Spells text from to (grown ns)
read_spelled text from to ns r = rw (← joined_bare ns) (r.spelled to Bare (gap_none text to to refl))

-- a whole text that was read
pub read_whole : (text : List ℕ) (to : ℕ) (ns : List Node) → IsClear text (length text + 1) → to ≡ length text
    → AreRead text 0 to ns → IsForest text (grown ns)
read_whole text to ns c e r = record { spelled = rw (← e) (read_spelled text 0 to ns r); clear = c }
