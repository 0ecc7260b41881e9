-- The texts of domains and problems begin with what is written of them, however large it is.
use Rattle.std.proofs.Common.{◌≡◌, ℕ, ◌+◌, max, List, [], ◌∷◌, ◌++◌, refl, ◌∙◌, ap, ap₂, arith, subst}
use Rattle.std.specs.Prelude.{codes}
use Rattle.std.proofs.lemmas.List.{append_assoc}
use Rattle.hp_syntax.specs.Text.{Opening, kind_at, IsOutside}
use Rattle.hp_syntax.specs.Forest.{Node, Word, Numeral, Group, Forest, Bare, Grow, span_of, nesting, nesting_of_node}
use Rattle.hp_syntax.specs.Syntax.{Domain, Problem}
use Rattle.hp_syntax.specs.Unplaced as unplaced
use Rattle.hp_syntax.specs.Written as written
use Rattle.hp_syntax.specs.Written.{nowhere, word, group, worded, one, two, lines, rules, pairs}
use Rattle.hp_print.proofs.CanSpell.{IsName, CanSpell, CanSpellAll}
use Rattle.hp_print.proofs.TextLayout.{Stands, Breaks, NodePlace, ForestPlace, byte_stands, outside_after, nothing_placed, blank_placed, grown, list_placed, word_placed, lines_placed}

-- places don't change how deep lists nest
mutual
  unfolding unplaced.node unplaced.forest

  pub nesting_of_node-unplaced : (n : Node) → nesting_of_node (unplaced.node n) ≡ nesting_of_node n
  nesting_of_node-unplaced (Word s name) = refl
  nesting_of_node-unplaced (Numeral s n) = refl
  nesting_of_node-unplaced (Group s parts) = ap (λ k. 1 + k) (nesting-unplaced parts)

  pub nesting-unplaced : (f : Forest) → nesting (unplaced.forest f) ≡ nesting f
  nesting-unplaced Bare = refl
  nesting-unplaced (Grow n f) = ap₂ max (nesting_of_node-unplaced n) (nesting-unplaced f)

-- a list is laid out from the first byte of a text on
pub record BeginsWith (text : List ℕ) (n : Node) : Type 0 where
  pub opens : kind_at text 0 ≡ Opening
  pub place : NodePlace text 0 n (10 ∷ [])

-- the whole text stands at its beginning
text_stands : (text : List ℕ) → Stands text 0 text
text_stands text = record { within = omega arith; rest = refl; quiet = refl }

module _ (text : List ℕ) where
  -- the bytes of a word lay it out, before what is laid out behind it
  word_then : (a : ℕ) (xs more rest : List ℕ) (f : Forest) → IsName xs → IsOutside text a → Stands text a (xs ++ more)
      → Breaks more → ((b : ℕ) → Stands text b more → ForestPlace text b f rest)
      → ForestPlace text a (Grow (word xs) f) rest
  word_then a xs more rest f c o t b h =
      let p = word_placed text nowhere xs more a c o t b in
      grown text a (word xs) f more rest p (h (span_of p.node).to p.after)

  -- the bytes of a word behind a space lay it out, before what is laid out behind it
  space_then : (a : ℕ) (xs more rest : List ℕ) (f : Forest) → IsName xs → Stands text a (32 ∷ (xs ++ more))
      → Breaks more → ((b : ℕ) → Stands text b more → ForestPlace text b f rest)
      → ForestPlace text a (Grow (word xs) f) rest
  space_then a xs more rest f c t b h =
      let p = byte_stands text a 32 (xs ++ more) t refl in
      let o = outside_after text a 32 (xs ++ more) t refl in
      blank_placed text a (Grow (word xs) f) rest p.0 (word_then (a + 1) xs more rest f c o p.1 b h)

  -- lines behind a line feed lay out their nodes
  feed_then : (a : ℕ) (f : Forest) (rest : List ℕ) → CanSpellAll f → Stands text a (10 ∷ (lines f ++ rest))
      → ForestPlace text a f rest
  feed_then a f rest c t =
      let p = byte_stands text a 10 (lines f ++ rest) t refl in
      let o = outside_after text a 10 (lines f ++ rest) t refl in
      blank_placed text a f rest p.0 (lines_placed text f rest (a + 1) c o p.1)

  -- lines in brackets behind a space lay out a list of their nodes
  list_then : (a : ℕ) (f : Forest) (rest : List ℕ) → CanSpellAll f
      → Stands text a (32 ∷ 40 ∷ 10 ∷ (lines f ++ (41 ∷ rest))) → ForestPlace text a (one (group f)) rest
  list_then a f rest c t =
      let more = 10 ∷ (lines f ++ (41 ∷ rest)) in
      let p = byte_stands text a 32 (40 ∷ more) t refl in
      let q = byte_stands text (a + 1) 40 more p.1 refl in
      let l = list_placed text (a + 1) nowhere f rest q.0 (feed_then (a + 1 + 1) f (41 ∷ rest) c q.1) in
      blank_placed text a (one (group f)) rest p.0
      (grown text (a + 1) (group f) Bare rest rest l (nothing_placed text (span_of l.node).to rest l.after))

  -- a text that is a list with a word at its head begins with the list
  file_placed : (xs more : List ℕ) (f : Forest) → IsName xs → text ≡ 40 ∷ (xs ++ more) → Breaks more
      → ((b : ℕ) → Stands text b more → ForestPlace text b f (41 ∷ 10 ∷ []))
      → BeginsWith text (worded xs f)
  file_placed xs more f c e b h =
      let t = subst (Stands text 0) e (text_stands text) in
      let p = byte_stands text 0 40 (xs ++ more) t refl in
      let o = outside_after text 0 40 (xs ++ more) t refl in
      record {
        opens = p.0;
        place = list_placed text 0 nowhere (Grow (word xs) f) (10 ∷ []) p.0
            (word_then 1 xs more (41 ∷ 10 ∷ []) f c o p.1 b h);
      }

-- behind the name of a domain its rules follow, and the end
abbrev rules_text : Domain → List ℕ
rules_text d = 32 ∷ 40 ∷ 10 ∷ (lines (rules d.rules) ++ (41 ∷ 41 ∷ 10 ∷ []))

-- the text of a domain is one list, which begins with its word and its name
domain_begins : (d : Domain)
    → written.domain_text d ≡ 40 ∷ (codes "defdomain" ++ (32 ∷ (d.name ++ rules_text d)))
unfolding written.domain_text
domain_begins d =
    append_assoc (codes "(defdomain " ++ d.name ++ codes " (\n") (lines (rules d.rules)) (codes "))\n")
    ∙ (append_assoc (codes "(defdomain " ++ d.name) (codes " (\n") _ ∙ append_assoc (codes "(defdomain ") d.name _)

-- the text of a domain begins with what is written of it
pub domain_placed : (d : Domain) → CanSpell (written.domain d)
    → BeginsWith (written.domain_text d) (written.domain d)
unfolding written.domain
domain_placed d c =
    let text = written.domain_text d in
    let end = 41 ∷ 10 ∷ [] in
    file_placed text (codes "defdomain") (32 ∷ (d.name ++ rules_text d)) (two (word d.name) (group (rules d.rules))) c.0
    (domain_begins d) refl
    (λ a t. space_then text a d.name (rules_text d) end (one (group (rules d.rules))) c.1.0 t refl
    (λ b u. list_then text b (rules d.rules) end c.1.1.0 u))

-- behind the name of a problem's domain its pairs follow, and the end
abbrev pairs_text : Problem → List ℕ
pairs_text p = 10 ∷ (lines (pairs p.vars p.pairs) ++ (41 ∷ 10 ∷ []))

-- the text of a problem is one list, which begins with its word, its name and the name of its domain
problem_begins : (p : Problem) → written.problem_text p
    ≡ 40 ∷ (codes "defproblem" ++ (32 ∷ (p.name ++ (32 ∷ (p.domain ++ pairs_text p)))))
unfolding written.problem_text
problem_begins p =
    let parts = lines (pairs p.vars p.pairs) in
    append_assoc (codes "(defproblem " ++ p.name ++ codes " " ++ p.domain ++ codes "\n") parts (codes ")\n")
    ∙ (append_assoc (codes "(defproblem " ++ p.name ++ codes " " ++ p.domain) (codes "\n") _
    ∙ (append_assoc (codes "(defproblem " ++ p.name ++ codes " ") p.domain _
    ∙ (append_assoc (codes "(defproblem " ++ p.name) (codes " ") _ ∙ append_assoc (codes "(defproblem ") p.name _)))

-- the text of a problem begins with what is written of it
pub problem_placed : (p : Problem) → CanSpell (written.problem p)
    → BeginsWith (written.problem_text p) (written.problem p)
unfolding written.problem
problem_placed p c =
    let text = written.problem_text p in
    let end = 41 ∷ 10 ∷ [] in
    let parts = pairs p.vars p.pairs in
    let named = 32 ∷ (p.domain ++ pairs_text p) in
    file_placed text (codes "defproblem") (32 ∷ (p.name ++ named)) (Grow (word p.name) (Grow (word p.domain) parts)) c.0
    (problem_begins p) refl
    (λ a t. space_then text a p.name named end (Grow (word p.domain) parts) c.1.0 t refl
    (λ b u. space_then text b p.domain (pairs_text p) end parts c.1.1.0 u refl
    (λ e v. feed_then text e parts end c.1.1.1 v)))
