-- Nodes that a text spells; where it is asked, without the word `call` but at the heads of lists.
use Rattle.std.proofs.Common.{◌≡◌, ℕ, Bool, true, false, ◌&&◌, ◌||◌, List, refl, bytes_eq, codes}
use Rattle.hp_syntax.specs.Forest.{Node, Word, Numeral, Group, Forest, Bare, Grow}
use Rattle.hp_syntax.specs.Steps.{is_word}
use Rattle.hp_print.proofs.CanSpell as tokens
use Rattle.hp_replay.specs.StrayCalls.{stray_call, stray_call_in, stray_calls}

-- nothing holds together with what doesn't
pub never : (a : Bool) → a && false ≡ false
never true = refl
never false = refl

-- where a test doesn't hold with either of two, it holds with neither
apart : (a b c : Bool) → a && (b || c) ≡ false → (a && b ≡ false) × (a && c ≡ false)
apart false b c h = (refl, refl)
apart true true c h = absurd cc
apart true false c h = (refl, h)

module _ (free : Bool) where
  -- a name that a token spells, and that isn't `call` where no symbol may be
  pub record IsReadWord (text : List ℕ) : Type 0 where
    pub token : tokens.IsName text
    pub other : free && bytes_eq text (codes "call") ≡ false

  -- each word and number of a node can be read, where the heads of lists may be any words
  abbrev mutual
    pub CanRead : Node → Type 0
    CanRead (Word s text) = IsReadWord text
    CanRead (Numeral s n) = tokens.IsNumber n
    CanRead (Group s parts) = CanReadList parts

    -- the same of the items of a list
    pub CanReadList : Forest → Type 0
    CanReadList Bare = Unit {0}
    CanReadList (Grow (Word s text) rest) = tokens.IsName text × CanReadAll rest
    CanReadList (Grow (Numeral s n) rest) = tokens.IsNumber n × CanReadAll rest
    CanReadList (Grow (Group s parts) rest) = CanReadList parts × CanReadAll rest

    -- the same of nodes behind the head of a list
    pub CanReadAll : Forest → Type 0
    CanReadAll Bare = Unit {0}
    CanReadAll (Grow n rest) = CanRead n × CanReadAll rest

  -- a node can be read if it is a list
  abbrev pub CanReadItem : Node → Type 0
  CanReadItem (Word s text) = Unit {0}
  CanReadItem (Numeral s n) = Unit {0}
  CanReadItem (Group s parts) = CanReadList parts

  -- the same of each of these nodes
  abbrev pub CanReadItems : Forest → Type 0
  CanReadItems Bare = Unit {0}
  CanReadItems (Grow n rest) = CanReadItem n × CanReadItems rest

  -- what can be read can be read if it is a list
  pub as_item : (n : Node) → CanRead n → CanReadItem n
  as_item (Word s text) h = tt
  as_item (Numeral s n) h = tt
  as_item (Group s parts) h = h

  -- so can each of these nodes
  as_items : (f : Forest) → CanReadAll f → CanReadItems f
  as_items Bare h = tt
  as_items (Grow n rest) h = (as_item n h.0, as_items rest h.1)

  -- so can the items of a list
  pub list_items : (f : Forest) → CanReadList f → CanReadItems f
  list_items Bare h = tt
  list_items (Grow (Word s text) rest) h = (tt, as_items rest h.1)
  list_items (Grow (Numeral s n) rest) h = (tt, as_items rest h.1)
  list_items (Grow (Group s parts) rest) h = (h.0, as_items rest h.1)

  -- the head of a list can be read, if it isn't `call`
  pub head_read : (n : Node) (rest : Forest) → CanReadList (Grow n rest) → is_word (codes "call") n ≡ false → CanRead n
  head_read (Word s text) rest h e = record { token = h.0; other = rw e (never free) }
  head_read (Numeral s n) rest h e = h.0
  head_read (Group s parts) rest h e = h.0

  -- what stands behind the head of a list can be read
  pub rest_read : (n : Node) (rest : Forest) → CanReadList (Grow n rest) → CanReadAll rest
  rest_read (Word s text) rest h = h.1
  rest_read (Numeral s n) rest h = h.1
  rest_read (Group s parts) rest h = h.1

  mutual
    -- a node that can be spelled can be read, if no `call` stands elsewhere than at the head of a list
    node_can_read : (n : Node) → tokens.CanSpell n → free && stray_call n ≡ false → CanRead n
    node_can_read (Word s text) c h = record { token = c; other = h }
    node_can_read (Numeral s n) c h = c
    node_can_read (Group s parts) c h = list_can_read parts c h

    -- so can the items of a list
    list_can_read : (f : Forest) → tokens.CanSpellAll f → free && stray_call_in f ≡ false → CanReadList f
    list_can_read Bare c h = tt
    list_can_read (Grow (Word s text) rest) c h = (c.0, all_can_read rest c.1 h)
    list_can_read (Grow (Numeral s n) rest) c h = (c.0, all_can_read rest c.1 h)
    list_can_read (Grow (Group s parts) rest) c h =
        let a = apart free (stray_call_in parts) (stray_calls rest) h in
        (list_can_read parts c.0 a.0, all_can_read rest c.1 a.1)

    -- so can nodes behind the head of a list
    pub all_can_read : (f : Forest) → tokens.CanSpellAll f → free && stray_calls f ≡ false → CanReadAll f
    all_can_read Bare c h = tt
    all_can_read (Grow n rest) c h =
        let a = apart free (stray_call n) (stray_calls rest) h in
        (node_can_read n c.0 a.0, all_can_read rest c.1 a.1)
