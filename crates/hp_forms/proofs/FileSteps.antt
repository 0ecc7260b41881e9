-- A file whose only node is read from no names on.
use Rattle.std.proofs.Common.{◌≡◌, ◌∙◌, ap, sym, refl, ℕ, List, Result, Ok, Err, [], true, false, cond, bytes_eq, Bool, Some, None}
use Rattle.hp_syntax.specs.declared.form.What.{What}
use Rattle.hp_syntax.specs.declared.form.What.TheVariants as wants
use Rattle.hp_syntax.specs.declared.pattern.Span.{Span}
use Rattle.hp_syntax.specs.Forest.{Node, Forest, Word, Numeral, Group, Bare, Grow, span_of}
use Rattle.hp_syntax.specs.Steps.{Misform, Expected, Names, Parse, and_then, pure, ended, next, expected, is_word, ◌>>=◌, value_in, from_no_names}
use Rattle.hp_syntax.specs.Grammar.{file, file_list, list, is_nil}
use Rattle.hp_text.specs.Nodes.{parts_of}
use Rattle.hp_terms.specs.FormReads.{Refuses}
use Rattle.hp_terms.specs.declared.refusal.FormRefusal.{FormRefusal}
use Rattle.hp_terms.specs.declared.refusal.FormRefusal.TheVariants as refusals
use Rattle.hp_terms.proofs.Turns.{refused_same}

-- a value, where nothing follows
abbrev pub alone : {A : Type 0} → Result A Misform → Forest → Result A Misform
alone (Ok x) Bare = Ok x
alone (Ok x) (Grow n rest) = Err (Expected wants.End (span_of n))
alone (Err e) rest = Err e

value_alone : {A : Type 0} (r : Result (A × Names) Misform) (rest : Forest)
    → value_in (and_then r (λ x. ended rest >>= (λ _. pure x))) ≡ alone (value_in r) rest
value_alone (Ok p) Bare = refl
value_alone (Ok p) (Grow n rest) = refl
value_alone (Err e) Bare = refl
value_alone (Err e) (Grow n rest) = refl

-- a file is its first node, where nothing follows
pub file-alone : {A : Type 0} (what : What) (node : Node → Parse A) (len : ℕ) (f : Forest) (n : Node) (rest : Forest)
    → f ≡ Grow n rest → from_no_names (file what node len f) ≡ alone (from_no_names (node n)) rest
unfolding file
file-alone what node len f n rest at =
    ap (λ g. from_no_names (file what node len g)) at ∙ value_alone (node n []) rest

-- a refusal of the node is one of the file
pub alone_refused : {A : Type 0} (e : FormRefusal) (r : Result A Misform) (rest : Forest)
    → Refuses e r → Refuses e (alone r rest)
alone_refused (refusals.Expected what span) r rest h = ap (λ x. alone x rest) h
alone_refused refusals.NoMemory r rest h = h

-- a refusal of a second node is one of the file
pub alone_left : {A : Type 0} (e : FormRefusal) (r : Result A Misform) (x : A) (rest : Forest) (names : Names)
    → r ≡ Ok x → Refuses e (ended rest names) → Refuses e (alone r rest)
alone_left e r x rest names at h = refused_same e (alone r rest) (alone (Ok x) rest) (ap (λ y. alone y rest) at)
    (left e x rest names h) where
      left : {A : Type 0} (e : FormRefusal) (x : A) (rest : Forest) (names : Names)
          → Refuses e (ended rest names) → Refuses e (alone (Ok x) rest)
      left (refusals.Expected what span) x Bare names h = cc
      left (refusals.Expected what span) x (Grow n rest) names h = cc
      left refusals.NoMemory x rest names h = h

-- where nothing follows the value is the file's
pub alone_value : {A : Type 0} (r : Result A Misform) (x : A) (rest : Forest) (names : Names)
    → r ≡ Ok x → ended rest names ≡ Ok (tt, names) → alone r rest ≡ Ok x
alone_value r x Bare names at h = ap (λ y. alone y Bare) at
alone_value r x (Grow n rest) names at h = cc

-- the nodes that are taken and those that are left, joined again
abbrev joined : Result ((Node × Forest) × Names) Misform → Forest
joined (Ok p) = Grow p.0.0 p.0.1
joined (Err e) = Bare

-- a forest with a next item is that item and the rest
pub next_is : (what : What) (end : Span) (f : Forest) (first : Node) (rest : Forest) (names : Names)
    → next what end f names ≡ Ok ((first, rest), names) → f ≡ Grow first rest
next_is what end f first rest names h = sym (same f) ∙ ap joined h
  where
    same : (f : Forest) → joined (next what end f names) ≡ f
    same Bare = refl
    same (Grow n g) = refl

module _ {A : Type 0} (what : What) (key : List ℕ) (parts : Span → Forest → Parse A) (s : Span) (names : Names) where
  -- a refusal of a list's first item is one of the list
  pub list_refused : (e : FormRefusal) (f : Forest) → Refuses e (next what s f names)
      → Refuses e (file_list what key parts (Group s f) names)
  unfolding file_list
  list_refused (refusals.Expected w t) Bare h = cc
  list_refused (refusals.Expected w t) (Grow n rest) h = cc
  list_refused refusals.NoMemory f h = h

  -- a list that begins with the word is its parts
  pub list_named : (first : Node) (rest : Forest) → is_word key first ≡ true
      → file_list what key parts (Group s (Grow first rest)) names ≡ parts s rest names
  unfolding file_list
  list_named (Word t text) rest h = ap (λ b. cond b (parts s rest) (expected what s) names) h
  list_named (Numeral t n) rest h = cc
  list_named (Group t f) rest h = cc

  -- a list that begins otherwise is refused
  pub list_unnamed : (first : Node) (rest : Forest) → is_word key first ≡ false
      → file_list what key parts (Group s (Grow first rest)) names ≡ Err (Expected what s)
  unfolding file_list
  list_unnamed (Word t text) rest h = ap (λ b. cond b (parts s rest) (expected what s) names) h
  list_unnamed (Numeral t n) rest h = refl
  list_unnamed (Group t f) rest h = refl

-- a node without parts begins with no word
pub partless_refused : {A : Type 0} (what : What) (key : List ℕ) (parts : Span → Forest → Parse A) (n : Node)
    (names : Names) → parts_of n ≡ None → file_list what key parts n names ≡ Err (Expected what (span_of n))
unfolding file_list
partless_refused what key parts (Word s text) names h = refl
partless_refused what key parts (Numeral s n) names h = refl
partless_refused what key parts (Group s f) names h = cc

-- the items of what has parts are the parts
pub list-parts : (what : What) (n : Node) (f : Forest) (names : Names) → parts_of n ≡ Some f
    → list what n names ≡ Ok (f, names)
unfolding list
list-parts what (Word s text) f names h = cc
list-parts what (Numeral s n) f names h = cc
list-parts what (Group s g) f names h = cc

-- the items of what has no parts are none
pub list-none : (what : What) (n : Node) (f : Forest) (names : Names) → parts_of n ≡ None
    → list what n names ≡ Ok (f, names) → list what n names ≡ Ok (Bare, names)
unfolding list
list-none what (Word s text) f names h r = word (is_nil text) r
  where
    word : (b : Bool) → cond b (pure Bare) (expected what s) names ≡ Ok (f, names)
        → cond b (pure Bare) (expected what s) names ≡ Ok (Bare, names)
    word true r = refl
    word false r = cc
list-none what (Numeral s n) f names h r = cc
list-none what (Group s g) f names h r = cc

-- a list that begins with a word is read by what follows the word
pub list_behind : {A : Type 0} (what : What) (key : List ℕ) (parts : Span → Forest → Parse A) (n : Node) (names : Names)
    → file_list what key parts n names
    ≡ and_then (file_list what key (λ s rest. pure rest) n names) (parts (span_of n))
unfolding file_list
list_behind what key parts (Word s text) names = refl
list_behind what key parts (Numeral s n) names = refl
list_behind what key parts (Group s Bare) names = refl
list_behind what key parts (Group s (Grow (Numeral t n) rest)) names = refl
list_behind what key parts (Group s (Grow (Group t f) rest)) names = refl
list_behind what key parts (Group s (Grow (Word t text) rest)) names = elim (bytes_eq text key) as
    (λ b. cond b (parts s rest) (expected what s) names
    ≡ and_then (cond b (pure rest) (expected what s) names) (parts s)) [ true ↦ refl | false ↦ refl ]

-- a refusal of a step is one of its value
pub value_refused : {A : Type 0} (e : FormRefusal) (r : Result (A × Names) Misform) → Refuses e r
    → Refuses e (value_in r)
value_refused (refusals.Expected what span) r h = ap value_in h
value_refused refusals.NoMemory r h = h
