-- Written terms and atoms are read as these again, up to spans.
use Rattle.std.proofs.Common.{◌≡◌, ℕ, Bool, false, List, [], ◌∷◌, map, Option, None, Ok, refl, sym, subst, bytes_eq, codes}
use Rattle.hp_syntax.specs.declared.pattern.Span.{Span}
use Rattle.hp_syntax.specs.declared.pattern.Tail.{Tail}
use Rattle.hp_syntax.specs.declared.form.What.{What}
use Rattle.hp_syntax.specs.declared.form.What.TheVariants as wants
use Rattle.hp_syntax.specs.Forest.{Node, Word, Numeral, Group, Forest, Bare, Grow, span_of}
use Rattle.hp_syntax.specs.Names.{is_variable, is_plain}
use Rattle.hp_syntax.specs.Steps.{Names, ◌<$>◌, pure, closing, each, is_word}
use Rattle.hp_syntax.specs.Grammar as grammar
use Rattle.hp_syntax.specs.Syntax.{Pattern, Patterns, Variable, Atom}
use Rattle.hp_syntax.specs.Written as written
use Rattle.hp_syntax.specs.Written.{nowhere, word, worded, one, two}
use Rattle.hp_syntax.specs.Unplaced as unplaced
use Rattle.hp_print.proofs.CanSpell.{IsName, CanSpell, CanSpellAll}
use Rattle.hp_print.proofs.UnplacedForms.{map_same, unplaced_parts}
use Rattle.hp_print.proofs.WrittenWords.{dot_name, call_name}
use Rattle.hp_print.proofs.AgainSteps as again_steps

-- ---- names and lists

-- a name is no dot, and is read as itself
pub still_name : {names : Names} (n : Node)
    → again_steps.Still names (λ text. (bytes_eq text (codes ".") ≡ false) × (CanSpell n → IsName text))
    (grammar.name n)
unfolding grammar.name
still_name (Word s text) =
    again_steps.still_choice (bytes_eq text (codes ".")) (λ e. again_steps.still_refusal _)
    (λ e. again_steps.still_pure (e, λ h. h))
still_name (Numeral s n) = again_steps.still_refusal _
still_name (Group s parts) = again_steps.still_refusal _

-- a name that is no dot is read as itself
pub reads_name : {names : Names} {text : List ℕ} → bytes_eq text (codes ".") ≡ false
    → grammar.name (word text) names ≡ Ok (text, names)
unfolding grammar.name
reads_name e = again_steps.reads_false _ _ e refl

-- the items of a list can be spelled if the list can
pub still_list : {names : Names} (what : What) (n : Node)
    → again_steps.Still names (λ f. CanSpell n → CanSpellAll f) (grammar.list what n)
unfolding grammar.list
still_list what (Word s text) = again_steps.still_choice (grammar.is_nil text) (λ e. again_steps.still_pure (λ h. tt))
    (λ e. again_steps.still_refusal _)
still_list what (Numeral s n) = again_steps.still_refusal _
still_list what (Group s parts) = again_steps.still_pure (λ h. h)

-- a fact of a name is one of each name that is equal to it
named : {x text : List ℕ} (P : List ℕ → Type 0) → x ≡ text → P text → P x
named P e h = subst P (sym e) h

-- a term is read again, and written as no word but the one that was read, and as no dot
pub record TermAgain (setting : grammar.Setting) (n : Node) (names : Names) (writing : Node) (v : Pattern) (end : Names)
    : Type 0 where
  pub again : again_steps.Again (grammar.term setting) CanSpell unplaced.pattern (CanSpell n) names writing v end
  pub other : (key : List ℕ) → is_word key n ≡ false → is_word key writing ≡ false
  pub no_dot : is_word (codes ".") writing ≡ false

-- a call is written as a list that begins with `call`, and what follows is read again
pub record CallAgain (setting : grammar.Setting) (H : Type 0) (names : Names) (writing : Node) (v : Pattern)
    (end : Names)
    : Type 0 where
  pub parts : Forest
  pub is : writing ≡ worded (codes "call") parts
  pub reads : grammar.called setting nowhere parts names ≡ Ok (unplaced.pattern v, end)
  pub spells : H → CanSpellAll parts

-- a call that is read again is read again as a term
call_as_term : (setting : grammar.Setting) (s : Span) (n : Node) (rest : Forest) (names : Names) (writing : Node)
    (v : Pattern) (end : Names)
    → CallAgain setting (CanSpellAll rest) names writing v end
    → TermAgain setting (Group s (Grow n rest)) names writing v end
unfolding grammar.term grammar.list_term
call_as_term setting s n rest names writing v end h = record {
  again = record {
    reads = subst (λ (m : Node). grammar.term setting m names ≡ Ok (unplaced.pattern v, end)) (sym h.is) h.reads;
    spells = λ k. subst CanSpell (sym h.is) (call_name, h.spells k.1);
  };
  other = λ key e. subst (λ (m : Node). is_word key m ≡ false) (sym h.is) refl;
  no_dot = subst (λ (m : Node). is_word (codes ".") m ≡ false) (sym h.is) refl;
}

-- the written parts and tail of a list
abbrev pub written_parts : Names → Patterns × Option Tail → Forest
written_parts all x = written.items all x.0 x.1

-- parts and a tail are read again
abbrev pub ItemsAgain : grammar.Setting → Type 0 → Names → Names → Patterns × Option Tail → Names → Type 0
ItemsAgain setting H names all x end =
    again_steps.Again (grammar.items setting nowhere) CanSpellAll unplaced_parts H names (written_parts all x) x end

-- an atom is read again by its name and what follows
pub reads_named : {H : Type 0} {names end : Names} (all : Names) (setting : grammar.Setting) (s : Span) (text : List ℕ)
    (x : Patterns × Option Tail)
    → ItemsAgain setting H names all x end
    → grammar.named_atom setting nowhere text (written_parts all x) names
    ≡ Ok (unplaced.atom (grammar.make_atom s text x), end)
unfolding grammar.named_atom
reads_named all setting s text x h = again_steps.reads_chain _ h.reads refl

module _ {all : Names} where
  -- a variable is read again
  pub again_variable : {names : Names} (n : Node)
      → again_steps.After all names (λ v end. again_steps.Again grammar.variable CanSpell (λ v. v) (CanSpell n) names
      (written.variable all v) v end)
      (grammar.variable n)
  unfolding grammar.variable
  again_variable {names} (Word s text) =
      again_steps.after_choice (is_variable text)
      (λ var. again_steps.after_so (again_steps.after_numbered text) (λ v end h. record {
        reads = named (λ x. grammar.variable (word x) names ≡ Ok (v, end)) h.0 (again_steps.reads_true _ _ var h.1);
        spells = λ k. named IsName h.0 k;
      }))
      (λ var. again_steps.after_refusal _)
  again_variable (Numeral s n) = again_steps.after_refusal _
  again_variable (Group s parts) = again_steps.after_refusal _

  -- variables are read again from a list
  pub again_variables : {names : Names} (n : Node)
      → again_steps.After all names
      (λ vs end. again_steps.Again (each grammar.variable) CanSpellAll (λ vs. vs) (CanSpell n) names
      (written.variables all vs) vs end)
      (grammar.variables n)
  unfolding grammar.variables grammar.variable
  again_variables {names} (Word s text) =
      again_steps.after_choice (grammar.is_nil text) (λ e. again_steps.after_pure
      (record { reads = refl; spells = λ h. tt }))
      (λ e. again_steps.after_choice (is_variable text)
      (λ var. again_steps.after_made (λ v. v ∷ []) (again_steps.after_numbered text) (λ v end h. record {
        reads =
            named (λ x. each grammar.variable (one (word x)) names ≡ Ok (v ∷ [], end)) h.0
            (again_steps.reads_chain _ (again_steps.reads_true _ _ var h.1) refl);
        spells = λ k. named (λ x. IsName x × Unit {0}) h.0 (k, tt);
      }))
      (λ var. again_steps.after_refusal _))
  again_variables (Numeral s n) = again_steps.after_refusal _
  again_variables (Group s parts) =
      again_steps.after_so
      (again_steps.after_each (written.variable all) (written.variables all) (λ v. v) grammar.variable refl
      (λ v vs. refl) parts
      (λ names n. again_variable n))
      (λ vs end h. record { reads = rw map_same at h.reads; spells = h.spells })

  -- ---- terms

  -- a word as a term is read again
  again_word : {names : Names} (setting : grammar.Setting) (s : Span) (text : List ℕ)
      → again_steps.After all names (λ v end. TermAgain setting (Word s text) names (written.pattern all v) v end)
      (grammar.word_term s text)
  unfolding grammar.term grammar.word_term grammar.list_term written.pattern written.items unplaced.pattern
      unplaced.patterns
  again_word {names} setting s text =
      again_steps.after_choice (bytes_eq text (codes ".")) (λ dot. again_steps.after_refusal _)
      (λ dot. again_steps.after_choice (grammar.is_nil text)
      (λ nil. again_steps.after_pure (record {
        again = record { reads = refl; spells = λ h. tt };
        other = λ key h. refl;
        no_dot = refl;
      }))
      (λ nil. again_steps.after_choice (is_variable text)
      (λ var. again_steps.after_made (Variable s) (again_steps.after_numbered text) (λ v end h. record {
        again = record {
          reads =
              named (λ x. grammar.term setting (word x) names ≡ Ok (Variable nowhere v, end)) h.0
              (again_steps.reads_false _ _ dot (again_steps.reads_false _ _ nil (again_steps.reads_true _ _ var
              (again_steps.reads_chain (λ x. pure (Variable nowhere x)) h.1 refl))));
          spells = λ k. named IsName h.0 k;
        };
        other = λ key k. named (λ x. bytes_eq x key ≡ false) h.0 k;
        no_dot = named (λ x. bytes_eq x (codes ".") ≡ false) h.0 dot;
      }))
      (λ var. again_steps.after_pure (record {
        again = record {
          reads = again_steps.reads_false _ _ dot (again_steps.reads_false _ _ nil
              (again_steps.reads_false _ _ var refl));
          spells = λ h. h;
        };
        other = λ key h. h;
        no_dot = dot;
      }))))

  -- a word behind a dot is read again
  again_word_tail : {names : Names} (setting : grammar.Setting) (s : Span) (text : List ℕ)
      → again_steps.After all names (ItemsAgain setting (IsName text) names all) (grammar.word_tail s text)
  unfolding grammar.items grammar.dotted grammar.tail grammar.word_tail written.items unplaced.patterns
  again_word_tail {names} setting s text =
      again_steps.after_choice (grammar.is_nil text) (λ nil. again_steps.after_pure
      (record { reads = refl; spells = λ h. tt }))
      (λ nil. again_steps.after_choice (is_variable text)
      (λ var. again_steps.after_made (grammar.tail_at s) (again_steps.after_numbered text) (λ v end h. record {
        reads =
            named (λ x. grammar.items setting nowhere (two (word (codes ".")) (word x)) names
            ≡ Ok (grammar.tail_at nowhere v, end)) h.0
            (again_steps.reads_chain _
            (again_steps.reads_false _ _ nil (again_steps.reads_true _ _ var
            (again_steps.reads_chain (λ x. pure (grammar.tail_at nowhere x)) h.1 refl)))
            refl);
        spells = λ k. named (λ x. CanSpellAll (two (word (codes ".")) (word x))) h.0 (dot_name, (k, tt));
      }))
      (λ var. again_steps.after_refusal _))

  mutual
    unfolding grammar.term grammar.list_term grammar.items grammar.dotted grammar.tail grammar.list_tail grammar.called
        grammar.terms written.pattern written.items unplaced.pattern
        unplaced.patterns

    -- a term is read again
    pub again_term : {names : Names} (setting : grammar.Setting) (n : Node)
        → again_steps.After all names (λ v end. TermAgain setting n names (written.pattern all v) v end)
        (grammar.term setting n)
    again_term setting (Word s text) = again_word setting s text
    again_term setting (Numeral s n) = again_steps.after_pure (record {
      again = record { reads = refl; spells = λ h. h };
      other = λ key h. refl;
      no_dot = refl;
    })
    again_term setting (Group s parts) = again_list setting s parts

    -- a list as a term is read again
    again_list : {names : Names} (setting : grammar.Setting) (s : Span) (f : Forest)
        → again_steps.After all names (λ v end. TermAgain setting (Group s f) names (written.pattern all v) v end)
        (grammar.list_term setting s f)
    again_list setting s Bare = again_steps.after_pure (record {
      again = record { reads = refl; spells = λ h. tt };
      other = λ key h. refl;
      no_dot = refl;
    })
    again_list {names} setting s (Grow n rest) =
        again_steps.after_choice (is_word (codes "call") n)
        (λ e. again_steps.after_so (again_called setting s rest)
        (λ v end. call_as_term setting s n rest names (written.pattern all v) v end))
        (λ e. again_steps.after_chain (again_term setting n) (λ first mid.
        again_steps.after_chain (again_items setting (closing s) rest) (λ others end.
        again_steps.after_pure (λ k h. record {
          again = record {
            reads =
                again_steps.reads_false _ _ (h.other (codes "call") e)
                (again_steps.reads_chain _ h.again.reads (again_steps.reads_chain _ k.reads refl));
            spells = λ c. (h.again.spells c.0, k.spells c.1);
          };
          other = λ key h. refl;
          no_dot = refl;
        }))))

    -- terms with a tail are read again
    pub again_items : {names : Names} (setting : grammar.Setting) (end : Span) (f : Forest)
        → again_steps.After all names (ItemsAgain setting (CanSpellAll f) names all) (grammar.items setting end f)
    again_items setting end Bare = again_steps.after_pure (record { reads = refl; spells = λ h. tt })
    again_items setting end (Grow n rest) =
        again_steps.after_choice (is_word (codes ".") n)
        (λ e. again_steps.after_so (again_dotted setting end rest) (λ x end. again_steps.again_from (λ c. c.1)))
        (λ e. again_steps.after_chain (again_term setting n) (λ first mid.
        again_steps.after_chain (again_items setting end rest) (λ others end.
        again_steps.after_pure (λ k h. record {
          reads = again_steps.reads_false _ _ h.no_dot (again_steps.reads_chain _ h.again.reads
              (again_steps.reads_chain _ k.reads refl));
          spells = λ c. (h.again.spells c.0, k.spells c.1);
        }))))

    -- the tail behind a dot is read again in its place
    again_dotted : {names : Names} (setting : grammar.Setting) (end : Span) (f : Forest)
        → again_steps.After all names (ItemsAgain setting (CanSpellAll f) names all) (grammar.dotted setting end f)
    again_dotted setting end Bare = again_steps.after_refusal _
    again_dotted setting end (Grow n rest) =
        again_steps.after_chain (again_tail setting n) (λ behind mid.
        again_steps.after_still (again_steps.still_ended rest) (λ x.
        again_steps.after_pure (λ u. again_steps.again_from (λ c. c.0))))

    -- a tail is read again in its place
    again_tail : {names : Names} (setting : grammar.Setting) (n : Node)
        → again_steps.After all names (ItemsAgain setting (CanSpell n) names all) (grammar.tail setting n)
    again_tail setting (Word s text) = again_word_tail setting s text
    again_tail setting (Numeral s n) = again_steps.after_refusal _
    again_tail setting (Group s parts) = again_list_tail setting s parts

    -- a list as a tail is read again in its place
    again_list_tail : {names : Names} (setting : grammar.Setting) (s : Span) (f : Forest)
        → again_steps.After all names (ItemsAgain setting (CanSpellAll f) names all) (grammar.list_tail setting s f)
    again_list_tail setting s Bare = again_steps.after_pure (record { reads = refl; spells = λ h. tt })
    again_list_tail setting s (Grow n rest) =
        again_steps.after_choice (is_word (codes "call") n) (λ e. again_steps.after_refusal _)
        (λ e. again_steps.after_chain (again_term setting n) (λ first mid.
        again_steps.after_chain (again_items setting (closing s) rest) (λ others end.
        again_steps.after_pure (λ k h. record {
          reads = again_steps.reads_false _ _ h.no_dot (again_steps.reads_chain _ h.again.reads
              (again_steps.reads_chain _ k.reads refl));
          spells = λ c. (h.again.spells c.0, k.spells c.1);
        }))))

    -- a call is read again
    pub again_called : {names : Names} (setting : grammar.Setting) (s : Span) (f : Forest)
        → again_steps.After all names (λ v end. CallAgain setting (CanSpellAll f) names (written.pattern all v) v end)
        (grammar.called setting s f)
    again_called grammar.InProblem s rest = again_steps.after_refusal _
    again_called grammar.InRule s Bare = again_steps.after_refusal _
    again_called grammar.InRule s (Grow n rest) =
        again_steps.after_still (still_name n) (λ text.
        again_steps.after_chain (again_terms rest) (λ args end.
        again_steps.after_pure (λ k h. record {
          parts = Grow (word text) (written.items all args None);
          is = refl;
          reads = again_steps.reads_chain _ (reads_name h.0) (again_steps.reads_chain _ k.reads refl);
          spells = λ c. (h.1 c.0, k.spells c.1);
        })))

    -- terms are read again
    again_terms : {names : Names} (f : Forest)
        → again_steps.After all names
        (λ ps end. again_steps.Again grammar.terms CanSpellAll unplaced.patterns (CanSpellAll f) names
        (written.items all ps None) ps end)
        (grammar.terms f)
    again_terms Bare = again_steps.after_pure (record { reads = refl; spells = λ h. tt })
    again_terms (Grow n rest) =
        again_steps.after_chain (again_term grammar.InRule n) (λ first mid.
        again_steps.after_chain (again_terms rest) (λ others end.
        again_steps.after_pure (λ k h. record {
          reads = again_steps.reads_chain _ h.again.reads (again_steps.reads_chain _ k.reads refl);
          spells = λ c. (h.again.spells c.0, k.spells c.1);
        })))

  -- ---- atoms

  -- a fact of a value made of an atom follows from those of its parts that are read again
  pub after_named : {B : Type 0} {Q : B → Names → Type 0} {names : Names} (setting : grammar.Setting) (s : Span)
      (text : List ℕ)
      (rest : Forest) (g : Atom → B)
      → ((x : Patterns × Option Tail) (end : Names) → ItemsAgain setting (CanSpellAll rest) names all x end
      → Q (g (grammar.make_atom s text x)) end)
      → again_steps.After all names Q (g <$> grammar.named_atom setting s text rest)
  unfolding grammar.named_atom
  after_named {B} {Q} {names} setting s text rest g h =
      again_steps.after_made {P = λ a end. Q (g a) end} g
      (again_steps.after_made (grammar.make_atom s text) (again_items setting (closing s) rest) h) (λ a end k. k)

  -- a list that begins with a fitting name is read again
  pub again_headed : {names : Names} (what : What) (fits : List ℕ → Bool) (setting : grammar.Setting) (n : Node)
      → again_steps.After all names
      (λ a end. again_steps.Again (grammar.headed what fits setting) CanSpell unplaced.atom (CanSpell n) names
      (written.atom all a) a end)
      (grammar.headed what fits setting n)
  unfolding grammar.headed grammar.named_atom
  again_headed what fits setting n =
      again_steps.after_begun n _ (λ text rest c. again_steps.after_choice (fits text)
      (λ e. again_steps.after_made (grammar.make_atom (span_of n) text) (again_items setting (closing (span_of n)) rest)
      (λ x end h. record {
        reads = again_steps.reads_true _ _ e (reads_named all setting (span_of n) text x h);
        spells = λ k. (let parts = c k in (parts.0, h.spells parts.1));
      }))
      (λ e. again_steps.after_refusal _))

  -- atoms are read again from a list
  pub again_atoms : {names : Names} (setting : grammar.Setting) (n : Node)
      → again_steps.After all names
      (λ as' end.
      again_steps.Again (each (grammar.atom setting)) CanSpellAll (map unplaced.atom) (CanSpell n) names
      (written.atoms all as') as' end)
      (grammar.atoms setting n)
  unfolding grammar.atoms
  again_atoms setting n =
      again_steps.after_still (still_list wants.Atoms n) (λ f.
      again_steps.after_so
      (again_steps.after_each (written.atom all) (written.atoms all) unplaced.atom (grammar.atom setting) refl
      (λ a as'. refl) f
      (λ names n. again_headed wants.Atom is_plain setting n))
      (λ as' end h c. again_steps.again_from c h))
