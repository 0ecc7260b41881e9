-- No forest is the form of a domain and of a problem.
use Rattle.std.proofs.Common.{◌≡◌, ℕ, Bool, true, false, cond, List, [], Ok, Err, refl, sym, ◌∙◌, bytes_eq}
use Rattle.std.specs.Prelude.{codes}
use Rattle.std.proofs.lemmas.Slice.Eq.{bytes_eq-Decides}
use Rattle.hp_syntax.specs.declared.pattern.Span.{Span}
use Rattle.hp_syntax.specs.declared.form.What.{What}
use Rattle.hp_syntax.specs.declared.form.What.TheVariants as wants
use Rattle.hp_syntax.specs.Forest.{Word, Numeral, Group, Forest, Bare, Grow}
use Rattle.hp_syntax.specs.Steps.{Misform, Parse, and_then, refuse, value_in, from_no_names}
use Rattle.hp_syntax.specs.Syntax.{Domain, Problem}
use Rattle.hp_syntax.specs.Grammar.{file, file_list, domain_list, problem_list, domain_form, problem_form}

-- a failure is no value
no_value : {A : Type 0} (m : Misform) (x : A) {P : Type 0} → Err m ≡ Ok x → P
no_value m x h = absurd cc

-- where the other case fails, the test of a step that gives a value has passed
passed : {A B : Type 0} (b : Bool) (p : Parse A) (m : Misform) (k : A → Parse B) (x : B)
    → value_in (and_then (cond b p (refuse m) []) k) ≡ Ok x → b ≡ true
passed true p m k x h = refl
passed false p m k x h = no_value m x h

-- the first node of a forest is a list that begins with this word
abbrev Begins : List ℕ → Forest → Type 0
Begins key (Grow (Group s (Grow (Word t text) rest)) more) = bytes_eq text key ≡ true
Begins key _ = ⊥

-- a file that has a form begins with its word
file_begins : {A : Type 0} (what : What) (key : List ℕ) (parts : Span → Forest → Parse A) (len : ℕ) (f : Forest) (x : A)
    → from_no_names (file what (file_list what key parts) len f) ≡ Ok x → Begins key f
unfolding file file_list
file_begins what key parts len (Grow (Group s (Grow (Word t text) rest)) more) x h =
    passed (bytes_eq text key) (parts s rest) _ _ x h
file_begins what key parts len Bare x h = no_value _ x h
file_begins what key parts len (Grow (Word s text) more) x h = no_value _ x h
file_begins what key parts len (Grow (Numeral s n) more) x h = no_value _ x h
file_begins what key parts len (Grow (Group s Bare) more) x h = no_value _ x h
file_begins what key parts len (Grow (Group s (Grow (Numeral t n) rest)) more) x h = no_value _ x h
file_begins what key parts len (Grow (Group s (Grow (Group t inner) rest)) more) x h = no_value _ x h

-- a forest begins with one word at most
one_word : (f : Forest) → Begins (codes "defdomain") f → Begins (codes "defproblem") f → ⊥
one_word (Grow (Group s (Grow (Word t text) rest)) more) h k =
    let a = (bytes_eq-Decides text (codes "defdomain")).0 h in
    let b = (bytes_eq-Decides text (codes "defproblem")).0 k in
    apart (sym a ∙ b)
  where
    apart : codes "defdomain" ≡ codes "defproblem" → ⊥
    apart e = cc
one_word _ h k = absurd h

-- so no forest is the form of a domain and of a problem
pub not_both_forms : (len : ℕ) (f : Forest) (d : Domain) (p : Problem) → domain_form len f ≡ Ok d
    → problem_form len f ≡ Ok p → ⊥
not_both_forms len f d p h k =
    one_word f (file_begins wants.Domain (codes "defdomain") domain_list len f d h)
    (file_begins wants.Problem (codes "defproblem") problem_list len f p k)
