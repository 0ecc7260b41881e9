-- Steps that can be written are read back.
use Rattle.std.proofs.Common.{◌≡◌, ◌≤◌, Bool, true, false, ◌||◌, List, [], ◌∷◌, length, refl}
use Rattle.std.specs.List.{All}
use Rattle.std.proofs.lemmas.List.Elements.{All-nil, All-cons, All-head, All-tail, All-weaker}
use Rattle.hp_syntax.specs.declared.limits.TheConstants.{LARGEST_TEXT}
use Rattle.hp_syntax.specs.Report.{lines_text}
use Rattle.hp_syntax.specs.Terms.{Term, Terms, Symbol, Number, Listed, NoTerm, More}
use Rattle.hp_replay.specs.Writable.{IsSpelled, AreSpelled, begins_call, holds_call, hold_call, IsStep, IsWritable, IsReadBack}
use Rattle.hp_replay.proofs.SpelledSyntax.{IsSpelledTerm, IsSpelledList, IsSpelledStep}
use Rattle.hp_replay.proofs.ReadSteps.{plan_read}
use Rattle.hp_replay.proofs.WrittenSteps.{steps_spelled}

-- the lines of writable steps are read as the steps
pub read_back : (ts : List Term) → All IsWritable ts → length (lines_text ts) ≤ LARGEST_TEXT → IsReadBack ts
read_back ts w l =
    let s = steps_spelled ts w l in
    record { forest = s.0; spelled = s.1; form_is = plan_read ts s.0 w s.2 }

-- steps in which no list begins with `call` are writable
pub free_steps : (ts : List Term) → All IsStep ts → All (λ t. holds_call t ≡ false) ts → All IsWritable ts
free_steps [] h k = All-nil IsWritable
free_steps (t ∷ ts) h k =
    All-cons IsWritable t ts
    (record { step = All-head IsStep t ts h; free = All-head (λ t. holds_call t ≡ false) t ts k })
    (free_steps ts (All-tail IsStep t ts h) (All-tail (λ t. holds_call t ≡ false) t ts k))

-- a term that is spelled, with or without `call`, is spelled
mutual
  term_spelled : (free : Bool) (t : Term) → IsSpelledTerm free t → IsSpelled t
  term_spelled free (Symbol name) h = h.symbol
  term_spelled free (Number n) h = h
  term_spelled free (Listed ts) h = terms_spelled free ts h

  -- so are terms
  terms_spelled : (free : Bool) (ts : Terms) → IsSpelledList free ts → AreSpelled ts
  terms_spelled free NoTerm h = tt
  terms_spelled free (More t ts) h = (term_spelled free t h.0, terms_spelled free ts h.1)

-- a step that is spelled, with or without `call`, is a step
step_spelled : (free : Bool) (t : Term) → IsSpelledStep free t → IsStep t
step_spelled free t h = record { named = h.named; spelled = term_spelled free t h.spelled; shallow = h.shallow }

-- so are steps
pub steps_spelled_so : (free : Bool) (ts : List Term) → All (IsSpelledStep free) ts → All IsStep ts
steps_spelled_so free ts h = All-weaker (IsSpelledStep free) IsStep (step_spelled free) ts h

-- two tests that fail fail together
both_false : (a b : Bool) → a ≡ false → b ≡ false → a || b ≡ false
both_false a b h k = rw (h, k) refl

-- terms without the symbol `call` don't begin with it
begins_free : (ts : Terms) → IsSpelledList true ts → begins_call ts ≡ false
begins_free NoTerm h = refl
begins_free (More (Symbol name) ts) h = h.0.other
begins_free (More (Number n) ts) h = refl
begins_free (More (Listed xs) ts) h = refl

-- no list begins with `call` in a term without that symbol
mutual
  term_free : (t : Term) → IsSpelledTerm true t → holds_call t ≡ false
  term_free (Symbol name) h = refl
  term_free (Number n) h = refl
  term_free (Listed ts) h = both_false (begins_call ts) (hold_call ts) (begins_free ts h) (terms_free ts h)

  -- nor in terms
  terms_free : (ts : Terms) → IsSpelledList true ts → hold_call ts ≡ false
  terms_free NoTerm h = refl
  terms_free (More t ts) h = both_false (holds_call t) (hold_call ts) (term_free t h.0) (terms_free ts h.1)

-- steps without the symbol `call` are writable
pub written_free : (ts : List Term) → All (IsSpelledStep true) ts → All IsWritable ts
written_free ts h =
    free_steps ts (steps_spelled_so true ts h)
    (All-weaker (IsSpelledStep true) (λ t. holds_call t ≡ false) (λ t k. term_free t k.spelled) ts h)
