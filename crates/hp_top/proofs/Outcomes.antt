-- Words and files come to one answer.
use Rattle.std.proofs.Common.{◌≡◌, ◌⊎◌, inl, inr, ℕ, List, length, Option, Some, None, Result, Ok, Err, refl, ap, sym, ◌∙◌, subst}
use Rattle.hp_io.specs.declared.folder.Input.{Input}
use Rattle.hp_io.specs.declared.folder.Input.TheVariants as inputs
use Rattle.hp_out.specs.declared.refusal.Refusal.{Refusal}
use Rattle.hp_out.specs.declared.refusal.Refusal.TheVariants as refusals
use Rattle.hp_syntax.specs.Forest.{Forest, IsForest}
use Rattle.hp_syntax.specs.Grammar.{domain_form, problem_form}
use Rattle.hp_syntax.specs.Refusal as texts
use Rattle.hp_syntax.specs.Refusal.{IsRefused}
use Rattle.hp_syntax.specs.Report.{Answer}
use Rattle.hp_syntax.specs.Steps.{Misform}
use Rattle.hp_syntax.specs.Syntax.{Domain, Problem}
use Rattle.hp_syntax.specs.Terms.{Term}
use Rattle.hp_syntax.specs.TextForms.{Form, IsRead}
use Rattle.hp_words.specs.Command.{Command, Verification, Request, OnFiles, Verifying, Listing, Making, accepts}
use Rattle.hp_top.specs.Making.{made_files, made_command}
use Rattle.hp_top.specs.Outcome as outcome

one_value : {A : Type 0} (o : Option A) (x y : A) → o ≡ Some x → o ≡ Some y → x ≡ y
one_value o x y h k = let e : Some x ≡ Some y = sym h ∙ k in cc

no_value : {A : Type 0} (o : Option A) (x : A) → o ≡ Some x → o ≡ None → ⊥
no_value o x h k = let e : Some x ≡ None = sym h ∙ k in cc

one_ok : {A E : Type 0} (r : Result A E) (x y : A) → r ≡ Ok x → r ≡ Ok y → x ≡ y
one_ok r x y h k = cc

one_err : {A E : Type 0} (r : Result A E) (x y : E) → r ≡ Err x → r ≡ Err y → x ≡ y
one_err r x y h k = cc

ok_or_err : {A E : Type 0} (r : Result A E) (x : A) (y : E) → r ≡ Ok x → r ≡ Err y → ⊥
ok_or_err r x y h k = cc

-- a command whose files are read comes to the answer to them
pub judged_comes : (files : outcome.Files) (c : Command) (t u : List ℕ) (d : Domain) (p : Problem) (a : Answer)
    → files c.domain ≡ Some t → IsRead domain_form t d → files c.problem ≡ Some u → IsRead problem_form u p
    → a ≡ outcome.answer_of_read c d p → outcome.CommandComes files c a
judged_comes files c t u d p a i h j k e = record {
  loaded = Ok (d, p);
  loads = outcome.Went d (outcome.Good t d i h refl) (outcome.Went p (outcome.Good u p j k refl) refl);
  comes = e;
}

module _ (one : (t : List ℕ) (f g : Forest) → IsForest t f → IsForest t g → f ≡ g)
    (one_reason : (t : List ℕ) (r s : texts.Refusal) → IsRefused t r → IsRefused t s → r ≡ s)
    (apart : (t : List ℕ) (f : Forest) (r : texts.Refusal) → IsForest t f → IsRefused t r → ⊥) where
  module _ {A : Type 0} (form : Form A) (t : List ℕ) where
    -- the form of a text's forest is that of each forest that it spells
    form_of : (f g : Forest) (r : Result A Misform) → IsForest t f → IsForest t g
        → form (length t) g ≡ r → form (length t) f ≡ r
    form_of f g r h k e = ap (form (length t)) (one t f g h k) ∙ e

    -- a text is read as one value
    pub read_one : (x y : A) → IsRead form t x → IsRead form t y → x ≡ y
    read_one x y h k =
        one_ok (form (length t) h.forest) x y h.form_is (form_of h.forest k.forest (Ok y) h.spelled k.spelled k.form_is)

    -- no text that is read as a value is read as nothing
    pub read_no : (x : A) (why : outcome.Why) → IsRead form t x → outcome.IsUnreadable form t why → ⊥
    read_no x why h (outcome.ByText r i e) = apart t h.forest r h.spelled i
    read_no x why h (outcome.ByForm f m s k e) =
        ok_or_err (form (length t) h.forest) x m h.form_is (form_of h.forest f (Err m) h.spelled s k)

    -- a text is read as nothing for one reason
    why_one : (v w : outcome.Why) → outcome.IsUnreadable form t v → outcome.IsUnreadable form t w → v ≡ w
    why_one v w (outcome.ByText r h e) (outcome.ByText s k i) = e ∙ (ap outcome.InText (one_reason t r s h k) ∙ sym i)
    why_one v w (outcome.ByText r h e) (outcome.ByForm g n k j i) = absurd (apart t g r k h)
    why_one v w (outcome.ByForm f m h j e) (outcome.ByText s k i) = absurd (apart t f s h k)
    why_one v w (outcome.ByForm f m h j e) (outcome.ByForm g n k l i) =
        e ∙ (ap outcome.InForm (one_err (form (length t) f) m n j (form_of f g (Err n) h k l)) ∙ sym i)

  -- a file has one load
  load_one : {A : Type 0} (which : Input) (form : Form A) (o : Option (List ℕ)) (x y : Result A Refusal)
      → outcome.LoadsFile which form o x → outcome.LoadsFile which form o y → x ≡ y
  load_one which form o x y (outcome.Missing h e) (outcome.Missing k f) = e ∙ sym f
  load_one which form o x y (outcome.Missing h e) (outcome.Bad u w k n f) = absurd (no_value o u k h)
  load_one which form o x y (outcome.Missing h e) (outcome.Good u z k n f) = absurd (no_value o u k h)
  load_one which form o x y (outcome.Bad t v h m e) (outcome.Missing k f) = absurd (no_value o t h k)
  load_one which form o x y (outcome.Bad t v h m e) (outcome.Bad u w k n f) =
      let same = why_one form u v w (subst (λ t. outcome.IsUnreadable form t v) (one_value o t u h k) m) n in
      e ∙ (ap (λ v. Err (outcome.refusal_of which v)) same ∙ sym f)
  load_one which form o x y (outcome.Bad t v h m e) (outcome.Good u z k n f) =
      absurd (read_no form t z v (subst (λ t. IsRead form t z) (one_value o u t k h) n) m)
  load_one which form o x y (outcome.Good t z h m e) (outcome.Missing k f) = absurd (no_value o t h k)
  load_one which form o x y (outcome.Good t z h m e) (outcome.Bad u w k n f) =
      absurd (read_no form u z w (subst (λ t. IsRead form t z) (one_value o t u h k) m) n)
  load_one which form o x y (outcome.Good t z h m e) (outcome.Good u w k n f) =
      let same = read_one form u z w (subst (λ t. IsRead form t z) (one_value o t u h k) m) n in
      e ∙ (ap Ok same ∙ sym f)

  -- where each of two things is loaded in one way, both are
  then_one : {A B E : Type 0} (first : Result A E → Type 0) (second : A → Result B E → Type 0)
      → ((x y : Result A E) → first x → first y → x ≡ y)
      → ((a : A) (x y : Result B E) → second a x → second a y → x ≡ y)
      → (x y : Result B E) → outcome.Then first second x → outcome.Then first second y → x ≡ y
  then_one first second f g x y (outcome.Stopped d h i) (outcome.Stopped e k j) =
      let same : Err d ≡ Err e = f (Err d) (Err e) h k in
      i ∙ (ap Err (one_err (Err d) d e refl same) ∙ sym j)
  then_one first second f g x y (outcome.Stopped d h i) (outcome.Went a k j) =
      let same : Ok a ≡ Err d = f (Ok a) (Err d) k h in cc
  then_one first second f g x y (outcome.Went a h i) (outcome.Stopped e k j) =
      let same : Ok a ≡ Err e = f (Ok a) (Err e) h k in cc
  then_one first second f g x y (outcome.Went a h i) (outcome.Went b k j) =
      let same : Ok a ≡ Ok b = f (Ok a) (Ok b) h k in
      g b x y (subst (λ a. second a x) (one_ok (Ok a) a b refl same) i) j

  -- two ways in which something comes of what is loaded are one, where one thing is loaded
  comes_one : {X : Type 0} (loads : Result X Refusal → Type 0) (answer : X → Answer)
      → ((x y : Result X Refusal) → loads x → loads y → x ≡ y) → (a b : Answer) → outcome.Comes loads answer a
      → outcome.Comes loads answer b → a ≡ b
  comes_one loads answer one_loaded a b x y =
      let same : x.loaded ≡ y.loaded = one_loaded x.loaded y.loaded x.loads y.loads in
      x.comes ∙ (ap (outcome.answer_to outcome.refusal_answer answer) same ∙ sym y.comes)

  -- of a domain and a problem one thing is loaded
  named_one : (files : outcome.Files) (domain problem : List ℕ) (x y : Result (Domain × Problem) Refusal)
      → outcome.LoadsNamed files domain problem x → outcome.LoadsNamed files domain problem y → x ≡ y
  named_one files domain problem =
      then_one _ _ (load_one inputs.Domain domain_form (files domain))
      (λ d. then_one _ _ (load_one inputs.Problem problem_form (files problem)) (λ p u v h k. h ∙ sym k))

  -- and of the files of a verification
  plan_one : (files : outcome.Files) (v : Verification) (x y : Result ((Domain × Problem) × List Term) Refusal)
      → outcome.LoadsPlan files v x → outcome.LoadsPlan files v y → x ≡ y
  plan_one files v =
      then_one _ _ (named_one files v.domain v.problem)
      (λ z. then_one _ _ (load_one inputs.Plan outcome.steps_form (files v.plan)) (λ p u w h k. h ∙ sym k))

  -- what comes of a request with these files
  abbrev RequestComes : outcome.Files → Request → Answer → Type 0
  RequestComes files (OnFiles c) a = outcome.CommandComes files c a
  RequestComes files (Verifying v) a = outcome.Comes (outcome.LoadsPlan files v) (outcome.answer_of_plan v) a
  RequestComes files (Listing d) a = outcome.Comes (outcome.LoadsDomain files d) outcome.listing_answer a
  RequestComes files (Making s n) a = outcome.CommandComes (made_files s n) (made_command s n) a

  -- two answers that come of one request are one
  request_one : (files : outcome.Files) (q : Request) (a b : Answer) → RequestComes files q a → RequestComes files q b
      → a ≡ b
  request_one files (OnFiles c) a b x y =
      comes_one (outcome.LoadsFiles files c) (outcome.answer_of_pair c) (named_one files c.domain c.problem) a b x y
  request_one files (Verifying v) a b x y =
      comes_one (outcome.LoadsPlan files v) (outcome.answer_of_plan v) (plan_one files v) a b x y
  request_one files (Listing d) a b x y =
      comes_one (outcome.LoadsDomain files d) outcome.listing_answer
      (load_one inputs.Domain domain_form (files d)) a b x y
  request_one files (Making s n) a b x y =
      comes_one (outcome.LoadsFiles (made_files s n) (made_command s n)) (outcome.answer_of_pair (made_command s n))
      (named_one (made_files s n) (made_command s n).domain (made_command s n).problem) a b x y

  -- an outcome by what the words ask for
  data ByRequest (words : List (List ℕ)) (files : outcome.Files) (a : Answer) : Type 0 where
    NoneAsked : accepts words ≡ None → a ≡ outcome.refusal_answer refusals.Usage → ByRequest words files a
    Asked : (q : Request) → accepts words ≡ Some q → RequestComes files q a → ByRequest words files a

  by_request : (words : List (List ℕ)) (files : outcome.Files) (a : Answer) → outcome.Outcome words files a
      → ByRequest words files a
  by_request words files a (outcome.NoCommand e x) = NoneAsked e x
  by_request words files a (outcome.ByCommand c e x) = Asked (OnFiles c) e x
  by_request words files a (outcome.ByVerifying v e x) = Asked (Verifying v) e x
  by_request words files a (outcome.ByListing d e x) = Asked (Listing d) e x
  by_request words files a (outcome.ByMaking s n e x) = Asked (Making s n) e x

  pub outcome_one : (words : List (List ℕ)) (files : outcome.Files) (a b : Answer) → outcome.Outcome words files a
      → outcome.Outcome words files b → a ≡ b
  outcome_one words files a b x y = both (by_request words files a x) (by_request words files b y)
    where
      both : ByRequest words files a → ByRequest words files b → a ≡ b
      both (NoneAsked e x) (NoneAsked f y) = x ∙ sym y
      both (NoneAsked e x) (Asked q f y) = absurd (no_value (accepts words) q f e)
      both (Asked p e x) (NoneAsked f y) = absurd (no_value (accepts words) p e f)
      both (Asked p e x) (Asked q f y) =
          request_one files q a b (subst (λ q. RequestComes files q a) (one_value (accepts words) p q e f) x) y

module _ (all : (t : List ℕ) → ((f : Forest) × IsForest t f) ⊎ ((r : texts.Refusal) × IsRefused t r)) where
  module _ {A : Type 0} (form : Form A) (t : List ℕ) where
    abbrev ReadOrNot : Type 0
    ReadOrNot = ((x : A) × IsRead form t x) ⊎ ((why : outcome.Why) × outcome.IsUnreadable form t why)

    by_form : (f : Forest) → IsForest t f → (r : Result A Misform) → form (length t) f ≡ r → ReadOrNot
    by_form f s (Ok x) e = inl (x, record { forest = f; spelled = s; form_is = e })
    by_form f s (Err m) e = inr (outcome.InForm m, outcome.ByForm f m s e refl)

    read_or_not : ReadOrNot
    read_or_not = elim (all t) as (λ _. ReadOrNot) [
      | inl x ↦ by_form x.0 x.1 (form (length t) x.0) refl
      | inr r ↦ inr (outcome.InText r.0, outcome.ByText r.0 r.1 refl)
    ]

  -- something is loaded of each file
  load_by : {A : Type 0} (which : Input) (form : Form A) (o : Option (List ℕ)) (p : Option (List ℕ)) → o ≡ p
      → (x : Result A Refusal) × outcome.LoadsFile which form o x
  load_by {A} which form o None e = (Err (refusals.Read which), outcome.Missing e refl)
  load_by {A} which form o (Some t) e =
      elim (read_or_not form t) as (λ _. (x : Result A Refusal) × outcome.LoadsFile which form o x) [
        | inl x ↦ (Ok x.0, outcome.Good t x.0 e x.1 refl)
        | inr n ↦ (Err (outcome.refusal_of which n.0), outcome.Bad t n.0 e n.1 refl)
      ]

  -- where something is loaded of each of two, something is of both
  both_some : {A B E : Type 0} (first : Result A E → Type 0) (second : Result B E → Type 0)
      → (x : Result A E) × first x → (y : Result B E) × second y → (z : Result (A × B) E) × outcome.Both first second z
  both_some first second (Err e, h) y = (Err e, outcome.Stopped e h refl)
  both_some first second (Ok a, h) (Err e, k) = (Err e, outcome.Went a h (outcome.Stopped e k refl))
  both_some first second (Ok a, h) (Ok b, k) = (Ok (a, b), outcome.Went a h (outcome.Went b k refl))

  -- something is loaded of a domain and a problem
  named_some : (files : outcome.Files) (domain problem : List ℕ)
      → (x : Result (Domain × Problem) Refusal) × outcome.LoadsNamed files domain problem x
  named_some files domain problem =
      both_some _ _ (load_by inputs.Domain domain_form (files domain) (files domain) refl)
      (load_by inputs.Problem problem_form (files problem) (files problem) refl)

  some_answer : (files : outcome.Files) (c : Command) → (a : Answer) × outcome.CommandComes files c a
  some_answer files c =
      let x = named_some files c.domain c.problem in (
        outcome.answer_to outcome.refusal_answer (outcome.answer_of_pair c) x.0,
        record { loaded = x.0; loads = x.1; comes = refl },
      )

  by_words : (words : List (List ℕ)) (files : outcome.Files) (o : Option Request) → accepts words ≡ o
      → (a : Answer) × outcome.Outcome words files a
  by_words words files None e = (outcome.refusal_answer refusals.Usage, outcome.NoCommand e refl)
  by_words words files (Some (OnFiles c)) e =
      let x = some_answer files c in (x.0, outcome.ByCommand c e x.1)
  by_words words files (Some (Verifying v)) e =
      let x = both_some _ _ (named_some files v.domain v.problem)
      (load_by inputs.Plan outcome.steps_form (files v.plan) (files v.plan) refl) in (
        outcome.answer_to outcome.refusal_answer (outcome.answer_of_plan v) x.0,
        outcome.ByVerifying v e (record { loaded = x.0; loads = x.1; comes = refl }),
      )
  by_words words files (Some (Listing d)) e =
      let x = load_by inputs.Domain domain_form (files d) (files d) refl in (
        outcome.answer_to outcome.refusal_answer outcome.listing_answer x.0,
        outcome.ByListing d e (record { loaded = x.0; loads = x.1; comes = refl }),
      )
  by_words words files (Some (Making s n)) e =
      let x = some_answer (made_files s n) (made_command s n) in
      (x.0, outcome.ByMaking s n e x.1)

  pub outcome_some : (words : List (List ℕ)) (files : outcome.Files) → (a : Answer) × outcome.Outcome words files a
  outcome_some words files = by_words words files (accepts words) refl
