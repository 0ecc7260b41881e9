-- A canonical text that is read keeps the limits, and is read as what it was written of, up to spans.
use Rattle.std.proofs.Common.{◌≡◌, ◌≢◌, ◌⊎◌, inl, inr, ⊎_elim, ℕ, zero, suc, ◌≤◌, ◌<◌, max, List, length, Err, refl, sym, ◌∙◌, ap, arith}
use Rattle.std.specs.Prelude.{IsErrOf}
use Rattle.std.proofs.lemmas.Bool.{cases_lt}
use Rattle.std.proofs.Math.Nat.{lt_of_not-le}
use Rattle.hp_syntax.specs.declared.limits.TheConstants.{LARGEST_TEXT, DEEPEST_NESTING}
use Rattle.hp_syntax.specs.Forest.{Node, Forest, Bare, Grow, IsForest, Spells, SpellsNode, span_of, nesting, nesting_of_node}
use Rattle.hp_syntax.specs.Grammar.{domain_form, problem_form}
use Rattle.hp_syntax.specs.Refusal.{Refusal, IsRefused}
use Rattle.hp_syntax.specs.Syntax.{Domain, Problem}
use Rattle.hp_syntax.specs.Text.{Opening, kind_at}
use Rattle.hp_syntax.specs.TextForms.{Form, IsRead}
use Rattle.hp_syntax.specs.Unplaced as unplaced
use Rattle.hp_syntax.specs.Written as written
use Rattle.hp_syntax.specs.Written.{one}
use Rattle.hp_syntax.proofs.TextLemmas.{kind_at-end}
use Rattle.hp_syntax.proofs.ForestLemmas.{same_node}
use Rattle.hp_syntax.proofs.LimitLemmas.{forest_keeps_limits}
use Rattle.hp_print.specs.ReadBack.{ReadsBack}
use Rattle.hp_print.proofs.AgainFiles.{domain_can_spell, problem_can_spell}
use Rattle.hp_print.proofs.Nowhere.{IsNowhere, domain_nowhere, problem_nowhere}
use Rattle.hp_print.proofs.SpelledNodes.{can_spell}
use Rattle.hp_io.specs.declared.folder.Input.{Input}
use Rattle.hp_top.specs.Loading as loading
use Rattle.hp_top.specs.Loading.{IsRefusedFor}
use Rattle.hp_top.specs.Outcome.{Why, IsUnreadable}
use Rattle.hp_top.specs.Rereading.{IsPastLimits, cause_unless_memory}
use Rattle.hp_top.specs.declared.loading.LoadError.{LoadError}
use Rattle.hp_top.specs.declared.loading.LoadError.TheVariants as causes
use Rattle.hp_top.specs.declared.rereading.RereadError.{RereadError}
use Rattle.hp_top.specs.declared.rereading.RereadError.TheVariants.{NoMemory}
use Rattle.hp_top.proofs.Outcomes.{read_one, read_no}
use Rattle.hp_print.proofs.WrittenLayouts.{BeginsWith, nesting_of_node-unplaced, domain_placed, problem_placed}

-- a text of a node keeps the limits
abbrev pub IsWithinLimits : List ℕ → Node → Type 0
IsWithinLimits text n = (length text ≤ LARGEST_TEXT) × (nesting_of_node n ≤ DEEPEST_NESTING)

-- nodes of a text that both begin at its first byte are the same, where a list opens there
begins_alike : (text : List ℕ) (n : Node) (f : Forest) → kind_at text 0 ≡ Opening → SpellsNode text n
    → (span_of n).from ≡ 0 → Spells text 0 (length text) f → nesting_of_node n ≤ nesting f
begins_alike text n Bare o h q s = blank_first (length text) refl where
  blank_first : (e : ℕ) → length text ≡ e → nesting_of_node n ≤ 0
  blank_first zero e = absurd (let k = kind_at-end text 0 (omega (arith, e)) in cc)
  blank_first (suc i) e = absurd (let k = s.blank 0 (omega arith) (omega (arith, e)) in cc)
begins_alike text n (Grow m g) o h q s = alike (span_of m).from refl where
  alike : (e : ℕ) → (span_of m).from ≡ e → nesting_of_node n ≤ max (nesting_of_node m) (nesting g)
  alike zero e = let same = ap nesting_of_node (same_node text n m h s.1 (q ∙ sym e)) in omega arith
  alike (suc i) e = absurd (let k = s.0.blank 0 (omega arith) (omega (arith, e)) in cc)

-- a text that begins with a node that stands nowhere keeps the limits, if it spells a forest
begun_within : (text : List ℕ) (n : Node) (f : Forest) → IsNowhere n → BeginsWith text n → IsForest text f
    → IsWithinLimits text n
begun_within text n f w b s =
    let p = b.place in
    let same = sym (nesting_of_node-unplaced p.node) ∙ ap nesting_of_node (p.same ∙ w) in
    let less = begins_alike text p.node f b.opens p.spells p.from s.spelled in
    let k = forest_keeps_limits text f s in
    (k.0, omega (arith, k.2))

-- the canonical text of a domain that is read keeps the limits, if it spells a forest
domain_within : (text : List ℕ) (d : Domain) (f : Forest) → IsRead domain_form text d
    → IsForest (written.domain_text d) f → IsWithinLimits (written.domain_text d) (written.domain d)
domain_within text d f r s =
    let can = domain_can_spell (length text) r.forest d r.form_is (can_spell text r.forest r.spelled) in
    begun_within (written.domain_text d) (written.domain d) f (domain_nowhere d) (domain_placed d can) s

-- so does that of a problem
problem_within : (text : List ℕ) (p : Problem) (f : Forest) → IsRead problem_form text p
    → IsForest (written.problem_text p) f → IsWithinLimits (written.problem_text p) (written.problem p)
problem_within text p f r s =
    let can = problem_can_spell (length text) r.forest p r.form_is (can_spell text r.forest r.spelled) in
    begun_within (written.problem_text p) (written.problem p) f (problem_nowhere p) (problem_placed p can) s

-- a text that doesn't keep the limits goes past one of them
past_limits : (text : List ℕ) (n : Node) → (IsWithinLimits text n → ⊥) → IsPastLimits text n
past_limits text n out = large (length text) (nesting_of_node n) out where
  deep : (a c : ℕ) → ((a ≤ LARGEST_TEXT) × (c ≤ DEEPEST_NESTING) → ⊥) → a ≤ LARGEST_TEXT → DEEPEST_NESTING < c
  deep a c out h = lt_of_not-le (λ k. out (h, k))

  large : (a c : ℕ) → ((a ≤ LARGEST_TEXT) × (c ≤ DEEPEST_NESTING) → ⊥)
      → (LARGEST_TEXT < a) ⊎ (DEEPEST_NESTING < c)
  large a c out = ⊎_elim (λ h. inl h) (λ h. inr (deep a c out h)) (cases_lt LARGEST_TEXT a)

-- a text that is refused for something other than want of memory is read as nothing
pub told_unreadable : {A T : Type 0} (which : Input) (form : Form A) (bytes : List ℕ) (error : RereadError)
    (cause : LoadError) → NoMemory ≢ error → IsRefusedFor which form bytes cause
    → IsErrOf {T = T} (Err (cause_unless_memory cause error)) error → (why : Why) × IsUnreadable form bytes why
told_unreadable which form bytes error cause n (loading.IsRefusedFor.WithoutMemory e) h =
    absurd (n (let k = ap (λ c. cause_unless_memory c error) e in cc))
told_unreadable which form bytes error cause n (loading.IsRefusedFor.Unreadable why e u) h = (why, u)

-- what is told is this error or want of memory
pub never_told : {T : Type 0} (cause : LoadError) (error other : RereadError) → error ≢ other → NoMemory ≢ other
    → IsErrOf {T = T} (Err (cause_unless_memory cause error)) other → ⊥
never_told causes.NoMemory error other h k e = k (let same = e in cc)
never_told (causes.Refused refusal) error other h k e = h (let same = e in cc)

module _ {A : Type 0} (form : Form A) (without : A → A) (text_of : A → List ℕ) (node_of : A → Node)
    (one_value : (t : List ℕ) (x y : A) → IsRead form t x → IsRead form t y → x ≡ y)
    (not_both : (t : List ℕ) (x : A) (why : Why) → IsRead form t x → IsUnreadable form t why → ⊥)
    (within : (t : List ℕ) (x : A) (f : Forest) → IsRead form t x → IsForest (text_of x) f
    → IsWithinLimits (text_of x) (node_of x))
    (back : (t : List ℕ) (x : A) → IsRead form t x → length (text_of x) ≤ LARGEST_TEXT
    → nesting_of_node (node_of x) ≤ DEEPEST_NESTING → ReadsBack form without (text_of x) x) where
  -- the reading of a value's canonical text is the value up to spans
  same_again : (t : List ℕ) (x y : A) → IsRead form t x → IsRead form (text_of x) y → without y ≡ without x
  same_again t x y r s =
      let k = within t x s.forest r s.spelled in
      let b = back t x r k.0 k.1 in
      ap without (one_value (text_of x) y b.value s b.read) ∙ b.same

  -- a canonical text that is read as nothing goes past the limits
  past_again : (t : List ℕ) (x : A) (why : Why) → IsRead form t x → IsUnreadable form (text_of x) why
      → IsPastLimits (text_of x) (node_of x)
  past_again t x why r u = past_limits (text_of x) (node_of x)
      (λ k. not_both (text_of x) (back t x r k.0 k.1).value why (back t x r k.0 k.1).read u)

module _ (one : (t : List ℕ) (f g : Forest) → IsForest t f → IsForest t g → f ≡ g)
    (one_reason : (t : List ℕ) (r s : Refusal) → IsRefused t r → IsRefused t s → r ≡ s)
    (apart : (t : List ℕ) (f : Forest) (r : Refusal) → IsForest t f → IsRefused t r → ⊥) where
  module _ (back : (t : List ℕ) (d : Domain) → IsRead domain_form t d
      → length (written.domain_text d) ≤ LARGEST_TEXT → nesting_of_node (written.domain d) ≤ DEEPEST_NESTING
      → ReadsBack domain_form unplaced.domain (written.domain_text d) d) where
    -- the reading of a domain's canonical text is the domain up to spans
    pub domain_again : (t : List ℕ) (d e : Domain) → IsRead domain_form t d
        → IsRead domain_form (written.domain_text d) e → unplaced.domain e ≡ unplaced.domain d
    domain_again =
        same_again domain_form unplaced.domain written.domain_text written.domain
        (read_one one one_reason apart domain_form) (read_no one one_reason apart domain_form) domain_within back

    -- the canonical text of a domain that is read as nothing goes past the limits
    pub domain_past : (t : List ℕ) (d : Domain) (why : Why) → IsRead domain_form t d
        → IsUnreadable domain_form (written.domain_text d) why
        → IsPastLimits (written.domain_text d) (written.domain d)
    domain_past =
        past_again domain_form unplaced.domain written.domain_text written.domain
        (read_one one one_reason apart domain_form) (read_no one one_reason apart domain_form) domain_within back

  module _ (back : (t : List ℕ) (p : Problem) → IsRead problem_form t p
      → length (written.problem_text p) ≤ LARGEST_TEXT → nesting_of_node (written.problem p) ≤ DEEPEST_NESTING
      → ReadsBack problem_form unplaced.problem (written.problem_text p) p) where
    -- the reading of a problem's canonical text is the problem up to spans
    pub problem_again : (t : List ℕ) (p q : Problem) → IsRead problem_form t p
        → IsRead problem_form (written.problem_text p) q → unplaced.problem q ≡ unplaced.problem p
    problem_again =
        same_again problem_form unplaced.problem written.problem_text written.problem
        (read_one one one_reason apart problem_form) (read_no one one_reason apart problem_form) problem_within back

    -- the canonical text of a problem that is read as nothing goes past the limits
    pub problem_past : (t : List ℕ) (p : Problem) (why : Why) → IsRead problem_form t p
        → IsUnreadable problem_form (written.problem_text p) why
        → IsPastLimits (written.problem_text p) (written.problem p)
    problem_past =
        past_again problem_form unplaced.problem written.problem_text written.problem
        (read_one one one_reason apart problem_form) (read_no one one_reason apart problem_form) problem_within back
