-- The texts of the parts of a list, put behind other bytes one after the other.
use Rattle.std.proofs.Common.{◌≡◌, ℕ, ℤ, ◌+◌, ◌<◌, ◌≤◌, ◌/◌, ◌%◌, List, [], ◌++◌, length, get_or, cond, if◌then◌else◌, is_ok, OnOk, Result, Ok, Err, pos, codes, ap, ap₂, ◌∙◌, append_assoc}
use Rattle.std.specs.Prelude.{decimal, int_lt, unsigned_abs}
use Rattle.hp_out.proofs.GroundSteps.{bracket_left, part_and_others, rest_from}
use Rattle.hp_syntax.specs.declared.pattern.Ground.{Ground}
use Rattle.hp_syntax.specs.GroundViews.{ground_of}
use Rattle.hp_syntax.specs.TermTexts.{decimals_text, num_text, term_text}

-- one part more
pub part_pushed : (parts : List Ground) (i : ℕ) (part : Ground) → i < length parts → part ≡ get_or parts i part
    → (old mid new whole : List ℕ) → mid ≡ old ++ codes " " → new ≡ mid ++ term_text (ground_of part)
    → old ++ rest_from parts i ≡ whole → new ++ rest_from parts (i + 1) ≡ whole
part_pushed parts i part lt is old mid new whole blank term so_far =
    let text = term_text (ground_of part) in
    let rest = rest_from parts (i + 1) in
    ap (λ t. t ++ rest) term
    ∙ (append_assoc mid text rest
    ∙ (ap (λ t. t ++ (text ++ rest)) blank
    ∙ (append_assoc old (codes " ") (text ++ rest)
    ∙ (ap (λ t. old ++ t) (part_and_others parts i part lt is) ∙ so_far))))

-- the bracket behind the last one
pub bracket_pushed : (parts : List Ground) (i : ℕ) → length parts ≤ i → (old new whole : List ℕ)
    → new ≡ old ++ codes ")" → old ++ rest_from parts i ≡ whole → new ≡ whole
bracket_pushed parts i le old new whole bracket so_far =
    bracket ∙ (ap (λ t. old ++ t) (bracket_left parts i le) ∙ so_far)

-- ---- numbers

-- a sign, digits and decimals, put one behind the other, are a number
pub amount_put : (n : ℤ) (old a b new sign digits decimals : List ℕ) → a ≡ old ++ sign → b ≡ a ++ digits
    → new ≡ b ++ decimals → sign ≡ cond (int_lt n (pos 0)) (codes "-") [] → digits ≡ decimal (unsigned_abs n / 1000)
    → decimals ≡ decimals_text (unsigned_abs n % 1000) → new ≡ old ++ num_text n
amount_put n old a b new sign digits decimals e1 e2 e3 s g d =
    e3
    ∙ (ap (λ t. t ++ decimals) (e2 ∙ (ap (λ t. t ++ digits) e1 ∙ append_assoc old sign digits))
    ∙ (append_assoc old (sign ++ digits) decimals
    ∙ ap (λ t. old ++ t) (ap₂ ◌++◌ (ap₂ ◌++◌ s g) d)))

-- ---- what a call puts behind other bytes

-- a text that is put as it is
pub extended : {A E : Type 0} (r : Result A E) (old new other text : List ℕ)
    → new ≡ (if is_ok r then old ++ other else old) → other ≡ text → OnOk r (new ≡ old ++ text)
extended (Ok x) old new other text h e = h ∙ ap (λ t. old ++ t) e
extended (Err x) old new other text h e = tt

-- a text that is said otherwise
pub put_same : {A E : Type 0} (r : Result A E) (old new other text : List ℕ) → OnOk r (new ≡ old ++ other)
    → other ≡ text → OnOk r (new ≡ old ++ text)
put_same (Ok x) old new other text h e = h ∙ ap (λ t. old ++ t) e
put_same (Err x) old new other text h e = tt
