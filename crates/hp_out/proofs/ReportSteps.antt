-- The texts of plans and endings, of the parts that are put one behind the other.
use Rattle.std.proofs.Common.{◌≡◌, ℕ, ◌<◌, ◌^◌, ◌-◌, ℤ, FitsSigned, to_z, of_z, List, ◌++◌, Option, Some, None, cond, [], length, map, codes, decimal, min, refl, ap, sym, ◌∙◌, arith, append_assoc, append-nil}
use Rattle.std.specs.Prelude.{◌/◌, ◌%◌, pos, int_lt, unsigned_abs}
use Rattle.std.specs.Int.{w128}
use Rattle.std.specs.Option.{MatchOption}
use Rattle.std.proofs.lemmas.Int.{to_z-of_z}
use Rattle.std.proofs.lemmas.List.{length-map}
use Rattle.hp_eval.specs.GoalViews.{term_at}
use Rattle.hp_syntax.specs.PlaceTexts.{at_span}
use Rattle.hp_syntax.specs.Report as report
use Rattle.hp_syntax.specs.GroundViews.{ground_of}
use Rattle.hp_syntax.specs.Report.{best_line, best_text, lines_text, plan_line, plan_text, state_text, ending_word, ending_text}
use Rattle.hp_syntax.specs.Terms.{Term}
use Rattle.hp_syntax.specs.TermTexts.{decimals_text, num_text}
use Rattle.hp_out.proofs.GroundSteps.{grounds_text}
use Rattle.hp_out.proofs.TermSteps.{number_words}
use Rattle.hp_syntax.specs.declared.pattern.Ground.{Ground}
use Rattle.hp_syntax.specs.declared.pattern.Span.{Span}
use Rattle.hp_syntax.specs.Walk.{Node}
use Rattle.hp_world.specs.Stages.{Stage, live_atoms, terms_at, state_of, guards_of}

-- ---- plans

-- the line of a plan, its cost as a call is passed it
abbrev pub line_text : ℕ → ℤ → ℕ → List ℕ
line_text i cost count = plan_line i (to_z w128 (of_z w128 cost)) count

-- the line of a plan, by its steps in memory
pub line_part : (n : Node) (i : ℕ) (cost : ℤ) (terms : List Term) (steps : List ℕ) → n.steps ≡ terms_at terms steps
    → n.cost ≡ cost → FitsSigned w128 cost
    → line_text i cost (length steps) ≡ plan_line i n.cost (length n.steps)
line_part n i cost terms steps s c fits =
    let same : to_z w128 (of_z w128 cost) ≡ n.cost = to_z-of_z w128 cost fits ∙ sym c in
    let long : length steps ≡ length n.steps = sym (ap length s ∙ length-map steps (term_at terms)) in
    rw (same, long) refl

-- the line of a plan and then the lines of its steps
pub plan_parts : (n : Node) (i : ℕ) (cost : ℤ) (terms : List Term) (steps : List ℕ) → n.steps ≡ terms_at terms steps
    → n.cost ≡ cost → FitsSigned w128 cost
    → line_text i cost (length steps) ++ lines_text (terms_at terms steps) ≡ plan_text i n
plan_parts n i cost terms steps s c fits =
    ap (λ t. t ++ lines_text (terms_at terms steps)) (line_part n i cost terms steps s c fits)
    ∙ ap (λ ts. plan_line i n.cost (length n.steps) ++ lines_text ts) (sym s)

-- a word and a count
abbrev pub count_line : List ℕ → ℕ → List ℕ
count_line word count = word ++ decimal count ++ codes "\n"

-- a text and then three others are put together from the left
behind : (x p a r : List ℕ) → x ++ (p ++ a ++ r) ≡ x ++ p ++ a ++ r
behind x p a r = simp append_assoc

-- a cost and a number of steps, and the end of their line
abbrev pub measure_text : ℤ → ℕ → List ℕ
measure_text cost count = codes " cost " ++ num_text cost ++ codes " steps " ++ decimal count ++ codes "\n"

-- a word, and a sign, digits and decimals, are a word and a cost
pub cost_words : (word : List ℕ) (cost : ℤ) (a b c : List ℕ) → a ≡ cond (int_lt cost (pos 0)) (codes "-") []
    → b ≡ decimal (unsigned_abs cost / 1000) → c ≡ decimals_text (unsigned_abs cost % 1000)
    → word ++ (a ++ (b ++ (c ++ []))) ≡ word ++ num_text cost
cost_words word cost a b c q r s =
    ap (λ t. word ++ t) (number_words cost a b c [] q r s ∙ append-nil (num_text cost))

-- a word and a cost as a call is passed it
abbrev pub cost_text : List ℕ → ℤ → List ℕ
cost_text word cost = word ++ num_text (to_z w128 (of_z w128 cost))

-- a cost and then a number of steps are the measure of a plan
pub measure_words : (cost : ℤ) (count : ℕ) → FitsSigned w128 cost
    → cost_text (codes " cost ") cost ++ count_line (codes " steps ") count ≡ measure_text cost count
measure_words cost count fits =
    ap (λ (c : ℤ). (codes " cost " ++ num_text c) ++ count_line (codes " steps ") count) (to_z-of_z w128 cost fits)
    ∙ behind (codes " cost " ++ num_text cost) (codes " steps ") (decimal count) (codes "\n")

-- a word before a measure
before : (x p a q b r : List ℕ) → x ++ (p ++ a ++ q ++ b ++ r) ≡ x ++ p ++ a ++ q ++ b ++ r
before x p a q b r = simp append_assoc

-- a cost as a call is passed it
passed : (cost : ℤ) (count : ℕ) → FitsSigned w128 cost
    → measure_text (to_z w128 (of_z w128 cost)) count ≡ measure_text cost count
passed cost count fits = ap (λ c. measure_text c count) (to_z-of_z w128 cost fits)

-- the word of a plan and its number, and then its measure
pub numbered_measure : (i : ℕ) (cost : ℤ) (count : ℕ) (a : List ℕ) → a ≡ decimal i → FitsSigned w128 cost
    → (codes "plan " ++ (a ++ [])) ++ measure_text (to_z w128 (of_z w128 cost)) count ≡ plan_line i cost count
unfolding plan_line
numbered_measure i cost count a e fits =
    ap (λ t. (codes "plan " ++ (a ++ [])) ++ t) (passed cost count fits)
    ∙ ap (λ t. (codes "plan " ++ t) ++ measure_text cost count) (append-nil a ∙ e)
    ∙ before (codes "plan " ++ decimal i) (codes " cost ") (num_text cost) (codes " steps ") (decimal count)
    (codes "\n")

-- the word of a cheapest plan and then its measure
pub best_measure : (cost : ℤ) (count : ℕ) → FitsSigned w128 cost
    → codes "best" ++ measure_text (to_z w128 (of_z w128 cost)) count ≡ best_line cost count
unfolding best_line
best_measure cost count fits =
    ap (λ t. codes "best" ++ t) (passed cost count fits)
    ∙ before (codes "best") (codes " cost ") (num_text cost) (codes " steps ") (decimal count) (codes "\n")

-- the line of a cheapest plan, its cost as a call is passed it
abbrev pub best_line_text : ℤ → ℕ → List ℕ
best_line_text cost count = best_line (to_z w128 (of_z w128 cost)) count

-- the line of a cheapest plan and then the lines of its steps
pub best_parts : (cost : ℤ) (steps : List Ground) → FitsSigned w128 cost
    → best_line_text cost (length steps) ++ grounds_text steps ≡ best_text cost (map ground_of steps)
best_parts cost steps fits =
    ap (λ c. best_line c (length steps) ++ grounds_text steps) (to_z-of_z w128 cost fits)
    ∙ ap (λ n. best_line cost n ++ grounds_text steps) (sym (length-map steps ground_of))

-- ---- states

-- a line for each atom
abbrev pub atoms_text : List Term → Stage → List ℕ
atoms_text terms s = lines_text (state_of terms s)

-- the count of the protections and a line for each
abbrev pub guards_text : List Term → List ℕ → List ℕ
guards_text terms guards = count_line (codes "protections ") (length guards) ++ lines_text (terms_at terms guards)

regrouped : (a b c d e f g h : List ℕ)
    → (a ++ b ++ c) ++ (d ++ (e ++ f ++ g ++ h)) ≡ a ++ b ++ c ++ d ++ e ++ f ++ g ++ h
regrouped a b c d e f g h = simp append_assoc

state_shape : (n : Node) (atoms guards : List Term) (count protections : ℕ) → n.state ≡ atoms → n.guards ≡ guards
    → count ≡ length atoms → protections ≡ length guards
    → count_line (codes "state ") count
    ++ (lines_text atoms ++ (count_line (codes "protections ") protections ++ lines_text guards)) ≡ state_text n
unfolding state_text
state_shape n atoms guards count protections s g k l =
    rw (k, l, ← s, ← g)
    (regrouped (codes "state ") (decimal (length n.state)) (codes "\n") (lines_text n.state) (codes "protections ")
    (decimal (length n.guards)) (codes "\n") (lines_text n.guards))

-- the atoms and then the protections, each behind their count
pub state_parts : (n : Node) (terms : List Term) (s : Stage) (count : ℕ) → n.state ≡ state_of terms s
    → n.guards ≡ guards_of terms s → count ≡ length (live_atoms s.places)
    → count_line (codes "state ") count ++ (atoms_text terms s ++ guards_text terms s.guards) ≡ state_text n
state_parts n terms s count a g k =
    state_shape n (state_of terms s) (guards_of terms s) count (length s.guards) a g
    (k ∙ sym (length-map (live_atoms s.places) (term_at terms))) (sym (length-map s.guards (term_at terms)))

-- ---- endings

-- the words of a fault and its place
pub fault_words : (word : List ℕ) (span : Span) (a b c : List ℕ) → a ≡ word → b ≡ decimal span.from
    → c ≡ decimal span.to
    → codes "fault " ++ (a ++ (codes " at " ++ (b ++ (codes "-" ++ (c ++ []))))) ≡ codes "fault " ++ at_span word span
fault_words word span a b c p q r = rw (p, q, r) (simp (append_assoc, append-nil))

-- how many plans were found and by how many expansions
abbrev pub counts_text : ℕ → ℕ → List ℕ
counts_text plans expansions =
    codes " plans " ++ decimal plans ++ codes " expansions " ++ decimal expansions ++ codes "\n"

-- the words of the counts
pub counts_words : (plans expansions : ℕ) (a b : List ℕ) → a ≡ decimal plans → b ≡ decimal expansions
    → codes " plans " ++ (a ++ (codes " expansions " ++ (b ++ codes "\n"))) ≡ counts_text plans expansions
counts_words plans expansions a b p q = rw (p, q) (simp append_assoc)

-- the words of an ending and then the counts
pub ending_parts : (x : report.Ending) (plans expansions : ℕ) → expansions < 2 ^ 64
    → ending_word x ++ counts_text plans expansions ≡ ending_text x plans expansions
unfolding ending_text
ending_parts x plans expansions h =
    let e : min expansions (2 ^ 64 - 1) ≡ expansions = omega arith in
    rw e (simp append_assoc)

-- ---- a value that there is

-- a consequence of a fact of a value, where there is a value
pub for_one : {A : Type 0} (o : Option A) (P R : A → Type 0) → MatchOption o ⊥ P → ((x : A) → P x → R x)
    → MatchOption o ⊥ R
for_one None P R p f = p
for_one (Some x) P R p f = f x p

-- a consequence of two facts of a value, where there is a value
pub for_two : {A : Type 0} (o : Option A) (P Q R : A → Type 0) → MatchOption o ⊥ P → MatchOption o ⊥ Q
    → ((x : A) → P x → Q x → R x) → MatchOption o ⊥ R
for_two None P Q R p q f = p
for_two (Some x) P Q R p q f = f x p q
