-- The lines of refusals, notes and faults are read.
use Rattle.std.proofs.Common.{◌≡◌, ℕ, ◌^◌, ◌<◌, Bool, true, false, List, ◌∷◌, ◌++◌, codes, decimal, Option, Some, None, refl, ap, sym, ◌∙◌, append_assoc, arith}
use Rattle.std.specs.Prelude.{option_and_then, bytes_eq, cond, not, ◌==◌}
use Rattle.std.specs.List.{list_all}
use Rattle.std.proofs.lemmas.Bool.{and_from}
use Rattle.std.proofs.lemmas.List.Folds.{list_all-append}
use Rattle.std.proofs.lemmas.List.{append_cancel_right}
use Rattle.hp_io.specs.declared.folder.Input.{Input}
use Rattle.hp_io.specs.declared.folder.Input.TheVariants as inputs
use Rattle.hp_out.specs.declared.refusal.Refusal.{Refusal}
use Rattle.hp_out.specs.declared.refusal.Refusal.TheVariants as refusals
use Rattle.hp_out.specs.Lines.{check_word, expected_text, input_word, kind_word, no_pair_line, note_text, text_of, what_word}
use Rattle.hp_out.specs.RefusalTexts.{refusal_text}
use Rattle.hp_syntax.specs.declared.check.CheckKind.{CheckKind}
use Rattle.hp_syntax.specs.declared.check.CheckKind.TheVariants as checks
use Rattle.hp_syntax.specs.declared.form.What.{What}
use Rattle.hp_syntax.specs.declared.form.What.TheVariants as wants
use Rattle.hp_syntax.specs.declared.pattern.Span.{Span}
use Rattle.hp_syntax.specs.declared.text.TextKind.{TextKind}
use Rattle.hp_syntax.specs.declared.text.TextKind.TheVariants as texts
use Rattle.hp_syntax.specs.declared.fault.FaultKind.{FaultKind}
use Rattle.hp_syntax.specs.declared.fault.FaultKind.TheVariants as faults
use Rattle.hp_syntax.specs.declared.fault.RunFault.{RunFault}
use Rattle.hp_syntax.specs.Notes.{Note}
use Rattle.hp_syntax.specs.Report.{AtFault, ending_text, fault_word}
use Rattle.hp_syntax.specs.Walk.{count_told}
use Rattle.hp_syntax.specs.PlaceTexts.{at_offset, at_span, span_text}
use Rattle.hp_doctor.specs.declared.finding.Finding.{Finding}
use Rattle.hp_doctor.specs.declared.finding.Finding.TheVariants.{Refused, Unserved, Met}
use Rattle.hp_doctor.specs.Findings as findings
use Rattle.hp_doctor.specs.Findings.{are_counts, check_refusal, finding_of, form_refusal, pair_refusal, problem_of, refusal_in, text_refusal}
use Rattle.hp_doctor.specs.Laws.{IsInFile, IsInRange, IsWord}
use Rattle.hp_doctor.specs.Words.{first_word, other_words, count_of, span_of}
use Rattle.hp_doctor.proofs.NumberLemmas.{IsFree, before_mark, behind_mark, count_read, decimal_free, offset_read, span_read}

-- ---- refusals

-- what is refused in a text, from the word behind the name of the text on
refused_in : (which : Input) (why : List ℕ)
    → finding_of (codes "refused " ++ input_word which ++ codes " " ++ why)
    ≡ refusal_in which (first_word why) (other_words why)
refused_in inputs.Domain why = refl
refused_in inputs.Problem why = refl
refused_in inputs.Plan why = refl

abbrev InWords : Input → List ℕ → Option Finding
InWords which why = refusal_in which (first_word why) (other_words why)

text_kind_in : (which : Input) (kind : TextKind) (rest : List ℕ)
    → InWords which (kind_word kind ++ codes " at " ++ rest) ≡ text_refusal which kind (codes "at " ++ rest)
text_kind_in which texts.BadByte rest = refl
text_kind_in which texts.BadNumber rest = refl
text_kind_in which texts.NumberRange rest = refl
text_kind_in which texts.TokenLong rest = refl
text_kind_in which texts.Unclosed rest = refl
text_kind_in which texts.ExtraClose rest = refl
text_kind_in which texts.TooNested rest = refl
text_kind_in which texts.TooLarge rest = refl

check_kind_in : (which : Input) (kind : CheckKind) (rest : List ℕ)
    → InWords which (check_word kind ++ codes " at " ++ rest) ≡ check_refusal which kind (codes "at " ++ rest)
check_kind_in which checks.OtherDomain rest = refl
check_kind_in which checks.UnknownCall rest = refl
check_kind_in which checks.CallArity rest = refl
check_kind_in which checks.VariableInProblem rest = refl
check_kind_in which checks.CallInHead rest = refl
check_kind_in which checks.TooManyVariables rest = refl
check_kind_in which checks.ExprNested rest = refl
check_kind_in which checks.UnknownOrder rest = refl

-- a form that is wanted at a span
abbrev FormAt : Input → What → Option Span → Option Finding
FormAt which what place = option_and_then (λ span. Some (Refused (refusals.Form which what span))) place

form_in : (which : Input) (what : What) (rest : List ℕ)
    → InWords which (codes "Expected " ++ (what_word what ++ codes " at " ++ rest)) ≡ FormAt which what (span_of rest)
form_in which wants.Domain rest = refl
form_in which wants.Problem rest = refl
form_in which wants.Name rest = refl
form_in which wants.Rules rest = refl
form_in which wants.Rule rest = refl
form_in which wants.Head rest = refl
form_in which wants.Pre rest = refl
form_in which wants.Expr rest = refl
form_in which wants.Variable rest = refl
form_in which wants.Term rest = refl
form_in which wants.Tail rest = refl
form_in which wants.Atom rest = refl
form_in which wants.Atoms rest = refl
form_in which wants.Effects rest = refl
form_in which wants.Tasks rest = refl
form_in which wants.Ground rest = refl
form_in which wants.End rest = refl

-- a check at a span
check_at : (in_problem : Bool) (kind : CheckKind) (s : Span) → IsInFile s
    → check_refusal (text_of in_problem) kind (codes "at " ++ span_text s)
    ≡ Some (Refused (refusals.Check (record { kind = kind; in_problem = in_problem; span = s })))
check_at true kind s h = rw (span_read s h) refl
check_at false kind s h = rw (span_read s h) refl

-- a line without its line feed
ended : (line text : List ℕ) → line ++ codes "\n" ≡ text ++ codes "\n" → line ≡ text
ended line text e = append_cancel_right line text (codes "\n") e

-- the numbers of a pair that isn't there, by the first of them and what follows it
abbrev PairBy : List ℕ → List ℕ → Option Finding
PairBy first others =
    cond (bytes_eq (first_word others) (codes "of"))
    (option_and_then
    (λ number. option_and_then (λ count. Some (Refused (refusals.NoPair number count))) (count_of (other_words others)))
    (count_of first))
    None

pair_numbers : (number count : ℕ) → number < 2 ^ 64 → count < 2 ^ 64
    → PairBy (decimal number) (codes "of " ++ decimal count) ≡ Some (Refused (refusals.NoPair number count))
pair_numbers number count h k = rw (count_read number h, count_read count k) refl

pair_in : (words : List ℕ)
    → finding_of (codes "refused problem NoPair " ++ words) ≡ PairBy (first_word words) (other_words words)
pair_in words = refl

pair_read : (number count : ℕ) (line : List ℕ) → number < 2 ^ 64 → count < 2 ^ 64
    → line ++ codes "\n" ≡ no_pair_line number count → finding_of line ≡ Some (Refused (refusals.NoPair number count))
unfolding no_pair_line
pair_read number count line h k e =
    let words = decimal number ++ 32 ∷ (codes "of " ++ decimal count) in
    let free = decimal_free 32 number (omega arith) h in
    let text : codes "refused problem NoPair " ++ decimal number ++ codes " of " ++ decimal count
    ≡ codes "refused problem NoPair " ++ words = simp append_assoc in
    ap finding_of
    (ended line (codes "refused problem NoPair " ++ decimal number ++ codes " of " ++ decimal count) e ∙ text)
    ∙ pair_in words
    ∙ ap (λ f. PairBy f (other_words words)) (before_mark 32 (decimal number) (codes "of " ++ decimal count) free)
    ∙ ap (PairBy (decimal number)) (behind_mark 32 (decimal number) (codes "of " ++ decimal count) free)
    ∙ pair_numbers number count h k

pub refusal_read : (r : Refusal) (line : List ℕ) → IsInRange r → line ++ codes "\n" ≡ refusal_text r
    → finding_of line ≡ Some (Refused r)
refusal_read refusals.Usage line h e = ap finding_of (ended line (codes "refused usage") e)
refusal_read (refusals.Read inputs.Domain) line h e = ap finding_of (ended line (codes "refused read domain") e)
refusal_read (refusals.Read inputs.Problem) line h e = ap finding_of (ended line (codes "refused read problem") e)
refusal_read (refusals.Read inputs.Plan) line h e = ap finding_of (ended line (codes "refused read plan") e)
refusal_read (refusals.Text which kind offset) line h e =
    let why = at_offset (kind_word kind) offset in
    ap finding_of (ended line (codes "refused " ++ input_word which ++ codes " " ++ why) e)
    ∙ refused_in which why ∙ text_kind_in which kind (decimal offset)
    ∙ ap (λ o. option_and_then (λ n. Some (Refused (refusals.Text which kind n))) o) (offset_read offset h)
refusal_read (refusals.Form which what span) line h e =
    let why = expected_text what span in
    ap finding_of (ended line (codes "refused " ++ input_word which ++ codes " " ++ why) e)
    ∙ refused_in which why ∙ form_in which what (span_text span) ∙ ap (FormAt which what) (span_read span h)
refusal_read (refusals.Check fault) line h e =
    let which = text_of fault.in_problem in
    let why = at_span (check_word fault.kind) fault.span in
    ap finding_of (ended line (codes "refused " ++ input_word which ++ codes " " ++ why) e)
    ∙ refused_in which why ∙ check_kind_in which fault.kind (span_text fault.span)
    ∙ check_at fault.in_problem fault.kind fault.span h
refusal_read (refusals.NoPair number count) line h e = pair_read number count line h.0 h.1 e

-- ---- notes

note_in : (in_problem : Bool) (rest : List ℕ)
    → findings.note_place (codes "in " ++ input_word (text_of in_problem) ++ codes " at " ++ rest)
    ≡ option_and_then (λ span. Some (Unserved in_problem span)) (span_of rest)
note_in true rest = refl
note_in false rest = refl

-- behind a name
note_behind : (name rest : List ℕ) → IsWord name
    → finding_of (codes "note NoRule " ++ name ++ 32 ∷ rest) ≡ findings.note_place rest
note_behind name rest h = ap findings.note_place (behind_mark 32 name rest h)

pub note_read : (n : Note) (line : List ℕ) → IsWord n.name → IsInFile n.span → line ++ codes "\n" ≡ note_text n
    → finding_of line ≡ Some (Unserved n.in_problem n.span)
note_read n line w h e =
    let place = codes "in " ++ input_word (text_of n.in_problem) ++ codes " at " ++ span_text n.span in
    let text = codes "note NoRule " ++ n.name ++ 32 ∷ place in
    ap finding_of (ended line text (e ∙ sym (append_assoc (codes "note NoRule " ++ n.name) (32 ∷ place) (codes "\n"))))
    ∙ note_behind n.name place w ∙ note_in n.in_problem (span_text n.span)
    ∙ ap (λ o. option_and_then (λ span. Some (Unserved n.in_problem span)) o) (span_read n.span h)

-- ---- faults

-- a fault by the first word behind `at`, and what follows it
abbrev FaultBy : FaultKind → List ℕ → List ℕ → Option Finding
FaultBy kind first others =
    option_and_then (λ span. cond (are_counts others) (Some (Met (record { kind = kind; span = span }))) None)
    (span_of first)

fault_in : (kind : FaultKind) (place : List ℕ)
    → finding_of (codes "fault " ++ (fault_word kind ++ (codes " at " ++ place)))
    ≡ FaultBy kind (first_word place) (other_words place)
fault_in faults.NotGround place = refl
fault_in faults.NotNumber place = refl
fault_in faults.Overflow place = refl
fault_in faults.ZeroDivisor place = refl
fault_in faults.NegativePower place = refl
fault_in faults.NotList place = refl
fault_in faults.TooDeep place = refl
fault_in faults.FractionPower place = refl

-- the counts of an ending
counts_read : (plans expansions : ℕ) → plans < 2 ^ 64 → expansions < 2 ^ 64
    → are_counts (codes "plans " ++ (decimal plans ++ (codes " expansions " ++ decimal expansions))) ≡ true
counts_read plans expansions h k =
    let free = decimal_free 32 plans (omega arith) h in
    let rest = codes "expansions " ++ decimal expansions in
    rw (before_mark 32 (decimal plans) rest free, behind_mark 32 (decimal plans) rest free, count_read plans h)
    (rw (count_read expansions k) refl)

-- a span holds no blank
span_free : (s : Span) → IsInFile s → IsFree 32 (span_text s)
span_free s h =
    let p : ℕ → Bool = λ b. not (b == 32) in
    let from = decimal_free 32 s.from (omega arith) (omega (arith, h.from)) in
    let to = decimal_free 32 s.to (omega arith) (omega (arith, h.to)) in
    list_all-append p (decimal s.from ++ codes "-") (decimal s.to)
    ∙ and_from (list_all p (decimal s.from ++ codes "-")) (list_all p (decimal s.to))
    (list_all-append p (decimal s.from) (codes "-") ∙ and_from (list_all p (decimal s.from)) true from refl) to

pub fault_read : (f : RunFault) (plans expansions : ℕ) (line : List ℕ) → IsInFile f.span → plans < 2 ^ 64
    → line ++ codes "\n" ≡ ending_text (AtFault f) plans expansions → finding_of line ≡ Some (Met f)
unfolding ending_text
fault_read f plans expansions line h k e =
    let told = count_told expansions in
    let words = at_span (fault_word f.kind) f.span in
    let counts = codes "plans " ++ (decimal plans ++ (codes " expansions " ++ decimal told)) in
    let place = span_text f.span ++ 32 ∷ counts in
    let text = codes "fault " ++ words ++ codes " plans " ++ decimal plans ++ codes " expansions " ++ decimal told in
    let shape : text ≡ codes "fault " ++ (fault_word f.kind ++ (codes " at " ++ place)) = simp append_assoc in
    let free = span_free f.span h in
    ap finding_of (ended line text e ∙ shape) ∙ fault_in f.kind place
    ∙ ap (λ w. FaultBy f.kind w (other_words place)) (before_mark 32 (span_text f.span) counts free)
    ∙ ap (FaultBy f.kind (span_text f.span)) (behind_mark 32 (span_text f.span) counts free)
    ∙ rw (span_read f.span h, counts_read plans told k (omega arith)) refl
