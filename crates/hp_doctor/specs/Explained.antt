-- What is written of the lines of a text: each one as it is, and behind a finding what it means and where it is.
use Rattle.std.specs.Prelude.{ℕ, ◌==◌, cond, List, [], ◌∷◌, ◌++◌, Option, Some, None, option_and_then, replicate, codes, decimal, ◌+◌, Bool, true, false}
use Rattle.hp_io.specs.declared.folder.Input.TheVariants as inputs
use Rattle.hp_out.specs.declared.refusal.Refusal.{Refusal}
use Rattle.hp_out.specs.declared.refusal.Refusal.TheVariants as refusals
use Rattle.hp_out.specs.Lines.{text_of}
use Rattle.hp_places.specs.Places.{line_of}
use Rattle.hp_places.specs.Shown.{shown}
use Rattle.hp_syntax.specs.declared.text.TextKind.{TextKind}
use Rattle.hp_syntax.specs.declared.text.TextKind.TheVariants as kinds
use Rattle.hp_syntax.specs.declared.pattern.Span.{Span}
use Rattle.hp_doctor.specs.declared.finding.Aim.{Aim}
use Rattle.hp_doctor.specs.declared.finding.Finding.{Finding}
use Rattle.hp_doctor.specs.declared.finding.Finding.TheVariants.{Refused, Unserved, Met}
use Rattle.hp_doctor.specs.declared.mending.Mend.{Mend}
use Rattle.hp_doctor.specs.declared.mending.Mend.TheVariants.{Close, Cut}
use Rattle.hp_doctor.specs.declared.mending.Mended.{Mended}
use Rattle.hp_doctor.specs.declared.nesting.Nested.{Nested}
use Rattle.hp_doctor.specs.declared.hints.TheConstants as says
use Rattle.hp_doctor.specs.Findings.{finding_of}
use Rattle.hp_doctor.specs.Nesting.{nested_rule}
use Rattle.hp_doctor.specs.Sentences.{refusal_sentence, sentence}
use Rattle.hp_doctor.specs.Texts.{File, Texts, chosen}

-- ---- what a finding is about

-- no file, or a file, and a span of it where it has one
abbrev pub refusal_aim : Refusal → Aim
refusal_aim refusals.Usage = record { which = None; span = None }
refusal_aim (refusals.Read which) = record { which = Some which; span = None }
refusal_aim (refusals.Text which kind offset) =
    record { which = Some which; span = Some (record { from = offset; to = offset }) }
refusal_aim (refusals.Form which what span) = record { which = Some which; span = Some span }
refusal_aim (refusals.Check fault) = record { which = Some (text_of fault.in_problem); span = Some fault.span }
refusal_aim (refusals.NoPair number count) = record { which = Some inputs.Problem; span = None }

abbrev pub aim_of : Finding → Aim
aim_of (Refused r) = refusal_aim r
aim_of (Unserved in_problem span) = record { which = Some (text_of in_problem); span = Some span }
aim_of (Met f) = record { which = Some inputs.Domain; span = Some f.span }

-- ---- how it is told

-- a sentence behind the name of a file
abbrev pub named_text : List ℕ → List ℕ → List ℕ
named_text name says = name ++ codes ": " ++ says ++ codes "\n"

-- with its place where the text is there and the finding has one
abbrev pub located : List ℕ → Option (List ℕ) → Option Span → List ℕ → List ℕ
located name (Some text) (Some span) says = shown name text span says
located name (Some text) None says = named_text name says
located name None span says = named_text name says

-- in a file, where it is about one whose name is known
abbrev pub told_in : Option File → Option Span → List ℕ → List ℕ
told_in None span says = says ++ codes "\n"
told_in (Some f) span says = located f.name f.text span says

abbrev pub finding_text : Texts → Finding → List ℕ
finding_text t f = told_in (option_and_then (chosen t) (aim_of f).which) (aim_of f).span (sentence f)

-- ---- hints

-- what is said of a rule that begins inside another one
abbrev pub nested_sentence : ℕ → List ℕ
nested_sentence line = says.NESTED.now ++ decimal line ++ says.MISSING.now

abbrev pub nested_text : List ℕ → List ℕ → Nested → List ℕ
nested_text name text n =
    shown name text (record { from = n.inner; to = n.inner + 1 }) (nested_sentence (line_of text n.outer))

-- what is said of a file that is read when its brackets are in pairs
abbrev pub read_sentence : Mend → List ℕ
read_sentence (Close count) = says.WITH.now ++ replicate count 41 ++ says.READ.now
read_sentence (Cut offset) = says.CUT_READ.now

-- what is said of one that is refused then, before the sentence of the refusal
abbrev pub refused_opening : Mend → List ℕ
refused_opening (Close count) = says.CLOSED.now
refused_opening (Cut offset) = says.CUT.now

-- in a file, and at its place where it is refused
abbrev pub mended_by : File → Mend → Option Refusal → List ℕ
mended_by f how None = named_text f.name (read_sentence how)
mended_by f how (Some r) = located f.name f.text (refusal_aim r).span (refused_opening how ++ refusal_sentence r)

abbrev pub mended_text : File → Option Mended → List ℕ
mended_text f None = []
mended_text f (Some m) = mended_by f m.mend m.refusal

-- the first rule inside another one, or, where there is none, what would be said of the file if its brackets were in
-- pairs
abbrev pub unpaired_by : File → List ℕ → Option Nested → List ℕ
unpaired_by f text None = mended_text f f.mended
unpaired_by f text (Some n) = nested_text f.name text n

-- where the text is there
abbrev pub unpaired_text : File → Option (List ℕ) → List ℕ
unpaired_text f None = []
unpaired_text f (Some text) = unpaired_by f text (nested_rule text)

abbrev pub unpaired_in : Option File → List ℕ
unpaired_in None = []
unpaired_in (Some f) = unpaired_text f f.text

-- brackets that are open at the end, or one that closes nothing
abbrev pub are_unpaired : TextKind → Bool
are_unpaired kinds.Unclosed = true
are_unpaired kinds.ExtraClose = true
are_unpaired kinds.BadByte = false
are_unpaired kinds.BadNumber = false
are_unpaired kinds.NumberRange = false
are_unpaired kinds.TokenLong = false
are_unpaired kinds.TooNested = false
are_unpaired kinds.TooLarge = false

-- where a bracket may be missing, of a text whose brackets aren't in pairs
abbrev pub refusal_hint : Texts → Refusal → List ℕ
refusal_hint t (refusals.Text which kind offset) = cond (are_unpaired kind) (unpaired_in (chosen t which)) []
refusal_hint t refusals.Usage = []
refusal_hint t (refusals.Read which) = []
refusal_hint t (refusals.Form which what span) = []
refusal_hint t (refusals.Check fault) = []
refusal_hint t (refusals.NoPair number count) = []

abbrev pub hint : Texts → Finding → List ℕ
hint t (Refused r) = refusal_hint t r
hint t (Unserved in_problem span) = []
hint t (Met f) = []

-- ---- lines

abbrev pub explanation_by : Texts → Option Finding → List ℕ
explanation_by t None = []
explanation_by t (Some f) = finding_text t f ++ hint t f

-- a line, and what follows it
abbrev pub explained_line : Texts → List ℕ → List ℕ
explained_line t line = line ++ codes "\n" ++ explanation_by t (finding_of line)

-- a byte behind those of a line: a line feed ends it
abbrev pub next_line : List ℕ → ℕ → List ℕ
next_line line b = cond (b == 10) [] (line ++ b ∷ [])

-- what is written at a byte behind those of a line: the line, where it ends there
abbrev pub told_at : Texts → List ℕ → ℕ → List ℕ
told_at t line b = cond (b == 10) (explained_line t line) []

-- the whole lines of a text that goes on behind so many bytes of a line
abbrev pub told : Texts → List ℕ → List ℕ → List ℕ
told t line [] = []
told t line (b ∷ bs) = told_at t line b ++ told t (next_line line b) bs

-- the bytes of such a text behind its last line feed
abbrev pub left : List ℕ → List ℕ → List ℕ
left line [] = line
left line (b ∷ bs) = left (next_line line b) bs

-- all that is written of a text: its whole lines, and what stands behind them as it is
abbrev pub explained : Texts → List ℕ → List ℕ
explained t text = told t [] text ++ left [] text
