-- Files whose brackets aren't in pairs: how they would be at their end, and what would be said of such a file then.
use Rattle.std.specs.Prelude.{◌≡◌, ℕ, ◌+◌, ◌-◌, ◌≤◌, Bool, false, ◌&&◌, ◌||◌, not, nat_le, nat_lt, ◌==◌, cond, List, [], ◌∷◌, ◌++◌, length, take, replicate, Option, Some, None, codes}
use Rattle.hp_forms.specs.PlanForms.{plan_form}
use Rattle.hp_io.specs.declared.folder.Input.{Input}
use Rattle.hp_io.specs.declared.folder.Input.TheVariants as inputs
use Rattle.hp_out.specs.declared.refusal.Refusal.{Refusal}
use Rattle.hp_syntax.specs.Grammar.{domain_form, problem_form}
use Rattle.hp_syntax.specs.Terms.{Term}
use Rattle.hp_syntax.specs.Text.{comment_after}
use Rattle.hp_syntax.specs.TextForms.{Form, IsRead}
use Rattle.hp_syntax.specs.declared.limits.TheConstants.{LARGEST_TEXT}
use Rattle.hp_doctor.specs.declared.mending.Mend.{Mend}
use Rattle.hp_doctor.specs.declared.mending.Mend.TheVariants.{Close, Cut}
use Rattle.hp_doctor.specs.declared.mending.Mended.{Mended}
use Rattle.hp_doctor.specs.Accepting.{IsMisread}
use Rattle.hp_doctor.specs.Texts.{File, Texts}

-- ---- how the brackets of a text are put in pairs

-- a closing bracket where none is open
abbrev pub closes_nothing : ℕ → Bool → ℕ → Bool
closes_nothing depth in_comment b = not in_comment && (b == 41 && depth == 0)

-- how many brackets are open behind a byte
abbrev pub depth_behind : ℕ → Bool → ℕ → ℕ
depth_behind depth in_comment b =
    cond in_comment depth (cond (b == 40) (depth + 1) (cond (b == 41) (depth - 1) depth))

-- behind so many bytes as many brackets are closed as are open there, unless the text would be larger than texts may be
abbrev pub mend_at_end : ℕ → ℕ → Option Mend
mend_at_end size depth = cond (depth == 0 || nat_lt LARGEST_TEXT (size + 1 + depth)) None (Some (Close depth))

-- a text that goes on from an offset, where so many brackets are open and a comment is or isn't, is cut in front of the
-- first bracket that closes nothing, or else its brackets are closed at its end
abbrev pub mend_from : ℕ → Bool → ℕ → List ℕ → Option Mend
mend_from depth in_comment offset [] = mend_at_end offset depth
mend_from depth in_comment offset (b ∷ bs) =
    cond (closes_nothing depth (comment_after in_comment b) b) (Some (Cut offset))
    (mend_from (depth_behind depth (comment_after in_comment b) b) (comment_after in_comment b) (offset + 1) bs)

-- a whole text, if it isn't larger than texts may be
abbrev pub mend_of : List ℕ → Option Mend
mend_of text = cond (nat_le (length text) LARGEST_TEXT) (mend_from 0 false 0 text) None

-- the text that is tried: behind a line feed, which ends a comment that is open, the brackets are closed; or the text
-- is cut
abbrev pub tried : List ℕ → Mend → List ℕ
tried text (Close count) = text ++ codes "\n" ++ replicate count 41
tried text (Cut offset) = take offset text

-- it is cut within this size
abbrev pub IsWithin : ℕ → Mend → Type 0
IsWithin size (Close count) = Unit {0}
IsWithin size (Cut offset) = offset ≤ size

-- ---- what is said of it

-- the steps of a plan, however large its file is
abbrev pub steps_form : Form (List Term)
steps_form size f = plan_form f

-- a text is read by a grammar as something
pub record IsSomeRead {A : Type 0} (form : Form A) (text : List ℕ) : Type 0 where
  pub value : A
  pub read : IsRead form text value

-- a text is read by a grammar, or refused so
abbrev pub IsSaidBy : {A : Type 0} → Input → Form A → List ℕ → Option Refusal → Type 0
IsSaidBy which form text None = IsSomeRead form text
IsSaidBy which form text (Some r) = IsMisread which form text r

-- the same by the grammar of its input
abbrev pub IsSaid : Input → List ℕ → Option Refusal → Type 0
IsSaid inputs.Domain text said = IsSaidBy inputs.Domain domain_form text said
IsSaid inputs.Problem text said = IsSaidBy inputs.Problem problem_form text said
IsSaid inputs.Plan text said = IsSaidBy inputs.Plan steps_form text said

-- ---- files

-- nothing is held of a text with nothing to mend, and else how it is mended and what is said of it then
abbrev pub IsMendedBy : Input → List ℕ → Option Mend → Option Mended → Type 0
IsMendedBy which text None held = held ≡ None
IsMendedBy which text (Some how) None = ⊥
IsMendedBy which text (Some how) (Some m) = (m.mend ≡ how) × IsSaid which (tried text how) m.refusal

-- of a file without its text nothing is held
abbrev pub IsMended : Input → Option (List ℕ) → Option Mended → Type 0
IsMended which None held = held ≡ None
IsMended which (Some text) held = IsMendedBy which text (mend_of text) held

abbrev pub IsPlanMended : Option File → Type 0
IsPlanMended None = Unit {0}
IsPlanMended (Some f) = IsMended inputs.Plan f.text f.mended

-- of each file of a run it is held
pub record AreMended (t : Texts) : Type 0 where
  pub domain : IsMended inputs.Domain t.domain.text t.domain.mended
  pub problem : IsMended inputs.Problem t.problem.text t.problem.mended
  pub plan : IsPlanMended t.plan
