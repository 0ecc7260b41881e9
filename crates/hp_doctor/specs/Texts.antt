-- The files that findings are about.
use Rattle.std.specs.Prelude.{ℕ, List, Option, Some, option_map}
use Rattle.hp_io.specs.declared.folder.Input.{Input}
use Rattle.hp_io.specs.declared.folder.Input.TheVariants as inputs
use Rattle.hp_doctor.specs.declared.mending.Mended.{Mended}
use Rattle.hp_doctor.specs.declared.texts.Text.{Text}
use Rattle.hp_doctor.specs.declared.texts.Texts as held

-- a file: its name, its text where it could be read, and what would be said of it if its brackets were in pairs, where
-- they aren't
pub record File : Type 0 where
  pub name : List ℕ
  pub text : Option (List ℕ)
  pub mended : Option Mended

-- the files of a run, of which a plan's may not be named
pub record Texts : Type 0 where
  pub domain : File
  pub problem : File
  pub plan : Option File

-- the file of an input
abbrev pub chosen : Texts → Input → Option File
chosen t inputs.Domain = Some t.domain
chosen t inputs.Problem = Some t.problem
chosen t inputs.Plan = t.plan

-- ---- as the code holds them

abbrev pub file_of : Text → File
file_of t =
    record { name = t.name.now; text = option_map (λ lines. lines.text.items) t.lines; mended = t.mended }

abbrev pub texts_of : held.Texts → Texts
texts_of t =
    record { domain = file_of t.domain; problem = file_of t.problem; plan = option_map file_of t.plan }
