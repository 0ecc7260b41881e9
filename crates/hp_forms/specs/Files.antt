-- Why the text of a file is read as nothing.
use Rattle.std.specs.Prelude.{ℕ, List, length}
use Rattle.hp_syntax.specs.Forest.{Forest, IsForest}
use Rattle.hp_syntax.specs.TextForms.{Form}
use Rattle.hp_text.specs.Refusals.{RefusesText}
use Rattle.hp_terms.specs.FormReads.{Refuses}
use Rattle.hp_forms.specs.declared.texts.FileRefusal.{FileRefusal}
use Rattle.hp_forms.specs.declared.texts.FileRefusal.TheVariants as refusals

-- the text is refused, or it spells a forest that is refused
abbrev pub RefusesFile : {A : Type 0} → Form A → List ℕ → FileRefusal → Type 0
RefusesFile form text (refusals.Text refusal) = RefusesText text refusal
RefusesFile form text (refusals.Form refusal) =
    (f : Forest) × IsForest text f × Refuses refusal (form (length text) f)
