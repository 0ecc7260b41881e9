-- The reading of a numbered form is numbered.
use Rattle.std.proofs.Common.{◌≡◌, ℕ, List, length, Result, Ok, Err, IfOk}
use Rattle.hp_syntax.specs.Forest.{Forest}
use Rattle.hp_syntax.specs.Steps.{Misform}
use Rattle.hp_terms.specs.declared.refusal.FormRefusal.{FormRefusal}
use Rattle.hp_syntax.specs.TextForms.{Form, IsRead}
use Rattle.hp_terms.specs.FormReads.{Gives}
use Rattle.hp_forms.specs.declared.texts.FileRefusal.{FileRefusal}

-- a fact of each value that is given is one of the value that is read
pub given : {X Y : Type 0} (view : X → Y) (P : Y → Type 0) (r : Result X FormRefusal) (g : Result Y Misform)
    → ((y : Y) → g ≡ Ok y → P y) → Gives view r g → IfOk r (λ x. P (view x))
given view P (Ok x) g law h = law (view x) h
given view P (Err e) g law h = tt

-- a fact of each value that a form is holds for the value that a text is read as
pub given_read : {X Y : Type 0} (view : X → Y) (P : Y → Type 0) (form : Form Y) (text : List ℕ) (r : Result X FileRefusal)
    → ((len : ℕ) (f : Forest) (y : Y) → form len f ≡ Ok y → P y) → IfOk r (λ x. IsRead form text (view x))
    → IfOk r (λ x. P (view x))
given_read view P form text (Ok x) law h = law (length text) h.forest (view x) h.form_is
given_read view P form text (Err e) law h = tt
