-- When a text is read as the value that it was written of.
use Rattle.std.proofs.Common.{◌≡◌, ℕ, List, length, Ok, ◌∙◌, ap}
use Rattle.hp_syntax.specs.Forest.{Node, Forest, IsForest}
use Rattle.hp_syntax.specs.TextForms.{Form}
use Rattle.hp_syntax.specs.Unplaced as unplaced
use Rattle.hp_syntax.specs.Written.{one}
use Rattle.hp_print.specs.ReadBack.{ReadsBack}

-- a text that spells the node of a value is read as the value up to spans, if the node alone has its form, and forests
-- that are the same without places have the same form up to spans
pub reads_back : {A : Type 0} (form : Form A) (without : A → A) (text : List ℕ) (x : A) (n : Node)
    → ((len : ℕ) (g : Forest) (v : A) → form 0 (unplaced.forest g) ≡ Ok v
    → (e : A) × (form len g ≡ Ok e) × (without e ≡ v))
    → form 0 (one n) ≡ Ok (without x) → (f : Forest) × IsForest text f × (unplaced.forest f ≡ one n)
    → ReadsBack form without text x
reads_back form without text x n placed again s =
    let r = placed (length text) s.0 (without x) (ap (form 0) s.2 ∙ again) in
    record { value = r.0; read = record { forest = s.0; spelled = s.1; form_is = r.1 }; same = r.2 }
