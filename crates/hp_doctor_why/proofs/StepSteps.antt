-- The last of some steps.
use Rattle.std.proofs.Common.{◌≡◌, ℕ, ◌-◌, ◌==◌, ◌++◌, Bool, List, Result, Ok, Err, OnOk, append_assoc, drop, length, map, take, ap, sym, ◌∙◌, arith}
use Rattle.std.proofs.lemmas.List.{drop-map, length-drop, length-map, take_all}
use Rattle.hp_doctor_why.specs.declared.ends.TheConstants.{STEPS_SHOWN}

-- the last of what things become are what the last of the things become
pub last_mapped : {A B : Type 0} (f : A → B) (xs : List A) (from : ℕ) → from ≡ length xs - STEPS_SHOWN
    → map f (take (length xs - from) (drop from xs)) ≡ drop (length (map f xs) - STEPS_SHOWN) (map f xs)
last_mapped f xs from e =
    ap (map f) (take_all (length xs - from) (drop from xs) (omega (arith, length-drop from xs)))
    ∙ (sym (drop-map f from xs)
    ∙ ap (λ n. drop n (map f xs)) (e ∙ ap (λ n. n - STEPS_SHOWN) (sym (length-map xs f))))

-- there are as many things as they become
pub as_empty : {A B : Type 0} (f : A → B) (xs : List A) (b : Bool) → b ≡ (length xs == 0) → b ≡ (length (map f xs) == 0)
as_empty f xs b e = e ∙ ap (λ n. n == 0) (sym (length-map xs f))

-- two texts that are put one after the other are both put
pub put_both : {A E : Type 0} (r : Result A E) (one two out mid new : List ℕ) → mid ≡ out ++ one
    → OnOk r (new ≡ mid ++ two) → OnOk r (new ≡ out ++ (one ++ two))
put_both (Ok x) one two out mid new e put = put ∙ (ap (λ zs. zs ++ two) e ∙ append_assoc out one two)
put_both (Err x) one two out mid new e put = tt
