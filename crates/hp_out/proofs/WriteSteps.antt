-- A text that is written piece by piece.
use Rattle.std.proofs.Common.{◌≡◌, ℕ, zero, suc, ◌+◌, ◌<◌, List, [], ◌∷◌, ◌++◌, length, Option, Some, None, take, drop, slice_index_or, arith, refl, ap, sym, subst, ◌∙◌, append_assoc}
use Rattle.std.specs.List.{flat_map}
use Rattle.std.specs.Prelude.{Result, Ok, Err}
use Rattle.std.specs.Result.{IsErr}
use Rattle.std.proofs.Math.Seq.{take-add}
use Rattle.std.proofs.lemmas.Bool.{false≢true}
use Rattle.hp_io.specs.Rules.{Appended}
use Rattle.hp_out.specs.Writing.{Wrote, WroteProperPrefix, Writes}
use Rattle.hp_out.proofs.WritingLemmas.{proper_longer, proper_after}

-- a prefix that was written and then a piece behind it are a longer prefix
pub write_step : (text : List ℕ) (done n : ℕ) (old mid new : Option (List ℕ)) → Wrote (take done text) old mid
    → Appended n (drop done text) mid new → Wrote (take (done + n) text) old new
write_step text done n None mid new a t = subst (λ m. Appended n (drop done text) m new) a t
write_step text done n (Some old) mid new a t =
    let t' = subst (λ m. Appended n (drop done text) m new) a t in
    t' ∙ rw (take-add, append_assoc) refl

-- the texts of a list are those of its prefix, of its i-th element, and of the elements behind
pub seam : {X A : Type 0} (f : X → List A) (xs : List X) (i : ℕ) (d : X) → i < length xs
    → flat_map f xs ≡ (flat_map f (take i xs) ++ f (slice_index_or xs i d)) ++ flat_map f (drop (suc i) xs)
seam f [] i d h = absurd (omega (arith, h))
seam f (x ∷ xs) zero d h = refl
seam f (x ∷ xs) (suc i) d h =
    ap (λ t. f x ++ t) (seam f xs i d (omega (arith, h)))
    ∙ sym (append_assoc (f x) (flat_map f (take i xs) ++ f (slice_index_or xs i d)) (flat_map f (drop (suc i) xs)))
    ∙ ap (λ t. t ++ flat_map f (drop (suc i) xs))
    (sym (append_assoc (f x) (flat_map f (take i xs)) (f (slice_index_or xs i d))))

-- some pieces and then a proper prefix of the next are a proper prefix of all of them
pub proper_within : {X : Type 0} (f : X → List ℕ) (pieces : List X) (i : ℕ) (d : X) (a b c : Option (List ℕ))
    → i < length pieces → Wrote (flat_map f (take i pieces)) a b
    → WroteProperPrefix (f (slice_index_or pieces i d)) b c → WroteProperPrefix (flat_map f pieces) a c
proper_within f pieces i d a b c h w v =
    subst (λ t. WroteProperPrefix t a c) (sym (seam f pieces i d h))
    (proper_longer _ (flat_map f (drop (suc i) pieces)) a c
    (proper_after (flat_map f (take i pieces)) (f (slice_index_or pieces i d)) a b c w v))

-- where a call failed after a proper prefix, it writes that
pub writes_prefix : {A E : Type 0} (r : Result A E) (text : List ℕ) (a b : Option (List ℕ)) → IsErr r
    → WroteProperPrefix text a b → Writes r text a b
writes_prefix (Ok x) text a b h w = absurd (false≢true h)
writes_prefix (Err e) text a b h w = w

failed : {A E : Type 0} (s : Result A E) (e : E) (x : List ℕ) (a b : Option (List ℕ)) → s ≡ Err e → Writes s x a b
    → WroteProperPrefix x a b
failed s e x a b h w = subst (λ r. Writes r x a b) h w

-- where the first part of a text couldn't be written, the text couldn't
pub first_failed : {A B E F : Type 0} (r : Result A E) (s : Result B F) (f : F) (x y text : List ℕ)
    (a b : Option (List ℕ)) → IsErr r → s ≡ Err f → Writes s x a b → x ++ y ≡ text → Writes r text a b
first_failed r s f x y text a b h k w e =
    subst (λ t. Writes r t a b) e (writes_prefix r (x ++ y) a b h (proper_longer x y a b (failed s f x a b k w)))

-- two texts that were written one behind the other were written
pub wrote_both : (x y : List ℕ) (a b c : Option (List ℕ)) → Wrote x a b → Wrote y b c → Wrote (x ++ y) a c
wrote_both x y None b c h w = subst (λ m. Wrote y m c) h w
wrote_both x y (Some a) b c h w = subst (λ m. Wrote y m c) h w ∙ ap Some (append_assoc a x y)

writes_both : {A E : Type 0} (r : Result A E) (x y : List ℕ) (a b c : Option (List ℕ)) → Wrote x a b
    → Writes r y b c → Writes r (x ++ y) a c
writes_both (Ok z) x y a b c h w = wrote_both x y a b c h w
writes_both (Err e) x y a b c h w = proper_after x y a b c h w

-- the first part of a text that was written, and then the rest of it, which a call writes
pub rest_written : {A E : Type 0} (r : Result A E) (x y text : List ℕ) (a b c : Option (List ℕ)) → Wrote x a b
    → Writes r y b c → x ++ y ≡ text → Writes r text a c
rest_written r x y text a b c h w e = subst (λ t. Writes r t a c) e (writes_both r x y a b c h w)

-- a call writes equal texts
pub writes_same : {A E : Type 0} (r : Result A E) (x y : List ℕ) (a b : Option (List ℕ)) → x ≡ y → Writes r x a b
    → Writes r y a b
writes_same r x y a b e w = subst (λ t. Writes r t a b) e w
