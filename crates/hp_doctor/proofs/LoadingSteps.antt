-- One more read.
use Rattle.std.proofs.Common.{◌≡◌, ℕ, ◌+◌, ◌≤◌, ◌<◌, List, [], ◌∷◌, ◌++◌, length, take, Option, Some, None, arith, ap, sym, ◌∙◌, subst, length-append, length-take, append-nil, append_assoc, refl, inl, inr}
use Rattle.std.proofs.Math.Seq.{take-append_seam}
use Rattle.std.proofs.lemmas.List.{take_all}
use Rattle.hp_io.specs.Rules.{Begins, Rose, Taken}
use Rattle.hp_syntax.specs.declared.limits.TheConstants.{LARGEST_TEXT}
use Rattle.hp_doctor.specs.Texts.{File}
use Rattle.hp_doctor.specs.Loading.{ReadsTo, Grows, IsAsTold, IsHeld, IsRead, IsPlanRead}
use Rattle.hp_doctor.specs.Telling.{Came}

-- a piece and the rest behind others are the rest behind those with the piece
joined : (before piece rest after : List ℕ) → after ≡ before ++ piece → before ++ (piece ++ rest) ≡ after ++ rest
joined before piece rest after e = rw (e, append_assoc) refl

-- bytes that were read, and some more behind them, are all that was read
pub grown_left : (n : ℕ) (before after : List ℕ) (old mid new : Option (List ℕ)) → Came before old mid
    → Grows n before after mid new → Came after old new
grown_left n before after None mid new a t = subst (λ m. Grows n before after m new) a t
grown_left n before after (Some old) mid new a t =
    let t' = subst (λ m. Grows n before after m new) a.1 t in
    (t'.0, t'.2, a.2 ∙ (ap (λ r. before ++ r) t'.3 ∙ joined before t'.1 t'.0 after t'.4))

-- bytes that were read up to the limit are the prefix of the rest, up to one byte past it
pub full : (most : ℕ) (bytes : List ℕ) (old now : Option (List ℕ)) → Came bytes old now
    → length bytes ≡ most + 1 → ReadsTo most bytes old
full most bytes None now a h = omega arith
full most bytes (Some old) now a h = sym (ap (take (most + 1)) a.2 ∙ rw (← h) (take-append_seam bytes a.0))

-- a list that is no longer than its prefix is that prefix
no_more : (xs ys zs : List ℕ) → zs ≡ xs ++ ys → length zs ≡ length xs → zs ≡ xs
no_more xs [] zs e h = e ∙ append-nil xs
no_more xs (y ∷ ys) zs e h = absurd (omega (arith, ap length e, length-append xs (y ∷ ys)))

-- bytes that were read until nothing more came are the whole rest
pub ended : (most : ℕ) (before after : List ℕ) (n : ℕ) (old mid new : Option (List ℕ)) → Came before old mid
    → Grows n before after mid new → n ≡ 0 → length after ≡ length before + n
    → length before ≤ most + 1 → ReadsTo most after old
ended most before after n None mid new a t z e h = omega arith
ended most before after n (Some old) mid new a t z e h =
    let t' = subst (λ m. Grows n before after m new) a.1 t in
    let none : a.0 ≡ [] = t'.5 z in
    let same : old ≡ before = a.2 ∙ (ap (λ r. before ++ r) none ∙ append-nil before) in
    let short : after ≡ before = no_more before t'.1 after t'.4 (omega arith) in
    short ∙ sym (ap (take (most + 1)) same ∙ take_all (most + 1) before h)

-- bytes that came to the front of a buffer, and were put behind others, are so many more of these
pub grown_by : (n room : ℕ) (buffer before after : List ℕ) (old new : Option (List ℕ))
    → Taken n room buffer old new → 0 < room → after ≡ before ++ take n buffer → Grows n before after old new
grown_by n room buffer before after None new t h e = t
grown_by n room buffer before after (Some old) new t h e = (t.0, take n buffer, t.1, t.2, e, λ z. t.3 z h)

-- the first n elements of a list that has as many are n
pub whole_prefix : (n : ℕ) (xs : List ℕ) → n ≤ length xs → n ≡ length (take n xs)
whole_prefix n xs h = omega (arith, length-take n xs)

-- what was read of a begun file is held
pub held_of : (told : Option (Option (List ℕ))) (rest : Option (List ℕ)) (text : List ℕ) (f g : ℕ) → Begins told rest
    → ReadsTo LARGEST_TEXT text rest → IsHeld told f g (Some text)
held_of None rest text f g b r = tt
held_of (Some None) rest text f g b r = b
held_of (Some (Some bytes)) rest text f g b r = subst (λ m. ReadsTo LARGEST_TEXT text m) b r

-- a file that is held is, also where more faults came before or after
pub held_between : (told old : Option (Option (List ℕ))) (text : Option (List ℕ)) (e f g k : ℕ) → told ≡ old → e ≤ f
    → g ≤ k → IsHeld told f g text → IsHeld old e k text
held_between told old None e f g k same h l (inl m) = inl (sym same ∙ m)
held_between told old None e f g k same h l (inr r) = let rose : Rose f g = r in inr (omega arith)
held_between told old (Some text) e f g k same h l i = subst (λ t. IsAsTold text t) same i

pub read_between : (name : List ℕ) (told old : Option (Option (List ℕ))) (file : File) (e f g k : ℕ) → told ≡ old
    → e ≤ f → g ≤ k → IsRead name told f g file → IsRead name old e k file
read_between name told old file e f g k same h l r =
    record { same = r.same; held = held_between told old file.text e f g k same h l r.held }

pub plan_between : (name : Option (List ℕ)) (told old : List ℕ → Option (Option (List ℕ))) (file : Option File)
    (e f g k : ℕ) → ((n : List ℕ) → told n ≡ old n) → e ≤ f → g ≤ k → IsPlanRead name told f g file
    → IsPlanRead name old e k file
plan_between None told old file e f g k same h l r = r
plan_between (Some name) told old None e f g k same h l r = r
plan_between (Some name) told old (Some file) e f g k same h l r =
    read_between name (told name) (old name) file e f g k (same name) h l r
