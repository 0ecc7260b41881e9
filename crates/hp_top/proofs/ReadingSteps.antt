-- One more read.
use Rattle.std.proofs.Common.{◌≡◌, ℕ, ◌+◌, ◌≤◌, ◌<◌, List, [], ◌∷◌, ◌++◌, length, take, drop, Option, Some, None, arith, ap, sym, ◌∙◌, subst, length-append, length-take, append-nil, append_assoc, refl}
use Rattle.std.proofs.Math.Seq.{take-append_seam, drop-append_seam, drop-append-add}
use Rattle.std.proofs.lemmas.List.{take_all}
use Rattle.hp_io.specs.Rules.{Taken}
use Rattle.hp_top.specs.Reading.{ReadsTo, Left, TakesUpTo, Grows}

-- a piece and the rest behind others are the rest behind those with the piece
joined : (before piece rest after : List ℕ) → after ≡ before ++ piece → before ++ (piece ++ rest) ≡ after ++ rest
joined before piece rest after e = rw (e, append_assoc) refl

-- bytes that were read, and some more behind them, are all that was read
pub grown_left : (n : ℕ) (before after : List ℕ) (old mid new : Option (List ℕ)) → Left before old mid
    → Grows n before after mid new → Left after old new
grown_left n before after None mid new a t = subst (λ m. Grows n before after m new) a t
grown_left n before after (Some old) mid new a t =
    let t' = subst (λ m. Grows n before after m new) a.1 t in
    (t'.0, t'.2, a.2 ∙ (ap (λ r. before ++ r) t'.3 ∙ joined before t'.1 t'.0 after t'.4))

-- bytes that were read up to the limit are the prefix of the rest, up to one byte past it
pub full : (most : ℕ) (bytes : List ℕ) (old now : Option (List ℕ)) → Left bytes old now
    → length bytes ≡ most + 1 → ReadsTo most bytes old
full most bytes None now a h = omega arith
full most bytes (Some old) now a h = sym (ap (take (most + 1)) a.2 ∙ rw (← h) (take-append_seam bytes a.0))

-- a list that is no longer than its prefix is that prefix
no_more : (xs ys zs : List ℕ) → zs ≡ xs ++ ys → length zs ≡ length xs → zs ≡ xs
no_more xs [] zs e h = e ∙ append-nil xs
no_more xs (y ∷ ys) zs e h = absurd (omega (arith, ap length e, length-append xs (y ∷ ys)))

-- bytes that were read until nothing more came are the whole rest
pub ended : (most : ℕ) (before after : List ℕ) (n : ℕ) (old mid new : Option (List ℕ)) → Left before old mid
    → Grows n before after mid new → n ≡ 0 → length after ≡ length before + n
    → length before ≤ most + 1 → ReadsTo most after old
ended most before after n None mid new a t z e h = omega arith
ended most before after n (Some old) mid new a t z e h =
    let t' = subst (λ m. Grows n before after m new) a.1 t in
    let none : a.0 ≡ [] = t'.5 z in
    let same : old ≡ before = a.2 ∙ (ap (λ r. before ++ r) none ∙ append-nil before) in
    let short : after ≡ before = no_more before t'.1 after t'.4 (omega arith) in
    short ∙ sym (ap (take (most + 1)) same ∙ take_all (most + 1) before h)

-- bytes that are left after some were read are left after that many were taken from the front
pub left_takes : (most : ℕ) (bytes : List ℕ) (old now : Option (List ℕ)) → Left bytes old now
    → length bytes ≤ most → TakesUpTo most old now
left_takes most bytes None now a h = a
left_takes most bytes (Some old) now a h =
    (length bytes, h, a.1 ∙ ap Some (sym (ap (drop (length bytes)) a.2 ∙ drop-append_seam bytes a.0)))

-- some bytes that were read and then at most some more are at most both
pub takes_more : (most room : ℕ) (bytes : List ℕ) (old mid new : Option (List ℕ)) → Left bytes old mid
    → TakesUpTo room mid new → length bytes + room ≤ most → TakesUpTo most old new
takes_more most room bytes None mid new a t h = subst (λ m. TakesUpTo room m new) a t
takes_more most room bytes (Some old) mid new a t h =
    let t' = subst (λ m. TakesUpTo room m new) a.1 t in (
      length bytes + t'.0,
      omega (arith, t'.1),
      t'.2 ∙ ap Some (sym (ap (drop (length bytes + t'.0)) a.2 ∙ drop-append-add bytes a.0 t'.0)),
    )

-- bytes that came to the front of a buffer, and were put behind others, are so many more of these
pub grown_by : (n room : ℕ) (buffer before after : List ℕ) (old new : Option (List ℕ))
    → Taken n room buffer old new → 0 < room → after ≡ before ++ take n buffer → Grows n before after old new
grown_by n room buffer before after None new t h e = t
grown_by n room buffer before after (Some old) new t h e = (t.0, take n buffer, t.1, t.2, e, λ z. t.3 z h)

-- bytes that came to the front of a buffer were taken from the front of the rest
pub taken_up_to : (n room most : ℕ) (buffer : List ℕ) (old new : Option (List ℕ)) → Taken n room buffer old new
    → n ≤ most → TakesUpTo most old new
taken_up_to n room most buffer None new t h = t
taken_up_to n room most buffer (Some old) new t h =
    let piece = take n buffer in (
      length piece,
      omega (arith, length-take n buffer),
      t.1 ∙ ap Some (sym (ap (drop (length piece)) t.2 ∙ drop-append_seam piece t.0)),
    )

-- where the rest is as it was nothing was taken
pub none_taken : (most : ℕ) (old new : Option (List ℕ)) → new ≡ old → TakesUpTo most old new
none_taken most None new e = e
none_taken most (Some old) new e = (0, omega arith, e)

-- the first n elements of a list that has as many are n
pub whole_prefix : (n : ℕ) (xs : List ℕ) → n ≤ length xs → n ≡ length (take n xs)
whole_prefix n xs h = omega (arith, length-take n xs)
