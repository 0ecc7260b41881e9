-- The line of an offset, by the last start that isn't behind it, and where a line ends, by the start of the next one.
use Rattle.std.proofs.Common.{◌≡◌, ℕ, zero, suc, ◌+◌, ◌-◌, ◌<◌, ◌≤◌, min, Bool, true, false, ◌==◌, cond, List, [], ◌∷◌, ◌++◌, length, slice_index, take, drop, length-take, length-drop, refl, ap, sym, ◌∙◌, subst, arith}
use Rattle.std.proofs.lemmas.List.{take_min}
use Rattle.hp_places.specs.Places.{feeds, behind_feed}
use Rattle.hp_places.specs.Shown.{until_feed}
use Rattle.hp_places.specs.Starts.{starts_from, line_starts, next_start, IsLast, IsFound, IsLine}

-- ---- starts stand behind the offset from which they are looked for

abbrev AreLater : ℕ → List ℕ → Type 0
AreLater offset starts = (k : ℕ) → k < length starts → offset < slice_index starts k

later_by : (is_feed : Bool) (offset : ℕ) (rest : List ℕ) → AreLater (offset + 1) rest
    → AreLater offset (cond is_feed ((offset + 1) ∷ []) [] ++ rest)
later_by true offset rest r zero h = omega arith
later_by true offset rest r (suc k) h = omega (arith, r k (omega arith))
later_by false offset rest r k h = omega (arith, r k h)

later : (offset : ℕ) (text : List ℕ) → AreLater offset (starts_from offset text)
later offset [] k h = absurd (omega arith)
later offset (b ∷ bs) k h = later_by (b == 10) offset (starts_from (offset + 1) bs) (later (offset + 1) bs) k h

-- ---- the last start that isn't behind an offset

-- so many line feeds stand before the offset, and so many bytes behind the last of them
abbrev Stands : List ℕ → ℕ → ℕ → ℕ → ℕ → Type 0
Stands starts offset i line column = (line ≡ i) × (slice_index starts i + column ≡ offset)

-- of a text that goes on behind so many bytes of a line
abbrev Claim : List ℕ → Type 0
Claim text =
    (s n base a offset i : ℕ) → base ≡ s + n → offset ≡ base + a → a ≤ length text
    → IsLast (s ∷ starts_from base text) offset i
    → Stands (s ∷ starts_from base text) offset i (feeds (take a text)) (behind_feed n (take a text))

found_by : (is_feed : Bool) (bs : List ℕ) → Claim bs → (s n base a offset i : ℕ) → base ≡ s + n
    → offset ≡ base + suc a → a ≤ length bs
    → IsLast (s ∷ (cond is_feed ((base + 1) ∷ []) [] ++ starts_from (base + 1) bs)) offset i
    → Stands (s ∷ (cond is_feed ((base + 1) ∷ []) [] ++ starts_from (base + 1) bs)) offset i
    (cond is_feed 1 0 + feeds (take a bs)) (behind_feed (cond is_feed 0 (n + 1)) (take a bs))
found_by true bs claim s n base a offset zero e f h l =
    let behind : offset < base + 1 = l.ends (omega arith) in absurd (omega arith)
found_by true bs claim s n base a offset (suc i) e f h l =
    let next : suc i + 1 ≡ suc (i + 1) = omega arith in
    let starts = s ∷ (base + 1) ∷ starts_from (base + 1) bs in
    let ends = subst (λ (k : ℕ). k < length starts → offset < slice_index starts k) next l.ends in
    let r : Stands ((base + 1) ∷ starts_from (base + 1) bs) offset i (feeds (take a bs)) (behind_feed 0 (take a bs)) =
    claim (base + 1) 0 (base + 1) a offset i (omega arith) (omega arith) h
    (record { within = omega (arith, l.within); begins = l.begins; ends = λ k. ends (omega (arith, k)) }) in
    (omega (arith, r.0), r.1)
found_by false bs claim s n base a offset i e f h l =
    let r : Stands (s ∷ starts_from (base + 1) bs) offset i (feeds (take a bs)) (behind_feed (n + 1) (take a bs)) =
    claim s (n + 1) (base + 1) a offset i (omega arith) (omega arith) h l in
    (omega (arith, r.0), r.1)

found : (text : List ℕ) → Claim text
found [] s n base zero offset zero e f h l = (refl, omega arith)
found [] s n base zero offset (suc i) e f h l = absurd (omega (arith, l.within))
found [] s n base (suc a) offset i e f h l = absurd (omega arith)
found (b ∷ bs) s n base zero offset zero e f h l = (refl, omega arith)
found (b ∷ bs) s n base zero offset (suc i) e f h l =
    absurd (omega (arith, l.begins, later base (b ∷ bs) i (omega (arith, l.within))))
found (b ∷ bs) s n base (suc a) offset i e f h l =
    found_by (b == 10) bs (found bs) s n base a offset i e f (omega arith) l

-- it is that of the offset's line
pub place_found : (text starts : List ℕ) (offset i : ℕ) → starts ≡ line_starts text
    → IsLast starts (min offset (length text)) i → IsFound text offset i
place_found text starts offset i e l =
    let m = min offset (length text) in
    let same : take m text ≡ take offset text = take_min offset text in
    let r : Stands (line_starts text) m i (feeds (take m text)) (behind_feed 0 (take m text)) =
    found text 0 0 0 m m i (omega arith) (omega arith) (omega arith) (rw e at l) in
    let line : feeds (take offset text) ≡ i = ap feeds (sym same) ∙ r.0 in
    let column : slice_index (line_starts text) i + behind_feed 0 (take offset text) ≡ m =
    ap (λ t. slice_index (line_starts text) i + behind_feed 0 t) (sym same) ∙ r.1 in
    record {
      within = rw e at l.within;
      line = omega (arith, line);
      column = omega (arith, column);
      start = omega (arith, column);
    }

-- ---- what stands up to a line feed

-- it is as many bytes of the text as it has
taken_by : (is_feed : Bool) (b : ℕ) (bs : List ℕ) → until_feed bs ≡ take (length (until_feed bs)) bs
    → cond is_feed [] (b ∷ until_feed bs) ≡ take (length (cond is_feed [] (b ∷ until_feed bs))) (b ∷ bs)
taken_by true b bs e = refl
taken_by false b bs e = ap (λ (t : List ℕ). b ∷ t) e

taken : (text : List ℕ) → until_feed text ≡ take (length (until_feed text)) text
taken [] = refl
taken (b ∷ bs) = taken_by (b == 10) b bs (taken bs)

-- a line that begins in the text goes up to the end of these bytes
line_from : (text : List ℕ) (from to : ℕ) → from ≤ length text → to ≡ from + length (until_feed (drop from text))
    → IsLine text from to
line_from text from to h e =
    let rest = drop from text in
    let n = length (until_feed rest) in
    let size : to - from ≡ n = omega arith in
    record {
      order = omega arith;
      within = omega (arith, ap length (taken rest), length-take n rest, length-drop from text);
      bytes = taken rest ∙ ap (λ (k : ℕ). take k rest) (sym size);
    }

-- ---- where a line ends

-- starts don't stand behind the end of the text
within_by : (is_feed : Bool) (offset size : ℕ) (rest : List ℕ)
    → ((k : ℕ) → k < length rest → slice_index rest k ≤ offset + 1 + size) → (k : ℕ)
    → k < length (cond is_feed ((offset + 1) ∷ []) [] ++ rest)
    → slice_index (cond is_feed ((offset + 1) ∷ []) [] ++ rest) k ≤ offset + suc size
within_by true offset size rest r zero h = omega arith
within_by true offset size rest r (suc k) h = omega (arith, r k (omega arith))
within_by false offset size rest r k h = omega (arith, r k h)

starts_within : (offset : ℕ) (text : List ℕ) (k : ℕ) → k < length (starts_from offset text)
    → slice_index (starts_from offset text) k ≤ offset + length text
starts_within offset [] k h = absurd (omega arith)
starts_within offset (b ∷ bs) k h =
    within_by (b == 10) offset (length bs) (starts_from (offset + 1) bs) (starts_within (offset + 1) bs) k h

-- what comes behind the start before it
next_behind : (s : ℕ) (starts : List ℕ) (size i : ℕ) → next_start (s ∷ starts) size (suc i) ≡ next_start starts size i
next_behind s starts size i = let next : suc i + 1 ≡ suc (i + 1) = omega arith in rw next refl

-- the first line of bytes from an offset on
first_by : (is_feed : Bool) (b : ℕ) (bs : List ℕ) (s base size : ℕ)
    → next_start (s ∷ starts_from (base + 1) bs) size 0 ≡ base + 1 + length (until_feed bs) + 1
    → next_start (s ∷ (cond is_feed ((base + 1) ∷ []) [] ++ starts_from (base + 1) bs)) size 0
    ≡ base + length (cond is_feed [] (b ∷ until_feed bs)) + 1
first_by true b bs s base size e = omega arith
first_by false b bs s base size e = e ∙ omega arith

first_next : (bs : List ℕ) (s base size : ℕ) → size ≡ base + length bs
    → next_start (s ∷ starts_from base bs) size 0 ≡ base + length (until_feed bs) + 1
first_next [] s base size e = omega arith
first_next (b ∷ bs) s base size e = first_by (b == 10) b bs s base size (first_next bs s (base + 1) size (omega arith))

-- behind the line that begins at an offset
abbrev next_of : ℕ → List ℕ → ℕ → ℕ
next_of base bs start = start + length (until_feed (drop (start - base) bs)) + 1

-- the other lines
abbrev Ends : List ℕ → Type 0
Ends bs =
    (s base size j : ℕ) → size ≡ base + length bs → j < length (starts_from base bs)
    → next_start (s ∷ starts_from base bs) size (suc j) ≡ next_of base bs (slice_index (starts_from base bs) j)

-- one byte less before a start
one_less : (base start b : ℕ) (bs : List ℕ) → base < start → next_of (base + 1) bs start ≡ next_of base (b ∷ bs) start
one_less base start b bs h =
    let e : start - base ≡ suc (start - (base + 1)) = omega arith in
    ap (λ (k : ℕ). start + length (until_feed (drop k (b ∷ bs))) + 1) (sym e)

ends_by : (is_feed : Bool) (b : ℕ) (bs : List ℕ) → Ends bs → (s base size j : ℕ) → size ≡ base + suc (length bs)
    → j < length (cond is_feed ((base + 1) ∷ []) [] ++ starts_from (base + 1) bs)
    → next_start (s ∷ (cond is_feed ((base + 1) ∷ []) [] ++ starts_from (base + 1) bs)) size (suc j)
    ≡ next_of base (b ∷ bs) (slice_index (cond is_feed ((base + 1) ∷ []) [] ++ starts_from (base + 1) bs) j)
ends_by true b bs ends s base size zero e h =
    let one : base + 1 - base ≡ 1 = omega arith in
    next_behind s ((base + 1) ∷ starts_from (base + 1) bs) size 0
    ∙ first_next bs (base + 1) (base + 1) size (omega arith)
    ∙ ap (λ (k : ℕ). base + 1 + length (until_feed (drop k (b ∷ bs))) + 1) (sym one)
ends_by true b bs ends s base size (suc j) e h =
    let rest = starts_from (base + 1) bs in
    let short : j < length rest = omega (arith, h) in
    let behind : base + 1 < slice_index rest j = later (base + 1) bs j short in
    next_behind s ((base + 1) ∷ rest) size (suc j) ∙ ends (base + 1) (base + 1) size j (omega arith) short
    ∙ one_less base (slice_index rest j) b bs (omega arith)
ends_by false b bs ends s base size j e h =
    let rest = starts_from (base + 1) bs in
    let behind : base + 1 < slice_index rest j = later (base + 1) bs j h in
    ends s (base + 1) size j (omega arith) h ∙ one_less base (slice_index rest j) b bs (omega arith)

ends_found : (text : List ℕ) → Ends text
ends_found [] s base size j e h = absurd (omega arith)
ends_found (b ∷ bs) s base size j e h = ends_by (b == 10) b bs (ends_found bs) s base size j e h

line_of_start : (text : List ℕ) (i to : ℕ) → i < length (line_starts text)
    → to ≡ next_start (line_starts text) (length text) i - 1 → IsLine text (slice_index (line_starts text) i) to
line_of_start text zero to h e =
    let next : next_start (line_starts text) (length text) 0 ≡ 0 + length (until_feed text) + 1 =
    first_next text 0 0 (length text) (omega arith) in
    let last : to ≡ 0 + length (until_feed text) + 1 - 1 = e ∙ ap (λ (k : ℕ). k - 1) next in
    line_from text 0 to (omega arith) (omega arith)
line_of_start text (suc j) to h e =
    let start = slice_index (starts_from 0 text) j in
    let short : j < length (starts_from 0 text) = omega (arith, h) in
    let next : next_start (line_starts text) (length text) (suc j) ≡ next_of 0 text start =
    ends_found text 0 0 (length text) j (omega arith) short in
    let all : start - 0 ≡ start = omega arith in
    let last : to ≡ start + length (until_feed (drop start text)) + 1 - 1 =
    e ∙ ap (λ (k : ℕ). k - 1) next ∙ ap (λ (k : ℕ). start + length (until_feed (drop k text)) + 1 - 1) all in
    line_from text start to (omega (arith, starts_within 0 text j short)) (omega arith)

-- a line goes from its start up to the byte before the next start
pub line_found : (text starts : List ℕ) (i to : ℕ) → starts ≡ line_starts text → i < length starts
    → to ≡ next_start starts (length text) i - 1 → IsLine text (slice_index starts i) to
line_found text starts i to e h n =
    subst
    (λ (s : List ℕ). i < length s → to ≡ next_start s (length text) i - 1 → IsLine text (slice_index s i) to) (sym e)
    (line_of_start text i to) h n
