-- The part of a line that is shown around a place.
use Rattle.std.proofs.Common.{◌≡◌, ℕ, ◌+◌, ◌-◌, ◌<◌, ◌≤◌, min, Bool, true, false, ◌&&◌, ◌==◌, cond, List, length, slice_index, refl, arith}
use Rattle.std.specs.Prelude.{nat_le, nat_lt}
use Rattle.std.proofs.lemmas.Bool.{eqb-false, eqb-true, le-leb, leb-false, leb-true}
use Rattle.hp_places.specs.declared.stretch.TheConstants.{WIDEST, AHEAD}
use Rattle.hp_places.specs.Stretches.{HasPlace, goes_on, letter_end, letter_start, moved_back, moved_on, nearest, part_from, part_to}

-- ---- letters

on_by : (t : Bool) (i : ℕ) → (i ≤ cond t (i + 1) i) × (cond t (i + 1) i ≤ i + 1)
on_by true i = (omega arith, omega arith)
on_by false i = (omega arith, omega arith)

back_by : (t : Bool) (i : ℕ) → (i ≤ cond t (i - 1) i + 1) × (cond t (i - 1) i ≤ i)
back_by true i = (omega arith, omega arith)
back_by false i = (omega arith, omega arith)

on_near : (line : List ℕ) (i : ℕ) → (i ≤ moved_on line i) × (moved_on line i ≤ i + 1)
unfolding moved_on
on_near line i = on_by (nat_lt i (length line) && goes_on (slice_index line i)) i

back_near : (line : List ℕ) (i : ℕ) → (i ≤ moved_back line i + 1) × (moved_back line i ≤ i)
unfolding moved_back
back_near line i = back_by (nat_lt i (length line) && goes_on (slice_index line i)) i

-- the end of a letter is at most three bytes on
end_near : (line : List ℕ) (i : ℕ) → (i ≤ letter_end line i) × (letter_end line i ≤ i + 3)
unfolding letter_end
end_near line i =
    let a = on_near line i in
    let b = on_near line (moved_on line i) in
    let c = on_near line (moved_on line (moved_on line i)) in
    (omega (arith, a.0, b.0, c.0), omega (arith, a.1, b.1, c.1))

-- and its start at most three back
start_near : (line : List ℕ) (i : ℕ) → (i ≤ letter_start line i + 3) × (letter_start line i ≤ i)
unfolding letter_start
start_near line i =
    let a = back_near line i in
    let b = back_near line (moved_back line i) in
    let c = back_near line (moved_back line (moved_back line i)) in
    (omega (arith, a.0, b.0, c.0), omega (arith, a.1, b.1, c.1))

-- ---- where a part begins

-- in front of the place, and close to it where the line goes on behind the part
record IsBegin (size before from : ℕ) : Type 0 where
  begins : from ≤ before
  close : from + WIDEST < size → before ≤ from + AHEAD
  whole : size ≤ WIDEST → from ≡ 0

begin_by : (none : Bool) (size before near end : ℕ) → near ≡ min (before - AHEAD) (size - WIDEST)
    → (none ≡ true → near ≡ 0) → (none ≡ false → 0 < near) → near ≤ end → end ≤ near + 3
    → IsBegin size before (cond none 0 end)
begin_by true size before near end e z p l m =
    let zero : near ≡ 0 = z refl in
    record { begins = omega arith; close = λ h. omega arith; whole = λ h. omega arith }
begin_by false size before near end e z p l m =
    let some : 0 < near = p refl in
    record { begins = omega arith; close = λ h. omega arith; whole = λ h. absurd (omega arith) }

begin_found : (line : List ℕ) (before : ℕ) → IsBegin (length line) before (part_from line before)
unfolding part_from
begin_found line before =
    let near = nearest line before in
    let e = end_near line near in
    begin_by (near == 0) (length line) before near (letter_end line near) refl (λ t. eqb-true near 0 t)
    (λ t. let some : near ≡ 0 → ⊥ = eqb-false near 0 t in omega arith) e.0 e.1

-- ---- the part

part_by : (short : Bool) (size before from start : ℕ) → IsBegin size before from → before < size
    → (short ≡ true → size - from ≤ WIDEST) → (short ≡ false → WIDEST < size - from) → from + WIDEST ≤ start + 3
    → start ≤ from + WIDEST → HasPlace before from (cond short size start)
part_by true size before from start b h s t l m =
    let fits : size - from ≤ WIDEST = s refl in
    record { begins = b.begins; ends = h; size = omega arith }
part_by false size before from start b h s t l m =
    let long : WIDEST < size - from = t refl in
    let close : before ≤ from + AHEAD = b.close (omega arith) in
    record { begins = b.begins; ends = omega arith; size = m }

-- the place of a byte stands in its part
pub place_in_part : (line : List ℕ) (before : ℕ) → before < length line
    → HasPlace before (part_from line before) (part_to line (part_from line before))
unfolding part_to
place_in_part line before h =
    let from = part_from line before in
    let s = start_near line (from + WIDEST) in
    part_by (nat_le (length line - from) WIDEST) (length line) before from (letter_start line (from + WIDEST))
    (begin_found line before) h (λ t. leb-true (length line - from) WIDEST t)
    (λ t. leb-false (length line - from) WIDEST t) s.0 s.1

whole_to : (line : List ℕ) → length line ≤ WIDEST → part_to line 0 ≡ length line
unfolding part_to
whole_to line h = rw (le-leb (length line - 0) WIDEST (omega arith)) refl

-- a line that isn't long is its part
pub whole_part : (line : List ℕ) (before : ℕ) → length line ≤ WIDEST
    → (part_from line before ≡ 0) × (part_to line 0 ≡ length line)
whole_part line before h = ((begin_found line before).whole h, whole_to line h)
