-- The pieces of a word, one after the other.
use Rattle.std.proofs.Common.{◌≡◌, ℕ, zero, suc, ◌+◌, ◌-◌, ◌^◌, ◌<◌, ◌≤◌, Bool, true, false, ◌&&◌, ◌||◌, ◌==◌, cond, not, List, [], ◌∷◌, length, take, drop, map, ◌++◌, Option, Some, None, refl, sym, ap, ap₂, ◌∙◌, append_assoc, arith}
use Rattle.std.specs.List.{All, list_all}
use Rattle.std.proofs.lemmas.Bool.{leb-true}
use Rattle.std.proofs.lemmas.List.Elements.{All-nil, All-cons}
use Rattle.std.specs.Prelude.{is_some, nat_le}
use Rattle.hp_words.specs.Numbers.{is_number, number_from}
use Rattle.hp_words.specs.PathWords.{is_path_number, path_number, in_first, pieces, piece_end, are_numbers}

-- ---- where the first piece ends

-- the end is as much further on as the first byte
end_by : (n : ℕ) (bs : List ℕ) → ((m : ℕ) → piece_end m bs ≡ m + piece_end 0 bs) → (b : Bool)
    → cond b n (piece_end (n + 1) bs) ≡ n + cond b 0 (piece_end 1 bs)
end_by n bs h true = omega arith
end_by n bs h false = omega (arith, h (n + 1), h 1)

end_on : (n : ℕ) (bs : List ℕ) → piece_end n bs ≡ n + piece_end 0 bs
end_on n [] = omega arith
end_on n (b ∷ bs) = end_by n bs (λ m. end_on m bs) (b == 46)

-- the pieces behind the first one, by what stands where it ends
abbrev other_pieces : List ℕ → List (List ℕ)
other_pieces [] = []
other_pieces (b ∷ bs) = pieces bs

-- the first piece, and those behind it
first_by : (a : ℕ) (bs : List ℕ)
    → pieces bs ≡ take (piece_end 0 bs) bs ∷ other_pieces (drop (piece_end 0 bs) bs) → (b : Bool)
    → cond b ([] ∷ pieces bs) (in_first a (pieces bs))
    ≡ take (cond b 0 (piece_end 1 bs)) (a ∷ bs) ∷ other_pieces (drop (cond b 0 (piece_end 1 bs)) (a ∷ bs))
first_by a bs h true = refl
first_by a bs h false =
    let s : suc (piece_end 0 bs) ≡ piece_end 1 bs = omega (arith, end_on 1 bs) in
    ap (in_first a) h ∙ ap (λ n. take n (a ∷ bs) ∷ other_pieces (drop n (a ∷ bs))) s

first_piece : (bs : List ℕ) → pieces bs ≡ take (piece_end 0 bs) bs ∷ other_pieces (drop (piece_end 0 bs) bs)
first_piece [] = refl
first_piece (a ∷ bs) = first_by a bs (first_piece bs) (a == 46)

-- ---- a piece that was cut off

none_behind : (bs : List ℕ) → length bs ≡ 0 → other_pieces bs ≡ []
none_behind [] h = refl
none_behind (b ∷ bs) h = absurd (omega arith)

-- a number is told of a piece where it is one
told_by : (n : ℕ) (b : Bool) → is_some (cond b (Some n) None) ≡ b
told_by n true = refl
told_by n false = refl

is_told : (p : List ℕ) (o : Option ℕ) → o ≡ path_number p → is_some o ≡ is_path_number p
is_told p o e = ap is_some e ∙ told_by (number_from 0 p) (is_path_number p)

-- so by whether none is told
pub number_there : (p : List ℕ) (o : Option ℕ) (none : Bool) → o ≡ path_number p → is_some o ≡ not none
    → none ≡ false → is_path_number p ≡ true
number_there p o none e h k = sym (is_told p o e) ∙ (h ∙ ap not k)

pub no_number_there : (p : List ℕ) (o : Option ℕ) (none : Bool) → o ≡ path_number p → is_some o ≡ not none
    → none ≡ true → is_path_number p ≡ false
no_number_there p o none e h k = sym (is_told p o e) ∙ (h ∙ ap not k)

and_true : (a b : Bool) → (a && b) ≡ true → (a ≡ true) × (b ≡ true)
and_true true b h = (refl, h)
and_true false b h = let f : false ≡ true = h in absurd (cc)

module _ (bs p behind : List ℕ) (n : ℕ) (end : n ≡ piece_end 0 bs) (front : p ≡ take n bs)
    (back : behind ≡ drop n bs) where
  cut_off : pieces bs ≡ p ∷ other_pieces behind
  cut_off =
      first_piece bs
      ∙ (ap (λ m. take m bs ∷ other_pieces (drop m bs)) (sym end)
      ∙ ap₂ (λ q r. q ∷ other_pieces r) (sym front) (sym back))

  more_pieces : (b : ℕ) (others : List ℕ) → behind ≡ b ∷ others → pieces bs ≡ p ∷ pieces others
  more_pieces b others e = cut_off ∙ ap (λ r. p ∷ other_pieces r) e

  last_piece : length behind ≡ 0 → pieces bs ≡ p ∷ []
  last_piece h = cut_off ∙ ap (λ qs. p ∷ qs) (none_behind behind h)

  -- ---- whether pieces are numbers

  -- a piece that is no number is one too few
  pub no_number : (k : ℕ) → is_path_number p ≡ false → are_numbers k (pieces bs) ≡ false
  no_number zero h = ap (are_numbers zero) cut_off
  no_number (suc k) h =
      ap (are_numbers (suc k)) cut_off ∙ ap (λ b. b && are_numbers k (other_pieces behind)) h

  -- a number and no other piece
  pub only_number : (k : ℕ) → 0 < k → is_path_number p ≡ true → length behind ≡ 0 → are_numbers k (pieces bs) ≡ true
  only_number zero l h e = absurd (omega arith)
  only_number (suc k) l h e = ap (are_numbers (suc k)) (last_piece e) ∙ ap (λ b. b && true) h

  -- a number before others
  pub one_number : (k m b : ℕ) (others : List ℕ) → k ≡ m + 1 → is_path_number p ≡ true → behind ≡ b ∷ others
      → are_numbers m (pieces others) ≡ are_numbers k (pieces bs)
  one_number k m b others l h e =
      let s : k ≡ suc m = omega arith in
      sym (
      ap (λ j. are_numbers j (pieces bs)) s
      ∙ (ap (are_numbers (suc m)) (more_pieces b others e) ∙ ap (λ c. c && are_numbers m (pieces others)) h)
      )

  -- ---- the numbers of pieces

  pub first_is_number : list_all is_path_number (pieces bs) ≡ true → is_path_number p ≡ true
  first_is_number h =
      (and_true (is_path_number p) (list_all is_path_number (other_pieces behind))
      (sym (ap (list_all is_path_number) cut_off) ∙ h)).0

  pub others_are_numbers : (b : ℕ) (others : List ℕ) → behind ≡ b ∷ others
      → list_all is_path_number (pieces bs) ≡ true → list_all is_path_number (pieces others) ≡ true
  others_are_numbers b others e h =
      (and_true (is_path_number p) (list_all is_path_number (pieces others))
      (sym (ap (list_all is_path_number) (more_pieces b others e)) ∙ h)).1

  -- the numbers so far, one more and those of the other pieces
  pub one_more : (ns ms : List ℕ) (i b : ℕ) (others all : List ℕ) → ns ++ map (number_from 0) (pieces bs) ≡ all
      → ms ≡ ns ++ i ∷ [] → i ≡ number_from 0 p → behind ≡ b ∷ others
      → ms ++ map (number_from 0) (pieces others) ≡ all
  one_more ns ms i b others all so_far pushed number e =
      ap (λ l. l ++ map (number_from 0) (pieces others)) pushed
      ∙ (append_assoc ns (i ∷ []) (map (number_from 0) (pieces others))
      ∙ (ap (λ j. ns ++ j ∷ map (number_from 0) (pieces others)) number
      ∙ (ap (λ l. ns ++ map (number_from 0) l) (sym (more_pieces b others e)) ∙ so_far)))

  pub last_one : (ns ms : List ℕ) (i : ℕ) (all : List ℕ) → ns ++ map (number_from 0) (pieces bs) ≡ all
      → ms ≡ ns ++ i ∷ [] → i ≡ number_from 0 p → length behind ≡ 0 → ms ≡ all
  last_one ns ms i all so_far pushed number e =
      pushed
      ∙ (ap (λ j. ns ++ j ∷ []) number
      ∙ (ap (λ l. ns ++ map (number_from 0) l) (sym (last_piece e)) ∙ so_far))

-- where no number may come, there is one too many
pub none_may_come : (bs : List ℕ) (k : ℕ) → k ≤ 0 → are_numbers k (pieces bs) ≡ false
none_may_come bs zero h = ap (are_numbers zero) (first_piece bs)
none_may_come bs (suc k) h = absurd (omega arith)

-- numbers of which there are not too many are numbers
all_numbers : (k : ℕ) (ps : List (List ℕ)) → are_numbers k ps ≡ true → list_all is_path_number ps ≡ true
all_numbers k [] h = refl
all_numbers zero (p ∷ ps) h = let f : false ≡ true = h in absurd (cc)
all_numbers (suc k) (p ∷ ps) h =
    let both = and_true (is_path_number p) (are_numbers k ps) h in
    ap₂ (λ a b. a && b) both.0 (all_numbers k ps both.1)

-- so a word of a path that isn't that of the empty one is made of numbers
pub word_of_numbers : (a : Bool) (k : ℕ) (ps : List (List ℕ)) → a ≡ false → (a || are_numbers k ps) ≡ true
    → list_all is_path_number ps ≡ true
word_of_numbers true k ps e h = let f : true ≡ false = e in absurd (cc)
word_of_numbers false k ps e h = all_numbers k ps h

-- and each is small enough to be told as itself
pub numbers_small : (ps : List (List ℕ)) → list_all is_path_number ps ≡ true
    → All (λ i. i < 2 ^ 64 - 1) (map (number_from 0) ps)
numbers_small [] h = All-nil (λ i. i < 2 ^ 64 - 1)
numbers_small (p ∷ ps) h =
    let both = and_true (is_path_number p) (list_all is_path_number ps) h in
    let test = and_true (is_number p) (nat_le (number_from 0 p) 18446744073709551614) both.0 in
    let l : number_from 0 p ≤ 18446744073709551614 =
    leb-true (number_from 0 p) 18446744073709551614 test.1 in
    All-cons (λ i. i < 2 ^ 64 - 1) (number_from 0 p) (map (number_from 0) ps) (omega arith)
    (numbers_small ps both.1)
