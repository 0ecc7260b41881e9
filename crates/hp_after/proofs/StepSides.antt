-- Where a path that follows another one lies beside it.
use Rattle.std.proofs.Common.{◌≡◌, ◌≢◌, ℕ, ◌-◌, ◌^◌, ◌<◌, ◌≤◌, min, List, [], ◌∷◌, ◌++◌, length, length-append, get_or, refl, sym, ap, ap₂, ◌∙◌, subst, append_assoc, arith}
use Rattle.std.specs.List.{All}
use Rattle.std.proofs.Math.Seq.{get_or-append_seam}
use Rattle.std.proofs.lemmas.List.{append-nil, map-append, nil_from_length}
use Rattle.std.proofs.lemmas.List.Elements.{All-head, All-tail}
use Rattle.hp_laws.proofs.JoinLemmas.{all_left}
use Rattle.hp_syntax.specs.Walk.{told}
use Rattle.hp_after.specs.declared.reaching.Side.TheVariants as sides
use Rattle.hp_after.specs.Reach.{side_of}
use Rattle.hp_after.specs.Stepping.{IsBeginning, StepsFrom}
use Rattle.hp_after.proofs.SideLemmas.{before_here, beside, beyond_here, same_here}

-- behind a common beginning paths lie beside one another as they do from there on
side_along : (a q p : List ℕ) → side_of (a ++ q) (a ++ p) ≡ side_of q p
side_along [] q p = refl
side_along (i ∷ a) q p =
    same_here i i (side_of (a ++ q) (a ++ p)) (omega arith) (omega arith) ∙ side_along a q p

-- a path lies above what goes on from it
above_some : (p : List ℕ) → 0 < length p → side_of [] p ≡ sides.Above
above_some [] l = absurd (omega arith)
above_some (j ∷ p) l = refl

-- ---- a path that is a beginning

module _ (q p : List ℕ) (b : IsBeginning q p) where
  -- it lies where nothing lies beside what is behind it
  begun : side_of q p ≡ side_of [] b.behind
  begun = ap₂ side_of (sym (append-nil q)) b.whole ∙ side_along q [] b.behind

  -- a beginning as long as the path is here
  pub here_by_length : length q ≡ length p → side_of q p ≡ sides.Here
  here_by_length e =
      let none : length b.behind ≡ 0 = omega (arith, ap length b.whole, length-append q b.behind) in
      begun ∙ ap (side_of []) (nil_from_length b.behind none)

  -- another one is above it
  pub above_by_length : length q ≢ length p → side_of q p ≡ sides.Above
  above_by_length e =
      let some : 0 < length b.behind = omega (arith, ap length b.whole, length-append q b.behind, e) in
      begun ∙ above_some b.behind some

-- ---- a path that steps from another one

-- a path with one number more is longer by one
length_one : (a : List ℕ) (i : ℕ) → length (a ++ i ∷ []) - 1 ≡ length a
length_one a i = omega (arith, length-append a (i ∷ []))

-- the number behind a beginning
number_behind : (q a : List ℕ) (i k : ℕ) (r : List ℕ) → q ≡ a ++ i ∷ r → k ≡ length a → get_or q k 0 ≡ i
number_behind q a i k r e l = ap₂ (λ x n. get_or x n 0) e l ∙ get_or-append_seam a i r 0

module _ (q p : List ℕ) (s : StepsFrom q p) where
  -- the place of its last number
  level : length q - 1 ≡ length s.above
  level = ap (λ l. length l - 1) s.path ∙ length_one s.above s.number

  -- it lies as its last number does beside what is behind the beginning
  split : side_of q p ≡ side_of (s.number ∷ []) s.beginning.behind
  split = ap₂ side_of s.path s.beginning.whole ∙ side_along s.above (s.number ∷ []) s.beginning.behind

  -- beside a path that ends above it, it is beyond
  pub beyond_level : length p ≤ length q - 1 → side_of q p ≡ sides.Beyond
  beyond_level l =
      let none : length s.beginning.behind ≡ 0 =
      omega (arith, level, ap length s.beginning.whole, length-append s.above s.beginning.behind) in
      split ∙ ap (side_of (s.number ∷ [])) (nil_from_length s.beginning.behind none)

  -- else it lies as its last number does beside the number at that place, where more follows
  record AtLevel : Type 0 where
    more : List ℕ
    whole : p ≡ s.above ++ get_or p (length q - 1) 0 ∷ more
    side : side_of q p ≡ beside (get_or q (length q - 1) 0) (get_or p (length q - 1) 0) (side_of [] more)

  at_by : (r : List ℕ) → s.beginning.behind ≡ r → length q - 1 < length p → AtLevel
  at_by [] e l =
      absurd (omega (arith, level, ap length s.beginning.whole, ap length e, length-append s.above s.beginning.behind))
  at_by (j ∷ more) e l =
      let whole : p ≡ s.above ++ j ∷ more = s.beginning.whole ∙ ap (λ r. s.above ++ r) e in
      let own = number_behind q s.above s.number (length q - 1) [] s.path level in
      let other = number_behind p s.above j (length q - 1) more whole level in
      record {
        more = more;
        whole = whole ∙ ap (λ n. s.above ++ n ∷ more) (sym other);
        side =
            split
            ∙ (ap (side_of (s.number ∷ [])) e
            ∙ ap₂ (λ i k. beside i k (side_of [] more)) (sym own) (sym other));
      }

  at_level : length q - 1 < length p → AtLevel
  at_level l = at_by s.beginning.behind refl l

  module _ (i j : ℕ) (inside : length q - 1 < length p) (own : i ≡ get_or q (length q - 1) 0)
      (other : j ≡ get_or p (length q - 1) 0) where
    beside_level : side_of q p ≡ beside i j (side_of [] (at_level inside).more)
    beside_level =
        (at_level inside).side
        ∙ ap₂ (λ x y. beside x y (side_of [] (at_level inside).more)) (sym own) (sym other)

    -- so it is before the path where its last number is less
    pub before_level : i < j → side_of q p ≡ sides.Before
    before_level l = beside_level ∙ before_here i j (side_of [] (at_level inside).more) l

    -- beyond it where that is greater
    pub past_level : j < i → side_of q p ≡ sides.Beyond
    past_level l = beside_level ∙ beyond_here i j (side_of [] (at_level inside).more) l

    -- and else a beginning of it
    pub beginning_level : i ≡ j → IsBeginning q p
    beginning_level e =
        let a = at_level inside in
        let last : s.number ≡ get_or p (length q - 1) 0 =
        sym (number_behind q s.above s.number (length q - 1) [] s.path level) ∙ (sym own ∙ (e ∙ other)) in
        record {
          behind = a.more;
          whole =
              a.whole
              ∙ (ap (λ n. s.above ++ n ∷ a.more) (sym last)
              ∙ (sym (append_assoc s.above (s.number ∷ []) a.more) ∙ ap (λ l. l ++ a.more) (sym s.path)));
        }

-- ---- as it is told

-- a path of small numbers is told as itself
told_small : (q : List ℕ) → All (λ i. i < 2 ^ 64 - 1) q → told q ≡ q
told_small [] a = refl
told_small (i ∷ q) a =
    let small : i < 2 ^ 64 - 1 = All-head (λ i. i < 2 ^ 64 - 1) i q a in
    let same : min i (2 ^ 64 - 1) ≡ i = omega arith in
    ap₂ (λ n l. n ∷ l) same (told_small q (All-tail (λ i. i < 2 ^ 64 - 1) i q a))

module _ (p : List ℕ) (small : All (λ i. i < 2 ^ 64 - 1) p) where
  -- so is each beginning of it
  told_beginning : (q : List ℕ) → IsBeginning q p → told q ≡ q
  told_beginning q b =
      told_small q (all_left (λ i. i < 2 ^ 64 - 1) q b.behind (subst (All (λ i. i < 2 ^ 64 - 1)) b.whole small))

  pub told_begins : (q : List ℕ) → IsBeginning q p → IsBeginning (told q) p
  told_begins q b = subst (λ l. IsBeginning l p) (sym (told_beginning q b)) b

  -- what steps from that path does so as it is told
  pub told_steps : (q : List ℕ) → StepsFrom q p → StepsFrom (told q) p
  told_steps q s = record {
    above = s.above;
    number = min s.number (2 ^ 64 - 1);
    path =
        ap told s.path
        ∙ (map-append (λ i. min i (2 ^ 64 - 1)) s.above (s.number ∷ [])
        ∙ ap (λ l. l ++ min s.number (2 ^ 64 - 1) ∷ []) (told_beginning s.above s.beginning));
    beginning = s.beginning;
  }
