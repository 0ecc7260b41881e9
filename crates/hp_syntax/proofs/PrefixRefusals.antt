-- The refusal at an offset is decided by a prefix of the text.
use Rattle.std.proofs.Common.{◌≡◌, ℕ, zero, suc, ◌+◌, ◌-◌, ◌<◌, ◌≤◌, List, [], ◌∷◌, length, take, drop, refl, sym, ◌∙◌, ap, ap₂, arith, subst, ⊎_elim}
use Rattle.std.specs.Prelude.{slice_index, slice_range, nat_lt}
use Rattle.std.proofs.lemmas.Bool.{cases_lt, lt-ltb, le-ltb}
use Rattle.std.proofs.lemmas.List.{get_or-take, length-take, take_all, take-take, drop-take}
use Rattle.hp_syntax.specs.declared.limits.TheConstants.{LARGEST_TEXT}
use Rattle.hp_syntax.specs.Text.{Kind, Blank, Opening, Closing, NameByte, Bad, End, comment_after, in_comment, kind_at}
use Rattle.hp_syntax.specs.Refusal.{Refusal, opened, open_before, token_start, token_refusal, kind_refusal, refusal_at, IsRefused}
use Rattle.hp_syntax.specs.Forest.{Forest, IsForest}
use Rattle.hp_syntax.proofs.TextLemmas.{refusal_at-limit, clear_within}

module _ (n : ℕ) (text : List ℕ) where
  -- the prefix has the bytes of the text
  byte_prefix : (i : ℕ) → i < n → slice_index (take n text) i ≡ slice_index text i
  byte_prefix i l = get_or-take n text i 0 l

  -- within the prefix the prefix ends where the text ends
  within_prefix : (i : ℕ) → i < n → nat_lt i (length (take n text)) ≡ nat_lt i (length text)
  within_prefix i l =
      let e = length-take n text in
      ⊎_elim (λ m. lt-ltb i (length (take n text)) (omega arith) ∙ sym (lt-ltb i (length text) m))
      (λ m. le-ltb i (length (take n text)) (omega arith) ∙ sym (le-ltb i (length text) m))
      (cases_lt i (length text))

  -- within the prefix the same bytes are comments
  comment_prefix : (i : ℕ) → i ≤ n → in_comment (take n text) i ≡ in_comment text i
  comment_prefix zero l = refl
  comment_prefix (suc i) l = ap₂ comment_after (comment_prefix i (omega arith)) (byte_prefix i (omega arith))

  -- within the prefix the same kinds stand
  pub kind_prefix : (i : ℕ) → i < n → kind_at (take n text) i ≡ kind_at text i
  unfolding kind_at
  kind_prefix i l = rw (within_prefix i l, comment_prefix i (omega arith), byte_prefix i l) refl

  -- within the prefix the same brackets are open
  open_prefix : (i : ℕ) → i ≤ n → open_before (take n text) i ≡ open_before text i
  unfolding open_before
  open_prefix zero l = refl
  open_prefix (suc i) l = ap₂ (λ k o. opened k i o) (kind_prefix i (omega arith)) (open_prefix i (omega arith))

  -- within the prefix tokens start at the same offsets
  start_prefix : (i : ℕ) → i ≤ n → token_start (take n text) i ≡ token_start text i
  unfolding token_start
  start_prefix zero l = refl
  start_prefix (suc i) l = rw (kind_prefix i (omega arith), start_prefix i (omega arith)) refl

  -- parts of the prefix are parts of the text
  pub part_prefix : (a b : ℕ) → b ≤ n → slice_range (take n text) a b ≡ slice_range text a b
  part_prefix a b l = ⊎_elim (λ m. none (omega arith)) (λ m. some m) (cases_lt b a)
    where
      none : b - a ≡ 0 → slice_range (take n text) a b ≡ slice_range text a b
      none e = rw e refl

      some : a ≤ b → slice_range (take n text) a b ≡ slice_range text a b
      some m =
          let e : n ≡ a + (n - a) = omega arith in
          ap (λ k. take (b - a) (drop a (take k text))) e
          ∙ (ap (take (b - a)) (drop-take a (n - a) text) ∙ take-take (b - a) (n - a) (drop a text) (omega arith))

  -- the prefix decides which tokens are refused
  token_prefix : (a i : ℕ) → i + 1 < n → token_refusal (take n text) a i ≡ token_refusal text a i
  token_prefix a i l = rw (kind_prefix (i + 1) l, part_prefix a (i + 1) (omega arith)) refl

  -- the prefix decides what is refused of each kind
  kind_refusal_prefix : (i : ℕ) (k : Kind) (o : List ℕ) → i + 1 < n
      → kind_refusal (take n text) i k o ≡ kind_refusal text i k o
  kind_refusal_prefix i Blank o l = refl
  kind_refusal_prefix i Opening o l = refl
  kind_refusal_prefix i Closing [] l = refl
  kind_refusal_prefix i Closing (b ∷ bs) l = refl
  kind_refusal_prefix i NameByte o l =
      ap (λ a. token_refusal (take n text) a i) (start_prefix i (omega arith)) ∙ token_prefix (token_start text i) i l
  kind_refusal_prefix i Bad o l = refl
  kind_refusal_prefix i End [] l = refl
  kind_refusal_prefix i End (b ∷ bs) l = refl

  -- the same is refused at each offset of the prefix but for its last
  pub refusal_prefix : (i : ℕ) → i + 1 < n → refusal_at (take n text) i ≡ refusal_at text i
  unfolding refusal_at
  refusal_prefix i l =
      let r = kind_refusal_prefix i (kind_at text i) (open_before text i) l in
      rw (within_prefix i (omega arith), kind_prefix i (omega arith), open_prefix i (omega arith), r) refl

-- texts of which the same is refused up to a refusal are both refused so
refused_alike : (text other : List ℕ) (r : Refusal) (x : IsRefused text r) → x.at ≤ length other
    → ((i : ℕ) → i ≤ x.at → refusal_at text i ≡ refusal_at other i) → IsRefused other r
refused_alike text other r x l h = record {
  at = x.at;
  within = l;
  arises = sym (h x.at (omega arith)) ∙ x.arises;
  first = λ i m. sym (h i (omega arith)) ∙ x.first i m;
}

-- a text is refused as another one with the same prefix up to behind the refusal
pub prefix_decides : (text other : List ℕ) (r : Refusal) (x : IsRefused text r)
    → take (x.at + 2) text ≡ take (x.at + 2) other → IsRefused other r
prefix_decides text other r x e =
    let l : x.at ≤ length text = x.within in
    let p = length-take (x.at + 2) text in
    let q = length-take (x.at + 2) other in
    let m = ap length e in
    refused_alike text other r x (omega arith)
    (λ i u. sym (refusal_prefix (x.at + 2) text i (omega arith))
    ∙ (ap (λ t. refusal_at t i) e ∙ refusal_prefix (x.at + 2) other i (omega arith)))

-- up to the limit the same is refused of the prefix up to the byte behind it
limit_prefix : (n : ℕ) (text : List ℕ) (i : ℕ) → n ≡ LARGEST_TEXT + 1 → i ≤ LARGEST_TEXT
    → refusal_at (take n text) i ≡ refusal_at text i
limit_prefix n text i e l =
    ⊎_elim (λ m. refusal_prefix n text i m)
    (λ m. ⊎_elim (λ u. large u m) (λ u. ap (λ t. refusal_at t i) (take_all n text (omega arith)))
    (cases_lt i (length text)))
    (cases_lt (i + 1) n)
  where
    large : i < length text → n ≤ i + 1 → refusal_at (take n text) i ≡ refusal_at text i
    large u m =
        let p = length-take n text in
        refusal_at-limit (take n text) i (omega arith) (omega arith) ∙ sym (refusal_at-limit text i (omega arith) u)

-- a text is refused as its prefix up to the byte behind the limit is
pub limit_refuses : (n : ℕ) (text : List ℕ) (r : Refusal) → n ≡ LARGEST_TEXT + 1 → IsRefused (take n text) r
    → IsRefused text r
limit_refuses n text r e x =
    let l : x.at ≤ length (take n text) = x.within in
    let m = clear_within (take n text) x.at x.first l in
    let p = length-take n text in
    refused_alike (take n text) text r x (omega arith) (λ i u. limit_prefix n text i e (omega arith))

-- a prefix up to the byte behind the limit that spells a forest is the whole text
pub limit_spells : (n : ℕ) (text : List ℕ) (f : Forest) → n ≡ LARGEST_TEXT + 1 → IsForest (take n text) f
    → IsForest text f
limit_spells n text f e h =
    let m = clear_within (take n text) (length (take n text)) (λ i l. h.clear i (omega arith)) (omega arith) in
    let p = length-take n text in
    subst (λ t. IsForest t f) (take_all n text (omega arith)) h
