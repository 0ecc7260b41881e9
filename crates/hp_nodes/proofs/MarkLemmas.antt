-- Sets of numbers, as marks.
use Rattle.std.proofs.Common.{◌≡◌, ℕ, zero, suc, ◌+◌, ◌-◌, ◌<◌, ◌≤◌, ◌==◌, Bool, true, false, ◌||◌, List, [], ◌∷◌, ◌++◌, length, get_or, set, take, drop, replicate, inl, inr, refl, ap, sym, ◌∙◌, arith}
use Rattle.std.proofs.Math.Path.{fun_ext}
use Rattle.std.proofs.lemmas.Bool.Decides.{eqb_tells}
use Rattle.std.proofs.lemmas.List.{at_drop_all, drop_more, get_or-set_same, get_or-set_other, take_all, length-append, length-replicate}
use Rattle.std.proofs.lemmas.List.Folds.{list_any-append}
use Rattle.hp_nodes.specs.Asked.{also, is_in}
use Rattle.hp_nodes.specs.Marks.{Marks, marked}

-- ---- marks in memory

none_marked : (j m : ℕ) → get_or (replicate j false) m false ≡ false
none_marked zero m = refl
none_marked (suc j) zero = refl
none_marked (suc j) (suc m) = none_marked j m

-- marks with others behind them that mark nothing mark what they did
padded : (marks : List Bool) (j m : ℕ) → get_or (marks ++ replicate j false) m false ≡ get_or marks m false
padded [] j m = none_marked j m
padded (x ∷ xs) j zero = refl
padded (x ∷ xs) j (suc m) = padded xs j m

-- a mark that is set marks its number beside the others
set_marked : (marks : List Bool) (n m : ℕ) → n < length marks
    → get_or (set marks n true) m false ≡ (((n == m) || false) || get_or marks m false)
set_marked marks n m h =
    let tested = λ (b : Bool). (b || false) || get_or marks m false in
    elim (eqb_tells n m) [
      | inl e ↦
          ap (λ k. get_or (set marks n true) k false) (sym e.1)
          ∙ get_or-set_same marks n true false h ∙ sym (ap tested e.0)
      | inr e ↦ get_or-set_other marks n m true false (λ q. e.1 (sym q)) ∙ sym (ap tested e.0)
    ]

-- a number is marked once there is room for it
pub marked_in_room : (marks room : List Bool) (n k length' : ℕ) → length' ≡ length marks → n < k → length' ≤ k
    → room ≡ take k marks ++ replicate (k - length') false → Marks (n ∷ []) marks (set room n true)
marked_in_room marks room n k length' l h enough e =
    let j = k - length' in
    let same : room ≡ marks ++ replicate j false =
    e ∙ ap (λ ms. ms ++ replicate j false) (take_all k marks (omega arith)) in
    let long : n < length (marks ++ replicate j false) =
    omega (arith, length-append marks (replicate j false), length-replicate {A = Bool}) in
    fun_ext (λ m.
    ap (λ ms. get_or (set ms n true) m false) same
    ∙ set_marked (marks ++ replicate j false) n m long
    ∙ ap (λ b. ((n == m) || false) || b) (padded marks j m))

-- ---- sets

or_both : (a b c : Bool) → (b || (a || c)) ≡ ((a || b) || c)
or_both true true c = refl
or_both true false c = refl
or_both false true c = refl
or_both false false c = refl

-- numbers that are added to a set one after the other are added together
pub also_both : (ns ms : List ℕ) (known : ℕ → Bool) → also ms (also ns known) ≡ also (ns ++ ms) known
also_both ns ms known =
    fun_ext (λ m.
    or_both (is_in m ns) (is_in m ms) (known m)
    ∙ ap (λ b. b || known m) (sym (list_any-append (λ k. k == m) ns ms)))

-- so are those that are marked one after the other
pub marks_both : (ns ms : List ℕ) (a b c : List Bool) → Marks ns a b → Marks ms b c → Marks (ns ++ ms) a c
marks_both ns ms a b c h k = k ∙ ap (also ms) h ∙ also_both ns ms (marked a)

-- ---- lists that are gone through part by part

module _ {X : Type 0} (all : List X → List ℕ) (one : X → List ℕ) (xs : List X) (i : ℕ) where
  -- once the numbers of one more are marked, the marks and the numbers of what is left are what they were together
  pub marked_one_more : (x : X) (old new : List Bool) → ((y : X) (ys : List X) → all (y ∷ ys) ≡ one y ++ all ys)
      → i < length xs → x ≡ get_or xs i x → Marks (one x) old new
      → (whole : ℕ → Bool) → also (all (drop i xs)) (marked old) ≡ whole
      → also (all (drop (i + 1) xs)) (marked new) ≡ whole
  marked_one_more x old new step below at put whole left =
      let behind = all (drop (i + 1) xs) in
      let here : all (drop i xs) ≡ one x ++ behind =
      ap all (drop_more xs i x below ∙ ap (λ y. y ∷ drop (i + 1) xs) (sym at)) ∙ step x (drop (i + 1) xs) in
      ap (also behind) put ∙ also_both (one x) behind (marked old) ∙ ap (λ ns. also ns (marked old)) (sym here) ∙ left

-- when nothing is left of a list, the marks are the whole
pub all_marked : {X : Type 0} (all : List X → List ℕ) (xs : List X) (i : ℕ) (marks : List Bool) (whole : ℕ → Bool)
    → length xs ≤ i → all [] ≡ [] → also (all (drop i xs)) (marked marks) ≡ whole → marked marks ≡ whole
all_marked all xs i marks whole past none left =
    ap (λ ns. also ns (marked marks)) (sym (at_drop_all all xs i past ∙ none)) ∙ left
