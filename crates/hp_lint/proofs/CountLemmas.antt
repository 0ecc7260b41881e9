-- How often variables stand in a list.
use Rattle.std.proofs.Common.{◌≡◌, ℕ, ◌+◌, ◌<◌, Bool, true, false, ◌&&◌, ◌||◌, not, cond, nat_eq, nat_le, ◌==◌, List, [], ◌∷◌, ◌++◌, length, get_or, take, inl, inr, subst, refl, ap, ap₂, sym, ◌∙◌, arith}
use Rattle.std.specs.List.{list_any, filter, flat_map}
use Rattle.std.proofs.lemmas.List.{take_more}
use Rattle.std.proofs.lemmas.Bool.Decides.{eqb_tells, nat_tests}
use Rattle.std.proofs.lemmas.List.Folds.{list_any-append}
use Rattle.indexmap.specs.IndexSet.{contains, insert_key}
use Rattle.hp_lint.specs.declared.uses.Use.{Use}
use Rattle.hp_lint.specs.declared.variables.Counts.{Counts}
use Rattle.hp_lint.specs.Variables.{is_bound, is_use_of, on_needed, on_use, or_bound, stands_once, times}
use Rattle.hp_lint.specs.LintViews.{either_seen, is_seen, is_seen_once, Counted}

-- one more place of a variable counts once
pub times_more : (v : ℕ) (us : List Use) (u : Use)
    → times v (us ++ u ∷ []) ≡ times v us + cond (u.var == v) 1 0
times_more v [] u = by (u.var == v)
  where
    by : (b : Bool) → length (cond b (u ∷ []) []) ≡ 0 + cond b 1 0
    by true = omega arith
    by false = omega arith
times_more v (x ∷ us) u = by (x.var == v) (times_more v us u)
  where
    by : (b : Bool) → times v (us ++ u ∷ []) ≡ times v us + cond (u.var == v) 1 0
        → length (cond b (x ∷ filter (is_use_of v) (us ++ u ∷ [])) (filter (is_use_of v) (us ++ u ∷ [])))
        ≡ length (cond b (x ∷ filter (is_use_of v) us) (filter (is_use_of v) us)) + cond (u.var == v) 1 0
    by true h = omega (arith, h)
    by false h = h

-- a variable is bound by a list in which it stands at least once
pub is_bound-times : (us : List Use) (v : ℕ) → nat_le 1 (times v us) ≡ is_bound us v
is_bound-times [] v = refl
is_bound-times (u ∷ us) v = by (u.var == v) (is_bound-times us v)
  where
    by : (b : Bool) → nat_le 1 (times v us) ≡ is_bound us v
        → nat_le 1 (length (cond b (u ∷ filter (is_use_of v) us) (filter (is_use_of v) us))) ≡ (b || is_bound us v)
    by true h = grind (arith, nat_tests)
    by false h = h

once : (n : ℕ) → (nat_le 1 n && not (nat_le 2 n)) ≡ (n == 1)
once n = grind (arith, nat_tests)

-- it stands once where it does at least once, and not at least twice
pub stands_once-times : (us : List Use) (v : ℕ)
    → (nat_le 1 (times v us) && not (nat_le 2 (times v us))) ≡ stands_once us v
stands_once-times us v = once (times v us)

or_false : (b : Bool) → b ≡ (b || false)
or_false true = refl
or_false false = refl

present : (ks : List ℕ) (k v : ℕ) → list_any (nat_eq k) ks ≡ true
    → list_any (nat_eq v) ks ≡ (list_any (nat_eq v) ks || nat_eq v k)
present ks k v h =
    elim (eqb_tells v k) [
      | inl t ↦ let there : list_any (nat_eq v) ks ≡ true = subst (λ n. list_any (nat_eq n) ks ≡ true) (sym t.1) h in
          there ∙ sym (ap (λ b. b || nat_eq v k) there)
      | inr t ↦ or_false (list_any (nat_eq v) ks) ∙ ap (λ b. list_any (nat_eq v) ks || b) (sym t.0)
    ]

-- a key that is inserted is there, and no other one is new
pub key_more : (ks : List ℕ) (k v : ℕ)
    → list_any (nat_eq v) (insert_key nat_eq ks k) ≡ (list_any (nat_eq v) ks || nat_eq v k)
key_more ks k v = by (list_any (nat_eq k) ks) refl
  where
    by : (b : Bool) → list_any (nat_eq k) ks ≡ b
        → list_any (nat_eq v) (cond b ks (ks ++ k ∷ [])) ≡ (list_any (nat_eq v) ks || nat_eq v k)
    by true h = present ks k v h
    by false h =
        list_any-append (nat_eq v) ks (k ∷ [])
        ∙ ap (λ b. list_any (nat_eq v) ks || b) (sym (or_false (nat_eq v k)))

seen_step : (n v k : ℕ) → (nat_le 1 n || nat_eq v k) ≡ nat_le 1 (n + cond (k == v) 1 0)
seen_step n v k = grind (arith, nat_tests)

again_step : (n v k : ℕ) → (v ≡ k → nat_le 1 n ≡ true) → (nat_le 2 n || nat_eq v k) ≡ nat_le 2 (n + cond (k == v) 1 0)
again_step n v k h =
    elim (eqb_tells v k) [
      | inl t ↦ let e = h t.1 in grind (arith, nat_tests)
      | inr t ↦ grind (arith, nat_tests)
    ]

first_step : (n v k : ℕ) → (v ≡ k → nat_le 1 n ≡ false) → nat_le 2 n ≡ nat_le 2 (n + cond (k == v) 1 0)
first_step n v k h =
    elim (eqb_tells v k) [
      | inl t ↦ let e = h t.1 in grind (arith, nat_tests)
      | inr t ↦ grind (arith, nat_tests)
    ]

module _ (done : List Use) (u : Use) (old new : Counts) (counted : Counted done old)
    (seen : new.seen.keys ≡ insert_key nat_eq old.seen.keys u.var) where
  seen_now : (v : ℕ) → contains nat_eq new.seen v ≡ nat_le 1 (times v (done ++ u ∷ []))
  seen_now v =
      ap (list_any (nat_eq v)) seen
      ∙ (key_more old.seen.keys u.var v
      ∙ (ap (λ b. b || nat_eq v u.var) (counted v).0
      ∙ (seen_step (times v done) v u.var ∙ ap (nat_le 1) (sym (times_more v done u)))))

  -- a variable that was seen before is seen again
  pub counted_again : contains nat_eq old.seen u.var ≡ true → new.again.keys ≡ insert_key nat_eq old.again.keys u.var
      → Counted (done ++ u ∷ []) new
  counted_again there again v =
      let before : v ≡ u.var → nat_le 1 (times v done) ≡ true =
      λ e. sym (counted v).0 ∙ subst (λ n. contains nat_eq old.seen n ≡ true) (sym e) there in (
        seen_now v,
        ap (list_any (nat_eq v)) again
            ∙ (key_more old.again.keys u.var v
            ∙ (ap (λ b. b || nat_eq v u.var) (counted v).1
            ∙ (again_step (times v done) v u.var before ∙ ap (nat_le 2) (sym (times_more v done u))))),
      )

  -- one that wasn't isn't
  pub counted_first : contains nat_eq old.seen u.var ≡ false → new.again ≡ old.again → Counted (done ++ u ∷ []) new
  counted_first not_there same v =
      let before : v ≡ u.var → nat_le 1 (times v done) ≡ false =
      λ e. sym (counted v).0 ∙ subst (λ n. contains nat_eq old.seen n ≡ false) (sym e) not_there in (
        seen_now v,
        ap (λ s. contains nat_eq s v) same
            ∙ ((counted v).1
            ∙ (first_step (times v done) v u.var before ∙ ap (nat_le 2) (sym (times_more v done u)))),
      )

-- of counted places the seen variables are those that are bound
pub is_seen-is : (us : List Use) (counts : Counts) → Counted us counts → is_seen counts ≡ is_bound us
is_seen-is us counts h = λ i v. ((h v).0 ∙ is_bound-times us v) i

-- and those that were seen once stand once
pub is_seen_once-is : (us : List Use) (counts : Counts) → Counted us counts → is_seen_once counts ≡ stands_once us
is_seen_once-is us counts h =
    λ i v. (ap₂ (λ b c. b && not c) (h v).0 (h v).1 ∙ stands_once-times us v) i

-- what is known around a part and what it binds itself are both known
pub either_seen-is : (around own : Counts) (us : List Use) → Counted us own
    → either_seen around own ≡ or_bound (is_seen around) us
either_seen-is around own us h = λ i v. is_seen around v || is_seen-is us own h i v

-- where a part binds nothing, what is known around it is known
pub around-is : (around own : Counts) → Counted [] own → either_seen around own ≡ is_seen around
around-is around own h = λ i v. (ap (λ b. is_seen around v || b) (h v).0 ∙ sym (or_false (is_seen around v))) i

-- the first places, counted, and the next one are one more
pub take_next : (us : List Use) (i : ℕ) (d : Use) (new : Counts) → i < length us
    → Counted (take i us ++ get_or us i d ∷ []) new → Counted (take (i + 1) us) new
take_next us i d new below h = subst (λ xs. Counted xs new) (sym (take_more us i d below)) h

-- the variables that stand once, by the names and the places of a rule
pub once_told : (names vars : List (List ℕ)) (us vs places : List Use) (counts : Counts) → names ≡ vars
    → us ≡ places → vs ≡ places → Counted us counts
    → flat_map (on_use names (is_seen_once counts)) vs ≡ flat_map (on_use vars (stands_once places)) places
once_told names vars us vs places counts n u v h =
    λ i. flat_map (on_use (n i) ((is_seen_once-is us counts h ∙ ap stands_once u) i)) (v i)

-- the variables that neither what is known around a part nor the part itself binds
pub needed_told : (names : List (List ℕ)) (around own : Counts) (bound us needs : List Use) → Counted bound own
    → us ≡ needs
    → flat_map (on_needed names (either_seen around own)) us
    ≡ flat_map (on_needed names (or_bound (is_seen around) bound)) needs
needed_told names around own bound us needs h u =
    λ i. flat_map (on_needed names (either_seen-is around own bound h i)) (u i)

-- the same of a part that binds nothing
pub needed_around : (names : List (List ℕ)) (around own : Counts) (none us needs : List Use) → Counted none own
    → none ≡ [] → us ≡ needs
    → flat_map (on_needed names (either_seen around own)) us ≡ flat_map (on_needed names (is_seen around)) needs
needed_around names around own none us needs h e u =
    λ i. flat_map (on_needed names (around-is around own (subst (λ xs. Counted xs own) e h) i)) (u i)
