-- Lists by their parts: the arguments of a call, and the depth of a list.
use Rattle.std.proofs.Common.{◌≡◌, ℕ, ◌<◌, ◌≤◌, Bool, true, false, cond, nat_lt, List, [], ◌∷◌, length, map, get_or, Ok, Err, ℤ, Option, Some, None, option_map, refl, ap, ap₂, sym, arith}
use Rattle.hp_syntax.specs.declared.limits.TheConstants.{DEEPEST_TERM}
use Rattle.hp_syntax.specs.declared.pattern.Span.{Span}
use Rattle.hp_syntax.specs.declared.fault.FaultKind.TheVariants.{TooDeep}
use Rattle.hp_syntax.specs.Terms.{Term, Terms, Symbol, Number, Listed, NoTerm, More, term_nesting}
use Rattle.hp_syntax.specs.Calls.{fault_at, truth, no_call, of_list, numbers}
use Rattle.hp_syntax.specs.Values.{on_ok, list_of}
use Rattle.hp_eval.specs.GoalViews.{row_of}
use Rattle.hp_eval.specs.CallRows.{number_of, all_numbers}
use Rattle.hp_eval.specs.Steps.{is_list}

-- a term that tests as a list is one
pub listed_is : (t : Term) → is_list t ≡ true → (ts : Terms) × (t ≡ Listed ts)
listed_is (Listed ts) h = (ts, refl)
listed_is (Symbol name) h = absurd (cc)
listed_is (Number n) h = absurd (cc)

-- two elements that were read are a list of two
pub two_read : (xs : List ℕ) (x y : ℕ) → 2 ≤ length xs → length xs < 3 → x ≡ get_or xs 0 x → y ≡ get_or xs 1 y
    → xs ≡ x ∷ y ∷ []
two_read [] x y h k first second = absurd (omega arith)
two_read (a ∷ []) x y h k first second = absurd (omega arith)
two_read (a ∷ b ∷ []) x y h k first second = ap₂ (λ u v. u ∷ v ∷ []) (sym first) (sym second)
two_read (a ∷ b ∷ c ∷ cs) x y h k first second = absurd (omega arith)

-- a call of a term and a list is that of the list's parts
pub of_pair : (f : Term → Terms → Bool) (s : Span) (x y : Term) (ys : Terms) → y ≡ Listed ys
    → of_list f s (More x (More y NoTerm)) ≡ truth (f x ys)
of_pair f s x y ys is = ap (λ z. of_list f s (More x (More z NoTerm))) is

-- a call of a term and a list has no value for three terms or more
pub of_many : (f : Term → Terms → Bool) (s : Span) (g : ℕ → Term) (xs : List ℕ) → 3 ≤ length xs
    → no_call ≡ of_list f s (row_of (map g xs))
of_many f s g [] h = absurd (omega arith)
of_many f s g (a ∷ []) h = absurd (omega arith)
of_many f s g (a ∷ b ∷ []) h = absurd (omega arith)
of_many f s g (a ∷ b ∷ c ∷ cs) h = by_case (g b)
  where
    by_case : (y : Term) → no_call ≡ of_list f s (More (g a) (More y (More (g c) (row_of (map g cs)))))
    by_case (Symbol name) = refl
    by_case (Number n) = refl
    by_case (Listed ts) = refl

-- ---- numbers

-- the numbers of terms are that of the first term and those of the others
pub numbers_step : (s : Span) (t : Term) (ts : Terms)
    → all_numbers s (numbers (More t ts))
    ≡ on_ok (number_of s t) (λ n. on_ok (all_numbers s (numbers ts)) (λ ns. Ok (n ∷ ns)))
numbers_step s (Symbol name) ts = refl
numbers_step s (Listed ps) ts = refl
numbers_step s (Number n) ts = by_case (numbers ts)
  where
    by_case : (o : Option (List ℤ))
        → all_numbers s (option_map (λ ns. n ∷ ns) o) ≡ on_ok (all_numbers s o) (λ ns. Ok (n ∷ ns))
    by_case None = refl
    by_case (Some ns) = refl

-- ---- depth

-- a list that nests deeper than terms may is a fault
pub list_too_deep : (s : Span) (ts : Terms) → nat_lt DEEPEST_TERM (term_nesting (Listed ts)) ≡ true
    → list_of s ts ≡ Err (fault_at TooDeep s)
list_too_deep s ts h = ap (λ b. cond b (Err (fault_at TooDeep s)) (Ok (Listed ts))) h

-- a list that nests no deeper than terms may is a value
pub list_fits : (s : Span) (ts : Terms) → nat_lt DEEPEST_TERM (term_nesting (Listed ts)) ≡ false
    → list_of s ts ≡ Ok (Listed ts)
list_fits s ts h = ap (λ b. cond b (Err (fault_at TooDeep s)) (Ok (Listed ts))) h
