-- The first of many faults.
use Rattle.std.proofs.Common.{◌≡◌, ◌↔◌, ℕ, Bool, subst, true, false, cond, Option, Some, None, List, [], ◌∷◌, ap, refl, arith}
use Rattle.std.specs.List.{All, Contains}
use Rattle.std.proofs.lemmas.List.Elements.{All-weaker, All-cons, All-nil, All-same, Contains-append_left, Contains-append_right, Contains-push}
use Rattle.std.proofs.lemmas.Bool.Decides.{nat_tests}
use Rattle.hp_syntax.specs.declared.check.CheckFault.{CheckFault}
use Rattle.hp_syntax.specs.Checks.{number_of, comes_before, earlier, first_of}
use Rattle.hp_syntax.proofs.CheckLemmas.{none_found}
use Rattle.hp_check.proofs.FaultLemmas.{stands_first, comes_before-none}

self_first : (p : Bool) (a m : ℕ) → stands_first p a m p a m ≡ false
self_first true a m = grind (arith, nat_tests)
self_first false a m = grind (arith, nat_tests)

not_both : (p q : Bool) (a m b n : ℕ) → stands_first p a m q b n ≡ true → stands_first q b n p a m ≡ false
not_both true true a m b n h = grind (arith, nat_tests)
not_both true false a m b n h = grind (arith, nat_tests)
not_both false true a m b n h = grind (arith, nat_tests)
not_both false false a m b n h = grind (arith, nat_tests)

-- no fault comes before itself
pub comes_before-self : (f : CheckFault) → comes_before f f ≡ false
comes_before-self f = self_first f.in_problem f.span.from (number_of f.kind)

-- of two faults not each comes before the other
pub comes_before-turned : (f g : CheckFault) → comes_before f g ≡ true → comes_before g f ≡ false
comes_before-turned f g h =
    not_both f.in_problem g.in_problem f.span.from (number_of f.kind) g.span.from (number_of g.kind) h

-- the fault stands in the list, and none of the list comes before it
abbrev IsFirst : List CheckFault → CheckFault → Type 0
IsFirst fs f = Contains fs f × All (λ g. comes_before g f ≡ false) fs

at_first : (f : CheckFault) (fs : List CheckFault) → Contains (f ∷ fs) f
at_first f fs = Contains-append_left (f ∷ []) fs f (Contains-push [] f)

behind_first : (f g : CheckFault) (fs : List CheckFault) → Contains fs f → Contains (g ∷ fs) f
behind_first f g fs h = Contains-append_right (g ∷ []) fs f h

-- no fault is told exactly where there is none
pub first_of-none : (fs : List CheckFault) → first_of fs ≡ None ↔ fs ≡ []
first_of-none fs = (none_found fs, λ e. ap first_of e)

by_turns : (f g k : CheckFault) (gs : List CheckFault) (b : Bool) → comes_before k g ≡ b → IsFirst gs k
    → cond b (Some k) (Some g) ≡ Some f → IsFirst (g ∷ gs) f
by_turns f g k gs true h first e =
    let same : k ≡ f = cc in
    subst (IsFirst (g ∷ gs)) same
    (behind_first k g gs first.0, All-cons (λ x. comes_before x k ≡ false) g gs (comes_before-turned k g h) first.1)
by_turns f g k gs false h first e =
    let same : g ≡ f = cc in
    subst (IsFirst (g ∷ gs)) same (
      at_first g gs,
      All-cons (λ x. comes_before x g ≡ false) g gs (comes_before-self g)
          (All-weaker (λ x. comes_before x k ≡ false) (λ x. comes_before x g ≡ false)
          (λ x i. comes_before-none g k x h i)
          gs first.1),
    )

with_rest : (f g : CheckFault) (gs : List CheckFault) (o : Option CheckFault) → first_of gs ≡ o
    → ((k : CheckFault) → first_of gs ≡ Some k → IsFirst gs k) → earlier (Some g) o ≡ Some f → IsFirst (g ∷ gs) f
with_rest f g gs None h first e =
    let same : g ≡ f = cc in
    subst (IsFirst (g ∷ gs)) same (
      at_first g gs,
      All-cons (λ x. comes_before x g ≡ false) g gs (comes_before-self g)
          (All-same (λ x. comes_before x g ≡ false) gs [] (none_found gs h) (All-nil (λ x. comes_before x g ≡ false))),
    )
with_rest f g gs (Some k) h first e = by_turns f g k gs (comes_before k g) refl (first k h) e

-- the fault that is told stands in the list, and none of the list comes before it
pub first_of-told : (fs : List CheckFault) (f : CheckFault) → first_of fs ≡ Some f
    → Contains fs f × All (λ g. comes_before g f ≡ false) fs
first_of-told [] f h = cc
first_of-told (g ∷ gs) f h = with_rest f g gs (first_of gs) refl (λ k e. first_of-told gs k e) h
