-- Networks in normal form, and their parts.
use Rattle.std.proofs.Common.{◌≡◌, ℕ, zero, suc, Bool, true, false, [], ◌∷◌, ◌++◌, Some, refl, ◌∙◌, ap, subst}
use Rattle.hp_syntax.specs.Networks as networks

-- more parts than one
abbrev pub has_more : networks.Networks → Bool
has_more networks.NoNetwork = false
has_more (networks.And n networks.NoNetwork) = false
has_more (networks.And n (networks.And m ms)) = true

-- no part of the network is empty, and each list has more parts than one
abbrev mutual
  pub IsInForm : networks.Network → Type 0
  IsInForm networks.Empty = Unit {0}
  IsInForm (networks.Task t i) = Unit {0}
  IsInForm (networks.Ordered ns) = (has_more ns ≡ true) × AreInForm ns
  IsInForm (networks.Unordered ns) = (has_more ns ≡ true) × AreInForm ns

  pub AreInForm : networks.Networks → Type 0
  AreInForm networks.NoNetwork = Unit {0}
  AreInForm (networks.And n ns) = (networks.is_empty n ≡ false) × IsInForm n × AreInForm ns

-- ---- normal form

-- parts in normal form stay so with one more, which is left out where it is empty
parts_unless : (n : networks.Network) (ns : networks.Networks) → IsInForm n → AreInForm ns
    → AreInForm (networks.unless_empty n ns)
parts_unless networks.Empty ns h k = k
parts_unless (networks.Task t i) ns h k = (refl, h, k)
parts_unless (networks.Ordered ms) ns h k = (refl, h, k)
parts_unless (networks.Unordered ms) ns h k = (refl, h, k)

-- a list of parts in normal form is in normal form, once it is one of more parts than one
form_of_list : (f : networks.Networks → networks.Network)
    → ((ns : networks.Networks) → has_more ns ≡ true → AreInForm ns → IsInForm (f ns))
    → (ns : networks.Networks) → AreInForm ns → IsInForm (networks.as_list f ns)
form_of_list f g networks.NoNetwork h = tt
form_of_list f g (networks.And n networks.NoNetwork) h = h.1
form_of_list f g (networks.And n (networks.And m ms)) h = g (networks.And n (networks.And m ms)) refl h

mutual
  unfolding networks.normal

  pub normal_in_form : (n : networks.Network) → IsInForm (networks.normal n)
  normal_in_form networks.Empty = tt
  normal_in_form (networks.Task t i) = tt
  normal_in_form (networks.Ordered ns) = form_of_list networks.Ordered (λ ms m h. (m, h)) (networks.normal_parts ns)
      (normal_parts_in_form ns)
  normal_in_form (networks.Unordered ns) =
      form_of_list networks.Unordered (λ ms m h. (m, h)) (networks.normal_parts ns) (normal_parts_in_form ns)

  pub normal_parts_in_form : (ns : networks.Networks) → AreInForm (networks.normal_parts ns)
  normal_parts_in_form networks.NoNetwork = tt
  normal_parts_in_form (networks.And n ns) =
      parts_unless (networks.normal n) (networks.normal_parts ns) (normal_in_form n) (normal_parts_in_form ns)

-- a network that `normal` leaves as it is, is in normal form
pub form_from_normal : (n : networks.Network) → networks.normal n ≡ n → IsInForm n
form_from_normal n e = subst IsInForm e (normal_in_form n)

-- a list of more parts than one stays a list
list_stays : (f : networks.Networks → networks.Network) (ns : networks.Networks) → has_more ns ≡ true
    → networks.as_list f ns ≡ f ns
list_stays f networks.NoNetwork h = absurd cc
list_stays f (networks.And n networks.NoNetwork) h = absurd cc
list_stays f (networks.And n (networks.And m ms)) h = refl

-- a part that isn't empty isn't left out
part_stays : (n : networks.Network) (ns : networks.Networks) → networks.is_empty n ≡ false → networks.unless_empty n ns
    ≡ networks.And n ns
part_stays n ns e = rw e refl

mutual
  unfolding networks.normal

  pub normal_from_form : (n : networks.Network) → IsInForm n → networks.normal n ≡ n
  normal_from_form networks.Empty h = refl
  normal_from_form (networks.Task t i) h = refl
  normal_from_form (networks.Ordered ns) h = ap (networks.as_list networks.Ordered) (normal_parts_from_form ns h.1)
      ∙ list_stays networks.Ordered ns h.0
  normal_from_form (networks.Unordered ns) h =
      ap (networks.as_list networks.Unordered) (normal_parts_from_form ns h.1) ∙ list_stays networks.Unordered ns h.0

  pub normal_parts_from_form : (ns : networks.Networks) → AreInForm ns → networks.normal_parts ns ≡ ns
  normal_parts_from_form networks.NoNetwork h = refl
  normal_parts_from_form (networks.And n ns) h =
      ap (λ m. networks.unless_empty m (networks.normal_parts ns)) (normal_from_form n h.1)
      ∙ ap (networks.unless_empty n) (normal_parts_from_form ns h.2) ∙ part_stays n ns h.0

-- `normal` leaves what it gives as it is
pub normal-normal : (n : networks.Network) → networks.normal (networks.normal n) ≡ networks.normal n
normal-normal n = normal_from_form (networks.normal n) (normal_in_form n)

-- ---- parts

-- a part of a network in normal form is in normal form
mutual
  unfolding networks.part_at

  pub part_in_form : (net : networks.Network) (p : networks.Place) (n : networks.Network) → networks.part_at net p
      ≡ Some n → IsInForm net → IsInForm n
  part_in_form net [] n e h = let f : net ≡ n = cc in subst IsInForm f h
  part_in_form networks.Empty (i ∷ p) n e h = absurd cc
  part_in_form (networks.Task t j) (i ∷ p) n e h = absurd cc
  part_in_form (networks.Ordered ns) (i ∷ p) n e h = nth_part_in_form ns i p n e h.1
  part_in_form (networks.Unordered ns) (i ∷ p) n e h = nth_part_in_form ns i p n e h.1

  pub nth_part_in_form : (ns : networks.Networks) (i : ℕ) (p : networks.Place) (n : networks.Network)
      → networks.nth_part_at ns i p ≡ Some n
      → AreInForm ns → IsInForm n
  nth_part_in_form networks.NoNetwork i p n e h = absurd cc
  nth_part_in_form (networks.And m ms) zero p n e h = part_in_form m p n e h.1
  nth_part_in_form (networks.And m ms) (suc i) p n e h = nth_part_in_form ms i p n e h.2

-- a part of a part is a part of the whole
mutual
  unfolding networks.part_at

  pub part_below : (net : networks.Network) (p q : networks.Place) (n : networks.Network) → networks.part_at net p
      ≡ Some n
      → networks.part_at net (p ++ q) ≡ networks.part_at n q
  part_below net [] q n e = let f : net ≡ n = cc in ap (λ m. networks.part_at m q) f
  part_below networks.Empty (i ∷ p) q n e = absurd cc
  part_below (networks.Task t j) (i ∷ p) q n e = absurd cc
  part_below (networks.Ordered ns) (i ∷ p) q n e = nth_part_below ns i p q n e
  part_below (networks.Unordered ns) (i ∷ p) q n e = nth_part_below ns i p q n e

  pub nth_part_below : (ns : networks.Networks) (i : ℕ) (p q : networks.Place) (n : networks.Network)
      → networks.nth_part_at ns i p ≡ Some n
      → networks.nth_part_at ns i (p ++ q) ≡ networks.part_at n q
  nth_part_below networks.NoNetwork i p q n e = absurd cc
  nth_part_below (networks.And m ms) zero p q n e = part_below m p q n e
  nth_part_below (networks.And m ms) (suc i) p q n e = nth_part_below ms i p q n e

-- ---- another part at a place

-- a part that is put at a place stands there
mutual
  unfolding networks.part_at networks.with_part

  pub part_at-with_part : (net : networks.Network) (p : networks.Place) (n x : networks.Network)
      → networks.part_at net p ≡ Some n
      → networks.part_at (networks.with_part net p x) p ≡ Some x
  part_at-with_part net [] n x e = refl
  part_at-with_part networks.Empty (i ∷ p) n x e = absurd cc
  part_at-with_part (networks.Task t j) (i ∷ p) n x e = absurd cc
  part_at-with_part (networks.Ordered ns) (i ∷ p) n x e = nth_part_at-with_nth_part ns i p n x e
  part_at-with_part (networks.Unordered ns) (i ∷ p) n x e = nth_part_at-with_nth_part ns i p n x e

  pub nth_part_at-with_nth_part : (ns : networks.Networks) (i : ℕ) (p : networks.Place) (n x : networks.Network)
      → networks.nth_part_at ns i p ≡ Some n
      → networks.nth_part_at (networks.with_nth_part ns i p x) i p ≡ Some x
  nth_part_at-with_nth_part networks.NoNetwork i p n x e = absurd cc
  nth_part_at-with_nth_part (networks.And m ms) zero p n x e = part_at-with_part m p n x e
  nth_part_at-with_nth_part (networks.And m ms) (suc i) p n x e = nth_part_at-with_nth_part ms i p n x e

-- a network that isn't empty stays so with another part that isn't
with_part_not_empty : (net : networks.Network) (p : networks.Place) (x : networks.Network) → networks.is_empty net
    ≡ false → networks.is_empty x ≡ false
    → networks.is_empty (networks.with_part net p x) ≡ false
unfolding networks.with_part
with_part_not_empty net [] x h k = k
with_part_not_empty networks.Empty (i ∷ p) x h k = h
with_part_not_empty (networks.Task t j) (i ∷ p) x h k = h
with_part_not_empty (networks.Ordered ns) (i ∷ p) x h k = refl
with_part_not_empty (networks.Unordered ns) (i ∷ p) x h k = refl

-- putting a part at a place changes no number of parts
has_more-with_nth_part : (ns : networks.Networks) (i : ℕ) (p : networks.Place) (x : networks.Network)
    → has_more (networks.with_nth_part ns i p x) ≡ has_more ns
unfolding networks.with_part
has_more-with_nth_part networks.NoNetwork i p x = refl
has_more-with_nth_part (networks.And n networks.NoNetwork) zero p x = refl
has_more-with_nth_part (networks.And n networks.NoNetwork) (suc i) p x = refl
has_more-with_nth_part (networks.And n (networks.And m ms)) zero p x = refl
has_more-with_nth_part (networks.And n (networks.And m ms)) (suc zero) p x = refl
has_more-with_nth_part (networks.And n (networks.And m ms)) (suc (suc i)) p x = refl

-- a network in normal form stays so with another part in normal form that isn't empty
mutual
  unfolding networks.with_part

  pub with_part_in_form : (net : networks.Network) (p : networks.Place) (x : networks.Network) → IsInForm net
      → IsInForm x
      → networks.is_empty x ≡ false → IsInForm (networks.with_part net p x)
  with_part_in_form net [] x h k e = k
  with_part_in_form networks.Empty (i ∷ p) x h k e = h
  with_part_in_form (networks.Task t j) (i ∷ p) x h k e = h
  with_part_in_form (networks.Ordered ns) (i ∷ p) x h k e =
      (has_more-with_nth_part ns i p x ∙ h.0, with_nth_part_in_form ns i p x h.1 k e)
  with_part_in_form (networks.Unordered ns) (i ∷ p) x h k e =
      (has_more-with_nth_part ns i p x ∙ h.0, with_nth_part_in_form ns i p x h.1 k e)

  pub with_nth_part_in_form : (ns : networks.Networks) (i : ℕ) (p : networks.Place) (x : networks.Network)
      → AreInForm ns → IsInForm x
      → networks.is_empty x ≡ false → AreInForm (networks.with_nth_part ns i p x)
  with_nth_part_in_form networks.NoNetwork i p x h k e = h
  with_nth_part_in_form (networks.And n ns) zero p x h k e =
      (with_part_not_empty n p x h.0 e, with_part_in_form n p x h.1 k e, h.2)
  with_nth_part_in_form (networks.And n ns) (suc i) p x h k e = (h.0, h.1, with_nth_part_in_form ns i p x h.2 k e)
