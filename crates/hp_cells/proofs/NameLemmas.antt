-- Names, as they are compared.
use Rattle.std.proofs.Common.{◌≡◌, ℕ, true, List, bytes_eq, refl}
use Rattle.std.proofs.lemmas.Slice.Eq.{bytes_eq-Decides}

-- names that compare equal are one name
pub same_name : (a b : List ℕ) → bytes_eq a b ≡ true → a ≡ b
same_name a b h = (bytes_eq-Decides a b).0 h

-- a name compares equal to itself
pub name_self : (a : List ℕ) → bytes_eq a a ≡ true
name_self a = (bytes_eq-Decides a a).1 refl
