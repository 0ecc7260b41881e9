-- Files in a list, looked up by their names.
use Rattle.std.proofs.Common.{◌≡◌, ◌≢◌, ℕ, ◌<◌, List, [], ◌∷◌, ◌++◌, true, false, Some, None, length, get_or, take, slice_get, string_bytes, bytes_eq, zero, suc, refl, sym, ap, subst, ◌∙◌, arith}
use Rattle.std.proofs.Math.ListN.{set}
use Rattle.std.proofs.lemmas.Bool.{false_from_ne_true}
use Rattle.std.proofs.lemmas.Option.{slice_get-get_or}
use Rattle.std.proofs.lemmas.Slice.Eq.{bytes_eq-Decides}
use Rattle.hp_io.specs.declared.mem_folder.File.{File}
use Rattle.hp_io.specs.Files.{has_name, is_named, file_of, bytes_at, IsFirst}

-- the file that was read at an index is the one that is tested there for a name
pub named_here : (fs : List File) (n : List ℕ) (i : ℕ) (f : File) → i < length fs → f ≡ get_or fs i f
    → is_named n (slice_get fs i) ≡ has_name n f
named_here fs n i f within is = rw (slice_get-get_or fs i f within, ← is) refl

-- where no file before an index has a name, nor the one there, none up to it has
pub none_more : (fs : List File) (n : List ℕ) (i : ℕ) → file_of (take i fs) n ≡ None
    → is_named n (slice_get fs i) ≡ false → file_of (take (suc i) fs) n ≡ None
none_more [] n i none other = refl
none_more (f ∷ fs) n zero none other = grind arith
none_more (f ∷ fs) n (suc i) none other = grind (arith, none_more fs n i)

-- the file found by a name is the first of that name
pub first_found : (fs : List File) (n : List ℕ) (i : ℕ) → IsFirst fs n i
    → file_of fs n ≡ Some (bytes_at (slice_get fs i) 0)
first_found [] n i first = absurd (omega (arith, first.0))
first_found (f ∷ fs) n zero first = grind arith
first_found (f ∷ fs) n (suc i) first = grind (arith, first_found fs n i)

-- a file of one name has no other name
pub other_name : (m n : List ℕ) (f : File) → m ≢ n → has_name n f ≡ true → has_name m f ≡ false
other_name m n f other named =
    let of_n = bytes_eq-Decides (string_bytes f.name) n in
    let of_m = bytes_eq-Decides (string_bytes f.name) m in
    false_from_ne_true (has_name m f) (λ is. other (sym (of_m.0 is) ∙ of_n.0 named))

-- a file that takes the place of the first of its name is found by that name
pub set_found : (fs : List File) (n : List ℕ) (i : ℕ) (g : File) → IsFirst fs n i → has_name n g ≡ true
    → file_of (set fs i g) n ≡ Some g.bytes.items
set_found [] n i g first named = absurd (omega (arith, first.0))
set_found (f ∷ fs) n zero g first named = grind arith
set_found (f ∷ fs) n (suc i) g first named = grind (arith, set_found fs n i g)

-- a file in the place of another changes nothing for a name that neither has
pub set_others : (fs : List File) (m : List ℕ) (i : ℕ) (g : File) → is_named m (slice_get fs i) ≡ false
    → has_name m g ≡ false → file_of (set fs i g) m ≡ file_of fs m
set_others [] m i g before now = refl
set_others (f ∷ fs) m zero g before now = grind arith
set_others (f ∷ fs) m (suc i) g before now = grind (arith, set_others fs m i g)

-- a last file of a name that none before it has is found by that name
pub push_found : (fs : List File) (n : List ℕ) (g : File) → file_of fs n ≡ None → has_name n g ≡ true
    → file_of (fs ++ g ∷ []) n ≡ Some g.bytes.items
push_found [] n g none named = grind arith
push_found (f ∷ fs) n g none named = grind (arith, push_found fs n g)

-- a last file changes nothing for a name that it hasn't
pub push_others : (fs : List File) (m : List ℕ) (g : File) → has_name m g ≡ false
    → file_of (fs ++ g ∷ []) m ≡ file_of fs m
push_others [] m g other = grind arith
push_others (f ∷ fs) m g other = grind (arith, push_others fs m g)

-- the first file of a name, once read, has that name
first_named : (fs : List File) (n : List ℕ) (i : ℕ) (old : File) → IsFirst fs n i → old ≡ get_or fs i old
    → has_name n old ≡ true
first_named fs n i old first is = sym (named_here fs n i old first.0 is) ∙ first.2

-- new bytes for the first file of a name are found by that name
pub replaced : (slice fs : List File) (n : List ℕ) (i : ℕ) (old g : File) → slice ≡ fs → IsFirst slice n i
    → old ≡ get_or fs i old → string_bytes g.name ≡ string_bytes old.name
    → file_of (set fs i g) n ≡ Some g.bytes.items
replaced slice fs n i old g same first is name =
    let first' = subst (λ (s : List File). IsFirst s n i) same first in
    let named = ap (λ (b : List ℕ). bytes_eq b n) name ∙ first_named fs n i old first' is in
    set_found fs n i g first' named

-- new bytes for the first file of a name change nothing for the other names
pub replaced_others : (slice fs : List File) (n : List ℕ) (i : ℕ) (old g : File) → slice ≡ fs
    → IsFirst slice n i → old ≡ get_or fs i old → string_bytes g.name ≡ string_bytes old.name
    → (m : List ℕ) → m ≢ n → file_of (set fs i g) m ≡ file_of fs m
replaced_others slice fs n i old g same first is name m other =
    let first' = subst (λ (s : List File). IsFirst s n i) same first in
    let before : has_name m old ≡ false = other_name m n old other (first_named fs n i old first' is) in
    let now = ap (λ (b : List ℕ). bytes_eq b m) name ∙ before in
    set_others fs m i g (named_here fs m i old first'.0 is ∙ before) now

-- a file that was pushed under a new name is found by that name
pub pushed : (slice fs new : List File) (n : List ℕ) (g : File) → slice ≡ fs → file_of slice n ≡ None
    → new ≡ fs ++ g ∷ [] → string_bytes g.name ≡ n → file_of new n ≡ Some g.bytes.items
pushed slice fs new n g same none is name =
    let none' = sym (ap (λ (s : List File). file_of s n) same) ∙ none in
    let named = (bytes_eq-Decides (string_bytes g.name) n).1 name in
    ap (λ (s : List File). file_of s n) is ∙ push_found fs n g none' named

-- a file that was pushed changes nothing for the other names
pub pushed_others : (fs new : List File) (n : List ℕ) (g : File) → new ≡ fs ++ g ∷ []
    → string_bytes g.name ≡ n → (m : List ℕ) → m ≢ n → file_of new m ≡ file_of fs m
pushed_others fs new n g is name m other =
    let unnamed = other_name m n g other ((bytes_eq-Decides (string_bytes g.name) n).1 name) in
    ap (λ (s : List File). file_of s m) is ∙ push_others fs m g unnamed
