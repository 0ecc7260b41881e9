-- A text that is put on a page part by part, and written at the end.
use Rattle.std.proofs.Common.{◌≡◌, ℕ, ◌+◌, ◌<◌, ◌≤◌, List, [], ◌∷◌, ◌++◌, length, Option, take, drop, get_or, refl, ap, sym, subst, ◌∙◌, append_assoc, append-nil}
use Rattle.std.specs.List.{flat_map}
use Rattle.std.specs.Prelude.{Result, Ok, Err}
use Rattle.std.specs.Result.{IsErr}
use Rattle.std.proofs.lemmas.Bool.{false≢true}
use Rattle.std.proofs.lemmas.List.{take_more, take_all, take-append-drop}
use Rattle.std.proofs.lemmas.List.Concat.{flat_map-append}
use Rattle.hp_out.specs.Pages.{Desk, desk, Put, Puts}
use Rattle.hp_out.specs.Writing.{Wrote, WroteProperPrefix, Writes}
use Rattle.hp_out.proofs.WritingLemmas.{wrote_nothing, proper_longer, proper_after}
use Rattle.hp_out.proofs.WriteSteps.{wrote_both, writes_prefix, rest_written}

-- ---- what was put

-- a text that was kept on the page was put
pub put_kept : (text : List ℕ) (a b : Desk) → b.sink ≡ a.sink → b.page ≡ a.page ++ text → Put text a b
put_kept text a b s p = record {
  taken = [];
  wrote = subst (λ m. Wrote [] a.sink m) (sym s) (wrote_nothing a.sink);
  all = p;
}

-- the empty text was put where nothing changed
pub put_nothing : (d : Desk) → Put [] d d
put_nothing d = put_kept [] d d refl (sym (append-nil d.page))

-- the bytes that the sink took, and then the page and a text behind it, are those that the page had, and both texts
joined : (x y : List ℕ) (a b : Desk) (p : Put x a b) → p.taken ++ (b.page ++ y) ≡ a.page ++ (x ++ y)
joined x y a b p =
    sym (append_assoc p.taken b.page y) ∙ ap (λ t. t ++ y) p.all ∙ append_assoc a.page x y

-- an empty text was put where nothing changed
pub empty_put : (text : List ℕ) (d : Desk) → [] ≡ text → Put text d d
empty_put text d e = subst (λ t. Put t d d) e (put_nothing d)

-- two texts that were put one behind the other were put
pub put_both : (x y : List ℕ) (a b c : Desk) → Put x a b → Put y b c → Put (x ++ y) a c
put_both x y a b c p q = record {
  taken = p.taken ++ q.taken;
  wrote = wrote_both p.taken q.taken a.sink b.sink c.sink p.wrote q.wrote;
  all =
      append_assoc p.taken q.taken c.page
      ∙ ap (λ t. p.taken ++ t) q.all
      ∙ joined x y a b p;
}

-- ---- where writing failed

-- the run of a failed call
abbrev pub FailedIn : List ℕ → Desk → Desk → Type 0
FailedIn text a b = WroteProperPrefix (a.page ++ text) a.sink b.sink

-- a text that couldn't be put is the first part of none that could
pub failed_longer : (x y : List ℕ) (a b : Desk) → FailedIn x a b → FailedIn (x ++ y) a b
failed_longer x y a b w =
    subst (λ t. WroteProperPrefix t a.sink b.sink) (append_assoc a.page x y)
    (proper_longer (a.page ++ x) y a.sink b.sink w)

-- behind a text that was put another couldn't be
pub failed_after : (x y : List ℕ) (a b c : Desk) → Put x a b → FailedIn y b c → FailedIn (x ++ y) a c
failed_after x y a b c p w =
    subst (λ t. WroteProperPrefix t a.sink c.sink) (joined x y a b p)
    (proper_after p.taken (b.page ++ y) a.sink b.sink c.sink p.wrote w)

-- ---- calls

-- a call that failed tells what it did
pub puts_failed : {A E : Type 0} (r : Result A E) (text : List ℕ) (a b : Desk) → IsErr r → FailedIn text a b
    → Puts r text a b
puts_failed (Ok x) text a b h w = absurd (false≢true h)
puts_failed (Err e) text a b h w = w

failed_in : {A E : Type 0} (r : Result A E) (e : E) (text : List ℕ) (a b : Desk) → r ≡ Err e → Puts r text a b
    → FailedIn text a b
failed_in r e text a b h w = subst (λ s. Puts s text a b) h w

-- where the first part of a text couldn't be put, the text couldn't
pub first_not_put : {A B E F : Type 0} (r : Result A E) (s : Result B F) (f : F) (x y text : List ℕ) (a b : Desk)
    → IsErr r → s ≡ Err f → Puts s x a b → x ++ y ≡ text → Puts r text a b
first_not_put r s f x y text a b h k w e =
    subst (λ t. Puts r t a b) e (puts_failed r (x ++ y) a b h (failed_longer x y a b (failed_in s f x a b k w)))

puts_both : {A E : Type 0} (r : Result A E) (x y : List ℕ) (a b c : Desk) → Put x a b → Puts r y b c
    → Puts r (x ++ y) a c
puts_both (Ok z) x y a b c p w = put_both x y a b c p w
puts_both (Err e) x y a b c p w = failed_after x y a b c p w

-- a text that was put, as an equal one
pub put_as : {A E : Type 0} (r : Result A E) (x y : List ℕ) (old new : Desk) → x ≡ y → Puts r x old new
    → Puts r y old new
put_as r x y old new e h = subst (λ t. Puts r t old new) e h

-- the first part of a text that was put, and then the rest of it, which a call puts
pub rest_put : {A E : Type 0} (r : Result A E) (x y text : List ℕ) (a b c : Desk) → Put x a b → Puts r y b c
    → x ++ y ≡ text → Puts r text a c
rest_put r x y text a b c p w e = subst (λ t. Puts r t a c) e (puts_both r x y a b c p w)

-- the page was written, and then a call writes the text itself
pub put_behind : {A E : Type 0} (r : Result A E) (text page left : List ℕ) (a b c : Option (List ℕ)) → left ≡ []
    → Wrote page a b → Writes r text b c → Puts r text (desk a page) (desk c left)
put_behind (Ok x) text page left a b c e w v = record {
  taken = page ++ text;
  wrote = wrote_both page text a b c w v;
  all = ap (λ t. (page ++ text) ++ t) e ∙ append-nil (page ++ text);
}
put_behind (Err x) text page left a b c e w v = proper_after page text a b c w v

-- a call puts equal texts
pub puts_same : {A E : Type 0} (r : Result A E) (x y : List ℕ) (a b : Desk) → x ≡ y → Puts r x a b → Puts r y a b
puts_same r x y a b e w = subst (λ t. Puts r t a b) e w

-- ---- a text of which a prefix was put

-- all of a text but this rest was put
pub record PutUpTo (rest whole : List ℕ) (old new : Desk) : Type 0 where
  pub prefix : List ℕ
  pub put : Put prefix old new
  pub all : prefix ++ rest ≡ whole

-- before the first call the whole text is left
pub nothing_yet : (whole : List ℕ) (d : Desk) → PutUpTo whole whole d d
nothing_yet whole d = record { prefix = []; put = put_nothing d; all = refl }

-- a part of the rest is put, and a smaller rest is left
pub less_left : (x y rest whole : List ℕ) (a b c : Desk) → PutUpTo rest whole a b → Put x b c → x ++ y ≡ rest
    → PutUpTo y whole a c
less_left x y rest whole a b c p q e = record {
  prefix = p.prefix ++ x;
  put = put_both p.prefix x a b c p.put q;
  all = append_assoc p.prefix x y ∙ ap (λ t. p.prefix ++ t) e ∙ p.all;
}

-- the rest is put, and with it the whole
pub rest_of_whole : {A E : Type 0} (r : Result A E) (rest whole : List ℕ) (a b c : Desk) → PutUpTo rest whole a b
    → Puts r rest b c → Puts r whole a c
rest_of_whole r rest whole a b c p w = rest_put r p.prefix rest whole a b c p.put w p.all

-- a part of the rest couldn't be put, and so the whole couldn't
pub part_not_put : {A B E F : Type 0} (r : Result A E) (s : Result B F) (f : F) (x y rest whole : List ℕ)
    (a b c : Desk) → IsErr r → s ≡ Err f → PutUpTo rest whole a b → Puts s x b c → x ++ y ≡ rest → Puts r whole a c
part_not_put r s f x y rest whole a b c h k p w e =
    rest_of_whole r rest whole a b c p (first_not_put r s f x y rest b c h k w e)

-- ---- what is joined of the texts of elements

-- the text of two lists is that of the first, and then that of the second
abbrev pub Joins : {X : Type 0} → (List X → List ℕ) → Type 0
Joins {X} f = (xs ys : List X) → f (xs ++ ys) ≡ f xs ++ f ys

module _ {X : Type 0} (f : List X → List ℕ) (joins : Joins f) where
  more : (xs : List X) (i : ℕ) (x : X) → i < length xs
      → f (take (i + 1) xs) ≡ f (take i xs) ++ f (get_or xs i x ∷ [])
  more xs i x h = ap f (take_more xs i x h) ∙ joins (take i xs) (get_or xs i x ∷ [])

  whole : (xs : List X) (i : ℕ) (x : X) → i < length xs
      → (f (take i xs) ++ f (get_or xs i x ∷ [])) ++ f (drop (i + 1) xs) ≡ f xs
  whole xs i x h =
      ap (λ t. t ++ f (drop (i + 1) xs)) (sym (more xs i x h))
      ∙ sym (joins (take (i + 1) xs) (drop (i + 1) xs))
      ∙ ap f (take-append-drop (i + 1) xs)

  -- the texts of the first elements, and then that of the next
  pub put_more : (xs : List X) (i : ℕ) (x : X) (text : List ℕ) (a b c : Desk) → i < length xs
      → f (get_or xs i x ∷ []) ≡ text → Put (f (take i xs)) a b → Put text b c → Put (f (take (i + 1) xs)) a c
  put_more xs i x text a b c h e p q =
      subst (λ t. Put t a c) (sym (more xs i x h ∙ ap (λ t. f (take i xs) ++ t) e))
      (put_both (f (take i xs)) text a b c p q)

  -- the texts of the first elements were put, and that of the next couldn't be
  pub next_not_put : {A B E F : Type 0} (r : Result A E) (s : Result B F) (e : F) (xs : List X) (i : ℕ) (x : X)
      (text : List ℕ) (a b c : Desk) → IsErr r → s ≡ Err e → i < length xs → f (get_or xs i x ∷ []) ≡ text
      → Put (f (take i xs)) a b → Puts s text b c → Puts r (f xs) a c
  next_not_put r s e xs i x text a b c h k l t p w =
      let one = subst (λ y. Puts s y b c) (sym t) w in
      let both = failed_after (f (take i xs)) (f (get_or xs i x ∷ [])) a b c p (failed_in s e _ b c k one) in
      puts_failed r (f xs) a c h
      (subst (λ y. FailedIn y a c) (whole xs i x l)
      (failed_longer (f (take i xs) ++ f (get_or xs i x ∷ [])) (f (drop (i + 1) xs)) a c both))

  -- the texts of all elements
  pub put_all : (xs : List X) (n : ℕ) (a b : Desk) → length xs ≤ n → Put (f (take n xs)) a b → Put (f xs) a b
  put_all xs n a b h p = subst (λ ys. Put (f ys) a b) (take_all n xs h) p

-- the first pieces, and then the next
pub put_piece : {X : Type 0} (f : X → List ℕ) (xs : List X) (i : ℕ) (d : X) (a b c : Desk) → i < length xs
    → Put (flat_map f (take i xs)) a b → Put (f (get_or xs i d)) b c → Put (flat_map f (take (i + 1) xs)) a c
put_piece f xs i d a b c h p q =
    put_more (flat_map f) (flat_map-append f) xs i d (f (get_or xs i d)) a b c h (append-nil (f (get_or xs i d))) p q

-- the first pieces were put, and the next couldn't be
pub piece_not_put : {X A B E F : Type 0} (f : X → List ℕ) (r : Result A E) (s : Result B F) (e : F) (xs : List X)
    (i : ℕ) (d : X) (a b c : Desk) → IsErr r → s ≡ Err e → i < length xs → Put (flat_map f (take i xs)) a b
    → Puts s (f (get_or xs i d)) b c → Puts r (flat_map f xs) a c
piece_not_put f r s e xs i d a b c h k l p w =
    next_not_put (flat_map f) (flat_map-append f) r s e xs i d (f (get_or xs i d)) a b c h k l
    (append-nil (f (get_or xs i d))) p w

-- ---- the page at its end

-- a text that couldn't be put on an empty page couldn't be written
pub first_not_written : {A B E F : Type 0} (r : Result A E) (s : Result B F) (f : F) (text page left : List ℕ)
    (old new : Option (List ℕ)) → page ≡ [] → IsErr r → s ≡ Err f → Puts s text (desk old page) (desk new left)
    → Writes r text old new
first_not_written r s f text page left old new e h k w =
    writes_prefix r text old new h
    (subst (λ t. WroteProperPrefix (t ++ text) old new) e (failed_in s f text (desk old page) (desk new left) k w))

-- where what stands on the page is written at the end, the text is
pub page_written : {A E : Type 0} (r : Result A E) (text page left : List ℕ) (old mid new : Option (List ℕ))
    → page ≡ [] → Put text (desk old page) (desk mid left) → Writes r left mid new → Writes r text old new
page_written r text page left old mid new e p w =
    rest_written r p.taken left text old mid new p.wrote w (p.all ∙ ap (λ t. t ++ text) e)
