-- Texts that are written one after the other, and how a run ends that writes them.
use Rattle.std.proofs.Common.{◌≡◌, ℕ, ◌+◌, ◌<◌, ◌≤◌, List, [], ◌∷◌, ◌++◌, length, map, take, drop, slice_index_or, Option, Result, Ok, Err, OnOk, IfErr, ap, refl, sym, subst, ◌∙◌, arith, append_assoc, append-nil, add-one}
use Rattle.std.proofs.lemmas.List.Folds.{flat_map-map}
use Rattle.std.specs.List.{flat_map}
use Rattle.std.specs.Prelude.{zero, suc}
use Rattle.hp_io.specs.Rules.{Rose}
use Rattle.hp_out.specs.Writing.{SinkRun, sink_run, Wrote}
use Rattle.hp_out.proofs.WritingLemmas.{prefix_longer, proper_longer, prefix_after, proper_after}
use Rattle.hp_out.proofs.WriteSteps.{seam, wrote_both}
use Rattle.hp_syntax.specs.Report.{Answer}
use Rattle.hp_doctor.specs.declared.telling.Halt.{Halt}
use Rattle.hp_doctor.specs.declared.telling.Halt.TheVariants.{NoMemory, Failed}
use Rattle.hp_doctor.specs.Linted.{Tells, Whole, WithoutMemory, Unwritten, status_told}
use Rattle.hp_doctor.specs.Telling.{Halts}

-- ---- two texts

on_ok_weaker : {A E : Type 0} (r : Result A E) (P Q : Type 0) → OnOk r P → (P → Q) → OnOk r Q
on_ok_weaker (Ok x) P Q h f = f h
on_ok_weaker (Err e) P Q h f = tt

if_err_weaker : {A E : Type 0} (r : Result A E) (P Q : E → Type 0) → IfErr r P → ((e : E) → P e → Q e) → IfErr r Q
if_err_weaker (Ok x) P Q h f = tt
if_err_weaker (Err e) P Q h f = f e h

-- a stop of the telling of a text is one of every text that goes on from it
pub halts_longer : (h : Halt) (x y : List ℕ) (r : SinkRun) → Halts h x r → Halts h (x ++ y) r
halts_longer NoMemory x y r w = prefix_longer x y r.before r.after w
halts_longer Failed x y r w = (w.0, proper_longer x y r.before r.after w.1)

-- a stop of the telling of a text is one of a text that was begun by another
pub halts_after : (h : Halt) (x y : List ℕ) (f g k : ℕ) (a b c : Option (List ℕ)) → f ≤ g → Wrote x a b
    → Halts h y (sink_run g k b c) → Halts h (x ++ y) (sink_run f k a c)
halts_after NoMemory x y f g k a b c e w h = prefix_after x y a b c w h
halts_after Failed x y f g k a b c e w h =
    let rose : Rose g k = h.0 in (omega arith, proper_after x y a b c w h.1)

-- a call behind a text that was written writes both texts, or stops in them
module _ {A : Type 0} (r : Result A Halt) (x y : List ℕ) (f g k : ℕ) (a b c : Option (List ℕ)) (w : Wrote x a b) where
  pub ok_behind : OnOk r (Wrote y b c) → OnOk r (Wrote (x ++ y) a c)
  ok_behind h = on_ok_weaker r _ _ h (λ v. wrote_both x y a b c w v)

  pub err_behind : f ≤ g → IfErr r (λ h. Halts h y (sink_run g k b c))
      → IfErr r (λ h. Halts h (x ++ y) (sink_run f k a c))
  err_behind e h = if_err_weaker r _ _ h (λ t v. halts_after t x y f g k a b c e w v)

-- ---- the texts of a list

-- one element more comes to its text behind those before it
flat_map-take : {X A : Type 0} (f : X → List A) (xs : List X) (i : ℕ) (d : X) → i < length xs
    → flat_map f (take (suc i) xs) ≡ flat_map f (take i xs) ++ f (slice_index_or xs i d)
flat_map-take f [] i d h = absurd (omega (arith, h))
flat_map-take f (x ∷ xs) zero d h = append-nil (f x)
flat_map-take f (x ∷ xs) (suc i) d h =
    ap (λ t. f x ++ t) (flat_map-take f xs i d (omega (arith, h)))
    ∙ sym (append_assoc (f x) (flat_map f (take i xs)) (f (slice_index_or xs i d)))

module _ {X Y : Type 0} (text : Y → List ℕ) (of : X → Y) (xs : List X) (i : ℕ) (d : X) (within : i < length xs) where
  -- a stop of the text of one element, behind those before it, is one of the text of all
  pub halts_at : (h : Halt) (f g k : ℕ) (a b c : Option (List ℕ)) → f ≤ g
      → Wrote (flat_map text (map of (take i xs))) a b
      → Halts h (text (of (slice_index_or xs i d))) (sink_run g k b c)
      → Halts h (flat_map text (map of xs)) (sink_run f k a c)
  halts_at h f g k a b c e w v =
      let x = flat_map (λ z. text (of z)) (take i xs) in
      let y = text (of (slice_index_or xs i d)) in
      let z = flat_map (λ z. text (of z)) (drop (suc i) xs) in
      subst (λ t. Halts h t (sink_run f k a c)) (sym (flat_map-map text of xs ∙ seam (λ z. text (of z)) xs i d within))
      (halts_longer h (x ++ y) z (sink_run f k a c)
      (halts_after h x y f g k a b c e (subst (λ t. Wrote t a b) (flat_map-map text of (take i xs)) w) v))

  -- the text of one element behind those before it is that of one more
  pub wrote_at : (a b c : Option (List ℕ)) → Wrote (flat_map text (map of (take i xs))) a b
      → Wrote (text (of (slice_index_or xs i d))) b c → Wrote (flat_map text (map of (take (i + 1) xs))) a c
  wrote_at a b c w v =
      subst (λ t. Wrote t a c)
      (ap (λ t. t ++ text (of (slice_index_or xs i d))) (flat_map-map text of (take i xs))
      ∙ sym (flat_map-map text of (take (suc i) xs) ∙ flat_map-take (λ z. text (of z)) xs i d within)
      ∙ ap (λ j. flat_map text (map of (take j xs))) (sym (add-one i)))
      (wrote_both (flat_map text (map of (take i xs))) (text (of (slice_index_or xs i d))) a b c w v)

-- ---- how a run ends

-- an answer whose text was told, or whose telling stopped, is told by the status of that telling
pub tells_told : {A : Type 0} (told : Result A Halt) (a : Answer) (r : SinkRun) → OnOk told (Wrote a.0 r.before r.after)
    → IfErr told (λ h. Halts h a.0 r) → Tells a (status_told told a.1) r
tells_told (Ok x) a r w h = Whole refl w
tells_told (Err NoMemory) a r w h = WithoutMemory refl h
tells_told (Err Failed) a r w h = Unwritten refl h.0 h.1
