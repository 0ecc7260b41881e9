use Rattle.std.proofs.Common.{◌≡◌, ℕ, ◌+◌, ◌<◌, ◌≤◌, ◌++◌, List, length, get_or, drop, refl, ap, sym, ◌∙◌, append-nil}
use Rattle.std.specs.List.{flat_map}
use Rattle.std.proofs.lemmas.List.{at_drop_all, get_or_default}
use Rattle.hp_syntax.proofs.ListLemmas.{made_on}
use Rattle.hp_print.proofs.words.push_all.Goals as goal

module _ {X : Type 0} (part : X → List ℕ) (xs : List X) (i : ℕ) (text whole : List ℕ)
    (left : text ++ flat_map part (drop i xs) ≡ whole) where
  -- one more part that is written leaves the whole, of the text and the parts that are left, as it was
  part_on : (d : X) (new : List ℕ) → i < length xs → new ≡ text ++ part (get_or xs i d)
      → new ++ flat_map part (drop (i + 1) xs) ≡ whole
  part_on d new below put =
      let x = get_or xs i d in
      made_on (flat_map part) part xs i x text new whole (λ y ys. refl) below (get_or_default xs i d x below) left put

  -- when all parts are written, the text is whole
  all_on : length xs ≤ i → text ≡ whole
  all_on past = sym (append-nil text) ∙ (ap (λ t. text ++ t) (sym (at_drop_all (flat_map part) xs i past)) ∙ left)

pub loop-part-preserved : goal.loop-part-preserved
loop-part-preserved c =
    part_on (λ t. t.now) c.args.texts.now c.loop-part.part-index c.loop-part.text.items _ c.loop-part.invariant _ _
    c.loop-part-test.true c.in_ok-extend_from_slice.ensures.items

pub returns : goal.returns
returns c =
    all_on (λ t. t.now) c.args.texts.now c.loop-part.part-index c.loop-part.text.items _ c.loop-part.invariant
    c.loop-part-test.false
